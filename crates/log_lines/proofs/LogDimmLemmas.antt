-- Searches in a line of a log, from its front on.
use Rattle.std.proofs.Math.Seq.{drop-cons}
use Rattle.std.proofs.Common.{◌≡◌, ℕ, suc, ◌<◌, ◌≤◌, IfSome, drop, length, get_or, ◌+◌, ◌==◌, ◌&&◌, Bool, true, false, List, ◌∷◌, refl, sym, ap, ◌∙◌, arith, Option, None, Some, if◌then◌else◌}
use Rattle.std.specs.List.{starts_with}
use Rattle.std.specs.Option.{option_map, option_or}
use Rattle.std.specs.Prelude.{nat_eq}
use Rattle.std.proofs.lemmas.Bool.Decides.{nat_tests}
use Rattle.log_lines.specs.LogDimm.{end_of, last_place}

-- ---- the last occurrence

-- the last occurrence, given the one in the text from an index on, and the last one before the index
abbrev pub last_from : ℕ → Option ℕ → Option ℕ → Option ℕ
last_from place found (Some later) = Some (place + later)
last_from place found None = found

pub last_begins : (o : Option ℕ) → last_from 0 None o ≡ o
last_begins (Some later) = ap Some (omega arith)
last_begins None = refl

last_at : (mark : List ℕ) (b : ℕ) (rest : List ℕ) (place : ℕ) (found : Option ℕ) (starts : Bool) → starts_with nat_eq (b ∷ rest) mark ≡ starts
    → last_from (suc place) (if starts then Some place else found) (last_place mark rest) ≡ last_from place found (last_place mark (b ∷ rest))
last_at mark b rest place found starts is =
    by (last_place mark rest) starts
    ∙ ap (λ (starts : Bool). last_from place found (option_or (option_map (λ p. p + 1) (last_place mark rest)) (if starts then Some 0 else None))) (sym is)
  where
    by : (o : Option ℕ) (starts : Bool)
        → last_from (suc place) (if starts then Some place else found) o
        ≡ last_from place found (option_or (option_map (λ p. p + 1) o) (if starts then Some 0 else None))
    by (Some later) starts = ap Some (omega arith)
    by None true = ap Some (omega arith)
    by None false = refl

pub last_goes_on : (mark text : List ℕ) (place : ℕ) (found : Option ℕ) → place < length text
    → last_from (place + 1) (if starts_with nat_eq (drop place text) mark then Some place else found) (last_place mark (drop (place + 1) text))
    ≡ last_from place found (last_place mark (drop place text))
last_goes_on mark text place found inside =
    let rest : List ℕ = drop (suc place) text in
    let next : place + 1 ≡ suc place = omega arith in
    let split : drop place text ≡ get_or text place 0 ∷ rest = drop-cons text place 0 inside in
    ap (λ (n : ℕ). last_from n (if starts_with nat_eq (drop place text) mark then Some place else found) (last_place mark (drop n text))) next
    ∙ ap (λ (whole : List ℕ). last_from (suc place) (if starts_with nat_eq whole mark then Some place else found) (last_place mark rest)) split
    ∙ last_at mark (get_or text place 0) rest place found (starts_with nat_eq (get_or text place 0 ∷ rest) mark) refl
    ∙ ap (λ (whole : List ℕ). last_from place found (last_place mark whole)) (sym split)

pub within_on : (starts : Bool) (place most : ℕ) (found : Option ℕ) → place < most → IfSome found (λ p. p + 1 ≤ most)
    → IfSome (if starts then Some place else found) (λ p. p + 1 ≤ most)
within_on true place most found inside before = omega (arith, inside)
within_on false place most found inside before = before

-- ---- the end

-- the end, given that of the text from an index on, and the end before the index
abbrev pub end_from : ℕ → ℕ → ℕ → ℕ
end_from place before n = if n == 0 then before else place + n

pub end_begins : (n : ℕ) → end_from 0 0 n ≡ n
end_begins n = by (n == 0) refl
  where
    by : (none : Bool) → (n == 0) ≡ none → (if none then 0 else 0 + n) ≡ n
    by true is = grind (arith, nat_tests, is)
    by false is = omega arith

pub end_goes_on : (b : ℕ) (rest : List ℕ) (place before : ℕ) (blank : Bool) → (b == 32) ≡ blank
    → end_from (suc place) (if blank then before else suc place) (end_of rest) ≡ end_from place before (end_of (b ∷ rest))
end_goes_on b rest place before blank is =
    by (end_of rest) blank (end_of rest == 0) refl
    ∙ ap (λ (blank : Bool). end_from place before (if blank && end_of rest == 0 then 0 else end_of rest + 1)) (sym is)
  where
    by : (n : ℕ) (blank none : Bool) → (n == 0) ≡ none
        → end_from (suc place) (if blank then before else suc place) n ≡ end_from place before (if blank && n == 0 then 0 else n + 1)
    by n true true is = grind (arith, nat_tests, is)
    by n true false is = grind (arith, nat_tests, is)
    by n false true is = grind (arith, nat_tests, is)
    by n false false is = grind (arith, nat_tests, is)
