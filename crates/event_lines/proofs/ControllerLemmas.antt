-- The text after the last ` (mc:` of a text.
use Rattle.std.proofs.Common.{◌≡◌, ℕ, suc, ◌+◌, ◌&&◌, Bool, true, false, nat_eq, List, [], ◌∷◌, ◌++◌, codes, drop, take, refl, sym, ap, ◌∙◌, arith, Option, Some, None, if◌then◌else◌}
use Rattle.std.specs.List.{starts_with}
use Rattle.std.specs.Option.{option_map, option_or}
use Rattle.std.proofs.lemmas.List.{take-append-drop}
use Rattle.std.proofs.lemmas.Slice.Eq.{bytes_eq-Decides}
use Rattle.std.proofs.lemmas.Bool.Decides.{nat_tests}
use Rattle.std.specs.Cmp.Lexicographic.{pointwise}
use Rattle.ras_script.specs.SplittingLaws.{Lacks}
use Rattle.bank_lines.specs.LogHeads.{mark_place}
use Rattle.event_lines.specs.Memory.{behind_controller, behind_first}

abbrev mark : List ℕ
mark = codes " (mc:"

or_none : {A : Type 0} (o : Option A) → option_or o None ≡ o
or_none None = refl
or_none (Some x) = refl

-- the first of two options decides, if it is `Some`
or_or : {A : Type 0} (a : Option A) (x : A) (b : Option A) → option_or (option_or a (Some x)) b ≡ option_or a (Some x)
or_or None x b = refl
or_or (Some y) x b = refl

-- ` (mc:` before a text
passed : (tail : List ℕ) → behind_controller (mark ++ tail) ≡ option_or (behind_controller tail) (Some tail)
passed tail = by (behind_controller tail)
  where
    by : (o : Option (List ℕ)) → option_or (option_or (option_or (option_or (option_or o None) None) None) None) (Some tail) ≡ option_or o (Some tail)
    by None = refl
    by (Some x) = refl

begins_whole : (text : List ℕ) → starts_with nat_eq text mark ≡ true → text ≡ mark ++ drop 5 text
begins_whole text is =
    let front : mark ≡ take 5 text = (bytes_eq-Decides mark (take 5 text)).0 is in
    sym (take-append-drop 5 text) ∙ ap (λ (front : List ℕ). front ++ drop 5 text) (sym front)

-- an index with one more byte before it
nowhere : (o : Option ℕ) → option_map (λ place. place + 1) o ≡ None → o ≡ None
nowhere None is = refl
nowhere (Some place) is = absurd cc

none_behind : (text : List ℕ) → mark_place mark text ≡ None → behind_controller text ≡ None
none_behind [] is = refl
none_behind (b ∷ text) is = by (starts_with nat_eq (b ∷ text) mark) is (none_behind text)
  where
    by : (starts : Bool) → (if starts then Some 0 else option_map (λ place. place + 1) (mark_place mark text)) ≡ None
        → (mark_place mark text ≡ None → behind_controller text ≡ None)
        → option_or (behind_controller text) (if starts then Some (drop 5 (b ∷ text)) else None) ≡ None
    by true is rest = absurd cc
    by false is rest = or_none (behind_controller text) ∙ rest (nowhere (mark_place mark text) is)

some_behind : (text : List ℕ) (place : ℕ) → mark_place mark text ≡ Some place
    → behind_controller text ≡ option_or (behind_controller (drop (place + 5) text)) (Some (drop (place + 5) text))
some_behind [] place is = absurd cc
some_behind (b ∷ text) place is = by (starts_with nat_eq (b ∷ text) mark) refl (mark_place mark text) refl is (some_behind text)
  where
    by : (starts : Bool) → starts_with nat_eq (b ∷ text) mark ≡ starts → (o : Option ℕ) → mark_place mark text ≡ o
        → (if starts then Some 0 else option_map (λ place. place + 1) o) ≡ Some place
        → ((place : ℕ) → mark_place mark text ≡ Some place → behind_controller text ≡ option_or (behind_controller (drop (place + 5) text)) (Some (drop (place + 5) text)))
        → behind_controller (b ∷ text) ≡ option_or (behind_controller (drop (place + 5) (b ∷ text))) (Some (drop (place + 5) (b ∷ text)))
    by true starts o there is rest =
        let here : 0 ≡ place = cc in
        let five : 5 ≡ place + 5 = omega (arith, here) in
        ap behind_controller (begins_whole (b ∷ text) starts)
        ∙ passed (drop 5 (b ∷ text))
        ∙ ap (λ (n : ℕ). option_or (behind_controller (drop n (b ∷ text))) (Some (drop n (b ∷ text)))) five
    by false starts None there is rest = absurd cc
    by false starts (Some p) there is rest =
        let next : p + 1 ≡ place = cc in
        let further : suc (p + 5) ≡ place + 5 = omega (arith, next) in
        ap (λ (starts : Bool). option_or (behind_controller text) (if starts then Some (drop 5 (b ∷ text)) else None)) starts
        ∙ or_none (behind_controller text)
        ∙ rest p there
        ∙ ap (λ (n : ℕ). option_or (behind_controller (drop n (b ∷ text))) (Some (drop n (b ∷ text)))) further

-- ---- the first mark, and the last

pub last_is : (text : List ℕ) (found : Option (List ℕ)) → behind_first text ≡ None → option_or (behind_controller text) found ≡ found
last_is text found none = by (mark_place mark text) refl none
  where
    by : (o : Option ℕ) → mark_place mark text ≡ o → option_map (λ place. drop (place + 5) text) o ≡ None → option_or (behind_controller text) found ≡ found
    by None is none = ap (λ (o : Option (List ℕ)). option_or o found) (none_behind text is)
    by (Some place) is none = absurd cc

pub goes_on : (text behind : List ℕ) (found : Option (List ℕ)) → behind_first text ≡ Some behind
    → option_or (behind_controller behind) (Some behind) ≡ option_or (behind_controller text) found
goes_on text behind found some = by (mark_place mark text) refl some
  where
    by : (o : Option ℕ) → mark_place mark text ≡ o → option_map (λ place. drop (place + 5) text) o ≡ Some behind
        → option_or (behind_controller behind) (Some behind) ≡ option_or (behind_controller text) found
    by None is some = absurd cc
    by (Some place) is some =
        let same : drop (place + 5) text ≡ behind = cc in
        let last : behind_controller text ≡ option_or (behind_controller behind) (Some behind) =
        some_behind text place is ∙ ap (λ (rest : List ℕ). option_or (behind_controller rest) (Some rest)) same in
        sym (ap (λ (o : Option (List ℕ)). option_or o found) last ∙ or_or (behind_controller behind) behind found)

-- ---- a text without the mark

-- a text after a space has no ` (mc:`
abbrev pub HasNone : List ℕ → Type 0
HasNone text = behind_controller (32 ∷ text) ≡ None

-- a text continues ` (mc:` after its space
abbrev opens : List ℕ → Bool
opens text = pointwise nat_eq (codes "(mc:") (take 4 text)

and_false : (a : Bool) → (a && false) ≡ false
and_false true = refl
and_false false = refl

no_first : {A : Type 0} (o : Option A) → option_or o None ≡ None → o ≡ None
no_first None is = refl
no_first (Some x) is = absurd cc

no_second : {A : Type 0} (o : Option A) (x : A) → option_or o (Some x) ≡ None → ⊥
no_second None x is = absurd cc
no_second (Some y) x is = absurd cc

-- the space may be any other byte
pub none_after : (byte : ℕ) (text : List ℕ) → HasNone text → behind_controller (byte ∷ text) ≡ None
none_after byte text none = by (opens text) refl none
  where
    by : (is : Bool) → opens text ≡ is → option_or (behind_controller text) (if is then Some (drop 5 (32 ∷ text)) else None) ≡ None
        → option_or (behind_controller text) (if nat_eq 32 byte && opens text then Some (drop 5 (byte ∷ text)) else None) ≡ None
    by true is none = absurd (no_second (behind_controller text) (drop 5 (32 ∷ text)) none)
    by false is none =
        ap (λ (opened : Bool). option_or (behind_controller text) (if nat_eq 32 byte && opened then Some (drop 5 (byte ∷ text)) else None)) is
        ∙ ap (λ (opened : Bool). option_or (behind_controller text) (if opened then Some (drop 5 (byte ∷ text)) else None)) (and_false (nat_eq 32 byte))
        ∙ none

-- a text without a parenthesis in front adds no ` (mc:`
pub none_before : (front text : List ℕ) → Lacks 40 front → HasNone text → HasNone (front ++ text)
none_before [] text lacks none = none
none_before (b ∷ front) text lacks none =
    let other : nat_eq 40 b ≡ false = grind (arith, nat_tests, lacks.0) in
    rw other (or_none (behind_controller (b ∷ (front ++ text))) ∙ none_after b (front ++ text) (none_before front text lacks.1 none))

pub none_behind_space : (text : List ℕ) → HasNone text → behind_controller text ≡ None
none_behind_space text none = by (opens text) none
  where
    by : (is : Bool) → option_or (behind_controller text) (if is then Some (drop 5 (32 ∷ text)) else None) ≡ None → behind_controller text ≡ None
    by true none = absurd (no_second (behind_controller text) (drop 5 (32 ∷ text)) none)
    by false none = no_first (behind_controller text) none

-- the text before the last ` (mc:` may be any text
pub last_behind_mark : (front text : List ℕ) → behind_controller text ≡ None → behind_controller (front ++ (codes " (mc:" ++ text)) ≡ Some text
last_behind_mark [] text none = passed text ∙ ap (λ (o : Option (List ℕ)). option_or o (Some text)) none
last_behind_mark (b ∷ front) text none =
    ap (λ (o : Option (List ℕ)). option_or o (if starts_with nat_eq (b ∷ (front ++ (mark ++ text))) mark then Some (drop 5 (b ∷ (front ++ (mark ++ text)))) else None))
    (last_behind_mark front text none)
