-- The parts of a text, by the indices of its separators.
use Rattle.std.proofs.Common.{◌≡◌, ℕ, ◌+◌, ◌-◌, ◌<◌, ◌≤◌, ◌==◌, Bool, true, false, cond, nat_lt, List, [], ◌∷◌, length, take, drop, get_or, refl, sym, ap, ◌∙◌, arith, Some, None, length-drop, Option}
use Rattle.std.proofs.Math.Seq.{take-length}
use Rattle.std.proofs.lemmas.Bool.Decides.{nat_tests}
use Rattle.std.proofs.lemmas.List.Splits.{length-slice_split, slice_split_first, slice_split_none}
use Rattle.std.proofs.lemmas.List.Sums.{fails_before_first}
use Rattle.std.proofs.lemmas.Slice.Eq.{bytes_eq-Decides}
use Rattle.std.specs.Str.{bytes_eq}
use Rattle.std.specs.Prelude.{is_some, not}
use Rattle.std.specs.Option.{option_map_or}
use Rattle.std.specs.List.{All, position, position_or_len, slice_split}
use Rattle.bank_lines.specs.Parts.{cut_at, value_after}

-- the index that a search returns
found_place : (place size end : ℕ) → Some end ≡ cond (nat_lt place size) (Some place) None → (end ≡ place) × (place < size)
found_place place size end h = (grind (arith, nat_tests, h), grind (arith, nat_tests, h))

no_place : (place size : ℕ) → None ≡ cond (nat_lt place size) (Some place) None → size ≤ place
no_place place size h = grind (arith, nat_tests, h)

-- the rest as the code cuts it
pub rest_is : (n : ℕ) (text : List ℕ) → take (length text - n) (drop n text) ≡ drop n text
rest_is n text = ap (λ k. take k (drop n text)) (sym (length-drop n text)) ∙ take-length (drop n text)

-- the first part of a text ends at its first separator
pub parts_cut : (byte : ℕ) (text : List ℕ) (end : ℕ) → Some end ≡ position (λ b. b == byte) text → cut_at byte text ≡ take end text ∷ cut_at byte (take (length text - (end + 1)) (drop (end + 1) text))
parts_cut byte text end h =
    let found : (end ≡ position_or_len (λ b. b == byte) text) × (position_or_len (λ b. b == byte) text < length text) = found_place _ _ _ h in
    let parts : slice_split (λ b. b == byte) text ≡ take (position_or_len (λ b. b == byte) text) text ∷ slice_split (λ b. b == byte) (drop (position_or_len (λ b. b == byte) text + 1) text) = slice_split_first (λ b. b == byte) text 0 found.1 in
    (rw (← found.0) at parts) ∙ ap (λ rest. take end text ∷ cut_at byte rest) (sym (rest_is (end + 1) text))

-- a text without a separator is its only part
pub parts_whole : (byte : ℕ) (text : List ℕ) → None ≡ position (λ b. b == byte) text → cut_at byte text ≡ text ∷ []
parts_whole byte text h =
    let late : length text ≤ position_or_len (λ b. b == byte) text = no_place _ _ h in
    let none : All (λ b. (b == byte) ≡ false) text = λ k d inside. fails_before_first (λ b. b == byte) text k d (omega arith) in
    slice_split_none (λ b. b == byte) text none

-- a text with another first byte doesn't begin with the name
pub other_name : (first other : ℕ) (name text : List ℕ) → ¬ (first ≡ other) → value_after (first ∷ name) (other ∷ text) ≡ None
other_name first other name text apart = by (bytes_eq (other ∷ take (length name) text) (first ∷ name)) refl
  where
    by : (is : Bool) → bytes_eq (other ∷ take (length name) text) (first ∷ name) ≡ is → cond is (Some (drop (length name) text)) None ≡ None
    by true is = absurd (apart (sym (ap (λ bytes. get_or bytes 0 0) ((bytes_eq-Decides (other ∷ take (length name) text) (first ∷ name)).0 is))))
    by false is = refl

-- a text has at least one part
pub cut_some : (byte : ℕ) (text : List ℕ) → ¬ (cut_at byte text ≡ [])
cut_some byte text is = omega (arith, length-slice_split (λ b. b == byte) text, ap length is)

-- there is no rest if and only if no part is left
pub taken_by : {A : Type 0} (byte : ℕ) (now : A → List ℕ) (rest : Option A) (none : Bool) → is_some rest ≡ not none
    → (none ≡ true → option_map_or (λ (text : A). cut_at byte (now text)) rest [] ≡ [])
    × (option_map_or (λ (text : A). cut_at byte (now text)) rest [] ≡ [] → none ≡ true)
taken_by byte now None true is = ((λ t. refl), (λ t. refl))
taken_by byte now None false is = absurd cc
taken_by byte now (Some text) true is = absurd cc
taken_by byte now (Some text) false is = ((λ t. absurd cc), (λ e. absurd (cut_some byte (now text) e)))
