-- Where a text occurs in another.
use Rattle.std.proofs.Common.{◌≡◌, ℕ, zero, suc, ◌+◌, ◌-◌, ◌<◌, ◌≤◌, ◌==◌, Bool, true, false, cond, not, if◌then◌else◌, nat_eq, nat_lt, List, [], ◌∷◌, length, take, drop, get_or, refl, sym, ap, subst, ◌∙◌, arith, inl, inr, Option, Some, None, length-drop, length-take}
use Rattle.std.proofs.Math.Seq.{take-length}
use Rattle.std.proofs.lemmas.Bool.Decides.{nat_tests}
use Rattle.std.proofs.lemmas.Bool.{cases_lt, eq-eqb, false≢true}
use Rattle.std.proofs.lemmas.List.{drop_all, get_or-drop, take_all}
use Rattle.std.proofs.lemmas.List.Quantifiers.{position-Some}
use Rattle.std.proofs.lemmas.List.Sums.{fails_before_first}
use Rattle.std.proofs.lemmas.Slice.Eq.{bytes_eq-Decides}
use Rattle.std.specs.List.{position, position_or_len, starts_with}
use Rattle.std.specs.Option.{option_map}
use Rattle.memchr.specs.Find.{FindsNeedle, OccursAt, NoneBefore, Nowhere}
use Rattle.memchr.proofs.lemmas.MatchLemmas.{OccursAt-part, OccursAt-from_part}
use Rattle.bank_lines.specs.LogHeads.{after, mark_place, up_to, without_spaces}

module _ (text : List ℕ) where
  starts-occurs : (line : List ℕ) → starts_with nat_eq line text ≡ true → OccursAt line text 0
  starts-occurs line is =
      let front : text ≡ take (length text) line = (bytes_eq-Decides text (take (length text) line)).0 is in
      OccursAt-from_part line text 0 (omega (arith, ap length front, length-take (length text) line)) (sym front)

  occurs-starts : (line : List ℕ) → OccursAt line text 0 → starts_with nat_eq line text ≡ true
  occurs-starts line occurs = (bytes_eq-Decides text (take (length text) line)).1 (sym (OccursAt-part line text 0 occurs))

  -- if a text occurs at an index of a line, it occurs one further on with one more byte in front
  further : (b : ℕ) (line : List ℕ) (k : ℕ) → OccursAt line text k → OccursAt (b ∷ line) text (suc k)
  further b line k occurs = OccursAt-from_part (b ∷ line) text (suc k) (omega (arith, occurs.fits)) (OccursAt-part line text k occurs)

  nearer : (b : ℕ) (line : List ℕ) (k : ℕ) → OccursAt (b ∷ line) text (suc k) → OccursAt line text k
  nearer b line k occurs = OccursAt-from_part line text k (omega (arith, occurs.fits)) (OccursAt-part (b ∷ line) text (suc k) occurs)

  pub place-none : (line : List ℕ) → Nowhere (OccursAt line text) 0 (length line + 1) → mark_place text line ≡ None
  place-none [] nowhere = refl
  place-none (b ∷ line) nowhere = by (starts_with nat_eq (b ∷ line) text) refl (place-none line)
    where
      by : (starts : Bool) → starts_with nat_eq (b ∷ line) text ≡ starts
          → (Nowhere (OccursAt line text) 0 (length line + 1) → mark_place text line ≡ None)
          → (if starts then Some 0 else option_map (λ (place : ℕ). place + 1) (mark_place text line)) ≡ None
      by true is ih = absurd (nowhere 0 (omega arith) (omega arith) (starts-occurs (b ∷ line) is))
      by false is ih =
          ap (option_map (λ (place : ℕ). place + 1)) (ih (λ k low high occurs. nowhere (suc k) (omega arith) (omega (arith, high)) (further b line k occurs)))

  pub place-at : (0 < length text) → (line : List ℕ) (k : ℕ) → NoneBefore (OccursAt line text) 0 (length line + 1) k → OccursAt line text k
      → mark_place text line ≡ Some k
  place-at some [] k first occurs = absurd (omega (arith, occurs.fits, some))
  place-at some (b ∷ line) zero first occurs =
      ap (λ starts. if starts then Some 0 else option_map (λ (place : ℕ). place + 1) (mark_place text line)) (occurs-starts (b ∷ line) occurs)
  place-at some (b ∷ line) (suc k) first occurs = by (starts_with nat_eq (b ∷ line) text) refl (place-at some line k)
    where
      by : (starts : Bool) → starts_with nat_eq (b ∷ line) text ≡ starts
          → (NoneBefore (OccursAt line text) 0 (length line + 1) k → OccursAt line text k → mark_place text line ≡ Some k)
          → (if starts then Some 0 else option_map (λ (place : ℕ). place + 1) (mark_place text line)) ≡ Some (suc k)
      by true is ih = absurd (first.before 0 (omega arith) (omega arith) (starts-occurs (b ∷ line) is))
      by false is ih =
          ap (option_map (λ (place : ℕ). place + 1)) (ih (record {
            low = omega arith;
            high = omega (arith, first.high);
            before = λ j low high earlier. first.before (suc j) (omega arith) (omega (arith, high)) (further b line j earlier);
          }) (nearer b line k occurs))
          ∙ ap Some (omega arith)

pub place_is : (text line : List ℕ) → 0 < length text → (r : Option ℕ) → FindsNeedle line text 0 r → r ≡ mark_place text line
place_is text line some None h = sym (place-none text line h)
place_is text line some (Some k) h = sym (place-at text some line k h.0 h.1)

-- ---- places

found_place : (place size end : ℕ) → Some end ≡ cond (nat_lt place size) (Some place) None → (end ≡ place) × (place < size)
found_place place size end h = (grind (arith, nat_tests, h), grind (arith, nat_tests, h))

no_place : (place size : ℕ) → None ≡ cond (nat_lt place size) (Some place) None → size ≤ place
no_place place size h = grind (arith, nat_tests, h)

-- ---- a search by one byte

-- the rest as the code cuts it
pub rest_is : (n : ℕ) (text : List ℕ) → take (length text - n) (drop n text) ≡ drop n text
rest_is n text = ap (λ k. take k (drop n text)) (sym (length-drop n text)) ∙ take-length (drop n text)

pub rest_size : (n : ℕ) (text : List ℕ) → length (take (length text - n) (drop n text)) ≡ length text - n
rest_size n text = ap length (rest_is n text) ∙ length-drop n text

module _ (pivot : ℕ) (text line : List ℕ) where
  -- no occurrence has its byte at `pivot` before this index
  abbrev pub NoneBelow : ℕ → Type 0
  NoneBelow end = (k : ℕ) → k + pivot < end → ¬ OccursAt line text k

  -- a search for that byte skips no occurrence
  pub none_passed : (from passed : ℕ) → pivot < length text → from + passed ≤ length line → NoneBelow from
      → ((k : ℕ) → k < passed → (get_or (take (length line - from) (drop from line)) k 0 == get_or text pivot 0) ≡ false) → NoneBelow (from + passed)
  none_passed from passed within inside before other k below occurs = elim (cases_lt (k + pivot) from) [
    | inl early ↦ before k early occurs
    | inr late ↦
        let there : from + (k + pivot - from) ≡ k + pivot = omega arith in
        let byte : get_or (take (length line - from) (drop from line)) (k + pivot - from) 0 ≡ get_or text pivot 0 =
        ap (λ rest. get_or rest (k + pivot - from) 0) (rest_is from line) ∙ get_or-drop from line (k + pivot - from) 0 ∙ ap (λ i. get_or line i 0) there ∙ occurs.reads pivot within in
        false≢true (sym (other (k + pivot - from) (omega arith)) ∙ eq-eqb _ _ byte)
  ]

  -- a step past such a byte that is in no occurrence skips none
  pub none_round : (place : ℕ) → NoneBelow place → ¬ ((pivot ≤ place) × OccursAt line text (place - pivot)) → NoneBelow (place + 1)
  none_round place before not k below occurs = elim (cases_lt (k + pivot) place) [
    | inl early ↦ before k early occurs
    | inr last ↦ let same : k ≡ place - pivot = omega arith in not (omega arith, subst (OccursAt line text) same occurs)
  ]

  pub none_at_all : pivot < length text → NoneBelow (length line) → Nowhere (OccursAt line text) 0 (length line + 1)
  none_at_all within none k low high occurs = none k (omega (arith, occurs.fits, within)) occurs

  -- a text occurs at an index if the rest from there on begins with it
  pub starts_at : (k : ℕ) → k ≤ length line → starts_with nat_eq (drop k line) text ≡ true → OccursAt line text k
  starts_at k inside is =
      let front : text ≡ take (length text) (drop k line) = (bytes_eq-Decides text (take (length text) (drop k line))).0 is in
      OccursAt-from_part line text k (omega (arith, inside, ap length front, length-take (length text) (drop k line), length-drop k line)) (sym front)

  pub at_starts : (k : ℕ) → OccursAt line text k → starts_with nat_eq (drop k line) text ≡ true
  at_starts k occurs = (bytes_eq-Decides text (take (length text) (drop k line))).1 (sym (OccursAt-part line text k occurs))

-- a search for a byte returns its first index
pub passed_at : (byte : ℕ) (text : List ℕ) (place : ℕ) → Some place ≡ position (λ b. b == byte) text → (place < length text) × ((k : ℕ) → k < place → (get_or text k 0 == byte) ≡ false)
passed_at byte text place h =
    let is = position-Some (λ b. b == byte) text place 0 (sym h) in
    (is.0, is.2)

pub passed_all : (byte : ℕ) (text : List ℕ) → None ≡ position (λ b. b == byte) text → (k : ℕ) → k < length text → (get_or text k 0 == byte) ≡ false
passed_all byte text h k low = fails_before_first (λ b. b == byte) text k 0 (omega (arith, no_place _ _ h))

-- ---- pieces

pub found_front : (byte place : ℕ) (text : List ℕ) → Some place ≡ position (λ b. b == byte) text → take place text ≡ up_to byte text
found_front byte place text h = ap (λ n. take n text) (found_place _ _ _ h).0

pub found_rest : (byte place : ℕ) (text : List ℕ) → Some place ≡ position (λ b. b == byte) text
    → take (length text - (place + 1)) (drop (place + 1) text) ≡ after byte text
found_rest byte place text h = rest_is (place + 1) text ∙ ap (λ n. drop (n + 1) text) (found_place _ _ _ h).0

pub whole_front : (byte : ℕ) (text : List ℕ) → None ≡ position (λ b. b == byte) text → text ≡ up_to byte text
whole_front byte text h = sym (take_all (position_or_len (λ b. b == byte) text) text (no_place _ _ h))

pub whole_rest : (byte : ℕ) (text : List ℕ) → None ≡ position (λ b. b == byte) text → [] ≡ after byte text
whole_rest byte text h =
    let late : length text ≤ position_or_len (λ b. b == byte) text = no_place _ _ h in
    sym (drop_all (position_or_len (λ b. b == byte) text + 1) text (omega (arith, late)))

pub found_text : (place : ℕ) (text : List ℕ) → Some place ≡ position (λ b. not (b == 32)) text
    → take (length text - place) (drop place text) ≡ without_spaces text
found_text place text h = rest_is place text ∙ ap (λ n. drop n text) (found_place _ _ _ h).0

pub only_spaces : (text : List ℕ) → None ≡ position (λ b. not (b == 32)) text → [] ≡ without_spaces text
only_spaces text h = sym (drop_all (position_or_len (λ b. not (b == 32)) text) text (no_place _ _ h))
