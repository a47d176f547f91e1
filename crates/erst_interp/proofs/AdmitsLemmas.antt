-- Whether a table is admitted, as a test.
use Rattle.std.proofs.Common.{◌≡◌, ◌∙◌, ℕ, zero, suc, ◌≤◌, ◌<◌, ◌+◌, inl, inr, Bool, true, false, ◌&&◌, nat_le, List, length, refl, ap, arith}
use Rattle.std.proofs.lemmas.Bool.{cases_lt}
use Rattle.std.proofs.lemmas.Bool.Decides.{nat_tests}
use Rattle.std.specs.List.{list_all, range_with_len}
use Rattle.erst_interp.specs.declared.entries.InstructionEntry.{InstructionEntry}
use Rattle.erst_interp.specs.Admission.{IsAdmitted, IsAdmittedTable}
use Rattle.erst_interp.specs.Machine.{most_turns}
use Rattle.erst_interp.specs.Table.{list_of}
use Rattle.erst_interp.specs.Walk.{first_awaited, walks, is_admitted_list, is_admitted}
use Rattle.erst_interp.proofs.LeadLemmas.{both_true}
use Rattle.erst_interp.proofs.WalkLemmas.{walk-admits, admitted-walk}

both : (a b : Bool) → a ≡ true → b ≡ true → (a && b) ≡ true
both a b x y = rw x y

list_is : (action : ℕ) (list : List InstructionEntry) → IsAdmitted action list → is_admitted_list action list ≡ true
list_is action list is =
    let short = is.short in
    both (nat_le (length list) most_turns) (walks action (first_awaited action) list) (grind (arith, nat_tests, short)) (admitted-walk action list is)

is_list : (action : ℕ) (list : List InstructionEntry) → is_admitted_list action list ≡ true → IsAdmitted action list
is_list action list is =
    let parts = both_true (nat_le (length list) most_turns) (walks action (first_awaited action) list) is in
    let fits = parts.0 in
    walk-admits action list (grind (arith, nat_tests, fits)) parts.1

each_in : (p : ℕ → Bool) (a n : ℕ) → ((i : ℕ) → a ≤ i → i < a + n → p i ≡ true) → list_all p (range_with_len a n) ≡ true
each_in p a zero each = refl
each_in p a (suc n) each =
    both (p a) (list_all p (range_with_len (a + 1) n)) (each a (omega arith) (omega arith))
    (each_in p (a + 1) n (λ i from below. each i (omega (arith, from)) (omega (arith, below))))

in_each : (p : ℕ → Bool) (a n i : ℕ) → list_all p (range_with_len a n) ≡ true → a ≤ i → i < a + n → p i ≡ true
in_each p a zero i all from below = absurd (omega (arith, from, below))
in_each p a (suc n) i all from below =
    let parts = both_true (p a) (list_all p (range_with_len (a + 1) n)) all in
    elim (cases_lt a i) [
      | inl later ↦ in_each p (a + 1) n i parts.1 (omega (arith, later)) (omega (arith, below))
      | inr first ↦ (let same : i ≡ a = omega (arith, from, first) in ap p same ∙ parts.0)
    ]

pub admitted-is : (lists : List (List InstructionEntry)) → IsAdmittedTable lists → is_admitted lists ≡ true
unfolding is_admitted
admitted-is lists are = each_in (λ action. is_admitted_list action (list_of action lists)) 0 11
    (λ action from below. list_is action (list_of action lists) (are action (omega (arith, below))))

pub is-admitted : (lists : List (List InstructionEntry)) → is_admitted lists ≡ true → IsAdmittedTable lists
unfolding is_admitted
is-admitted lists is action small = is_list action (list_of action lists)
    (in_each (λ a. is_admitted_list a (list_of a lists)) 0 11 action is (omega arith) (omega (arith, small)))

-- If no list can have a property, the test for it fails.
pub not-admitted : (lists : List (List InstructionEntry)) → (IsAdmittedTable lists → ⊥) → is_admitted lists ≡ false
not-admitted lists none = by (is_admitted lists) refl
  where
    by : (b : Bool) → is_admitted lists ≡ b → is_admitted lists ≡ false
    by true is = absurd (none (is-admitted lists is))
    by false is = is
