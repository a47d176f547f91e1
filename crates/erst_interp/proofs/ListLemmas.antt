-- Entries that are added to the lists of their actions one after the other.
use Rattle.std.proofs.Common.{◌≡◌, ◌≢◌, ◌∙◌, ℕ, zero, suc, ◌+◌, ◌-◌, ◌<◌, ◌≤◌, Bool, true, false, nat_eq, List, [], ◌∷◌, ◌++◌, length, map, drop, set, get_or, refl, sym, ap, arith, append_assoc, append-nil, true≢false, if◌then◌else◌, zero-add}
use Rattle.std.proofs.lemmas.List.FromFn.{get_or-map-range_with_len, length-map-range_with_len}
use Rattle.std.proofs.lemmas.List.{ext_get_or, get_or-set_same, get_or-set_other, length-set, map-set}
use Rattle.ras_base.specs.Steps.ExactLemmas.{nat_exact, nat_own}
use Rattle.erst_interp.specs.declared.entries.InstructionEntry.{InstructionEntry}
use Rattle.erst_interp.specs.Entries.{entry_of}
use Rattle.erst_interp.specs.Table.{list_of, lists_of, entries_for, instructions_at}
use Rattle.erst_interp.specs.Steps.Lists.{AreEmpty, with_entry}

-- The lists have the entries before, and will have those that follow.
pub record Hold (all : List InstructionEntry) (lists : List (List InstructionEntry)) (left : List InstructionEntry) : Type 0 where
  pub count : length lists ≡ 256
  pub each : (action : ℕ) → list_of action lists ++ entries_for action left ≡ entries_for action all

pub none_held : (lists : List (List InstructionEntry)) (all : List InstructionEntry) → AreEmpty lists → Hold all lists all
none_held lists all empty = record {
  count = empty.count;
  each = λ action. ap (λ (list : List InstructionEntry). list ++ entries_for action all) (empty.empty action);
}

-- The list of an action among the lists of these entries.
pub list_of-lists_of : (action : ℕ) (entries : List InstructionEntry) → action < 256 → list_of action (lists_of entries) ≡ entries_for action entries
unfolding lists_of
list_of-lists_of action entries small = get_or-map-range_with_len (λ a. entries_for a entries) 0 256 action action [] small (zero-add action)

pub all_actions : (entries : List InstructionEntry) → length (lists_of entries) ≡ 256
unfolding lists_of
all_actions entries = length-map-range_with_len (λ action. entries_for action entries) 0 256

pub all_held : (all : List InstructionEntry) (lists : List (List InstructionEntry)) → Hold all lists [] → lists ≡ lists_of all
all_held all lists held =
    ext_get_or [] lists (lists_of all) (held.count ∙ sym (all_actions all)) (λ action inside.
    sym (append-nil (list_of action lists)) ∙ held.each action ∙ sym (list_of-lists_of action all (omega (arith, inside, held.count))))

-- An entry of an action, before others of it.
added : (list : List InstructionEntry) (e : InstructionEntry) (left : List InstructionEntry) → (list ++ e ∷ []) ++ left ≡ list ++ e ∷ left
added list e left = append_assoc list (e ∷ []) left

one_more : (action : ℕ) (e : InstructionEntry) (lists : List (List InstructionEntry)) (left : List InstructionEntry) → e.action < length lists
    → list_of action (with_entry e lists) ++ entries_for action left ≡ list_of action lists ++ entries_for action (e ∷ left)
one_more action e lists left inside = by (nat_eq action e.action) refl
  where
    by : (b : Bool) → nat_eq action e.action ≡ b
        → list_of action (with_entry e lists) ++ entries_for action left ≡ list_of action lists ++ (if b then e ∷ entries_for action left else entries_for action left)
    by true is =
        let same : action ≡ e.action = nat_exact action e.action is in
        ap (λ (i : ℕ). list_of i (with_entry e lists) ++ entries_for action left) same
        ∙ ap (λ (list : List InstructionEntry). list ++ entries_for action left) (get_or-set_same lists e.action (list_of e.action lists ++ e ∷ []) [] inside)
        ∙ added (list_of e.action lists) e (entries_for action left)
        ∙ ap (λ (i : ℕ). list_of i lists ++ e ∷ entries_for action left) (sym same)
    by false is =
        let other : action ≢ e.action = λ same. true≢false (sym (nat_own e.action) ∙ ap (λ (i : ℕ). nat_eq i e.action) (sym same) ∙ is) in
        ap (λ (list : List InstructionEntry). list ++ entries_for action left) (get_or-set_other lists e.action action (list_of e.action lists ++ e ∷ []) [] other)

pub next_held : (all : List InstructionEntry) (lists : List (List InstructionEntry)) (e : InstructionEntry) (left : List InstructionEntry) → e.action < 256
    → Hold all lists (e ∷ left) → Hold all (with_entry e lists) left
next_held all lists e left small held = record {
  count = length-set lists e.action (list_of e.action lists ++ e ∷ []) ∙ held.count;
  each = λ action. one_more action e lists left (omega (arith, held.count)) ∙ held.each action;
}

-- One list can replace another with the same elements.
pub pushed : {X : Type 0} (items : X → List InstructionEntry) (lists : List X) (i : ℕ) (old new : X) (e : InstructionEntry) → i < length lists → old ≡ get_or lists i old
    → items new ≡ items old ++ e ∷ [] → map items (set lists i new) ≡ set (map items lists) i (get_or (map items lists) i [] ++ e ∷ [])
pushed {X} items lists i old new e inside is pushed_is =
    map-set items lists i new
    ∙ ap (λ (list : List InstructionEntry). set (map items lists) i list)
    (pushed_is ∙ ap (λ (list : List InstructionEntry). list ++ e ∷ []) (ap items is ∙ at lists i inside))
  where
    at : (lists : List X) (i : ℕ) → i < length lists → items (get_or lists i old) ≡ get_or (map items lists) i []
    at [] i inside = absurd (omega (arith, inside))
    at (x ∷ xs) zero inside = refl
    at (x ∷ xs) (suc i) inside = at xs i (omega (arith, inside))

-- The next entry is read from what is left.
pub more_left : (count done : ℕ) (rest : List ℕ) → done < count → instructions_at (count - done) rest ≡ entry_of rest ∷ instructions_at (count - (done + 1)) (drop 32 rest)
unfolding instructions_at
more_left count done rest more =
    let left : count - done ≡ suc (count - (done + 1)) = omega arith in
    ap (λ (n : ℕ). instructions_at n rest) left

pub none_left : (count done : ℕ) (rest : List ℕ) → count ≤ done → instructions_at (count - done) rest ≡ []
unfolding instructions_at
none_left count done rest no_more =
    let left : count - done ≡ zero = omega arith in
    ap (λ (n : ℕ). instructions_at n rest) left
