-- Whether a list is admitted, as a test, entry by entry: what the list still has to contain.
use Rattle.std.specs.Prelude.{ℕ, Bool, true, false, ◌&&◌, nat_le, List, [], ◌∷◌, length, Option, Some, None, if◌then◌else◌}
use Rattle.std.specs.List.{list_all, range_with_len}
use Rattle.erst_interp.specs.declared.entries.InstructionEntry.{InstructionEntry}
use Rattle.erst_interp.specs.declared.admission.Awaited.{Awaited}
use Rattle.erst_interp.specs.declared.admission.Awaited.TheVariants.{Input, Action, Answer, Rest, End}
use Rattle.erst_interp.specs.Admission.{takes_input, gives_answer, is_idle, is_act, is_input, is_free, is_answer}
use Rattle.erst_interp.specs.Machine.{most_turns}
use Rattle.erst_interp.specs.Table.{list_of}

-- what a list of an action has to contain first
abbrev pub first_awaited : ℕ → Awaited
first_awaited action = if takes_input action then Input else Action

-- what a list of an action has to contain after the write to Action
abbrev pub awaited_after : ℕ → Awaited
awaited_after action = if gives_answer action then Answer else Rest

-- what a list has to contain after an idle entry
abbrev pub after_idle : Awaited → Option Awaited
after_idle End = None
after_idle awaited = Some awaited

-- What a list has to contain after an entry that isn't idle; None if the entry isn't allowed here.
abbrev pub after_role : ℕ → Awaited → InstructionEntry → Option Awaited
after_role action Input e = if is_input action e then Some Action else None
after_role action Action e = if is_act action e then Some (awaited_after action) else (if is_free action e then Some Action else None)
after_role action Answer e = if is_answer action e then Some End else None
after_role action Rest e = None
after_role action End e = None

-- What a list has to contain after an entry; None if the entry isn't allowed here.
abbrev pub next_awaited : ℕ → Awaited → InstructionEntry → Option Awaited
next_awaited action awaited e = if is_idle e then after_idle awaited else after_role action awaited e

-- Whether a list has to contain nothing more.
abbrev pub is_last : Awaited → Bool
is_last Rest = true
is_last End = true
is_last awaited = false

abbrev pub goes_by : (Awaited → Bool) → Option Awaited → Bool
goes_by go_on None = false
goes_by go_on (Some awaited) = go_on awaited

-- Whether these entries are all that the list has to contain.
abbrev pub walks : ℕ → Awaited → List InstructionEntry → Bool
walks action awaited [] = is_last awaited
walks action awaited (e ∷ entries) = goes_by (λ next. walks action next entries) (next_awaited action awaited e)

abbrev pub is_admitted_list : ℕ → List InstructionEntry → Bool
is_admitted_list action list = nat_le (length list) most_turns && walks action (first_awaited action) list

-- Whether the lists of actions 0 to 10 are admitted.
unfoldable pub is_admitted : List (List InstructionEntry) → Bool
is_admitted lists = list_all (λ action. is_admitted_list action (list_of action lists)) (range_with_len 0 11)
