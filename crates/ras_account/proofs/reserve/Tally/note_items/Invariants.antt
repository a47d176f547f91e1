use Rattle.std.proofs.Common.{take}
use Rattle.ras_account.specs.Steps.Reserving.{NotesItems}
use Rattle.ras_account.proofs.reserve.Tally.note_items.Given as goal

-- The items so far are recorded.
abbrev pub invariant-loop-item : goal.invariant-loop-item
invariant-loop-item l = NotesItems l.initial.modules l.modules l.initial.self l.self (take l.item-index l.items)
