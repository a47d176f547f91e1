use Rattle.std.proofs.Common.{Err, Ok, sym, ◌∙◌}
use Rattle.board_core.specs.Doing.{prints}
use Rattle.board_core.specs.Stop.{Begins}
use Rattle.board_core.proofs.DoingLemmas.{does_made}
use Rattle.ras_exit.proofs.DeviceLemmas.{device_not_printed, device_printed, device_stays}
use Rattle.ras_exit.proofs.PrintLemmas.{nothing_of, nothing_passes, nothing_printed, one_print}
use Rattle.ras_exit.proofs.printing.print.Goals as goal

pub returns-then-is_empty-clause-does : goal.returns-then-is_empty-clause-does
returns-then-is_empty-clause-does g c =
    nothing_printed g.B.Board.seen c.args.text.now c.args.board.now (sym c.if-is_empty.ensures)

pub returns-then-is_empty-clause-stops : goal.returns-then-is_empty-clause-stops
returns-then-is_empty-clause-stops g c = nothing_passes c.args.text.now _ (sym c.if-is_empty.ensures)

pub returns-then-is_empty-clause-printed : goal.returns-then-is_empty-clause-printed
returns-then-is_empty-clause-printed g c = nothing_of c.args.text.now _ (sym c.if-is_empty.ensures)

pub returns-then-is_empty-clause-device : goal.returns-then-is_empty-clause-device
returns-then-is_empty-clause-device g c = device_stays _ _

pub returns-in-Ok-clause-does : goal.returns-in-Ok-clause-does
returns-in-Ok-clause-does g c =
    rw (one_print c.args.text.now (sym c.is_empty.ensures ∙ c.if-is_empty.false)) (does_made g.B.Board.seen (prints c.args.text.now) (Ok tt) _ _ tt c.in-Ok.ensures.does)

pub returns-in-Err-clause-does : goal.returns-in-Err-clause-does
returns-in-Err-clause-does g c =
    rw (one_print c.args.text.now (sym c.is_empty.ensures ∙ c.if-is_empty.false)) (does_made g.B.Board.seen (prints c.args.text.now) (Err c.in-Err.field-0) _ _ tt c.in-Err.ensures.does)

pub returns-in-Ok-clause-stops : goal.returns-in-Ok-clause-stops
returns-in-Ok-clause-stops g c = c.in-Ok.ensures.does.stops

pub returns-in-Err-clause-stops : goal.returns-in-Err-clause-stops
returns-in-Err-clause-stops g c = c.in-Err.ensures.does.stops

pub returns-in-Ok-clause-printed : goal.returns-in-Ok-clause-printed
returns-in-Ok-clause-printed g c = c.in-Ok.ensures.does.settles

pub returns-in-Ok-clause-device : goal.returns-in-Ok-clause-device
returns-in-Ok-clause-device g c =
    device_printed c.args.text.now (Begins c.args.text.now) _ _ _ _ c.in-Ok.ensures.does.told c.in-Ok.ensures.does.stops

pub returns-in-Err-clause-device : goal.returns-in-Err-clause-device
returns-in-Err-clause-device g c =
    device_not_printed c.args.text.now (Begins c.args.text.now) _ _ _ _ c.in-Err.ensures.does.failed c.in-Err.ensures.does.stops
