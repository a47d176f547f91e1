use Rattle.std.proofs.Common.{refl}
use Rattle.erst_store.specs.DeviceLaws.{IsDevice}
use Rattle.ras_host.specs.Steps.Listed.{accesses_noted, disk_calls_noted}
use Rattle.board_core.specs.Told.{after_reg_write}
use Rattle.board_core.specs.declared.board.Access.TheVariants.{Write}
use Rattle.ras_host.proofs.BlameLemmas.{caused_device, done_here}
use Rattle.ras_host.proofs.ReadingLemmas.{reading_off}
use Rattle.ras_host.proofs.ToldLemmas.{device_kept, does_saved, held_turned, may_turn_listed, of_device, on_err, on_ok, settled_turned, spared_then, store_stops, store_stored, turned_listed}
use Rattle.ras_host.proofs.file_board.FileBoardBoard.reg_write.Goals as goal

pub returns-clause-does : goal.returns-clause-does
returns-clause-does g c =
    let b = c.self.inside in
    let r = c.reg_write-answer in
    let step = after_reg_write c.args.reg c.args.value in
    let access = Write c.args.reg c.args.value in
    rw (← c.self.view_is) (record {
      told = on_ok _ _ r.result c.counted_by.result c.counted_by.ensures.ok c.counted_by.ensures.err r.ensures.turned.ok
          (λ is. turned_listed step access _ _ b.kept r.new.self (disk_calls_noted b.disk_calls.calls) (accesses_noted b.accesses.calls) (accesses_noted c.list_access.new.accesses.calls) is c.list_access.ensures);
      failed = on_err _ _ r.result c.counted_by.result c.counted_by.ensures.ok c.counted_by.ensures.err r.ensures.turned.err
          (λ is. may_turn_listed step access _ _ b.kept r.new.self (disk_calls_noted b.disk_calls.calls) (accesses_noted b.accesses.calls) (accesses_noted c.list_access.new.accesses.calls) is c.list_access.ensures);
      stops = store_stops step _ _ b.kept (disk_calls_noted b.disk_calls.calls) (accesses_noted b.accesses.calls) r.ensures.turned.stops;
      settles = on_ok _ _ r.result c.counted_by.result c.counted_by.ensures.ok c.counted_by.ensures.err r.ensures.does
          (λ does. store_stored _ _ b.kept r.new.self (disk_calls_noted b.disk_calls.calls) (accesses_noted b.accesses.calls) (accesses_noted c.list_access.new.accesses.calls) r.ensures.turned.saved (does_saved step b.kept r.new.self does));
      cause = record { own = c.counted_by.ensures.cause; others = refl };
    })

pub returns-clause-device : goal.returns-clause-device
returns-clause-device g c =
    let b = c.self.inside in
    rw (← c.self.view_is) (of_device IsDevice _ b.kept (disk_calls_noted b.disk_calls.calls) (accesses_noted b.accesses.calls) (device_kept b.kept _ c.self.invariant.1))

pub invariant_of-self : goal.invariant_of-self
invariant_of-self g c =
    let b = c.self.inside in
    let r = c.reg_write-answer in
    let turned = r.ensures.turned in (
      held_turned b.files (after_reg_write c.args.reg c.args.value) b.kept r.new.self r.result _ _ turned c.self.invariant.0,
      turned.in_step,
      settled_turned b.files b.kept r.new.self _ _ turned.saved c.self.invariant.2,
      caused_device g.U.Use.HOW b.files b.kept r.new.self _ _ _ _ _ _ r.result c.self.invariant.3 r.ensures.cause (done_here (after_reg_write c.args.reg c.args.value) b.kept r.new.self r.result r.ensures.does) c.counted_by.ensures.counts c.counted_by.ensures.refused,
      spared_then g.B.Found.past _ _ c.self.invariant.4 turned.spares,
      (λ is. reading_off b.kept r.new.self g.B.Found.past _ _ (c.self.invariant.5 is) r.ensures.off),
    )
