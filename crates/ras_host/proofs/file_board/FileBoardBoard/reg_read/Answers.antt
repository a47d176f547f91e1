use Rattle.std.proofs.Common.{◌≡◌, refl}
use Rattle.erst_store.specs.DeviceLaws.{IsDevice}
use Rattle.ras_host.specs.Steps.Listed.{accesses_noted, disk_calls_noted}
use Rattle.board_core.specs.Told.{register_in}
use Rattle.board_core.specs.declared.board.Access.TheVariants.{Read}
use Rattle.ras_host.proofs.BlameLemmas.{caused_device, done_here}
use Rattle.ras_host.proofs.ReadingLemmas.{reading_off}
use Rattle.ras_host.proofs.ToldLemmas.{device_kept, held_same, if_ok, kept_listed, of_device, on_any_ok, read_err, read_told, same_stops, settled_same, spared_same}
use Rattle.ras_host.proofs.file_board.FileBoardBoard.reg_read.Goals as goal

pub returns-clause-value : goal.returns-clause-value
returns-clause-value g c =
    let b = c.self.inside in
    let r = c.reg_read-answer in
    rw (← c.self.view_is) (if_ok _ _ r.result c.counted_by.result c.counted_by.ensures.ok c.counted_by.ensures.err r.ensures.value
    (λ n is. of_device (λ d. n ≡ register_in c.args.reg d) _ b.kept (disk_calls_noted b.disk_calls.calls) (accesses_noted b.accesses.calls) is))

pub returns-clause-does : goal.returns-clause-does
returns-clause-does g c =
    let b = c.self.inside in
    let r = c.reg_read-answer in
    let listed = kept_listed (Read c.args.reg c.unwrap_or.result) _ _ b.kept r.new.self (disk_calls_noted b.disk_calls.calls) (accesses_noted b.accesses.calls) (accesses_noted c.list_access.new.accesses.calls)
    r.ensures.looks.told r.ensures.looks.same c.list_access.ensures in
    let reads = if_ok _ _ r.result c.counted_by.result c.counted_by.ensures.ok c.counted_by.ensures.err r.ensures.value
    (λ n is. of_device (λ d. n ≡ register_in c.args.reg d) _ b.kept (disk_calls_noted b.disk_calls.calls) (accesses_noted b.accesses.calls) is) in
    rw (← c.self.view_is) (record {
      told = read_told c.args.reg _ _ r.result c.counted_by.result c.unwrap_or.result c.counted_by.ensures.ok c.counted_by.ensures.err c.unwrap_or.ensures reads listed;
      failed = read_err c.args.reg _ _ r.result c.counted_by.result c.unwrap_or.result c.counted_by.ensures.ok c.counted_by.ensures.err c.unwrap_or.ensures listed;
      stops = same_stops _ _ r.ensures.looks.told;
      settles = on_any_ok _ c.counted_by.result tt;
      cause = record { own = c.counted_by.ensures.cause; others = refl };
    })

pub returns-clause-device : goal.returns-clause-device
returns-clause-device g c =
    let b = c.self.inside in
    rw (← c.self.view_is) (of_device IsDevice _ b.kept (disk_calls_noted b.disk_calls.calls) (accesses_noted b.accesses.calls) (device_kept b.kept _ c.self.invariant.1))

pub invariant_of-self : goal.invariant_of-self
invariant_of-self g c =
    let b = c.self.inside in
    let r = c.reg_read-answer in (
      held_same b.files _ _ r.ensures.looks.told c.self.invariant.0,
      r.ensures.looks.in_step,
      settled_same b.files b.kept r.new.self _ _ r.ensures.looks.told r.ensures.looks.same c.self.invariant.2,
      caused_device g.U.Use.HOW b.files b.kept r.new.self _ _ _ _ _ _ r.result c.self.invariant.3 r.ensures.cause (done_here (λ d. d) b.kept r.new.self r.result r.ensures.looks.does) c.counted_by.ensures.counts c.counted_by.ensures.refused,
      spared_same g.B.Found.past _ _ r.ensures.looks.told c.self.invariant.4,
      (λ is. reading_off b.kept r.new.self g.B.Found.past _ _ (c.self.invariant.5 is) r.ensures.off),
    )
