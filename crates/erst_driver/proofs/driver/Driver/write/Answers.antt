use Rattle.std.proofs.Common.{inl, inr, refl, rules}
use Rattle.std.specs.Prelude.{Err}
use Rattle.std.proofs.lemmas.Result.{err_from_is_err_and}
use Rattle.board_core.specs.Doing.{range_write}
use Rattle.ras_base.specs.LittleEndian.{AreBytes}
use Rattle.erst_interp.proofs.BreakLemmas.{one_fails}
use Rattle.erst_interp.proofs.CallLemmas.{quiet_fails, quiet_well}
use Rattle.erst_driver.specs.declared.refusals.DriverRefused.TheVariants.{Register}
use Rattle.erst_driver.proofs.ClauseLemmas.{puts}
use Rattle.erst_driver.proofs.WriteLemmas.{fill_fails, writes_then}
use Rattle.erst_driver.proofs.driver.Driver.write.Goals as goal

pub returns-in_err-range_write : goal.returns-in_err-range_write
returns-in_err-range_write g c =
    let see = g.B.Board.seen in
    let bytes = c.args.bytes.now in
    let a = c.args.board.now in
    let b = c.range_write.new.self in
    let wrote = c.in_err-range_write.ensures in
    let fails = quiet_fails (range_write 0 bytes) (see a) (see b) wrote.does.stops wrote.does in
    let done = fill_fails bytes c.args.self.now (see a) (see b) (one_fails (range_write 0 bytes) (g.B.Board.seen a).told (g.B.Board.seen b).told wrote.does.failed) fails in
    let p = err_from_is_err_and c.from_residual.result c.from_residual.ensures.1 in
    rw (p.1, p.2) (record {
      writes = puts see c.args.self.now a b bytes c.requires.fits.0 c.requires.fits.1 c.requires.whole
          (inl fails.stops) (Err Register) done tt wrote.device;
    })

pub returns : goal.returns
returns g c =
    let see = g.B.Board.seen in
    let bytes = c.args.bytes.now in
    let a = c.args.board.now in
    let m = c.range_write.new.self in
    let b = c.operate.new.board in
    let wrote = c.in_ok-range_write.ensures in
    let are : AreBytes bytes = search rules in
    let done = writes_then bytes c.args.self.now (see a) (see m) (see b) wrote.does.told c.requires.fits.1 are (quiet_well (range_write 0 bytes) (see a) (see m) (λ t. refl) wrote.does.stops wrote.does)
    c.operate.result (rw c.write_steps-steps.ensures at c.operate.ensures.operates) in
    record {
      writes = puts see c.args.self.now a b bytes c.requires.fits.0 c.requires.fits.1 c.requires.whole
          (inr (c.operate.ensures.device.admitted, are)) c.operate.result done c.operate.ensures.refused wrote.device;
    }
