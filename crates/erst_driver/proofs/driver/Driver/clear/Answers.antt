use Rattle.std.proofs.Common.{arith}
use Rattle.erst_driver.proofs.ClauseLemmas.{clears}
use Rattle.erst_driver.proofs.driver.Driver.clear.Goals as goal

pub returns : goal.returns
returns g c =
    let a = c.args.board.now in
    let b = c.operate.new.board in
    record {
      clears = clears g.B.Board.seen c.args.self.now a b
          c.args.id (omega (arith, c.ranges.id.fits)) c.operate.result (rw c.clear_steps-steps.ensures at c.operate.ensures.operates) c.operate.ensures.refused c.operate.ensures.device;
    }
