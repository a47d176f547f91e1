use Rattle.std.proofs.Common.{◌≡◌, ℕ, List, arith, refl, subst, take, drop}
use Rattle.std.specs.Prelude.{Ok, Err, IfSome}
use Rattle.std.proofs.lemmas.Result.{err_from_is_err_and}
use Rattle.board_core.specs.Doing.{range_read}
use Rattle.board_core.specs.Told.{device_of}
use Rattle.erst_store.specs.Actions.{range_length}
use Rattle.erst_interp.proofs.BreakLemmas.{one_fails}
use Rattle.erst_interp.proofs.CallLemmas.{quiet_fails, quiet_well, read_of}
use Rattle.erst_driver.specs.declared.refusals.DriverRefused.TheVariants.{Register}
use Rattle.erst_driver.specs.declared.step.Step.{Step}
use Rattle.erst_driver.specs.Answers.{answer_of}
use Rattle.erst_driver.specs.Operations.{actions_of, read_steps}
use Rattle.erst_driver.specs.Steps.Operating.{Operates}
use Rattle.erst_driver.proofs.ClauseLemmas.{reads}
use Rattle.erst_driver.proofs.ReadLemmas.{fetch_failed, fetched, operate_refused, read_found}
use Rattle.erst_driver.proofs.driver.Driver.read.Goals as goal

pub returns-in_err-operate : goal.returns-in_err-operate
returns-in_err-operate g c =
    let see = g.B.Board.seen in
    let lists = c.args.self.now in
    let id = c.args.id in
    let a = c.args.board.now in
    let b = c.operate.new.board in
    let why = c.in_err-operate.field-0.0 in
    let done = operate_refused lists (read_steps id) c.args.buf.now (see a) (see b) why
    (subst (λ (steps : List Step). Operates lists (actions_of steps) (answer_of steps) (Err why) (see a) (see b)) c.read_steps-steps.ensures c.in_err-operate.ensures.operates) in
    let p = err_from_is_err_and c.from_residual.result c.from_residual.ensures.1 in
    rw (p.1, p.2) (record {
      reads = reads see lists a b id (omega (arith, c.ranges.id.fits)) c.args.buf.now (Err why) done
          c.in_err-operate.ensures.refused c.in_err-operate.ensures.device;
      record_read = tt;
    })

pub returns-in_err-range_read : goal.returns-in_err-range_read
returns-in_err-range_read g c =
    let see = g.B.Board.seen in
    let lists = c.args.self.now in
    let id = c.args.id in
    let a = c.args.board.now in
    let m = c.operate.new.board in
    let b = c.range_read.new.self in
    let read = c.in_err-range_read.ensures in
    let made = read_of (Err c.in_err-range_read.field-0.0) 0 _ range_length (see m) (see b) c.requires read.does in
    let done = fetch_failed lists (read_steps id) (see a) (see m) (see b) (rw c.read_steps-steps.ensures at c.in_ok-operate.ensures.operates)
    (one_fails (range_read 0 range_length) (g.B.Board.seen m).told (g.B.Board.seen b).told made.failed) (quiet_fails (range_read 0 range_length) (see m) (see b) made.stops made) in
    let p = err_from_is_err_and c.from_residual-in_err-range_read.result c.from_residual-in_err-range_read.ensures.1 in
    rw (p.1, p.2) (record {
      reads = reads see lists a b id (omega (arith, c.ranges.id.fits)) c.range_read.new.buf (Err Register) done
          tt c.in_ok-operate.ensures.device;
      record_read = tt;
    })

pub returns : goal.returns
returns g c =
    let see = g.B.Board.seen in
    let lists = c.args.self.now in
    let id = c.args.id in
    let a = c.args.board.now in
    let m = c.operate.new.board in
    let b = c.range_read.new.self in
    let buffer = c.range_read.new.buf in
    let read = c.in_ok-range_read.ensures in
    let made = read_of (Ok tt) 0 _ range_length (see m) (see b) c.requires read.does in
    let bytes = subst (λ (n : ℕ). IfSome (g.B.Board.seen m).told (λ t. buffer ≡ take n (drop 0 (device_of t).range))) c.requires read.read in
    let done = fetched lists (read_steps id) buffer (see a) (see m) (see b) (rw c.read_steps-steps.ensures at c.in_ok-operate.ensures.operates) bytes made.told
    (quiet_well (range_read 0 range_length) (see m) (see b) (λ t. refl) made.stops made) in
    record {
      reads = reads see lists a b id (omega (arith, c.ranges.id.fits)) buffer (Ok tt) done
          tt c.in_ok-operate.ensures.device;
      record_read = read_found lists id buffer (see a) (see b) (Ok tt) c.in_ok-operate.ensures.device done;
    }
