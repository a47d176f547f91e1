use Rattle.std.proofs.Common.{◌∙◌, arith, refl}
use Rattle.std.proofs.lemmas.Result.{err_from_is_err_and}
use Rattle.ras_records.proofs.KeptLemmas.{kept_both, kept_none}
use Rattle.ras_records.proofs.ReadingLemmas.{done_looks, read_more, read_none, read_refused, read_starved, refused_looks}
use Rattle.ras_records.proofs.ReachLemmas.{reaches_fits, reaches_none}
use Rattle.ras_records.proofs.looking.read_all.Goals as goal

pub loop-id-init : goal.loop-id-init
loop-id-init g c = record {
  read = read_none g.B.Board.seen c.args.driver.now c.args.topology.now c.args.seconds c.args.ids.now 0 _ _ c.new-looked.ensures.made c.new-looked.ensures.readable;
  kept = kept_none _;
  faults = refl;
  reaches = reaches_none _ c.new-looked.ensures.made c.new-looked.ensures.readable;
}

pub returns-in_err-read-clause-does : goal.returns-in_err-read-clause-does
returns-in_err-read-clause-does g c =
    let p = err_from_is_err_and c.from_residual.result c.from_residual.ensures.1 in
    rw (p.1, p.2) (read_refused g.B.Board.seen c.args.driver.now c.args.topology.now c.args.seconds c.args.ids.now c.loop-id.id-index c.loop-id-test.true _ _ _ _ c.loop-id.invariant.read
    c.in_err-read.field-0.0 c.in_err-read.ensures.reads.does c.in_err-read.ensures.reads.answers c.in_err-read.ensures.reads.ends.refused)

pub returns-in_err-read-clause-looked : goal.returns-in_err-read-clause-looked
returns-in_err-read-clause-looked g c =
    let p = err_from_is_err_and c.from_residual.result c.from_residual.ensures.1 in
    rw (p.1, p.2) (refused_looks g.B.Board.seen c.args.driver.now c.args.topology.now c.args.seconds c.args.ids.now c.loop-id.id-index c.loop-id-test.true _ _ c.read.new.board _ c.loop-id.invariant.read
    c.in_err-read.field-0.0 c.in_err-read.ensures.reads.answers c.in_err-read.ensures.reads.ends.refused)

pub returns-in_err-read-clause-kept : goal.returns-in_err-read-clause-kept
returns-in_err-read-clause-kept g c = kept_both _ _ _ c.loop-id.invariant.kept c.in_err-read.ensures.reads.kept

pub returns-in_err-push-clause-kept : goal.returns-in_err-push-clause-kept
returns-in_err-push-clause-kept g c = kept_both _ _ _ c.loop-id.invariant.kept c.in_ok-read.ensures.reads.kept

pub returns-in_err-push-clause-does : goal.returns-in_err-push-clause-does
returns-in_err-push-clause-does g c =
    let p = err_from_is_err_and c.from_residual-in_err-push.result c.from_residual-in_err-push.ensures.1 in
    rw (p.1, p.2) (read_starved g.B.Board.seen c.args.driver.now c.args.topology.now c.args.seconds c.args.ids.now c.loop-id.id-index c.loop-id-test.true _ _ _ _ c.loop-id.invariant.read
    c.in_ok-read.ensures.reads.does c.in_ok-read.ensures.reads.answers)

pub loop-id-preserved : goal.loop-id-preserved
loop-id-preserved g c = record {
  read = read_more g.B.Board.seen c.args.driver.now c.args.topology.now c.args.seconds c.args.ids.now c.loop-id.id-index c.loop-id-test.true _ _ _ _ c.loop-id.invariant.read _ c.read.new.buf
      c.in_ok-read.ensures.reads.does c.in_ok-read.ensures.reads.answers c.in_ok-read.ensures.record_read c.in_ok-read.ensures.reads.device c.in_ok-push.ensures.made c.in_ok-push.ensures.readable;
  kept = kept_both _ _ _ c.loop-id.invariant.kept c.in_ok-read.ensures.reads.kept;
  faults = c.in_ok-read.ensures.reads.ends.cause ∙ c.loop-id.invariant.faults;
  reaches = c.in_ok-push.ensures.reaches c.loop-id.id-index c.loop-id.invariant.reaches;
}

pub returns-clause-looked : goal.returns-clause-looked
returns-clause-looked g c =
    done_looks g.B.Board.seen c.args.driver.now c.args.topology.now c.args.seconds c.args.ids.now c.loop-id.id-index _ _ c.loop-id.looked c.loop-id-test.false c.loop-id.invariant.read

pub returns-clause-bounded : goal.returns-clause-bounded
returns-clause-bounded g c =
    let few = c.requires.few in
    let within = c.loop-id.auto.id-index-end in
    reaches_fits c.loop-id.id-index c.loop-id.looked (omega arith) c.loop-id.invariant.reaches
