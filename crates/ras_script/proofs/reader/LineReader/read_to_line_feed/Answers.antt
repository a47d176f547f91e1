use Rattle.std.proofs.Common.{◌∙◌}
use Rattle.ras_script.proofs.ReaderLemmas.{moves_more}
use Rattle.ras_script.proofs.reader.LineReader.read_to_line_feed.Goals as goal

pub loop-self-preserved : goal.loop-self-preserved
loop-self-preserved g c =
    let l = c.loop-self in
    record {
      moves = moves_more c.args.self.now l.self c.read_more.new.self _ _ _ l.invariant.moves c.read_more.ensures.moves;
      lacks = c.in_default.ensures.finds;
      faults = c.in_ok-read_more.ensures.cause.same ∙ l.invariant.faults;
    }
