use Rattle.ras_script.proofs.ReaderLemmas.{holds_feed}
use Rattle.ras_script.proofs.input.InputReader.has_line.Goals as goal

pub returns : goal.returns
returns g = rw g.is_some.ensures (holds_feed g.first_line_feed.result g.args.self.now.held g.first_line_feed.ensures.finds)
