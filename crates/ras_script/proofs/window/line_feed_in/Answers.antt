use Rattle.std.proofs.Common.{Some, None, sym}
use Rattle.ras_script.proofs.FeedLemmas.{feed_found}
use Rattle.ras_script.proofs.window.line_feed_in.Goals as goal

pub returns-in-Some-clause-place : goal.returns-in-Some-clause-place
returns-in-Some-clause-place c = sym (feed_found c.args.bytes.now (Some c.in-Some.place) c.in-Some.ensures)

pub returns-in-None-clause-place : goal.returns-in-None-clause-place
returns-in-None-clause-place c = sym (feed_found c.args.bytes.now None c.in-None.ensures)
