use Rattle.std.proofs.Common.{◌∙◌, sym}
use Rattle.event_lines.proofs.TracedLemmas.{at_clock}
use Rattle.event_lines.proofs.traced.clock_event.Goals as goal

pub returns-in-Some : goal.returns-in-Some
returns-in-Some c =
    at_clock c.args.text.now c.named_text.result.now c.in-Some.place c.stamp_at.result c.event_behind.result
    (sym c.in-Some.is ∙ c.clock_place.ensures.place) c.stamp_at.ensures c.named_text.ensures c.event_behind.ensures
