use Rattle.std.proofs.Common.{◌∙◌, sym, ap}
use Rattle.std.specs.Option.{option_map}
use Rattle.event_lines.proofs.ControllerLemmas.{goes_on, last_is}
use Rattle.event_lines.proofs.memory_event.behind_controller.Goals as goal

pub loop-behind-preserved : goal.loop-behind-preserved
loop-behind-preserved c =
    goes_on c.loop-behind.rest.now c.in-Some.behind.now (option_map (λ behind. behind.now) c.loop-behind.found)
    (sym c.behind_first.ensures.behind ∙ ap (option_map (λ behind. behind.now)) c.in-Some.is)
    ∙ c.loop-behind.invariant

pub returns : goal.returns
returns c =
    sym (last_is c.loop-behind.rest.now (option_map (λ behind. behind.now) c.loop-behind.found)
    (sym c.behind_first.ensures.behind ∙ ap (option_map (λ behind. behind.now)) c.in_default.is))
    ∙ c.loop-behind.invariant
