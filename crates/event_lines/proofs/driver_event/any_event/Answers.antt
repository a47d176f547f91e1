use Rattle.std.proofs.Common.{Bool, sym, ap, ◌∙◌}
use Rattle.event_lines.specs.Driver.{any_event_of}
use Rattle.event_lines.proofs.UnnamedLemmas.{absent_any, unnamed_by}
use Rattle.event_lines.proofs.driver_event.any_event.Goals as goal

pub returns-then-not-names_event : goal.returns-then-not-names_event
returns-then-not-names_event c =
    absent_any c.args.line.now c.behind_name-text.result.now c.behind_name-text.ensures (unnamed_by c.behind_name-text.result.now (sym c.names_event.ensures ∙ c.if-not-names_event.true))
    ∙ ap (λ (drivers : Bool). any_event_of drivers c.args.line.now) (sym c.if-not-drivers.false)
