use Rattle.std.proofs.Common.{sym, ◌∙◌}
use Rattle.event_lines.proofs.UnnamedLemmas.{absent_line, unnamed_by}
use Rattle.event_lines.proofs.traced.line_event.Goals as goal

pub returns-then-not-names_event : goal.returns-then-not-names_event
returns-then-not-names_event c =
    absent_line c.args.line.now c.behind_name-text.result.now c.behind_name-text.ensures (unnamed_by c.behind_name-text.result.now (sym c.names_event.ensures ∙ c.if-not-names_event.true))
