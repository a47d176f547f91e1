use Rattle.std.proofs.Common.{sym, ◌∙◌}
use Rattle.event_lines.proofs.UnnamedLemmas.{no_extlog_line, unnamed_by}
use Rattle.event_lines.proofs.traced.is_extlog.Goals as goal

pub returns-then-not-names_event : goal.returns-then-not-names_event
returns-then-not-names_event c =
    no_extlog_line c.args.line.now c.behind_name-behind.result.now c.behind_name-behind.ensures (unnamed_by c.behind_name-behind.result.now (sym c.names_event.ensures ∙ c.if-not-names_event.true))
