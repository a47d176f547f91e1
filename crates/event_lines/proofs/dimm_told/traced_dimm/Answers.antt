use Rattle.std.proofs.Common.{sym, ◌∙◌}
use Rattle.event_lines.proofs.UnnamedLemmas.{no_dimm_line, unnamed_by}
use Rattle.event_lines.proofs.dimm_told.traced_dimm.Goals as goal

pub returns-then-not-names_event : goal.returns-then-not-names_event
returns-then-not-names_event c =
    no_dimm_line c.args.line.now c.behind_name-text.result.now c.behind_name-text.ensures (unnamed_by c.behind_name-text.result.now (sym c.names_event.ensures ∙ c.if-not-names_event.true))
