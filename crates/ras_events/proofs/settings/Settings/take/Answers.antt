use Rattle.std.proofs.Common.{subst}
use Rattle.ras_script.specs.LineLaws.{IsInRange}
use Rattle.ras_events.proofs.FitLemmas.{asked_valid, entry_fits}
use Rattle.ras_events.proofs.settings.Settings.take.Goals as goal

pub returns-in_ok-of_entry-in-Entry-clause-fit : goal.returns-in_ok-of_entry-in-Entry-clause-fit
returns-in_ok-of_entry-in-Entry-clause-fit c =
    rw c.in_ok-of_entry-in-Entry.ensures (entry_fits c.in-Entry.entry (asked_valid c.in-Entry.entry (subst IsInRange c.in-Entry.is c.requires.range)))
