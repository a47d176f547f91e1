use Rattle.ras_events.proofs.FitLemmas.{report_fits}
use Rattle.ras_events.proofs.settings.Settings.event_of_report.Goals as goal

pub returns-in_ok-of_report-in-Bank-clause-fit : goal.returns-in_ok-of_report-in-Bank-clause-fit
returns-in_ok-of_report-in-Bank-clause-fit c =
    rw c.in_ok-of_report-in-Bank.ensures (report_fits c.in_ok-report-in-Bank.report c.in_ok-report-in-Bank.ensures.valid)
