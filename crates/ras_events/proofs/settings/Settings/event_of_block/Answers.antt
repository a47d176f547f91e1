use Rattle.std.proofs.Common.{arith}
use Rattle.ras_events.proofs.FitLemmas.{block_few, report_fits}
use Rattle.ras_events.proofs.settings.Settings.event_of_block.Goals as goal

pub returns-in_ok-of_report-in-Ok-clause-fit : goal.returns-in_ok-of_report-in-Ok-clause-fit
returns-in_ok-of_report-in-Ok-clause-fit c =
    rw c.in_ok-of_report-in-Ok.ensures
    (report_fits c.in_ok-report-in-Ok.report
    (c.in_ok-report-in-Ok.ensures.valid (omega (arith, block_few c.args.bytes.now c.in-Ok.block c.in-Ok.ensures, c.requires.short))))
