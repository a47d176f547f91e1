use Rattle.std.proofs.Common.{◌≡◌, Err, Ok}
use Rattle.ras_exit.specs.declared.exit.Exit.TheVariants.{PrintFault}
use Rattle.ras_exit.proofs.DeviceLemmas.{device_goes_on}
use Rattle.ras_exit.proofs.PrintLemmas.{not_printed, print_stops, printed}
use Rattle.ras_daemon.proofs.ReportLemmas.{cut_reports, fault_is, is_cut, printed_moments, printed_reports, read_device, says_here, unless_disk, unprinted_reports}
use Rattle.ras_daemon.proofs.reporting.report.Goals as goal

pub returns-in-Err-clause-reports : goal.returns-in-Err-clause-reports
returns-in-Err-clause-reports g c = cut_reports c.args.listing c.in-Err.exit _ _ (is_cut _ _ c.in-Err.ensures.cut) c.recover.ensures.told

pub returns-in-Ok-print-clause-reports : goal.returns-in-Ok-print-clause-reports
returns-in-Ok-print-clause-reports g c =
    printed_reports c.args.listing c.in-Ok.answer.0 c.deref.result.now _ _ _
    (says_here _ _ c.args.listing c.in-Ok.answer.0 c.deref.result.now c.recover.ensures.recovers (λ t tells. rw c.deref.ensures.value (c.in-Ok.ensures.said _ tells)))
    c.recover.ensures.told (printed g.B.Board.seen c.deref.result.now (Ok (tt {0})) _ _ c.in-Ok-print.ensures.does)

pub returns-in-Ok-print-clause-stops : goal.returns-in-Ok-print-clause-stops
returns-in-Ok-print-clause-stops g c = λ t is.
    printed_moments c.args.listing c.in-Ok.answer.0 c.deref.result.now t _ _ _ _
    (rw c.deref.ensures.value (c.in-Ok.ensures.said _ (rw is at c.recover.ensures.recovers)))
    c.recover.ensures.keeps.stops
    (unless_disk c.recover.result _ c.in-Ok.ensures.whole c.recover.ensures.rests t is)
    (print_stops g.B.Board.seen c.deref.result.now c.print.result _ _ c.print.ensures.does)

pub returns-in-Ok-print-clause-device : goal.returns-in-Ok-print-clause-device
returns-in-Ok-print-clause-device g c =
    device_goes_on _ _ _ _ _ _ (read_device _ _ _ _ c.recover.ensures.told c.recover.ensures.keeps) c.print.ensures.device

pub returns-clause-reports : goal.returns-clause-reports
returns-clause-reports g c =
    let same : c.in-Err-print.fault ≡ PrintFault = fault_is c.in-Err-print.fault c.in-Err-print.ensures.exit in
    rw same (unprinted_reports c.args.listing c.in-Ok.answer.0 c.deref.result.now _ _ _
    (says_here _ _ c.args.listing c.in-Ok.answer.0 c.deref.result.now c.recover.ensures.recovers (λ t tells. rw c.deref.ensures.value (c.in-Ok.ensures.said _ tells)))
    c.recover.ensures.told (not_printed {T = Unit {0}} g.B.Board.seen c.deref.result.now (Err c.in-Err-print.fault) _ _ c.in-Err-print.ensures.does))

pub returns-clause-stops : goal.returns-clause-stops
returns-clause-stops g c = λ t is.
    printed_moments c.args.listing c.in-Ok.answer.0 c.deref.result.now t _ _ _ _
    (rw c.deref.ensures.value (c.in-Ok.ensures.said _ (rw is at c.recover.ensures.recovers)))
    c.recover.ensures.keeps.stops
    (unless_disk c.recover.result _ c.in-Ok.ensures.whole c.recover.ensures.rests t is)
    (print_stops g.B.Board.seen c.deref.result.now c.print.result _ _ c.print.ensures.does)

pub returns-clause-device : goal.returns-clause-device
returns-clause-device g c =
    device_goes_on _ _ _ _ _ _ (read_device _ _ _ _ c.recover.ensures.told c.recover.ensures.keeps) c.print.ensures.device
