use Rattle.std.proofs.Common.{refl, sym}
use Rattle.ras_records.proofs.ReachLemmas.{reaches_report, reaches_unread}
use Rattle.ras_records.proofs.looking.Looked.push.Goals as goal

pub returns-in_ok-push-in-Ok-clause-reaches : goal.returns-in_ok-push-in-Ok-clause-reaches
returns-in_ok-push-in-Ok-clause-reaches c = λ count reaches.
    reaches_report count c.args.self.now _ c.args.topology.now c.args.seconds c.args.id c.args.buffer.now c.in-Ok.rec c.in_ok-report-in-Ok.report (sym c.in-Ok.ensures) c.requires
    c.in_ok-report-in-Ok.ensures.report c.in_ok-report-in-Ok.ensures.valid c.in_ok-push_report-in-Ok.ensures c.in_ok-push-in-Ok.ensures.items reaches

pub returns-in_ok-push_unread-in-Err-clause-reaches : goal.returns-in_ok-push_unread-in-Err-clause-reaches
returns-in_ok-push_unread-in-Err-clause-reaches c = λ count reaches.
    reaches_unread count c.args.self.now _ c.args.id c.in-Err.why c.in_ok-push_unread-in-Err.ensures refl reaches
