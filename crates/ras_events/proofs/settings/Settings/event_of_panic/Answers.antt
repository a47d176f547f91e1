use Rattle.ras_events.proofs.SavingLemmas.{is_named_so, is_not_reserved, tells_its_length}
use Rattle.ras_events.proofs.settings.Settings.event_of_panic.Goals as goal

pub event_of_record-requires-clause-told : goal.event_of_record-requires-clause-told
event_of_record-requires-clause-told c = tells_its_length c.args.id c.args.bank.now c.in-Ok.bytes c.in-Ok.ensures.record

pub event_of_record-requires-clause-named : goal.event_of_record-requires-clause-named
event_of_record-requires-clause-named c = is_named_so c.args.id c.args.bank.now c.in-Ok.bytes c.in-Ok.ensures.record c.ranges.id.fits

pub event_of_record-requires-clause-free : goal.event_of_record-requires-clause-free
event_of_record-requires-clause-free c = is_not_reserved c.args.id (λ is. let refused = c.panic_record.ensures.reserved.1 is in cc)
