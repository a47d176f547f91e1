use Rattle.ras_events.proofs.settings.Settings.event_of_record.Goals as goal

pub event_by_driver-requires : goal.event_by_driver-requires
event_by_driver-requires c = record {
  size = c.told-bytes;
  told = c.requires.told;
  named = c.requires.named;
  free = c.requires.free;
  each = c.fits-bytes;
}
