use Rattle.ras_records.proofs.QuietLemmas.{look_begun, look_device, look_here, look_moment}
use Rattle.ras_records.proofs.laws.looks_leave_the_store.Goals as goal

pub returns : goal.returns
returns c = record {
  done = λ lists t admitted. look_here lists admitted t;
  begun = λ lists t admitted. look_begun lists admitted t;
  moments = λ lists t admitted. look_moment lists admitted t;
  device = λ lists t admitted. look_device lists admitted t;
}
