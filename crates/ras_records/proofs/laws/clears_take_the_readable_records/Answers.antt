use Rattle.ras_records.proofs.ClearingLemmas.{clears_answer, clears_here, clears_moment}
use Rattle.ras_records.proofs.laws.clears_take_the_readable_records.Goals as goal

pub returns : goal.returns
returns c = record {
  answer = λ lists t admitted device free ids. clears_answer lists admitted ids t device free;
  done = λ lists t admitted device free ids. clears_here lists admitted ids t device free;
  moments = λ lists t admitted device free ids. clears_moment lists admitted ids t device free;
}
