use Rattle.ras_klog.proofs.OutputLemmas.{early_is_told, exit_is, output_is, whole_is_told}
use Rattle.ras_klog.proofs.laws.klog_is_told_by_groups.Goals as goal

pub returns : goal.returns
returns c = record {
  exit = λ boot cap script. exit_is boot cap script;
  output = λ boot cap script. output_is boot cap script;
  early = λ boot cap lines. early_is_told boot cap lines;
  whole = λ boot cap lines. whole_is_told boot cap lines;
}
