use Rattle.bank_lines.proofs.TwiceLemmas.{alike_again, twice}
use Rattle.bank_lines.proofs.log_kernel_laws.twice_printed_errors_have_one_name.Goals as goal

pub returns : goal.returns
returns c = record {
  found = λ boot cap before edac plain groups report alike first second one other vendors. twice boot cap before edac plain groups report alike first second one other vendors;
  after = λ before edac plain vendor report alike first second. alike_again before edac plain vendor report alike first second;
}
