use Rattle.ras_script.proofs.ByteLemmas.{bytes_digits, lower_read, upper_read}
use Rattle.ras_script.proofs.bytes.written_bytes_are_read.Goals as goal

pub returns-clause-digits : goal.returns-clause-digits
returns-clause-digits c = bytes_digits

pub returns-clause-small : goal.returns-clause-small
returns-clause-small c = lower_read

pub returns-clause-large : goal.returns-clause-large
returns-clause-large c = upper_read
