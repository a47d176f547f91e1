use Rattle.ras_script.proofs.WrittenNumberLemmas.{decimal_read, hexadecimal_read}
use Rattle.ras_script.proofs.number.written_numbers_are_read.Goals as goal

pub returns-clause-in_decimal : goal.returns-clause-in_decimal
returns-clause-in_decimal c = decimal_read

pub returns-clause-in_hexadecimal : goal.returns-clause-in_hexadecimal
returns-clause-in_hexadecimal c = hexadecimal_read
