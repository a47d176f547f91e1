use Rattle.ras_journal.proofs.PairLemmas.{zero_long, one_long, none_stands, zero_damaged, one_generation}
use Rattle.ras_journal.proofs.laws.journal_laws.Goals as goal

pub returns-clause-too_long_zero : goal.returns-clause-too_long_zero
returns-clause-too_long_zero c = λ file0 file1 long. zero_long file0 file1 long

pub returns-clause-too_long_one : goal.returns-clause-too_long_one
returns-clause-too_long_one c = λ file0 file1 long. one_long file0 file1 long

pub returns-clause-none_stands : goal.returns-clause-none_stands
returns-clause-none_stands c = λ file0 file1 short0 short1 zero one. none_stands file0 file1 short0 short1 zero one

pub returns-clause-damage_zero : goal.returns-clause-damage_zero
returns-clause-damage_zero c = λ file0 file1 place short0 short1 zero. zero_damaged file0 file1 place short0 short1 zero

pub returns-clause-one_generation : goal.returns-clause-one_generation
returns-clause-one_generation c = λ file0 file1 zero one short0 short1 e0 e1 same. one_generation file0 file1 zero one short0 short1 e0 e1 same
