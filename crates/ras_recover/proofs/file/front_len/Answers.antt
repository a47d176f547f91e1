use Rattle.ras_recover.proofs.ReadingLemmas.{no_damage}
use Rattle.ras_recover.proofs.file.front_len.Goals as goal

pub returns-in-Err-checkpoint_count_at-clause-none : goal.returns-in-Err-checkpoint_count_at-clause-none
returns-in-Err-checkpoint_count_at-clause-none c = λ none count version stands magic counted. no_damage c.in-Err-checkpoint_count_at.field-0 _ count c.in-Err-checkpoint_count_at.ensures counted

pub returns-in-Err-clause-none : goal.returns-in-Err-clause-none
returns-in-Err-clause-none c = λ none count version stands magic counted. no_damage c.in-Err.field-0 _ version c.in-Err.ensures magic
