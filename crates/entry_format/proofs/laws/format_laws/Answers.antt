use Rattle.entry_format.proofs.FileLemmas.{same_front, one_reading}
use Rattle.entry_format.proofs.SizeLemmas.{fact_entry_most, limit_size}
use Rattle.entry_format.proofs.laws.format_laws.Goals as goal

pub returns-clause-none_begins_another : goal.returns-clause-none_begins_another
returns-clause-none_begins_another c = same_front

pub returns-clause-one_reading : goal.returns-clause-one_reading
returns-clause-one_reading c = one_reading

pub returns-clause-most : goal.returns-clause-most
returns-clause-most c = fact_entry_most

pub returns-clause-limit_size : goal.returns-clause-limit_size
returns-clause-limit_size c = limit_size
