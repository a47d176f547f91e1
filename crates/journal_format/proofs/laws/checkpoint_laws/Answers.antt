use Rattle.std.proofs.Common.{◌∙◌, refl, sym}
use Rattle.entry_format.proofs.CodecLemmas.{ok_is}
use Rattle.journal_format.proofs.CheckpointLemmas.{checkpoint_is_read, checkpoint_at, checkpoint_is}
use Rattle.journal_format.proofs.VersionLemmas.{in_both_versions}
use Rattle.journal_format.proofs.laws.checkpoint_laws.Goals as goal

pub returns-clause-account : goal.returns-clause-account
returns-clause-account c version a bytes fits = (checkpoint_is version a bytes fits, checkpoint_at version a bytes)

pub returns-clause-account_read : goal.returns-clause-account_read
returns-clause-account_read c = checkpoint_at

pub returns-clause-one_reading : goal.returns-clause-one_reading
returns-clause-one_reading c version a b bytes one other = ok_is a b (sym (checkpoint_is_read version a bytes one) ∙ checkpoint_is_read version b bytes other)

pub returns-clause-spelled : goal.returns-clause-spelled
returns-clause-spelled c a is modules pages = record { account = is; told = tt; module_count = modules; page_count = pages; spelled = refl }

pub returns-clause-versions : goal.returns-clause-versions
returns-clause-versions c = in_both_versions
