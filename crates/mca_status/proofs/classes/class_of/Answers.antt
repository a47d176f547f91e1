-- The two laws on bits that the class doesn't read.
use Rattle.mca_status.proofs.RowLemmas.{class_of_rows-overflow, class_of_rows-no_recovery}
use Rattle.mca_status.proofs.classes.class_of.Goals as goal

pub returns-then-is_valid-clause-overflow_ignored : goal.returns-then-is_valid-clause-overflow_ignored
returns-then-is_valid-clause-overflow_ignored c = class_of_rows-overflow c.args.cap c.args.status

pub returns-then-is_valid-clause-recovery_ignored : goal.returns-then-is_valid-clause-recovery_ignored
returns-then-is_valid-clause-recovery_ignored c = class_of_rows-no_recovery c.args.cap c.args.status

pub returns-else-is_valid-clause-overflow_ignored : goal.returns-else-is_valid-clause-overflow_ignored
returns-else-is_valid-clause-overflow_ignored c = class_of_rows-overflow c.args.cap c.args.status

pub returns-else-is_valid-clause-recovery_ignored : goal.returns-else-is_valid-clause-recovery_ignored
returns-else-is_valid-clause-recovery_ignored c = class_of_rows-no_recovery c.args.cap c.args.status
