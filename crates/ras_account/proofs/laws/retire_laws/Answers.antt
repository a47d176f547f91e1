use Rattle.ras_account.proofs.LawLemmas.{floor-rises, retired-unchanged, retired-unordered, retired-keeps, retired-twice}
use Rattle.ras_account.proofs.laws.retire_laws.Goals as goal

pub returns-clause-floor : goal.returns-clause-floor
returns-clause-floor c = floor-rises

pub returns-clause-unchanged : goal.returns-clause-unchanged
returns-clause-unchanged c = retired-unchanged

pub returns-clause-unordered : goal.returns-clause-unordered
returns-clause-unordered c = retired-unordered

pub returns-clause-keeps : goal.returns-clause-keeps
returns-clause-keeps c = retired-keeps

pub returns-clause-twice : goal.returns-clause-twice
returns-clause-twice c = retired-twice
