-- What contracts see of a journal.
use Rattle.std.specs.Prelude.{Bool}
use Rattle.ras_journal.specs.declared.standing.Standing.{Standing}

-- the journal's position, and whether one of its calls has failed
pub record JournalView : Type 0 where
  pub standing : Standing
  pub failed : Bool
