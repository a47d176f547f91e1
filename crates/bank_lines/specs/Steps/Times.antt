-- A time in seconds, as brackets have it.
use Rattle.std.specs.Prelude.{◌≡◌, ℕ, ◌+◌, ◌*◌, List, ◌∷◌, ◌++◌, Some}
use Rattle.ras_script.specs.Number.{decimal_of}
use Rattle.bank_lines.specs.LogHeads.{without_spaces}
use Rattle.bank_lines.specs.LogLines.{micros_of}
use Rattle.bank_lines.specs.declared.log_line.TheConstants.{LAST_SECOND, MICROSECONDS}

-- `<seconds>.<micros>`, after spaces, is a time of `stamp` microseconds
pub record IsTime (time : List ℕ) (stamp : ℕ) : Type 0 where
  pub front : List ℕ
  pub behind : List ℕ
  pub is : time ≡ front ++ 46 ∷ behind
  pub seconds : ℕ
  pub read : decimal_of LAST_SECOND (without_spaces front) ≡ Some seconds
  pub micros : ℕ
  pub behind_read : micros_of behind ≡ Some micros
  pub stamp_is : stamp ≡ seconds * MICROSECONDS + micros
