-- Whether a text has room for the lines of orders.
use Rattle.std.specs.Prelude.{ℕ, ◌+◌, ◌*◌, ◌≤◌}
use Rattle.std.specs.Global.{Vec}
use Rattle.std.specs.Vec.{vec_capacity, vec_len}
use Rattle.ras_texts.specs.declared.order.TheConstants.{ORDER_LENGTH}

-- The text has room for the lines of this many orders.
abbrev pub HasOrderRoom : ℕ → Vec ℕ → Type 0
HasOrderRoom orders text = vec_len text + ORDER_LENGTH * orders ≤ vec_capacity text

-- A text grew by at most one line, and kept its room.
pub record StaysWithin (old new : Vec ℕ) : Type 0 where
  pub length : vec_len new ≤ vec_len old + ORDER_LENGTH
  pub room : vec_capacity old ≤ vec_capacity new
