-- The end of a section.
use Rattle.std.proofs.Common.{◌≡◌, ◌-◌, ℕ, List, length, take, drop}
use Rattle.std.proofs.lemmas.List.{take_rest}

pub rest_of_report : (bytes : List ℕ) → take (length bytes - 67) (drop 67 bytes) ≡ drop 67 bytes
rest_of_report bytes = take_rest bytes 67
