use Rattle.std.proofs.Common.{◌≡◌, true, take}
use Rattle.std.specs.Char.{is_digit}
use Rattle.std.specs.List.{list_all}
use Rattle.std.specs.Str.Parse.{digits_value}
use Rattle.ras_script.proofs.number.number.Given as goal

-- The bytes so far are digits, and this is their value.
abbrev pub invariant-loop-byte : goal.invariant-loop-byte
invariant-loop-byte l =
    (list_all (λ c. is_digit c l.radix) (take l.byte-index l.word) ≡ true) × (l.value ≡ digits_value l.radix (take l.byte-index l.word))
