-- How the words of a script write numbers.
use Rattle.std.specs.Prelude.{ℕ, ◌-◌, ◌^◌, Bool, ◌&&◌, List, length, Option, None, Some, nat_lt, nat_le, if◌then◌else◌}
use Rattle.std.specs.Char.{is_digit}
use Rattle.std.specs.List.{list_all}
use Rattle.std.specs.Str.Parse.{digits_value}
use Rattle.ras_script.specs.declared.number.TheConstants.{DECIMAL_DIGITS, HEXADECIMAL_DIGITS}

-- Whether a word consists of 1 to `longest` digits.
abbrev pub is_numeral : ℕ → ℕ → List ℕ → Bool
is_numeral radix longest word =
    nat_lt 0 (length word)
    && (nat_le (length word) longest && list_all (λ c. is_digit c radix) word)

-- the value of a word of 1 to `longest` digits, if it is at most `most`
abbrev pub numeral_value : ℕ → ℕ → ℕ → List ℕ → Option ℕ
numeral_value radix longest most word =
    if is_numeral radix longest word && nat_le (digits_value radix word) most
    then Some (digits_value radix word) else None

-- a decimal word: 1 to 20 digits, leading zeros too, and a value in the word's range
abbrev pub decimal_of : ℕ → List ℕ → Option ℕ
decimal_of most word = numeral_value 10 DECIMAL_DIGITS most word

-- a hexadecimal word: 1 to 16 digits of either case, with no prefix
abbrev pub hexadecimal_of : List ℕ → Option ℕ
hexadecimal_of word = numeral_value 16 HEXADECIMAL_DIGITS (2 ^ 64 - 1) word
