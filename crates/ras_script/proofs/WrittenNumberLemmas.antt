-- A written number is read as that number.
use Rattle.std.proofs.Common.{◌≡◌, ℕ, ◌+◌, ◌-◌, ◌/◌, ◌%◌, ◌^◌, ◌<◌, ◌≤◌, ◌==◌, ◌&&◌, Bool, true, false, cond, nat_lt, nat_le, List, [], ◌∷◌, zero, suc, length, refl, ap, arith, Some, None, lit<}
use Rattle.std.proofs.Math.Nat.{pow-suc}
use Rattle.std.proofs.lemmas.Bool.Decides.{nat_tests}
use Rattle.std.proofs.lemmas.Bool.{lt-ltb}
use Rattle.std.proofs.lemmas.Fmt.{digits_is_IsNumeral, decimal_is_IsNumeral, length-decimal-le}
use Rattle.std.specs.Char.{is_digit}
use Rattle.std.specs.Fmt.{decimal, digit_glyph, digits_onto}
use Rattle.std.specs.Fmt.{digits}
use Rattle.std.specs.List.{list_all}
use Rattle.std.specs.Str.Parse.{AllDigits, IsNumeral, digits_value}
use Rattle.ras_script.specs.Number.{numeral_value, decimal_of, hexadecimal_of}

digits_pass : (radix : ℕ) (word : List ℕ) → AllDigits radix word → list_all (λ c. is_digit c radix) word ≡ true
digits_pass radix [] all = refl
digits_pass radix (c ∷ cs) all =
    let test : is_digit c radix ≡ true = lt-ltb _ _ all.0 in
    rw (test, digits_pass radix cs all.1) refl

numeral_is : (radix longest most n value : ℕ) (some short all : Bool) → some ≡ true → short ≡ true → all ≡ true → value ≡ n → n ≤ most → cond ((some && (short && all)) && nat_le value most) (Some value) None ≡ Some n
numeral_is radix longest most n value some short all s l a is small =
    let test : nat_le value most ≡ true = grind (arith, nat_tests, small, is) in
    rw (s, l, a, test) (ap Some is)

number_is : (radix longest most n : ℕ) (word : List ℕ) → IsNumeral radix word × (digits_value radix word ≡ n) → length word ≤ longest → n ≤ most → numeral_value radix longest most word ≡ Some n
number_is radix longest most n word numeral short small =
    let some : nat_lt 0 (length word) ≡ true = lt-ltb _ _ numeral.0.0 in
    let few : nat_le (length word) longest ≡ true = grind (arith, nat_tests, short) in
    numeral_is radix longest most n (digits_value radix word) (nat_lt 0 (length word)) (nat_le (length word) longest) (list_all (λ c. is_digit c radix) word) some few (digits_pass radix word numeral.0.1) numeral.1 small

pub decimal_read : (most n : ℕ) → n ≤ most → most < 2 ^ 64 → decimal_of most (decimal n) ≡ Some n
decimal_read most n small fits = number_is 10 20 most n (decimal n) (decimal_is_IsNumeral n (omega arith)) (length-decimal-le 20 n (omega arith) (omega arith) (omega arith)) small

-- A number below 16 ^ j has at most j digits in base 16.
few_step : (i n d : ℕ) (acc rest : List ℕ) (last : Bool) → (n / 16 == 0) ≡ last → n < 16 ^ suc i → (n / 16 < 16 ^ i → 0 < i → length rest ≤ length acc + 1 + i) → length (cond last (d ∷ acc) rest) ≤ length acc + suc i
few_step i n d acc rest true h small more = omega arith
few_step zero n d acc rest false h small more =
    let some : ¬ (n / 16 ≡ 0) = grind (arith, nat_tests, h) in
    absurd (some (omega arith))
few_step (suc i) n d acc rest false h small more =
    let shorter : n / 16 < 16 ^ suc i = omega (arith, pow-suc 16 (suc i)) in
    omega (arith, more shorter (omega arith))

few_digits : (k j n : ℕ) (upper : Bool) (acc : List ℕ) → n < 16 ^ j → 0 < j → length (digits_onto k 16 upper n acc) ≤ length acc + j
few_digits zero j n upper acc small some = omega arith
few_digits (suc k) zero n upper acc small some = absurd (omega arith)
few_digits (suc k) (suc i) n upper acc small some =
    let digit : ℕ = digit_glyph upper (n % 16) in
    few_step i n digit acc (digits_onto k 16 upper (n / 16) (digit ∷ acc)) (n / 16 == 0) refl small (λ shorter more. omega (arith, few_digits k i (n / 16) upper (digit ∷ acc) shorter more))

pub hexadecimal_read : (upper : Bool) (n : ℕ) → n < 2 ^ 64 → hexadecimal_of (digits 16 upper n) ≡ Some n
unfolding digits
hexadecimal_read upper n small =
    let fits : n < 16 ^ 64 = omega arith in
    let short : length (digits 16 upper n) ≤ 16 = few_digits 64 16 n upper [] small (omega arith) in
    number_is 16 16 (2 ^ 64 - 1) n (digits 16 upper n) (digits_is_IsNumeral 16 upper (lit< tt) (lit< tt) n fits) short (omega arith)
