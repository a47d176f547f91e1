-- A numeral of few digits is small, and one more digit.
use Rattle.std.proofs.Common.{◌≡◌, ℕ, ◌+◌, ◌*◌, ◌^◌, ◌<◌, ◌≤◌, ◌&&◌, Bool, true, false, cond, nat_le, Some, None, List, [], ◌∷◌, length, refl, arith, lit<, take, get_or, ◌∙◌, sym}
use Rattle.std.proofs.Math.Nat.{pow-le-pow_left, pow-le-pow_right, mul-le-mul_left}
use Rattle.std.proofs.lemmas.Bool.Decides.{nat_tests}
use Rattle.std.proofs.lemmas.List.{length-take-le}
use Rattle.std.proofs.lemmas.Bool.{lt-ltb}
use Rattle.std.proofs.lemmas.Int.Digits.{digits_value-lt, digits_value_more}
use Rattle.std.proofs.lemmas.List.Folds.{list_all_more}
use Rattle.std.proofs.lemmas.Str.Parse.{digits_value-take-le}
use Rattle.std.specs.Char.{digit_value, is_digit}
use Rattle.std.specs.List.{list_all}
use Rattle.std.specs.Str.Parse.{AllDigits, digits_value}
use Rattle.ras_script.specs.Number.{is_numeral, numeral_value}

all_digits : (radix : ℕ) (word : List ℕ) → list_all (λ c. is_digit c radix) word ≡ true → AllDigits radix word
all_digits radix [] h = tt
all_digits radix (c ∷ cs) h = (grind (arith, nat_tests, h), all_digits radix cs (grind (arith, nat_tests, h)))

bounded : (radix : ℕ) (word : List ℕ) → 1 ≤ radix → radix ≤ 16 → length word ≤ 15 → list_all (λ c. is_digit c radix) word ≡ true → digits_value radix word < 2 ^ 60
bounded radix word some small short h =
    let below : digits_value radix word < radix ^ length word = digits_value-lt radix word (all_digits radix word h) in
    let left : radix ^ length word ≤ 16 ^ length word = pow-le-pow_left small (length word) in
    let right : 16 ^ length word ≤ 16 ^ 15 = pow-le-pow_right (lit< tt) short in
    omega arith

-- The value of up to 15 digits, times the base, has room for another digit below 2 ^ 64.
pub room : (radix : ℕ) (word : List ℕ) (i value base : ℕ) → 1 ≤ radix → radix ≤ 16 → i < 16 → i < length word → list_all (λ c. is_digit c radix) (take i word) ≡ true → value ≡ digits_value radix (take i word) → base ≡ radix → value * base + 16 ≤ 2 ^ 64
room radix word i value base some small few inside sofar is same =
    let short : length (take i word) ≤ 15 = omega (arith, length-take-le i word (omega arith)) in
    let below : digits_value radix (take i word) < 2 ^ 60 = bounded radix (take i word) some small short sofar in
    let product : value * base ≤ value * 16 = mul-le-mul_left value (omega arith) in
    omega arith

-- A word whose first digits are a value of more than 64 bits isn't a number in a range, whatever follows them.
refused : (value : ℕ) (numeral within : Bool) → within ≡ false → cond (numeral && within) (Some value) None ≡ None
refused value true false is = refl
refused value false false is = refl
refused value numeral true is = absurd cc

pub past : (radix longest most : ℕ) (word : List ℕ) (i value base : ℕ) → 1 ≤ radix → most < 2 ^ 64 → i < length word → value ≡ digits_value radix (take i word) → base ≡ radix → 2 ^ 64 ≤ value * base + digit_value (get_or word i 0) → numeral_value radix longest most word ≡ None
past radix longest most word i value base some fits inside is same large =
    let next : digits_value radix (take (i + 1) word) ≡ digits_value radix (take i word) * radix + digit_value (get_or word i 0) = digits_value_more radix word i inside in
    let here : value * base ≡ digits_value radix (take i word) * radix = rw (is, same) refl in
    let less : digits_value radix (take (i + 1) word) ≤ digits_value radix word = digits_value-take-le radix word (i + 1) some in
    let above : most < digits_value radix word = omega arith in
    let test : nat_le (digits_value radix word) most ≡ false = grind (arith, nat_tests, above) in
    refused (digits_value radix word) (is_numeral radix longest word) (nat_le (digits_value radix word) most) test

-- One more digit.
pub digits_step : (radix : ℕ) (word : List ℕ) (i value base digit after : ℕ) → i < length word → list_all (λ c. is_digit c radix) (take i word) ≡ true → value ≡ digits_value radix (take i word) → base ≡ radix → (digit_value (get_or word i 0) < radix) × (digit ≡ digit_value (get_or word i 0)) → after ≡ value * base + digit → (list_all (λ c. is_digit c radix) (take (i + 1) word) ≡ true) × (after ≡ digits_value radix (take (i + 1) word))
digits_step radix word i value base digit after inside sofar is same told gives =
    let more : list_all (λ c. is_digit c radix) (take (i + 1) word) ≡ (list_all (λ c. is_digit c radix) (take i word) && is_digit (get_or word i 0) radix) = list_all_more (λ c. is_digit c radix) word i 0 inside in
    let test : is_digit (get_or word i 0) radix ≡ true = lt-ltb _ _ told.0 in
    let next : digits_value radix (take (i + 1) word) ≡ digits_value radix (take i word) * radix + digit_value (get_or word i 0) = digits_value_more radix word i inside in
    (more ∙ rw (sofar, test) refl, gives ∙ rw (is, same, told.1) (sym next))
