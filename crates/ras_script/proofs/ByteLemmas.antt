-- Which words for bytes are read, and that written bytes are read.
use Rattle.std.proofs.Common.{◌≡◌, ℕ, suc, zero, ◌*◌, ◌%◌, ◌<◌, ◌==◌, Bool, true, false, cond, List, [], ◌∷◌, length, refl, arith, lit<, None, Some, Result, Ok, Err}
use Rattle.std.proofs.lemmas.Bool.Decides.{nat_tests}
use Rattle.std.specs.List.{AllByRecursion, AllPass}
use Rattle.std.specs.Prelude.{IfSome, IsSome, ◌↔◌}
use Rattle.std.specs.Result.{result_ok}
use Rattle.hex.specs.Hex.{IsBytes, decode_of, encode_lower, encode_upper, is_hex_digit, lower_digits, upper_digits}
use Rattle.hex.specs.declared.error.FromHexError.{FromHexError}
use Rattle.hex.proofs.HexLemmas.{decode_of-digits, decode_of-encode_lower, decode_of-encode_upper, decode_of-ok, length-encode_with}
use Rattle.ras_script.specs.Bytes.{AreBytes, bytes_of}

-- bytes as a list is read, and as the decoder sees them
small_at : (bytes : List ℕ) → AllByRecursion (λ b. b < 256) bytes → IsBytes bytes
small_at [] all i = lit< tt
small_at (b ∷ bytes) all zero = all.0
small_at (b ∷ bytes) all (suc i) = small_at bytes all.1 i

all_small : (bytes : List ℕ) → IsBytes bytes → AllByRecursion (λ b. b < 256) bytes
all_small [] h = tt
all_small (b ∷ bytes) h = (h zero, all_small bytes (λ i. h (suc i)))

-- How a word that isn't empty is read.
some_word : (word : List ℕ) → 0 < length word → (length word == 0) ≡ false
some_word word some = grind (arith, nat_tests, some)

no_word : (word : List ℕ) → (length word == 0) ≡ false → 0 < length word
no_word word is = grind (arith, nat_tests, is)

read_is : (word : List ℕ) (empty : Bool) (decoded : Result (List ℕ) FromHexError) → (length word == 0) ≡ empty → decode_of word ≡ decoded
    → IfSome (cond empty None (result_ok decoded)) AreBytes
read_is word true decoded e d = tt
read_is word false (Err why) e d = tt
read_is word false (Ok bytes) e d =
    let ok = decode_of-ok word bytes d in
    let some : 0 < length word = no_word word e in
    let twice : length word ≡ 2 * length bytes = ok.2 in
    (omega arith, all_small bytes ok.3)

pub bytes_read : (word : List ℕ) → IfSome (bytes_of word) AreBytes
bytes_read word = read_is word (length word == 0) (decode_of word) refl refl

-- Which words are read.
digits_by : (word : List ℕ) (empty : Bool) (decoded : Result (List ℕ) FromHexError) → (length word == 0) ≡ empty → decode_of word ≡ decoded
    → IsSome (cond empty None (result_ok decoded)) → (0 < length word) × (length word % 2 ≡ 0) × AllPass is_hex_digit word
digits_by word true decoded e d some = cc some
digits_by word false (Err why) e d some = cc some
digits_by word false (Ok bytes) e d some =
    let ok = decode_of-ok word bytes d in
    (no_word word e, ok.0, ok.1)

digits_read : (word : List ℕ) → (0 < length word) × (length word % 2 ≡ 0) × AllPass is_hex_digit word → IsSome (bytes_of word)
digits_read word is =
    let e = some_word word is.0 in
    let (bytes, d) = decode_of-digits word is.1 is.2 in
    rw (e, d) refl

pub bytes_digits : (word : List ℕ) → IsSome (bytes_of word) ↔ ((0 < length word) × (length word % 2 ≡ 0) × AllPass is_hex_digit word)
bytes_digits word = (digits_by word (length word == 0) (decode_of word) refl refl, digits_read word)

-- written bytes
pub lower_read : (bytes : List ℕ) → AreBytes bytes → bytes_of (encode_lower bytes) ≡ Some bytes
lower_read bytes are =
    let size = length-encode_with lower_digits bytes in
    let some = are.0 in
    let e = some_word (encode_lower bytes) (omega arith) in
    let d = decode_of-encode_lower bytes (small_at bytes are.1) in
    rw (e, d) refl

pub upper_read : (bytes : List ℕ) → AreBytes bytes → bytes_of (encode_upper bytes) ≡ Some bytes
upper_read bytes are =
    let size = length-encode_with upper_digits bytes in
    let some = are.0 in
    let e = some_word (encode_upper bytes) (omega arith) in
    let d = decode_of-encode_upper bytes (small_at bytes are.1) in
    rw (e, d) refl
