-- Bytes from pairs of digits, with one test of whether all are digits.
use Rattle.std.proofs.Common.{◌≡◌, ℕ, ◌+◌, ◌*◌, ◌%◌, ◌<◌, ◌≤◌, true, false, cond, nat_lt, List, length, take, drop, get_or, set, bit_or, refl, sym, ap, ◌∙◌, arith, inl, inr, None, Some, Ok, Err}
use Rattle.std.proofs.lemmas.Bool.{cases_lt}
use Rattle.std.proofs.lemmas.Bool.Decides.{nat_tests}
use Rattle.std.proofs.lemmas.Nat.{le_or_l, le_or_r, or_lt}
use Rattle.std.specs.Char.{digit_value}
use Rattle.std.specs.Result.{result_ok}
use Rattle.hex.specs.Hex.{decode_of, decode_pairs, hex_digit_value, pair_value}
use Rattle.hex.specs.declared.error.FromHexError.{FromHexError}
use Rattle.hex.specs.declared.error.FromHexError.TheVariants.{InvalidHexCharacter}
use Rattle.hex.proofs.HexLemmas.{decode_of-even}
use Rattle.hex.proofs.Pairs.{decode_done, decode_err, decode_start, decode_step, prepend}

-- ---- digits of the table, and those of hexadecimal

digit_small : (c : ℕ) → digit_value c < 16 → hex_digit_value c ≡ Some (digit_value c)
digit_small c small = grind (arith, nat_tests, small)

digit_other : (c : ℕ) → 16 ≤ digit_value c → hex_digit_value c ≡ None
digit_other c large = grind (arith, nat_tests, large)

pair_small : (a b i : ℕ) → digit_value a < 16 → digit_value b < 16 → pair_value a b i ≡ Ok (digit_value a * 16 + digit_value b)
pair_small a b i high low = rw (digit_small a high, digit_small b low) refl

pair_other : (a b i : ℕ) → (digit_value a < 16 → 16 ≤ digit_value b) → (why : FromHexError) × (pair_value a b i ≡ Err why)
pair_other a b i other = elim (cases_lt (digit_value a) 16) [
  | inl high ↦ (InvalidHexCharacter b (i + 1), rw (digit_small a high, digit_other b (other high)) refl)
  | inr none ↦ (InvalidHexCharacter a i, rw (digit_other a none) refl)
]

-- ---- the pairs before a place

-- The bytes are decoded if all bytes of the word are digits; otherwise the word isn't a word for bytes.
pub record AreDecoded (word bytes : List ℕ) (place together : ℕ) : Type 0 where
  pub digits : together < 16 → decode_pairs 0 word ≡ prepend (take place bytes) (decode_pairs (2 * place) (drop (2 * place) word))
  pub other : 16 ≤ together → result_ok (decode_pairs 0 word) ≡ None

pub none_decoded : (word bytes : List ℕ) → AreDecoded word bytes 0 0
none_decoded word bytes = record {
  digits = λ small. decode_start word bytes;
  other = λ large. absurd (omega arith);
}

pub pair_decoded : (word bytes : List ℕ) (place together high low byte after : ℕ) → 2 * place + 1 < length word → place < length bytes
    → high ≡ digit_value (get_or word (2 * place) 0) → low ≡ digit_value (get_or word (2 * place + 1) 0)
    → byte ≡ (high * 16 % 256 + low) % 256 → after ≡ bit_or together (bit_or high low)
    → AreDecoded word bytes place together → AreDecoded word (set bytes place byte) (place + 1) after
pair_decoded word bytes place together high low byte after inside room is_high is_low is_byte is_after so_far = record {
  digits = λ small.
      let parts : (together ≤ after) × (bit_or high low ≤ after) = (rw is_after (le_or_l together (bit_or high low)), rw is_after (le_or_r together (bit_or high low))) in
      let first : high < 16 = omega (arith, parts.1, le_or_l high low) in
      let second : low < 16 = omega (arith, parts.1, le_or_r high low) in
      let value : byte ≡ digit_value (get_or word (2 * place) 0) * 16 + digit_value (get_or word (2 * place + 1) 0) = omega (arith, is_byte, is_high, is_low, first, second) in
      let pair : pair_value (get_or word (2 * place) 0) (get_or word (2 * place + 1) 0) (2 * place) ≡ Ok byte =
      pair_small (get_or word (2 * place) 0) (get_or word (2 * place + 1) 0) (2 * place) (omega (arith, is_high, first)) (omega (arith, is_low, second)) ∙ ap Ok (sym value) in
      decode_step word bytes place byte inside room pair (so_far.digits (omega (arith, parts.0)));
  other = λ large. elim (cases_lt together 16) [
    | inl small ↦
        let bad : digit_value (get_or word (2 * place) 0) < 16 → 16 ≤ digit_value (get_or word (2 * place + 1) 0) =
        (λ first. elim (cases_lt low 16) [
          | inl second ↦ absurd (omega (arith, is_after, large, or_lt 4 together (bit_or high low) small (or_lt 4 high low (omega (arith, is_high, first)) second)))
          | inr none ↦ omega (arith, is_low)
        ]) in
        let why = pair_other (get_or word (2 * place) 0) (get_or word (2 * place + 1) 0) (2 * place) bad in
        ap result_ok (decode_err word bytes place why.0 inside why.1 (so_far.digits small))
    | inr none ↦ so_far.other none
  ];
}

pub all_decoded : (word bytes : List ℕ) (place together : ℕ) → length bytes ≤ place → length word ≡ 2 * length bytes
    → AreDecoded word bytes place together → result_ok (decode_of word) ≡ cond (nat_lt together 16) (Some bytes) None
all_decoded word bytes place together end size so_far =
    let even : decode_of word ≡ decode_pairs 0 word = decode_of-even word (omega arith) in
    elim (cases_lt together 16) [
      | inl small ↦
          let test : nat_lt together 16 ≡ true = grind (arith, nat_tests, small) in
          rw test (ap result_ok (even ∙ decode_done word bytes place end (omega arith) (so_far.digits small)))
      | inr large ↦
          let test : nat_lt together 16 ≡ false = grind (arith, nat_tests, large) in
          rw test (ap result_ok even ∙ so_far.other large)
    ]
