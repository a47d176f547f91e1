-- The indexes of a byte in a block as bits, and its first index in a text.
use Rattle.std.proofs.Common.{◌≡◌, ◌≢◌, ℕ, zero, suc, ◌+◌, ◌-◌, ◌<◌, ◌≤◌, ◌==◌, eqb, nat_lt, Bool, true, false, cond, List, [], ◌∷◌, length, map, get_or, Some, None, refl, ap, sym, ◌∙◌, arith, inl, inr}
use Rattle.std.proofs.lemmas.Bool.{cases_lt, eq-eqb, eqb-true, false≢true}
use Rattle.std.proofs.lemmas.Bool.Decides.{nat_tests}
use Rattle.std.proofs.lemmas.List.Sums.{position_or_len_is}
use Rattle.std.proofs.lemmas.Nat.Bits.{bit_at_above}
use Rattle.std.proofs.lemmas.Simd.{bit_mask_l, get_or-chunk, length-chunk}
use Rattle.std.specs.Int.{bit_at}
use Rattle.std.specs.List.{position, position_or_len}
use lib.Lanes.{chunk, mask_l}
use Rattle.ras_script.specs.Steps.Places.{ArePlaces, StandsNowhere}

-- ---- the places in a block

-- the bits of a block
abbrev pub bits_of : ℕ → List ℕ → ℕ → ℕ
bits_of byte text at = mask_l (map (λ b. eqb b byte) (chunk at 16 text))

one : (t : Bool) → cond {A = ℕ} t 1 0 ≡ 1 → t ≡ true
one true set = refl
one false set = absurd (omega arith)

byte_at : (byte : ℕ) (text : List ℕ) (k : ℕ) → get_or (map (λ b. eqb b byte) text) k false ≡ true → (k < length text) × (get_or text k 0 ≡ byte)
byte_at byte [] k is = absurd (false≢true is)
byte_at byte (b ∷ text) zero is = (omega arith, eqb-true b byte is)
byte_at byte (b ∷ text) (suc k) is = let rest = byte_at byte text k is in (omega (arith, rest.0), rest.1)

at_byte : (byte : ℕ) (text : List ℕ) (k : ℕ) → k < length text → get_or text k 0 ≡ byte → get_or (map (λ b. eqb b byte) text) k false ≡ true
at_byte byte [] k inside is = absurd (omega arith)
at_byte byte (b ∷ text) zero inside is = eq-eqb b byte is
at_byte byte (b ∷ text) (suc k) inside is = at_byte byte text k (omega arith) is

set_bit : (byte : ℕ) (text : List ℕ) (at k : ℕ) → at + 16 ≤ length text → bit_at (bits_of byte text at) k ≡ 1 → (k < 16) × (get_or text (at + k) 0 ≡ byte)
set_bit byte text at k room set =
    let found = byte_at byte (chunk at 16 text) k (one _ (sym (bit_mask_l (map (λ b. eqb b byte) (chunk at 16 text)) k) ∙ set)) in
    let low : k < 16 = omega (arith, found.0, length-chunk at 16 text room) in
    (low, sym (get_or-chunk at 16 text k 0 low) ∙ found.1)

pub block_places : (byte : ℕ) (text : List ℕ) (at bits : ℕ) → at + 16 ≤ length text → bits ≡ bits_of byte text at → ArePlaces byte text at at bits
block_places byte text at bits room is = rw is (record {
  all = λ k low from here.
      bit_mask_l (map (λ b. eqb b byte) (chunk at 16 text)) k
      ∙ ap (λ b. cond b 1 0) (at_byte byte (chunk at 16 text) k (omega (arith, length-chunk at 16 text room)) (get_or-chunk at 16 text k 0 low ∙ here));
  block = λ k set. (set_bit byte text at k room set).0;
  from_on = λ k set. omega arith;
  only = λ k set. (set_bit byte text at k room set).1;
})

-- The bits of a whole block don't depend on `from`.
pub anywhere : (byte : ℕ) (text : List ℕ) (at bits : ℕ) → ArePlaces byte text at at bits → ArePlaces byte text at 0 bits
anywhere byte text at bits places = record {
  all = λ k low from here. places.all k low (omega arith) here;
  block = places.block;
  from_on = λ k set. omega arith;
  only = places.only;
}

-- The first index from `start` on is the index of the lowest bit.
pub none_before : (byte : ℕ) (text : List ℕ) (at start bits bit : ℕ) → StandsNowhere byte text start at → ArePlaces byte text at start bits → ((k : ℕ) → k < bit → bit_at bits k ≡ 0) → bit ≤ 16 → StandsNowhere byte text start (at + bit)
none_before byte text at start bits bit nowhere places below inside k low high here = elim (cases_lt k at) [
  | inl before ↦ nowhere k low before here
  | inr after ↦
      let there : at + (k - at) ≡ k = omega arith in
      let set : bit_at bits (k - at) ≡ 1 = places.all (k - at) (omega arith) (omega arith) (ap (λ i. get_or text i 0) there ∙ here) in
      absurd (omega (arith, set, below (k - at) (omega arith)))
]

-- The byte isn't in the block if no bit is set.
pub none_left : (byte : ℕ) (text : List ℕ) (at start bits : ℕ) → bits ≡ 0 → StandsNowhere byte text start at → ArePlaces byte text at start bits → StandsNowhere byte text start (at + 16)
none_left byte text at start bits none nowhere places =
    let small : bits < 1 = omega arith in
    none_before byte text at start bits 16 nowhere places (λ k low. bit_at_above bits 0 k small (omega arith)) (omega arith)

-- The indexes after the index of the lowest bit.
pub places_after : (byte : ℕ) (text : List ℕ) (at start bits bit rest : ℕ) → ArePlaces byte text at start bits → ((k : ℕ) → k < bit → bit_at bits k ≡ 0) → bit < 64 → start ≤ at + bit
    → bit_at rest bit ≡ 0 → ((k : ℕ) → k < 64 → k ≢ bit → bit_at rest k ≡ bit_at bits k) → ((k : ℕ) → bit_at rest k ≡ 1 → bit_at bits k ≡ 1) → ArePlaces byte text at (at + bit + 1) rest
places_after byte text at start bits bit rest places below small from cleared kept no_more = record {
  all = λ k low ahead here. kept k (omega arith) (omega arith) ∙ places.all k low (omega arith) here;
  block = λ k set. places.block k (no_more k set);
  from_on = λ k set. elim (cases_lt bit k) [
    | inl above ↦ omega arith
    | inr down ↦ absurd (not_below k set down)
  ];
  only = λ k set. places.only k (no_more k set);
}
  where
    not_below : (k : ℕ) → bit_at rest k ≡ 1 → k ≤ bit → ⊥
    not_below k set down = elim (cases_lt k bit) [
      | inl l ↦ omega (arith, below k l, no_more k set)
      | inr ge ↦ let same : k ≡ bit = omega arith in omega (arith, cleared, ap (bit_at rest) same, set)
    ]

-- ---- the first place in a text

not_true : (t : Bool) → ¬ (t ≡ true) → t ≡ false
not_true true none = absurd (none refl)
not_true false none = refl

first_is : (byte : ℕ) (text : List ℕ) (place : ℕ) → place ≤ length text → StandsNowhere byte text 0 place → (place < length text → get_or text place 0 ≡ byte) → position_or_len (λ b. b == byte) text ≡ place
first_is byte text place within none here =
    position_or_len_is (λ b. b == byte) text place 0 within (λ k low. not_true _ (λ is. none k (omega arith) low (eqb-true _ byte is))) (λ inside. eq-eqb _ byte (here inside))

pub found_at : (byte : ℕ) (text : List ℕ) (place : ℕ) → place < length text → StandsNowhere byte text 0 place → get_or text place 0 ≡ byte → Some place ≡ position (λ b. b == byte) text
found_at byte text place inside none here =
    let first : position_or_len (λ b. b == byte) text ≡ place = first_is byte text place (omega arith) none (λ low. here) in
    let test : nat_lt place (length text) ≡ true = grind (arith, nat_tests, inside) in
    rw (first, test) refl

pub found_nowhere : (byte : ℕ) (text : List ℕ) → StandsNowhere byte text 0 (length text) → None ≡ position (λ b. b == byte) text
found_nowhere byte text none =
    let first : position_or_len (λ b. b == byte) text ≡ length text = first_is byte text (length text) (omega arith) none (λ low. absurd (omega arith)) in
    let test : nat_lt (length text) (length text) ≡ false = grind (arith, nat_tests) in
    rw (first, test) refl

-- One more byte that is another byte.
pub none_more : (byte : ℕ) (text : List ℕ) (place : ℕ) → StandsNowhere byte text 0 place → ¬ (get_or text place 0 ≡ byte) → StandsNowhere byte text 0 (place + 1)
none_more byte text place none other k low high here = elim (cases_lt k place) [
  | inl before ↦ none k low before here
  | inr last ↦ let same : k ≡ place = omega arith in other (ap (λ i. get_or text i 0) (sym same) ∙ here)
]
