-- The digits of numbers and the other bytes of printed texts are no line feeds.
use Rattle.std.proofs.Common.{◌≡◌, ℕ, zero, suc, ◌+◌, ◌-◌, ◌/◌, ◌%◌, ◌≤◌, ◌==◌, ◌&&◌, nat_lt, Bool, true, false, cond, not, List, [], ◌∷◌, ◌++◌, decimal, refl, ◌∙◌, arith, IsTrue, slice_index, slice_index_or, drop}
use Rattle.std.specs.List.{list_all}
use Rattle.std.proofs.lemmas.List.Folds.{list_all-append}
use Rattle.dimm_topology.specs.Labels.{Bytes, is_label_byte, is_label_or_none}
use Rattle.std.specs.Fmt.{digits, digits_onto, digit_glyph}
use Rattle.std.proofs.lemmas.Bool.Decides.{nat_tests}
use Rattle.hex.specs.Hex.{encode_with, encode_lower, lower_digits}
use Rattle.uuid.specs.Text.{by_index, hyphenated_text, lower, is_hyphen_place, nibble, digit_place}
use Rattle.ras_script.specs.SplittingLaws.{Lacks}
use Rattle.ras_script.proofs.ReaderLemmas.{lacks_both}

-- whether no byte is a line feed
abbrev pub is_unbroken : List ℕ → Bool
is_unbroken text = list_all (λ b. not (b == 10)) text

pub first_of : (a b : Bool) → (a && b) ≡ true → a ≡ true
first_of true b h = refl
first_of false b h = h

pub second_of : (a b : Bool) → (a && b) ≡ true → b ≡ true
second_of true b h = h
second_of false b h = cc

-- A text that passes the test has no line feed.
pub lacks_from : (text : List ℕ) → is_unbroken text ≡ true → Lacks 10 text
lacks_from [] all = tt
lacks_from (b ∷ text) all =
    ((λ same. grind (arith, nat_tests, same, first_of (not (b == 10)) (is_unbroken text) all)), lacks_from text (second_of (not (b == 10)) (is_unbroken text) all))

-- decimal digits
glyph_by : (d : ℕ) (t : Bool) → 11 ≤ cond t (48 + d) (87 + d)
glyph_by d true = omega arith
glyph_by d false = omega arith

glyph : (d : ℕ) → ¬ (digit_glyph false d ≡ 10)
glyph d same = let big = glyph_by d (nat_lt d 10) in omega (arith, big, same)

onto_by : (t : Bool) (xs ys : List ℕ) → Lacks 10 xs → Lacks 10 ys → Lacks 10 (cond t xs ys)
onto_by true xs ys one other = one
onto_by false xs ys one other = other

onto_lacks : (k n : ℕ) (acc : List ℕ) → Lacks 10 acc → Lacks 10 (digits_onto k 10 false n acc)
onto_lacks zero n acc lacks = lacks
onto_lacks (suc k) n acc lacks =
    let more : Lacks 10 (digit_glyph false (n % 10) ∷ acc) = (glyph (n % 10), lacks) in
    onto_by (n / 10 == 0) (digit_glyph false (n % 10) ∷ acc) (digits_onto k 10 false (n / 10) (digit_glyph false (n % 10) ∷ acc)) more
    (onto_lacks k (n / 10) (digit_glyph false (n % 10) ∷ acc) more)

pub decimal_lacks : (n : ℕ) → Lacks 10 (decimal n)
unfolding digits
decimal_lacks n = onto_lacks 64 n [] tt

-- hexadecimal digits
digit_of : (table : List ℕ) (n : ℕ) → is_unbroken table ≡ true → ¬ (slice_index table n ≡ 10)
digit_of [] n all same = omega (arith, same)
digit_of (d ∷ table) zero all same = grind (arith, nat_tests, same, first_of (not (d == 10)) (is_unbroken table) all)
digit_of (d ∷ table) (suc n) all same = digit_of table n (second_of (not (d == 10)) (is_unbroken table) all) same

pub hexadecimal_lacks : (bytes : List ℕ) → Lacks 10 (encode_lower bytes)
unfolding encode_with
hexadecimal_lacks [] = tt
hexadecimal_lacks (b ∷ bytes) = (digit_of lower_digits (b / 16) refl, (digit_of lower_digits (b % 16) refl, hexadecimal_lacks bytes))

-- identifiers
guid_digit_by : (d : ℕ) (hyphened t : Bool) → 11 ≤ cond hyphened 45 (cond t (48 + d) (97 + d - 10))
guid_digit_by d true t = omega arith
guid_digit_by d false true = omega arith
guid_digit_by d false false = omega arith

by_index_lacks : (n : ℕ) (f : ℕ → ℕ) → ((k : ℕ) → 11 ≤ f k) → Lacks 10 (by_index n f)
unfolding by_index
by_index_lacks zero f big = tt
by_index_lacks (suc n) f big = lacks_both (by_index n f) (f n ∷ []) (by_index_lacks n f big) ((λ same. omega (arith, big n, same)), tt)

pub guid_lacks : (guid : List ℕ) → Lacks 10 (hyphenated_text lower guid)
guid_lacks guid =
    by_index_lacks 36 _ (λ k. guid_digit_by (nibble guid (digit_place k)) (is_hyphen_place k) (nat_lt (nibble guid (digit_place k)) 10))

-- A text without a line feed passes the test.
pub unbroken_from : (text : List ℕ) → Lacks 10 text → is_unbroken text ≡ true
unbroken_from [] lacks = refl
unbroken_from (b ∷ text) lacks =
    let other : not (b == 10) ≡ true = grind (arith, nat_tests, lacks.0) in
    rw other (unbroken_from text lacks.1)

pub unbroken_both : (xs ys : List ℕ) → is_unbroken xs ≡ true → is_unbroken ys ≡ true → is_unbroken (xs ++ ys) ≡ true
unbroken_both xs ys one other = list_all-append (λ b. not (b == 10)) xs ys ∙ rw (one, other) refl

pub unbroken-append : (xs ys : List ℕ) → is_unbroken (xs ++ ys) ≡ (is_unbroken xs && is_unbroken ys)
unbroken-append xs ys = list_all-append (λ b. not (b == 10)) xs ys

pub decimal_unbroken : (n : ℕ) → is_unbroken (decimal n) ≡ true
decimal_unbroken n = unbroken_from (decimal n) (decimal_lacks n)

pub hexadecimal_unbroken : (bytes : List ℕ) → is_unbroken (encode_lower bytes) ≡ true
hexadecimal_unbroken bytes = unbroken_from (encode_lower bytes) (hexadecimal_lacks bytes)

pub guid_unbroken : (guid : List ℕ) → is_unbroken (hyphenated_text lower guid) ≡ true
guid_unbroken guid = unbroken_from (hyphenated_text lower guid) (guid_lacks guid)

-- A text without its first bytes has no line feed either.
pub drop_unbroken : (n : ℕ) (text : List ℕ) → is_unbroken text ≡ true → is_unbroken (drop n text) ≡ true
drop_unbroken zero text all = all
drop_unbroken (suc n) [] all = refl
drop_unbroken (suc n) (b ∷ text) all = drop_unbroken n text (second_of (not (b == 10)) (is_unbroken text) all)

-- The word of a table at an index, or another word past the table's end, has no line feed.
pub table_unbroken : (words : List (List ℕ)) (place : ℕ) (other : List ℕ) → list_all is_unbroken words ≡ true → is_unbroken other ≡ true → is_unbroken (slice_index_or words place other) ≡ true
table_unbroken [] place other all rest = rest
table_unbroken (word ∷ words) zero other all rest = first_of (is_unbroken word) (list_all is_unbroken words) all
table_unbroken (word ∷ words) (suc place) other all rest = table_unbroken words place other (second_of (is_unbroken word) (list_all is_unbroken words) all) rest

-- labels
byte_by : (b : ℕ) → is_label_byte b ≡ true → not (b == 10) ≡ true
byte_by b is = grind (arith, nat_tests, is)

bytes_by : (label : List ℕ) → list_all is_label_byte label ≡ true → is_unbroken label ≡ true
bytes_by [] all = refl
bytes_by (b ∷ label) all =
    let other : not (b == 10) ≡ true = byte_by b (first_of (is_label_byte b) (list_all is_label_byte label) all) in
    rw other (bytes_by label (second_of (is_label_byte b) (list_all is_label_byte label) all))

pub label_unbroken : (label : Bytes) → IsTrue (is_label_or_none label) → is_unbroken label ≡ true
label_unbroken [] is = refl
label_unbroken (b ∷ label) is =
    let all : list_all is_label_byte (b ∷ label) ≡ true = grind (arith, nat_tests, is) in
    bytes_by (b ∷ label) all
