-- A section's event, as the kernel prints it, is read.
use Rattle.std.proofs.Common.{◌≡◌, ℕ, zero, suc, inl, inr, ◌⊎◌, ◌+◌, ◌-◌, ◌/◌, ◌%◌, ◌^◌, ◌<◌, ◌==◌, ◌&&◌, Bool, true, false, not, nat_le, nat_lt, List, [], ◌∷◌, ◌++◌, codes, decimal, drop, length, refl, sym, ap, ◌∙◌, arith, append_assoc, Option, Some, None, if◌then◌else◌}
use Rattle.std.specs.Prelude.{unwrap_or}
use Rattle.std.proofs.lemmas.Bool.Decides.{nat_tests}
use Rattle.std.specs.Fmt.{digit_glyph}
use Rattle.std.specs.List.{AllByRecursion, list_all}
use Rattle.std.specs.Option.{option_map}
use Rattle.uuid.specs.Text.{by_index, digit_place, hex_digit, hyphenated_text, is_hyphen_place, lower, nibble, parsed}
use Rattle.uuid.proofs.RoundTrips.{parses_hyphenated}
use Rattle.ras_klog.specs.Reading.{provided, read_then}
use Rattle.ras_script.proofs.LineAndWordLemmas.{split_between, split_lacking}
use Rattle.ras_script.proofs.WrittenNumberLemmas.{decimal_read}
use Rattle.ras_script.specs.Number.{decimal_of}
use Rattle.ras_script.specs.SplittingLaws.{Lacks}
use Rattle.bank_lines.specs.LogHeads.{after, up_to}
use Rattle.bank_lines.specs.Parts.{cut_at, value_after}
use Rattle.bank_lines.specs.Trace.{last_word}
use Rattle.bank_lines.proofs.LogTextLemmas.{after_is, up_to_is}
use Rattle.bank_lines.proofs.NumeralLemmas.{both, decimal_lacks, lack_both, literal_lacks}
use Rattle.bank_lines.proofs.TraceHeadLemmas.{last_behind}
use Rattle.event_lines.specs.SectionEvent.{byte_of, bytes_from, cper_of_ghes, last_two, raw_text_of, section_bytes_of, section_head_of}
use Rattle.event_lines.specs.SectionKernel.{IsSection, PrintedSection, Rows, before_byte, bytes_text, head_of_section, printed_section, raw_text, rows_joined, rows_spaced, size_text, two_digits, unit_text}
use Rattle.event_lines.specs.declared.section_event.SectionHead.{SectionHead}
use Rattle.event_lines.proofs.FlagLemmas.{words_split}

-- ---- bytes: a test of all 256

abbrev pub all_below : ℕ → (ℕ → Bool) → Bool
all_below zero test = true
all_below (suc n) test = test n && all_below n test

pub below : (n b : ℕ) (test : ℕ → Bool) → all_below n test ≡ true → b < n → test b ≡ true
below zero b test all less = absurd (omega (arith, less))
below (suc n) b test all less = by (b == n) (test n) refl refl all (below n b test)
  where
    by : (same here : Bool) → (b == n) ≡ same → test n ≡ here → (here && all_below n test) ≡ true
        → (all_below n test ≡ true → b < n → test b ≡ true) → test b ≡ true
    by true true same here rest more = let is : b ≡ n = grind (arith, nat_tests, same) in ap test is ∙ here
    by false true same here rest more =
        let other : ¬ (b ≡ n) = grind (arith, nat_tests, same) in
        more rest (omega (arith, less, other))
    by same false is here rest more = absurd cc

abbrev pub is_read : Option ℕ → ℕ → Bool
is_read None b = false
is_read (Some n) b = n == b

abbrev lacks_both : List ℕ → Bool
lacks_both word = list_all (λ b. not (b == 32)) word && list_all (λ b. not (b == 59)) word

abbrev is_fine : ℕ → Bool
is_fine b = is_read (byte_of (two_digits b)) b && lacks_both (two_digits b)

all_fine : all_below 256 is_fine ≡ true
all_fine = refl

pub and_left : (a b : Bool) → (a && b) ≡ true → a ≡ true
and_left true b is = refl
and_left false b is = absurd cc

pub and_right : (a b : Bool) → (a && b) ≡ true → b ≡ true
and_right true b is = is
and_right false b is = absurd cc

pub read_is : (o : Option ℕ) (b : ℕ) → is_read o b ≡ true → o ≡ Some b
read_is None b is = absurd cc
read_is (Some n) b is = let same : n ≡ b = grind (arith, nat_tests, is) in ap Some same

byte_read : (b : ℕ) → b < 256 → byte_of (two_digits b) ≡ Some b
byte_read b small = read_is (byte_of (two_digits b)) b (and_left (is_read (byte_of (two_digits b)) b) (lacks_both (two_digits b)) (below 256 b is_fine all_fine small))

byte_lacks : (b : ℕ) → b < 256 → Lacks 32 (two_digits b) × Lacks 59 (two_digits b)
byte_lacks b small =
    let word : List ℕ = two_digits b in
    let lacks : lacks_both word ≡ true = and_right (is_read (byte_of word) b) (lacks_both word) (below 256 b is_fine all_fine small) in (
      literal_lacks 32 word (and_left (list_all (λ b. not (b == 32)) word) (list_all (λ b. not (b == 59)) word) lacks),
      literal_lacks 59 word (and_right (list_all (λ b. not (b == 32)) word) (list_all (λ b. not (b == 59)) word) lacks),
    )

-- the text before a byte: a space, or nothing after a full row
abbrev gap : Bool → List ℕ
gap full = if full then [] else 32 ∷ []

blank_is : (rows : Rows) (count : ℕ) → 0 < count → (before_byte rows count ≡ gap false) ⊎ ((before_byte rows count ≡ gap true) × ((count % 16 == 0) ≡ true))
blank_is rows_joined count some = by (count % 16 == 0) refl
  where
    by : (full : Bool) → (count % 16 == 0) ≡ full → (gap full ≡ gap false) ⊎ ((gap full ≡ gap true) × ((count % 16 == 0) ≡ true))
    by true is = inr (refl, is)
    by false is = inl refl
blank_is rows_spaced count some = let other : (count == 0) ≡ false = grind (arith, nat_tests, some) in inl (ap gap other)

module _ (rows : Rows) (count b c : ℕ) (bytes : List ℕ) (small : b < 256) (fits : c < 256) where
  abbrev more : List ℕ
  more = two_digits c ++ bytes_text rows (count + 1 + 1) bytes

  abbrev rest_read : Option (List ℕ) → Option ℕ → Option (List ℕ)
  rest_read read o = read_then o (λ b. option_map (λ bytes. b ∷ bytes) read)

  is_digit_there : (digit_glyph false (c / 16) == 32) ≡ false
  is_digit_there = let other : ¬ (digit_glyph false (c / 16) ≡ 32) = (byte_lacks c fits).0.0 in grind (arith, nat_tests, other)

  both_read : bytes_from (count + 1) more ≡ Some (c ∷ bytes) → rest_read (bytes_from (count + 1) more) (byte_of (two_digits b)) ≡ Some (b ∷ c ∷ bytes)
  both_read next =
      ap (λ (read : Option (List ℕ)). rest_read read (byte_of (two_digits b))) next
      ∙ ap (rest_read (Some (c ∷ bytes))) (byte_read b small)

  next_read : bytes_from (count + 1) more ≡ Some (c ∷ bytes) → (blank : List ℕ) → (blank ≡ gap false) ⊎ ((blank ≡ gap true) × (((count + 1) % 16 == 0) ≡ true))
      → bytes_from count (two_digits b ++ (blank ++ more)) ≡ Some (b ∷ c ∷ bytes)
  next_read next blank (inl is) = ap (λ (blank : List ℕ). bytes_from count (two_digits b ++ (blank ++ more))) is ∙ both_read next
  next_read next blank (inr is) =
      ap (λ (blank : List ℕ). bytes_from count (two_digits b ++ (blank ++ more))) is.0
      ∙ ap (λ (space : Bool). rest_read (if space then bytes_from (count + 1) (drop 1 more) else if (count + 1) % 16 == 0 then bytes_from (count + 1) more else None) (byte_of (two_digits b))) is_digit_there
      ∙ ap (λ (full : Bool). rest_read (if full then bytes_from (count + 1) more else None) (byte_of (two_digits b))) is.1
      ∙ both_read next

digits_read : (rows : Rows) (count b : ℕ) (bytes : List ℕ) → b < 256 → AllByRecursion (λ b. b < 256) bytes
    → bytes_from count (two_digits b ++ bytes_text rows (count + 1) bytes) ≡ Some (b ∷ bytes)
digits_read rows count b [] small all = ap (λ (o : Option ℕ). option_map (λ b. b ∷ []) o) (byte_read b small)
digits_read rows count b (c ∷ bytes) small all =
    next_read rows count b c bytes small all.0 (digits_read rows (count + 1) c bytes all.0 all.1) (before_byte rows (count + 1)) (blank_is rows (count + 1) (omega arith))

all_read : (rows : Rows) (bytes : List ℕ) → 0 < length bytes → AllByRecursion (λ b. b < 256) bytes → bytes_from 0 (bytes_text rows 0 bytes) ≡ Some bytes
all_read rows [] some all = absurd (omega (arith, some))
all_read rows_joined (b ∷ bytes) some all = digits_read rows_joined 0 b bytes all.0 all.1
all_read rows_spaced (b ∷ bytes) some all = digits_read rows_spaced 0 b bytes all.0 all.1

gap_lacks : (full : Bool) → Lacks 59 (gap full)
gap_lacks true = tt
gap_lacks false = ((λ (e : ◌≡◌ {A = ℕ} 32 59). omega (arith, e)), tt)

blank_lacks : (rows : Rows) (count : ℕ) → Lacks 59 (before_byte rows count)
blank_lacks rows_joined count = gap_lacks (count % 16 == 0)
blank_lacks rows_spaced count = gap_lacks (count == 0)

text_lacks : (rows : Rows) (count : ℕ) (bytes : List ℕ) → AllByRecursion (λ b. b < 256) bytes → Lacks 59 (bytes_text rows count bytes)
text_lacks rows count [] all = tt
text_lacks rows count (b ∷ bytes) all =
    lack_both 59 (before_byte rows count) (two_digits b ++ bytes_text rows (count + 1) bytes) (blank_lacks rows count)
    (lack_both 59 (two_digits b) (bytes_text rows (count + 1) bytes) (byte_lacks b all.0).1 (text_lacks rows (count + 1) bytes all.1))

-- ---- the type

digit_not : (d : ℕ) → ¬ (hex_digit 97 d ≡ 59)
digit_not d = by (nat_lt d 10) refl
  where
    by : (t : Bool) → nat_lt d 10 ≡ t → ¬ ((if t then 48 + d else 97 + d - 10) ≡ 59)
    by true is e = let less : d < 10 = grind (arith, nat_tests, is) in omega (arith, less, e)
    by false is e = omega (arith, e)

place_not : (is_hyphen : Bool) (d : ℕ) → ¬ ((if is_hyphen then 45 else hex_digit 97 d) ≡ 59)
place_not true d e = omega (arith, e)
place_not false d e = digit_not d e

all_by_index : (P : ℕ → Type 0) (n : ℕ) (f : ℕ → ℕ) → ((i : ℕ) → P (f i)) → AllByRecursion P (by_index n f)
unfolding by_index
all_by_index P zero f holds = tt
all_by_index P (suc n) f holds = both P (by_index n f) (f n ∷ []) (all_by_index P n f holds) (holds n, tt)

-- ---- parts

two_last : (pair : List ℕ × List ℕ) (parts : List (List ℕ)) (a b : List ℕ) → last_two pair (parts ++ a ∷ b ∷ []) ≡ (a, b)
two_last pair [] a b = refl
two_last pair (part ∷ parts) a b = two_last (pair.1, part) parts a b

-- a text ends with a semicolon and `last`
pub record EndsIn (last text : List ℕ) : Type 0 where
  pub front : List ℕ
  pub is : text ≡ front ++ 59 ∷ last

pub ends_behind : (front last text : List ℕ) → EndsIn last text → EndsIn last (front ++ text)
ends_behind front last text ends = record {
  front = front ++ ends.front;
  is = ap (λ (rest : List ℕ). front ++ rest) ends.is ∙ sym (append_assoc front ends.front (59 ∷ last));
}

last_part : (last text : List ℕ) → Lacks 59 last → EndsIn last text → last_word [] (cut_at 59 text) ≡ last
last_part last text lacks ends =
    ap (λ (text : List ℕ). last_word [] (cut_at 59 text)) ends.is
    ∙ ap (last_word []) (split_between 59 ends.front last)
    ∙ ap (λ (parts : List (List ℕ)). last_word [] (cut_at 59 ends.front ++ parts)) (split_lacking 59 last lacks)
    ∙ last_behind [] (cut_at 59 ends.front) last

-- ---- the event

module _ (p : PrintedSection) (within : IsSection p) where
  abbrev guid : List ℕ
  guid = hyphenated_text lower p.kind

  abbrev count : List ℕ
  count = decimal (length p.bytes)

  abbrev units : List ℕ
  units = codes " FRU: " ++ unit_text p

  abbrev kinds : List ℕ
  kinds = guid ++ 59 ∷ units

  abbrev types : List ℕ
  types = codes " sec type:" ++ kinds

  abbrev severities : List ℕ
  severities = decimal p.severity ++ 59 ∷ types

  few : length p.bytes < 2 ^ 64
  few = omega (arith, within.few)

  size_lacks : Lacks 59 (size_text p.bytes)
  size_lacks = lack_both 59 (codes " data len:") count (literal_lacks 59 (codes " data len:") refl) (decimal_lacks 59 (length p.bytes) (omega arith) few)

  raw_lacks : Lacks 59 (raw_text p)
  raw_lacks =
      lack_both 59 (codes " raw data:") (bytes_text p.rows 0 p.bytes) (literal_lacks 59 (codes " raw data:") refl)
      (text_lacks p.rows 0 p.bytes within.bytes)

  guid_lacks : Lacks 59 guid
  guid_lacks =
      all_by_index (λ b. ¬ (b ≡ 59)) 36 (λ k. if is_hyphen_place k then 45 else hex_digit 97 (nibble p.kind (digit_place k)))
      (λ k. place_not (is_hyphen_place k) (nibble p.kind (digit_place k)))

  severity_lacks : Lacks 59 (decimal p.severity)
  severity_lacks = decimal_lacks 59 p.severity (omega arith) (omega (arith, within.severity))

  size_is : (last_two ([], []) (cut_at 59 (unit_text p))).0 ≡ size_text p.bytes
  size_is =
      let tail : List ℕ = size_text p.bytes ++ 59 ∷ raw_text p in
      ap (λ (parts : List (List ℕ)). (last_two ([], []) parts).0) (split_between 59 p.unit tail)
      ∙ ap (λ (parts : List (List ℕ)). (last_two ([], []) (cut_at 59 p.unit ++ parts)).0)
      (words_split 59 (size_text p.bytes ∷ raw_text p ∷ []) (omega arith) (size_lacks, (raw_lacks, tt)))
      ∙ ap (λ (pair : List ℕ × List ℕ). pair.0) (two_last ([], []) (cut_at 59 p.unit) (size_text p.bytes) (raw_text p))

  abbrev with_count : List ℕ → ℕ → Option ℕ → Option SectionHead
  with_count kind number o = read_then o (λ count. Some (record { kind = kind; severity = cper_of_ghes number; size = count }))

  abbrev with_number : List ℕ → Option ℕ → List ℕ → Option SectionHead
  with_number kind o size = read_then o (λ number. with_count kind number (decimal_of 19800 size))

  abbrev with_guid : List ℕ → Option (List ℕ) → List ℕ → Option SectionHead
  with_guid severity o size = read_then o (λ guid. with_number guid (decimal_of 3 (up_to 59 severity)) size)

  abbrev with_size : List ℕ → List ℕ → Option (List ℕ) → Option SectionHead
  with_size severity kind o = read_then o (λ size. with_guid severity (parsed (up_to 59 kind)) size)

  abbrev with_unit : List ℕ → List ℕ → Option (List ℕ) → Option SectionHead
  with_unit severity kind o = read_then o (λ unit. with_size severity kind (value_after (codes " data len:") (last_two ([], []) (cut_at 59 unit)).0))

  abbrev with_kind : List ℕ → Option (List ℕ) → Option SectionHead
  with_kind severity o = read_then o (λ kind. with_unit severity kind (value_after (codes " FRU: ") (after 59 kind)))

  pub head_read : section_head_of (printed_section p) ≡ Some (head_of_section p)
  head_read =
      ap (λ (text : List ℕ). with_kind severities (value_after (codes " sec type:") text)) (after_is 59 (decimal p.severity) types severity_lacks)
      ∙ ap (λ (text : List ℕ). with_unit severities kinds (value_after (codes " FRU: ") text)) (after_is 59 guid units guid_lacks)
      ∙ ap (λ (text : List ℕ). with_size severities kinds (value_after (codes " data len:") text)) size_is
      ∙ ap (λ (text : List ℕ). with_guid severities (parsed text) count) (up_to_is 59 guid units guid_lacks)
      ∙ ap (λ (o : Option (List ℕ)). with_guid severities o count) (sym (parses_hyphenated lower p.kind (inl refl) within.kind within.kind_bytes))
      ∙ ap (λ (text : List ℕ). with_number p.kind (decimal_of 3 text) count) (up_to_is 59 (decimal p.severity) types severity_lacks)
      ∙ ap (λ (o : Option ℕ). with_number p.kind o count) (decimal_read 3 p.severity (omega (arith, within.severity)) (omega arith))
      ∙ ap (with_count p.kind p.severity) (decimal_read 19800 (length p.bytes) within.few (omega arith))

  -- ---- its bytes

  abbrev raw : List ℕ
  raw = raw_text p

  ends_size : EndsIn raw (59 ∷ (size_text p.bytes ++ 59 ∷ raw))
  ends_size = ends_behind (59 ∷ size_text p.bytes) raw (59 ∷ raw) (record { front = []; is = refl })

  ends_type : EndsIn raw (59 ∷ types)
  ends_type =
      ends_behind (59 ∷ codes " sec type:") raw kinds
      (ends_behind guid raw (59 ∷ units)
      (ends_behind (59 ∷ codes " FRU: ") raw (unit_text p)
      (ends_behind p.unit raw (59 ∷ (size_text p.bytes ++ 59 ∷ raw)) ends_size)))

  pub ends_whole : EndsIn raw (printed_section p)
  ends_whole = ends_behind (codes "severity: ") raw severities (ends_behind (decimal p.severity) raw (59 ∷ types) ends_type)

  pub bytes_are : (line : List ℕ) → EndsIn (raw_text p) line → section_bytes_of (head_of_section p) line ≡ Some p.bytes
  bytes_are line end =
      let same : (length p.bytes == length p.bytes) ≡ true = grind (arith, nat_tests) in
      let small : nat_le (length p.bytes) 19800 ≡ true = grind (arith, nat_tests, within.few) in
      let told : raw_text_of line ≡ bytes_text p.rows 0 p.bytes =
      ap (λ (last : List ℕ). unwrap_or (value_after (codes " raw data:") last) []) (last_part (raw_text p) line raw_lacks end) in
      ap (λ (text : List ℕ). read_then (bytes_from 0 text) (λ bytes. provided (length bytes == length p.bytes && nat_le (length bytes) 19800) (Some bytes))) told
      ∙ ap (λ (o : Option (List ℕ)). read_then o (λ bytes. provided (length bytes == length p.bytes && nat_le (length bytes) 19800) (Some bytes)))
      (all_read p.rows p.bytes within.some within.bytes)
      ∙ rw (same, small) refl
