-- The blocks that the filter makes are read back.
use Rattle.std.proofs.Common.{◌≡◌, ℕ, ◌+◌, ◌*◌, ◌^◌, ◌<◌, ◌≤◌, ◌==◌, ◌&&◌, Bool, true, false, nat_lt, List, [], ◌∷◌, ◌++◌, length, map, take, drop, refl, sym, ap, ◌∙◌, arith, append-nil, length-append, lit<, Option, Some, None, Ok, Err}
use Rattle.std.specs.Prelude.{is_err, is_some, slice_index, unwrap_or, if◌then◌else◌, IfSome}
use Rattle.std.proofs.lemmas.Bool.Decides.{nat_tests}
use Rattle.std.proofs.lemmas.List.{take_all}
use Rattle.std.specs.List.{AllByRecursion, concat, flat_map, list_any}
use Rattle.ras_base.specs.Bits.{is_set}
use Rattle.ras_base.specs.LittleEndian.{number_at, u16_bytes, u32_bytes, u64_bytes}
use Rattle.ras_base.specs.Steps.LittleEndianLemmas.{number_at-cut, number_at-u16_bytes, number_at-u32_bytes, number_at-u64_bytes}
use Rattle.cper_sections.specs.Fields.{if_valid}
use Rattle.cper_sections.specs.Guids.{memory_guid, section_type_of}
use Rattle.cper_sections.specs.Memory.{memory_of, rank_of}
use Rattle.cper_sections.specs.Sections.{section_of}
use Rattle.cper_sections.specs.declared.sections.Section.TheVariants.{Memory}
use Rattle.cper_sections.specs.declared.sections.SectionRefused.TheVariants.{Short as SectionShort}
use Rattle.apei_sources.specs.Blocks.{block_of, block_with}
use Rattle.apei_sources.specs.declared.refusals.BlockRefused.TheVariants.{Section, Short}
use Rattle.apei_sources.specs.Entries.{entries_of, entry_data, entry_guid, entry_length, entry_severity, is_refused}
use Rattle.apei_sources.specs.Laid.{IsEntry}
use Rattle.apei_sources.proofs.EntryLemmas.{entries_of-concat}
use Rattle.block_lines.specs.Blocks.{address_bytes, block_bytes, made_status, error_entry_bytes, flag, block_front, entry_header_bytes, kind_bytes, location_bytes, memory_section_bytes, validation_of}
use Rattle.block_lines.specs.ReadBack.{IsError, section_told}
use Rattle.block_lines.specs.declared.memory.MemoryError.{MemoryError}

-- ---- numbers

back_16 : (n : ℕ) → n < 2 ^ 16 → number_at 0 2 (u16_bytes n) ≡ n
back_16 n fits = ap (λ (l : List ℕ). number_at 0 2 l) (sym (append-nil (u16_bytes n))) ∙ number_at-u16_bytes n [] fits

back_32 : (n : ℕ) → n < 2 ^ 32 → number_at 0 4 (u32_bytes n) ≡ n
back_32 n fits = ap (λ (l : List ℕ). number_at 0 4 l) (sym (append-nil (u32_bytes n))) ∙ number_at-u32_bytes n [] fits

back_64 : (n : ℕ) → n < 2 ^ 64 → number_at 0 8 (u64_bytes n) ≡ n
back_64 n fits = ap (λ (l : List ℕ). number_at 0 8 l) (sym (append-nil (u64_bytes n))) ∙ number_at-u64_bytes n [] fits

value_fits : (most : ℕ) (o : Option ℕ) → 0 < most → IfSome o (λ n. n < most) → unwrap_or o 0 < most
value_fits most None some fits = some
value_fits most (Some n) some fits = fits

-- ---- validation bits: a test of all six

abbrev all_of : (Bool → Bool) → Bool
all_of test = test true && test false

all_hold : (test : Bool → Bool) → all_of test ≡ true → (b : Bool) → test b ≡ true
all_hold test all true = by (test true) (test false) all
  where
    by : (t f : Bool) → (t && f) ≡ true → t ≡ true
    by true f is = refl
    by false f is = is
all_hold test all false = by (test true) (test false) all
  where
    by : (t f : Bool) → (t && f) ≡ true → f ≡ true
    by true f is = is
    by false f is = absurd cc

abbrev same : Bool → Bool → Bool
same true b = b
same false true = false
same false false = true

same_is : (a b : Bool) → same a b ≡ true → a ≡ b
same_is true true is = refl
same_is true false is = absurd cc
same_is false true is = absurd cc
same_is false false is = refl

abbrev flags : Bool → Bool → Bool → Bool → Bool → Bool → ℕ
flags a b c d e f = flag a 2 + flag b 4 + (flag c 8 + flag d 16 + flag e 32) + flag f 16384

-- whether each field's validation bit is as given, and the bits of the bank, the row and the rank are clear
abbrev are_right : Bool → Bool → Bool → Bool → Bool → Bool → ℕ → Bool
are_right a b c d e f v =
    same (is_set 1 v) a && (same (is_set 2 v) b && (same (is_set 3 v) c && (same (is_set 4 v) d && (same (is_set 5 v) e
    && (same (is_set 14 v) f && (same (is_set 6 v) false && (same (is_set 8 v) false && (same (is_set 15 v) false && nat_lt v 65536))))))))

flags_right : (a b c d e f : Bool) → are_right a b c d e f (flags a b c d e f) ≡ true
flags_right a b c d e f =
    all_hold (λ f. are_right a b c d e f (flags a b c d e f))
    (all_hold (λ e. all_of (λ f. are_right a b c d e f (flags a b c d e f)))
    (all_hold (λ d. all_of (λ e. all_of (λ f. are_right a b c d e f (flags a b c d e f))))
    (all_hold (λ c. all_of (λ d. all_of (λ e. all_of (λ f. are_right a b c d e f (flags a b c d e f)))))
    (all_hold (λ b. all_of (λ c. all_of (λ d. all_of (λ e. all_of (λ f. are_right a b c d e f (flags a b c d e f))))))
    (all_hold (λ a. all_of (λ b. all_of (λ c. all_of (λ d. all_of (λ e. all_of (λ f. are_right a b c d e f (flags a b c d e f))))))) refl a) b) c) d) e) f

and_left : (a b : Bool) → (a && b) ≡ true → a ≡ true
and_left true b is = refl
and_left false b is = is

and_right : (a b : Bool) → (a && b) ≡ true → b ≡ true
and_right true b is = is
and_right false b is = absurd cc

-- the validation bits of six fields are as given
record Flags (a b c d e f : Bool) (v : ℕ) : Type 0 where
  pub physical : is_set 1 v ≡ a
  pub mask : is_set 2 v ≡ b
  pub node : is_set 3 v ≡ c
  pub card : is_set 4 v ≡ d
  pub «module» : is_set 5 v ≡ e
  pub kind : is_set 14 v ≡ f
  pub bank : is_set 6 v ≡ false
  pub row : is_set 8 v ≡ false
  pub rank : is_set 15 v ≡ false
  pub small : nat_lt v 65536 ≡ true

flags_of : (a b c d e f : Bool) (v : ℕ) → are_right a b c d e f v ≡ true → Flags a b c d e f v
flags_of a b c d e f v all =
    let s1 = and_right (same (is_set 1 v) a) _ all in
    let s2 = and_right (same (is_set 2 v) b) _ s1 in
    let s3 = and_right (same (is_set 3 v) c) _ s2 in
    let s4 = and_right (same (is_set 4 v) d) _ s3 in
    let s5 = and_right (same (is_set 5 v) e) _ s4 in
    let s6 = and_right (same (is_set 14 v) f) _ s5 in
    let s7 = and_right (same (is_set 6 v) false) _ s6 in
    let s8 = and_right (same (is_set 8 v) false) _ s7 in
    record {
      physical = same_is _ a (and_left (same (is_set 1 v) a) _ all);
      mask = same_is _ b (and_left (same (is_set 2 v) b) _ s1);
      node = same_is _ c (and_left (same (is_set 3 v) c) _ s2);
      card = same_is _ d (and_left (same (is_set 4 v) d) _ s3);
      «module» = same_is _ e (and_left (same (is_set 5 v) e) _ s4);
      kind = same_is _ f (and_left (same (is_set 14 v) f) _ s5);
      bank = same_is _ false (and_left (same (is_set 6 v) false) _ s6);
      row = same_is _ false (and_left (same (is_set 8 v) false) _ s7);
      rank = same_is _ false (and_left (same (is_set 15 v) false) _ s8);
      small = and_right (same (is_set 15 v) false) _ s8;
    }

-- ---- a number that was cut out

pub cut_16 : (place n : ℕ) (bytes : List ℕ) → take 2 (drop place bytes) ≡ u16_bytes n → n < 2 ^ 16 → number_at place 2 bytes ≡ n
cut_16 place n bytes is fits = number_at-cut place 2 bytes ∙ ap (λ (l : List ℕ). number_at 0 2 l) is ∙ back_16 n fits

pub cut_32 : (place n : ℕ) (bytes : List ℕ) → take 4 (drop place bytes) ≡ u32_bytes n → n < 2 ^ 32 → number_at place 4 bytes ≡ n
cut_32 place n bytes is fits = number_at-cut place 4 bytes ∙ ap (λ (l : List ℕ). number_at 0 4 l) is ∙ back_32 n fits

pub cut_64 : (place n : ℕ) (bytes : List ℕ) → take 8 (drop place bytes) ≡ u64_bytes n → n < 2 ^ 64 → number_at place 8 bytes ≡ n
cut_64 place n bytes is fits = number_at-cut place 8 bytes ∙ ap (λ (l : List ℕ). number_at 0 8 l) is ∙ back_64 n fits

valid_is : (bit v value : ℕ) (o : Option ℕ) → is_set bit v ≡ is_some o → value ≡ unwrap_or o 0 → if_valid bit v value ≡ o
valid_is bit v value None clear is = rw clear refl
valid_is bit v value (Some n) set is = rw set (ap Some is)

invalid : (bit v value : ℕ) → is_set bit v ≡ false → if_valid bit v value ≡ None
invalid bit v value clear = rw clear refl

-- ---- a memory section

module _ (e : MemoryError) where
  validation_there : take 8 (drop 0 (memory_section_bytes e)) ≡ u64_bytes (validation_of e)
  unfolding memory_section_bytes address_bytes location_bytes kind_bytes u16_bytes u64_bytes
  validation_there = refl

  physical_there : take 8 (drop 16 (memory_section_bytes e)) ≡ u64_bytes (unwrap_or e.physical 0)
  unfolding memory_section_bytes address_bytes location_bytes kind_bytes u16_bytes u64_bytes
  physical_there = refl

  mask_there : take 8 (drop 24 (memory_section_bytes e)) ≡ u64_bytes (unwrap_or e.mask 0)
  unfolding memory_section_bytes address_bytes location_bytes kind_bytes u16_bytes u64_bytes
  mask_there = refl

  node_there : take 2 (drop 32 (memory_section_bytes e)) ≡ u16_bytes (unwrap_or e.location.node 0)
  unfolding memory_section_bytes address_bytes location_bytes kind_bytes u16_bytes u64_bytes
  node_there = refl

  card_there : take 2 (drop 34 (memory_section_bytes e)) ≡ u16_bytes (unwrap_or e.location.card 0)
  unfolding memory_section_bytes address_bytes location_bytes kind_bytes u16_bytes u64_bytes
  card_there = refl

  module_there : take 2 (drop 36 (memory_section_bytes e)) ≡ u16_bytes (unwrap_or e.location.«module» 0)
  unfolding memory_section_bytes address_bytes location_bytes kind_bytes u16_bytes u64_bytes
  module_there = refl

  kind_there : slice_index (memory_section_bytes e) 72 ≡ unwrap_or e.kind 0
  unfolding memory_section_bytes address_bytes location_bytes kind_bytes u16_bytes u64_bytes
  kind_there = refl

  length-section : length (memory_section_bytes e) ≡ 80
  unfolding memory_section_bytes address_bytes location_bytes kind_bytes u16_bytes u64_bytes
  length-section = refl

  guid_there : entry_guid (error_entry_bytes e) ≡ memory_guid
  unfolding error_entry_bytes entry_header_bytes memory_guid
  guid_there = refl

  data_there : entry_data (error_entry_bytes e) ≡ memory_section_bytes e
  unfolding error_entry_bytes entry_header_bytes u32_bytes number_at
  data_there = refl

  severity_there : take 4 (drop 16 (error_entry_bytes e)) ≡ u32_bytes e.severity
  unfolding error_entry_bytes entry_header_bytes u32_bytes
  severity_there = refl

  pub length-entry : length (error_entry_bytes e) ≡ 152
  unfolding error_entry_bytes entry_header_bytes memory_section_bytes address_bytes location_bytes kind_bytes u16_bytes u32_bytes u64_bytes
  length-entry = refl

  entry_length_there : entry_length (error_entry_bytes e) ≡ 152
  unfolding error_entry_bytes entry_header_bytes u32_bytes number_at
  entry_length_there = refl

  entry_is : IsEntry (error_entry_bytes e)
  entry_is = record { header = omega (arith, length-entry); whole = length-entry ∙ sym entry_length_there }

  module _ (h : IsError e) where
    abbrev v : ℕ
    v = validation_of e

    right : Flags (is_some e.physical) (is_some e.mask) (is_some e.location.node) (is_some e.location.card) (is_some e.location.«module») (is_some e.kind) v
    right = flags_of _ _ _ _ _ _ v (flags_right (is_some e.physical) (is_some e.mask) (is_some e.location.node) (is_some e.location.card) (is_some e.location.«module») (is_some e.kind))

    validation_is : number_at 0 8 (memory_section_bytes e) ≡ v
    validation_is =
        let small : v < 65536 = grind (arith, nat_tests, right.small) in
        cut_64 0 v (memory_section_bytes e) validation_there (omega arith)

    physical_is : number_at 16 8 (memory_section_bytes e) ≡ unwrap_or e.physical 0
    physical_is = cut_64 16 (unwrap_or e.physical 0) (memory_section_bytes e) physical_there (value_fits (2 ^ 64) e.physical (lit< tt) h.physical)

    mask_is : number_at 24 8 (memory_section_bytes e) ≡ unwrap_or e.mask 0
    mask_is = cut_64 24 (unwrap_or e.mask 0) (memory_section_bytes e) mask_there (value_fits (2 ^ 64) e.mask (lit< tt) h.mask)

    node_is : number_at 32 2 (memory_section_bytes e) ≡ unwrap_or e.location.node 0
    node_is = cut_16 32 (unwrap_or e.location.node 0) (memory_section_bytes e) node_there (value_fits (2 ^ 16) e.location.node (lit< tt) h.location.node)

    card_is : number_at 34 2 (memory_section_bytes e) ≡ unwrap_or e.location.card 0
    card_is = cut_16 34 (unwrap_or e.location.card 0) (memory_section_bytes e) card_there (value_fits (2 ^ 16) e.location.card (lit< tt) h.location.card)

    module_is : number_at 36 2 (memory_section_bytes e) ≡ unwrap_or e.location.«module» 0
    module_is = cut_16 36 (unwrap_or e.location.«module» 0) (memory_section_bytes e) module_there (value_fits (2 ^ 16) e.location.«module» (lit< tt) h.location.«module»)

    abbrev bytes : List ℕ
    bytes = memory_section_bytes e

    -- a field is read if its validation bit is set, and is missing otherwise
    there : (bit value : ℕ) (o : Option ℕ) → is_set bit v ≡ is_some o → value ≡ unwrap_or o 0 → if_valid bit (number_at 0 8 bytes) value ≡ o
    there bit value o set is = ap (λ (w : ℕ). if_valid bit w value) validation_is ∙ valid_is bit v value o set is

    missing : (bit value : ℕ) → is_set bit v ≡ false → if_valid bit (number_at 0 8 bytes) value ≡ None
    missing bit value clear = ap (λ (w : ℕ). if_valid bit w value) validation_is ∙ invalid bit v value clear

    no_rank : rank_of (number_at 0 8 bytes) bytes ≡ None
    no_rank = rw length-section (missing 15 (number_at 74 2 bytes) right.rank)

    memory_is : memory_of (memory_section_bytes e) ≡ section_told e
    unfolding memory_of
    memory_is = λ i. record {
      physical = there 1 (number_at 16 8 bytes) e.physical right.physical physical_is i;
      mask = there 2 (number_at 24 8 bytes) e.mask right.mask mask_is i;
      node = there 3 (number_at 32 2 bytes) e.location.node right.node node_is i;
      card = there 4 (number_at 34 2 bytes) e.location.card right.card card_is i;
      «module» = there 5 (number_at 36 2 bytes) e.location.«module» right.«module» module_is i;
      bank = missing 6 (number_at 38 2 bytes) right.bank i;
      row = missing 8 (number_at 42 2 bytes) right.row i;
      rank = no_rank i;
      kind = there 14 (slice_index bytes 72) e.kind right.kind kind_there i;
    }

    of_memory : section_of memory_guid (memory_section_bytes e) ≡ Ok (Memory (section_told e))
    unfolding section_of section_type_of memory_guid
    of_memory =
        let long : nat_lt (length bytes) 73 ≡ false = ap (λ (n : ℕ). nat_lt n 73) length-section in
        (λ i. if long i then Err SectionShort else Ok (Memory (memory_is i)))

    pub section_is : section_of (entry_guid (error_entry_bytes e)) (entry_data (error_entry_bytes e)) ≡ Ok (Memory (section_told e))
    section_is =
        ap (λ (guid : List ℕ). section_of guid (entry_data (error_entry_bytes e))) guid_there
        ∙ ap (section_of memory_guid) data_there
        ∙ of_memory

    pub severity_is : entry_severity (error_entry_bytes e) ≡ e.severity
    severity_is = cut_32 16 e.severity (error_entry_bytes e) severity_there h.severity

    not_refused : is_refused (error_entry_bytes e) ≡ false
    unfolding is_refused
    not_refused = ap is_err section_is

-- ---- entries, one after another

laid : (es : List MemoryError) → concat (map error_entry_bytes es) ≡ flat_map error_entry_bytes es
laid [] = refl
laid (e ∷ es) = ap (λ (l : List ℕ). error_entry_bytes e ++ l) (laid es)

all_entries : (es : List MemoryError) → AllByRecursion IsEntry (map error_entry_bytes es)
all_entries [] = tt
all_entries (e ∷ es) = (entry_is e, all_entries es)

entries_are : (es : List MemoryError) → entries_of (flat_map error_entry_bytes es) ≡ Some (map error_entry_bytes es)
entries_are es = ap (λ (l : List ℕ). entries_of l) (sym (laid es)) ∙ entries_of-concat (map error_entry_bytes es) (all_entries es)

none_refused : (es : List MemoryError) → AllByRecursion IsError es → list_any is_refused (map error_entry_bytes es) ≡ false
none_refused [] all = refl
none_refused (e ∷ es) all = rw (not_refused e all.0) (none_refused es all.1)

length-entries : (es : List MemoryError) → length (flat_map error_entry_bytes es) ≡ 152 * length es
length-entries [] = refl
length-entries (e ∷ es) = omega (arith, length-append (error_entry_bytes e) (flat_map error_entry_bytes es), length-entry e, length-entries es)

-- ---- a block

pub status_small : (s count : ℕ) → count ≤ 12 → made_status s count < 2 ^ 32
status_small s count few = by (s == 2)
  where
    by : (b : Bool) → 16 * count + (if b then 2 else 1) < 2 ^ 32
    by true = omega arith
    by false = omega arith

pub status_told : (s count : ℕ) → (made_status s count == 0) ≡ false
status_told s count = by (s == 2)
  where
    by : (b : Bool) → (16 * count + (if b then 2 else 1) == 0) ≡ false
    by true = grind (arith, nat_tests)
    by false = grind (arith, nat_tests)

-- a block is read by its status and its data
pub block_by : (bytes : List ℕ) (status : ℕ) (entries : List (List ℕ)) → nat_lt (length bytes) 20 ≡ false → number_at 0 4 bytes ≡ status
    → (number_at 0 4 bytes == 0) ≡ false → nat_lt (length bytes) (20 + number_at 12 4 bytes) ≡ false
    → entries_of (take (number_at 12 4 bytes) (drop 20 bytes)) ≡ Some entries → list_any is_refused entries ≡ false
    → block_of bytes ≡ Ok (record { status = status; entries = entries })
unfolding block_of
block_by bytes status entries header is told enough held fine =
    let read : block_of bytes ≡ block_with status (Some entries) =
    λ i. if header i then Err Short
    else (if told i then Ok (record { status = 0; entries = [] })
    else (if enough i then Err Short else block_with (is i) (held i))) in
    read ∙ ap (λ (b : Bool). if b then Err Section else Ok (record { status = status; entries = entries })) fine

module _ (s : ℕ) (es : List MemoryError) where
  abbrev block : List ℕ
  block = block_bytes s es

  status_there : take 4 (drop 0 (block_bytes s es)) ≡ u32_bytes (made_status s (length es))
  unfolding block_bytes block_front u32_bytes
  status_there = refl

  size_there : take 4 (drop 12 (block_bytes s es)) ≡ u32_bytes (152 * length es)
  unfolding block_bytes block_front u32_bytes
  size_there = refl

  behind : drop 20 (block_bytes s es) ≡ flat_map error_entry_bytes es
  unfolding block_bytes block_front u32_bytes
  behind = refl

  length-block : length (block_bytes s es) ≡ 20 + length (flat_map error_entry_bytes es)
  unfolding block_bytes block_front u32_bytes
  length-block = omega arith

  pub block_is : AllByRecursion IsError es → 0 < length es → length es ≤ 12
      → block_of (block_bytes s es) ≡ Ok (record { status = made_status s (length es); entries = map error_entry_bytes es })
  block_is all some few =
      let status : number_at 0 4 block ≡ made_status s (length es) = cut_32 0 (made_status s (length es)) block status_there (status_small s (length es) few) in
      let size : number_at 12 4 block ≡ 152 * length es = cut_32 12 (152 * length es) block size_there (omega arith) in
      let whole : length block ≡ 20 + 152 * length es = length-block ∙ ap (λ (n : ℕ). 20 + n) (length-entries es) in
      let held : take (number_at 12 4 block) (drop 20 block) ≡ flat_map error_entry_bytes es =
      ap (λ (n : ℕ). take n (drop 20 block)) size ∙ ap (take (152 * length es)) behind
      ∙ take_all (152 * length es) (flat_map error_entry_bytes es) (omega (arith, length-entries es)) in
      block_by block (made_status s (length es)) (map error_entry_bytes es)
      (grind (arith, nat_tests, whole))
      status
      (ap (λ (n : ℕ). n == 0) status ∙ status_told s (length es))
      (grind (arith, nat_tests, whole, size))
      (ap entries_of held ∙ entries_are es)
      (none_refused es all)
