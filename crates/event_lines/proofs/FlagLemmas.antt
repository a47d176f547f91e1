-- A status, as the kernel prints it, is read.
use Rattle.std.proofs.Common.{◌≡◌, ℕ, ◌+◌, ◌-◌, ◌^◌, ◌<◌, ◌≤◌, ◌==◌, ◌&&◌, Bool, true, false, not, nat_le, nat_lt, List, [], ◌∷◌, ◌++◌, length, map, refl, ap, ◌∙◌, arith, length-append, lit<, Option, Some, None, if◌then◌else◌}
use Rattle.std.proofs.lemmas.Bool.Decides.{nat_tests}
use Rattle.std.specs.Char.{digit_value}
use Rattle.std.specs.List.{AllByRecursion, join_with_byte, list_all}
use Rattle.std.specs.Map.{lookup}
use Rattle.std.specs.Option.{option_map_or}
use Rattle.std.specs.Str.{bytes_eq}
use Rattle.ras_klog.specs.Reading.{provided, read_then}
use Rattle.ras_script.proofs.LineAndWordLemmas.{split_between, split_lacking}
use Rattle.ras_script.proofs.WrittenNumberLemmas.{hexadecimal_read}
use Rattle.ras_script.specs.LineLaws.{hexadecimal}
use Rattle.ras_script.specs.Number.{hexadecimal_of}
use Rattle.ras_script.specs.SplittingLaws.{Lacks}
use Rattle.bank_lines.specs.Parts.{cut_at}
use Rattle.bank_lines.proofs.NumeralLemmas.{both, hexadecimal_lacks, lack_both, literal_lacks}
use Rattle.event_lines.specs.Flags.{Flags, correctable_flags, flag_added, flags_added, flags_of, hexadecimal_to, status_of, uncorrectable_flags, with_bit, with_others, word_of}
use Rattle.event_lines.specs.Kernel.{bits_sum, flag_words, hex_word, others_words, rows_set}
use Rattle.event_lines.specs.declared.aer.AerSeverity.{AerSeverity}
use Rattle.event_lines.specs.declared.aer.AerSeverity.TheVariants.{Corrected, Fatal, NonFatal}

-- ---- numbers

pub value_to : (most n : ℕ) (word : List ℕ) → hexadecimal_of word ≡ Some n → n ≤ most → hexadecimal_to most word ≡ Some n
value_to most n word is small =
    let within : nat_le n most ≡ true = grind (arith, nat_tests, small) in
    ap (λ (o : Option ℕ). read_then o (λ value. provided (nat_le value most) (Some value))) is ∙ rw within refl

pub word_read : (n : ℕ) → n < 2 ^ 32 → word_of (hex_word n) ≡ Some n
word_read n small = value_to (2 ^ 32 - 1) n (hexadecimal n) (hexadecimal_read false n (omega (arith, small))) (omega (arith, small))

-- ---- the tables

-- each row is found by its name
abbrev Finds : Flags → Flags → Type 0
Finds table rows = AllByRecursion (λ (row : List ℕ × ℕ). lookup (bytes_eq row.0) table ≡ Some row.1) rows

-- each bit is greater than the sum of all bits before it
abbrev Rises : ℕ → Flags → Type 0
Rises sum [] = Unit {0}
Rises sum (row ∷ rows) = (sum < row.1) × Rises (sum + row.1) rows

-- a table has these two properties, and no name in it begins with `0x`
record IsTable (table : Flags) : Type 0 where
  pub finds : Finds table table
  pub rises : Rises 0 table
  pub unnamed : (n : ℕ) → lookup (bytes_eq (hex_word n)) table ≡ None
  pub some : AllByRecursion (λ (row : List ℕ × ℕ). 0 < length row.0) table
  pub no_bar : AllByRecursion (λ (row : List ℕ × ℕ). Lacks 124 row.0) table
  pub no_comma : AllByRecursion (λ (row : List ℕ × ℕ). Lacks 44 row.0) table

-- a byte is in no name of a table, by computing
lacks_by : (byte : ℕ) (rows : Flags) → list_all (λ (row : List ℕ × ℕ). list_all (λ b. not (b == byte)) row.0) rows ≡ true
    → AllByRecursion (λ (row : List ℕ × ℕ). Lacks byte row.0) rows
lacks_by byte [] all = tt
lacks_by byte (row ∷ rows) all = by (list_all (λ b. not (b == byte)) row.0) refl all (lacks_by byte rows)
  where
    by : (t : Bool) → list_all (λ b. not (b == byte)) row.0 ≡ t
        → (t && list_all (λ (row : List ℕ × ℕ). list_all (λ b. not (b == byte)) row.0) rows) ≡ true
        → (list_all (λ (row : List ℕ × ℕ). list_all (λ b. not (b == byte)) row.0) rows ≡ true → AllByRecursion (λ (row : List ℕ × ℕ). Lacks byte row.0) rows)
        → Lacks byte row.0 × AllByRecursion (λ (row : List ℕ × ℕ). Lacks byte row.0) rows
    by true is rest more = (literal_lacks byte row.0 is, more rest)
    by false is rest more = absurd cc

correctable_table : IsTable correctable_flags
correctable_table = record {
  finds = (refl, (refl, (refl, (refl, (refl, (refl, (refl, (refl, tt))))))));
  rises = (lit< tt, (lit< tt, (lit< tt, (lit< tt, (lit< tt, (lit< tt, (lit< tt, (lit< tt, tt))))))));
  unnamed = λ n. refl;
  some = (lit< tt, (lit< tt, (lit< tt, (lit< tt, (lit< tt, (lit< tt, (lit< tt, (lit< tt, tt))))))));
  no_bar = lacks_by 124 correctable_flags refl;
  no_comma = lacks_by 44 correctable_flags refl;
}

uncorrectable_table : IsTable uncorrectable_flags
uncorrectable_table = record {
  finds = (refl, (refl, (refl, (refl, (refl, (refl, (refl, (refl, (refl, (refl, (refl, (refl, (refl, (refl, (refl, (refl, (refl, tt)))))))))))))))));
  rises = (lit< tt, (lit< tt, (lit< tt, (lit< tt, (lit< tt, (lit< tt, (lit< tt, (lit< tt, (lit< tt, (lit< tt, (lit< tt, (lit< tt, (lit< tt, (lit< tt, (lit< tt, (lit< tt, (lit< tt, tt)))))))))))))))));
  unnamed = λ n. refl;
  some = (lit< tt, (lit< tt, (lit< tt, (lit< tt, (lit< tt, (lit< tt, (lit< tt, (lit< tt, (lit< tt, (lit< tt, (lit< tt, (lit< tt, (lit< tt, (lit< tt, (lit< tt, (lit< tt, (lit< tt, tt)))))))))))))))));
  no_bar = lacks_by 124 uncorrectable_flags refl;
  no_comma = lacks_by 44 uncorrectable_flags refl;
}

table_is : (severity : AerSeverity) → IsTable (flags_of severity)
table_is Corrected = correctable_table
table_is Fatal = uncorrectable_table
table_is NonFatal = uncorrectable_table

-- ---- rows that are set

all_set : (P : List ℕ × ℕ → Type 0) (set : List Bool) (rows : Flags) → AllByRecursion P rows → AllByRecursion P (rows_set set rows)
all_set P [] rows all = tt
all_set P (b ∷ set) [] all = tt
all_set P (true ∷ set) (row ∷ rows) all = (all.0, all_set P set rows all.1)
all_set P (false ∷ set) (row ∷ rows) all = all_set P set rows all.1

rise_set : (set : List Bool) (rows : Flags) (sum most : ℕ) → sum ≤ most → Rises most rows → Rises sum (rows_set set rows)
rise_set [] rows sum most few rise = tt
rise_set (b ∷ set) [] sum most few rise = tt
rise_set (true ∷ set) (row ∷ rows) sum most few rise = (omega (arith, few, rise.0), rise_set set rows (sum + row.1) (most + row.1) (omega (arith, few)) rise.1)
rise_set (false ∷ set) (row ∷ rows) sum most few rise = rise_set set rows sum (most + row.1) (omega (arith, few)) rise.1

-- ---- flags

named : (table : Flags) (sum : ℕ) (name : List ℕ) (bit : ℕ) → lookup (bytes_eq name) table ≡ Some bit → sum < bit → flag_added table sum name ≡ Some (sum + bit)
named table sum name bit found less =
    let above : nat_lt sum bit ≡ true = grind (arith, nat_tests, less) in
    ap (λ (o : Option ℕ). option_map_or (with_bit sum) o (read_then (word_of name) (with_others sum))) found ∙ rw above refl

unnamed : (table : Flags) (sum n : ℕ) → lookup (bytes_eq (hex_word n)) table ≡ None → sum + n < 2 ^ 32 → flag_added table sum (hex_word n) ≡ Some (sum + n)
unnamed table sum n none small =
    let within : nat_lt (sum + n) (2 ^ 32) ≡ true = grind (arith, nat_tests, small) in
    ap (λ (o : Option ℕ). option_map_or (with_bit sum) o (read_then (word_of (hex_word n)) (with_others sum))) none
    ∙ ap (λ (o : Option ℕ). read_then o (with_others sum)) (word_read n (omega (arith, small))) ∙ rw within refl

module _ (table : Flags) (others : ℕ) (none : (n : ℕ) → lookup (bytes_eq (hex_word n)) table ≡ None) where
  last_added : (sum : ℕ) → sum + others < 2 ^ 32 → flags_added table sum (others_words others) ≡ Some (sum + others)
  last_added sum small = by (others == 0) refl
    where
      by : (is : Bool) → (others == 0) ≡ is → flags_added table sum (if is then [] else hex_word others ∷ []) ≡ Some (sum + others)
      by true is =
          let zero_is : others ≡ 0 = grind (arith, nat_tests, is) in
          ap Some (omega (arith, zero_is))
      by false is = ap (λ (o : Option ℕ). read_then o (λ status. Some status)) (unnamed table sum others (none others) small)

  all_added : (rows : Flags) (sum : ℕ) → Finds table rows → Rises sum rows → sum + (bits_sum rows + others) < 2 ^ 32
      → flags_added table sum (flag_words rows others) ≡ Some (sum + (bits_sum rows + others))
  all_added [] sum finds rises small = last_added sum (omega (arith, small)) ∙ ap Some (omega arith)
  all_added (row ∷ rows) sum finds rises small =
      ap (λ (o : Option ℕ). read_then o (λ status. flags_added table status (flag_words rows others))) (named table sum row.0 row.1 finds.0 rises.0)
      ∙ all_added rows (sum + row.1) finds.1 rises.1 (omega (arith, small))
      ∙ ap Some (omega arith)

-- ---- words

pub words_split : (byte : ℕ) (words : List (List ℕ)) → 0 < length words → AllByRecursion (Lacks byte) words → cut_at byte (join_with_byte byte words) ≡ words
words_split byte [] some all = absurd (omega (arith, some))
words_split byte (word ∷ []) some all = split_lacking byte word all.0
words_split byte (word ∷ next ∷ words) some all =
    split_between byte word (join_with_byte byte (next ∷ words))
    ∙ ap (λ (parts : List (List ℕ)). parts ++ cut_at byte (join_with_byte byte (next ∷ words))) (split_lacking byte word all.0)
    ∙ ap (λ (parts : List (List ℕ)). word ∷ parts) (words_split byte (next ∷ words) (omega arith) all.1)

pub joined_lack : (byte other : ℕ) (words : List (List ℕ)) → ¬ (byte ≡ other) → AllByRecursion (Lacks other) words → Lacks other (join_with_byte byte words)
joined_lack byte other [] differs all = tt
joined_lack byte other (word ∷ []) differs all = all.0
joined_lack byte other (word ∷ next ∷ words) differs all =
    lack_both other word (byte ∷ join_with_byte byte (next ∷ words)) all.0 (differs, joined_lack byte other (next ∷ words) differs all.1)

joined_some : (byte : ℕ) (word : List ℕ) (words : List (List ℕ)) → 0 < length word → 0 < length (join_with_byte byte (word ∷ words))
joined_some byte word [] some = some
joined_some byte word (next ∷ words) some = omega (arith, some, length-append word (byte ∷ join_with_byte byte (next ∷ words)))

-- a statement about each name holds of each word of a status
names_all : (P : List ℕ → Type 0) (rows : Flags) → AllByRecursion (λ (row : List ℕ × ℕ). P row.0) rows → AllByRecursion P (map (λ (row : List ℕ × ℕ). row.0) rows)
names_all P [] all = tt
names_all P (row ∷ rows) all = (all.0, names_all P rows all.1)

others_all : (P : List ℕ → Type 0) (others : ℕ) → P (hex_word others) → AllByRecursion P (others_words others)
others_all P others holds = by (others == 0)
  where
    by : (is : Bool) → AllByRecursion P (if is then [] else hex_word others ∷ [])
    by true = tt
    by false = (holds, tt)

pub hex_word_lacks : (byte n : ℕ) → 16 ≤ digit_value byte → ¬ (48 ≡ byte) → ¬ (120 ≡ byte) → n < 2 ^ 64 → Lacks byte (hex_word n)
hex_word_lacks byte n high zero_not x_not small = (zero_not, (x_not, hexadecimal_lacks byte n high small))

status_by : (severity : AerSeverity) (words : List (List ℕ)) (status : ℕ) → AllByRecursion (λ word. 0 < length word) words → AllByRecursion (Lacks 124) words
    → flags_added (flags_of severity) 0 words ≡ Some status → status_of severity (join_with_byte 124 words) ≡ Some status
status_by severity [] status some lack is = is
status_by severity (word ∷ words) status some lack is =
    let long : 0 < length (join_with_byte 124 (word ∷ words)) = joined_some 124 word words some.0 in
    let not_empty : (length (join_with_byte 124 (word ∷ words)) == 0) ≡ false = grind (arith, nat_tests, long) in
    rw not_empty (ap (flags_added (flags_of severity) 0) (words_split 124 (word ∷ words) (omega arith) lack) ∙ is)

module _ (severity : AerSeverity) (set : List Bool) (others : ℕ) (small : bits_sum (rows_set set (flags_of severity)) + others < 2 ^ 32) where
  abbrev rows : Flags
  rows = rows_set set (flags_of severity)

  abbrev words : List (List ℕ)
  words = flag_words rows others

  table : IsTable (flags_of severity)
  table = table_is severity

  few : others < 2 ^ 64
  few = omega (arith, small)

  words_all : (P : List ℕ → Type 0) → AllByRecursion (λ (row : List ℕ × ℕ). P row.0) (flags_of severity) → P (hex_word others) → AllByRecursion P words
  words_all P all other =
      both P (map (λ (row : List ℕ × ℕ). row.0) rows) (others_words others)
      (names_all P rows (all_set (λ (row : List ℕ × ℕ). P row.0) set (flags_of severity) all)) (others_all P others other)

  pub status_read : status_of severity (join_with_byte 124 words) ≡ Some (bits_sum rows + others)
  status_read =
      status_by severity words (bits_sum rows + others)
      (words_all (λ word. 0 < length word) table.some (omega arith))
      (words_all (Lacks 124) table.no_bar (hex_word_lacks 124 others (omega arith) (λ (e : ◌≡◌ {A = ℕ} 48 124). omega (arith, e)) (λ (e : ◌≡◌ {A = ℕ} 120 124). omega (arith, e)) few))
      ((all_added (flags_of severity) others table.unnamed rows 0
      (all_set (λ (row : List ℕ × ℕ). lookup (bytes_eq row.0) (flags_of severity) ≡ Some row.1) set (flags_of severity) table.finds)
      (rise_set set (flags_of severity) 0 0 (omega arith) table.rises) (omega (arith, small)) ∙ ap Some (omega arith)))

  pub flags_lack_comma : Lacks 44 (join_with_byte 124 words)
  flags_lack_comma =
      joined_lack 124 44 words (λ (e : ◌≡◌ {A = ℕ} 124 44). omega (arith, e))
      (words_all (Lacks 44) table.no_comma (hex_word_lacks 44 others (omega arith) (λ (e : ◌≡◌ {A = ℕ} 48 44). omega (arith, e)) (λ (e : ◌≡◌ {A = ℕ} 120 44). omega (arith, e)) few))
