-- The numbers, labels and bytes of a line that is read are in their ranges, and there are no more bytes than the line
-- has.
use Rattle.std.proofs.Common.{◌≡◌, ℕ, suc, ◌+◌, ◌*◌, ◌-◌, ◌^◌, ◌<◌, ◌≤◌, ◌==◌, Bool, true, false, cond, nat_le, nat_lt, filter, List, [], ◌∷◌, length, refl, sym, subst, arith, None, Result, Ok, Err, IfOk}
use Rattle.std.proofs.lemmas.Bool.Decides.{nat_tests}
use Rattle.std.specs.List.{AllByRecursion, onto_first, slice_split}
use Rattle.std.specs.Option.{ok_or}
use Rattle.std.specs.Prelude.{slice_index, IsErr, IsTrue}
use Rattle.std.specs.Result.{result_ok}
use Rattle.std.specs.Str.{bytes_eq}
use Rattle.dimm_topology.specs.Labels.{is_label}
use Rattle.dimm_topology.specs.declared.row.Row.TheVariants.{Range}
use Rattle.hex.specs.Hex.{decode_of}
use Rattle.hex.specs.declared.error.FromHexError.{FromHexError}
use Rattle.hex.proofs.HexLemmas.{decode_of-ok}
use Rattle.page_policy.specs.Buckets.{IsLimit}
use Rattle.ras_script.specs.declared.line.Line.{Line}
use Rattle.ras_script.specs.declared.line.LineRefused.{LineRefused}
use Rattle.ras_script.specs.Bytes.{AreBytes}
use Rattle.ras_script.specs.Fields.{hex_bytes_of, hex_u64_of, read_label, read_limit, read_number, read_report, u16_of, u64_of, u8_of}
use Rattle.ras_script.specs.Kinds.{Reading, bank_asks, cpu_asks, module_asks, range_asks, place_asks, limit_asks, module_limit_asks, hest_asks, erst_asks, bert_asks, ghes_asks, put_asks, poll_asks, retire_asks, panic_asks, restart_asks}
use Rattle.ras_script.specs.Line.{GivesLine, kinds, line_named, line_of, line_of_words}
use Rattle.ras_script.specs.LineLaws.{HasFewBytes, IsInRange, IsBankInRange}
use Rattle.ras_script.specs.Splitting.{words_of}
use Rattle.ras_script.proofs.FieldLemmas.{bytes_in, hexadecimal_in, label_in, limit_in, number_in, report_in, then_within}

-- ---- words and bytes

-- Each word has at most this many bytes.
abbrev AreShort : ℕ → List (List ℕ) → Type 0
AreShort most words = AllByRecursion (λ (word : List ℕ). length word ≤ most) words

short_later : (most : ℕ) (words : List (List ℕ)) → AreShort most words → AreShort (suc most) words
short_later most [] short = tt
short_later most (word ∷ words) short = (omega (arith, short.0), short_later most words short.1)

short_onto : (most b : ℕ) (words : List (List ℕ)) → AreShort most words → AreShort (suc most) (onto_first b words)
short_onto most b [] short = (omega arith, tt)
short_onto most b (word ∷ words) short = (omega (arith, short.0), short_later most words short.1)

parts_short : (p : ℕ → Bool) (line : List ℕ) → AreShort (length line) (slice_split p line)
parts_short p [] = (omega arith, tt)
parts_short p (b ∷ line) = by (p b) (parts_short p line)
  where
    by : (t : Bool) → AreShort (length line) (slice_split p line) → AreShort (suc (length line)) (cond t ([] ∷ slice_split p line) (onto_first b (slice_split p line)))
    by true short = (omega arith, short_later (length line) (slice_split p line) short)
    by false short = short_onto (length line) b (slice_split p line) short

kept_short : (most : ℕ) (p : List ℕ → Bool) (words : List (List ℕ)) → AreShort most words → AreShort most (filter p words)
kept_short most p [] short = tt
kept_short most p (word ∷ words) short = by (p word) (kept_short most p words short.1)
  where
    by : (t : Bool) → AreShort most (filter p words) → AreShort most (cond t (word ∷ filter p words) (filter p words))
    by true rest = (short.0, rest)
    by false rest = rest

words_short : (line : List ℕ) → AreShort (length line) (words_of line)
words_short line = kept_short (length line) (λ word. nat_lt 0 (length word)) (slice_split (λ b. b == 32) line) (parts_short (λ b. b == 32) line)

-- A word gives bytes, at most half as many as it has digits.
few_within : (word : List ℕ) (empty : Bool) (decoded : Result (List ℕ) FromHexError) → decode_of word ≡ decoded
    → IfOk (ok_or (cond empty None (result_ok decoded)) LineRefused.Hex) (λ bytes. length bytes ≤ length word)
few_within word true decoded is = tt
few_within word false (Err why) is = tt
few_within word false (Ok bytes) is = (let twice : length word ≡ 2 * length bytes = (decode_of-ok word bytes is).2 in omega arith)

abbrev AreFewBytes : List ℕ → List ℕ → Type 0
AreFewBytes word bytes = AreBytes bytes × (length bytes ≤ length word)

few_in : (word : List ℕ) → IfOk (hex_bytes_of word) (AreFewBytes word)
few_in word = by (hex_bytes_of word) (bytes_in word) (few_within word (length word == 0) (decode_of word) refl)
  where
    by : (read : Result (List ℕ) LineRefused) → IfOk read AreBytes → IfOk read (λ bytes. length bytes ≤ length word) → IfOk read (AreFewBytes word)
    by (Ok bytes) are few = (are, few)
    by (Err why) are few = tt

-- ---- each kind of line

module _ (most : ℕ) where
  -- A line's numbers are in their ranges, and a report has at most this many bytes.
  abbrev Good : Line → Type 0
  Good line = IsInRange line × HasFewBytes most line

  bank_within : (words : List (List ℕ)) → IfOk (bank_asks words) Good
  bank_within words = then_within IsBankInRange Good (read_report words) _ (report_in words) (λ report report_is. (report_is, tt))

  cpu_within : (words : List (List ℕ)) → IfOk (cpu_asks words) Good
  cpu_within (cpu ∷ socket ∷ []) =
      then_within (λ n. n ≤ 65535) Good (u16_of cpu) _ (number_in 65535 cpu) (λ cpu cpu_is.
      then_within (λ n. n ≤ 255) Good (u8_of socket) _ (number_in 255 socket) (λ socket socket_is.
      ((omega arith, omega arith), tt)))
  cpu_within words = tt

  module_within : (words : List (List ℕ)) → IfOk (module_asks words) Good
  module_within (label ∷ socket ∷ bank ∷ channel ∷ []) =
      then_within (λ label. IsTrue (is_label label)) Good (read_label label) _ (label_in label) (λ label label_is.
      then_within (λ n. n ≤ 255) Good (u8_of socket) _ (number_in 255 socket) (λ socket socket_is.
      then_within (λ n. n ≤ 255) Good (u8_of bank) _ (number_in 255 bank) (λ bank bank_is.
      then_within (λ n. n ≤ 14) Good (read_number 14 channel) _ (number_in 14 channel) (λ channel channel_is.
      ((label_is, omega arith, omega arith, channel_is), tt)))))
  module_within words = tt

  range_within : (words : List (List ℕ)) → IfOk (range_asks words) Good
  range_within (label ∷ first ∷ last ∷ []) =
      then_within (λ label. IsTrue (is_label label)) Good (read_label label) _ (label_in label) (λ label label_is.
      then_within (λ n. n ≤ 2 ^ 64 - 1) Good (hex_u64_of first) _ (hexadecimal_in first) (λ first first_is.
      then_within (λ n. n ≤ 2 ^ 64 - 1) Good (hex_u64_of last) _ (hexadecimal_in last) (λ last last_is.
      by label first last label_is last_is (nat_le first last) refl)))
    where
      by : (label : List ℕ) (first last : ℕ) → IsTrue (is_label label) → last ≤ 2 ^ 64 - 1 → (b : Bool) → nat_le first last ≡ b
          → IfOk (cond b (Ok (Line.Row (Range label first last))) (Err LineRefused.Number)) Good
      by label first last label_is last_is true upright = ((label_is, grind (arith, nat_tests, upright), omega arith), tt)
      by label first last label_is last_is false turned = tt
  range_within words = tt

  place_within : (words : List (List ℕ)) → IfOk (place_asks words) Good
  place_within (label ∷ node ∷ card ∷ number ∷ []) =
      then_within (λ label. IsTrue (is_label label)) Good (read_label label) _ (label_in label) (λ label label_is.
      then_within (λ n. n ≤ 65535) Good (u16_of node) _ (number_in 65535 node) (λ node node_is.
      then_within (λ n. n ≤ 65535) Good (u16_of card) _ (number_in 65535 card) (λ card card_is.
      then_within (λ n. n ≤ 65535) Good (u16_of number) _ (number_in 65535 number) (λ number number_is.
      ((label_is, omega arith, omega arith, omega arith), tt)))))
  place_within words = tt

  limit_within : (words : List (List ℕ)) → IfOk (limit_asks words) Good
  limit_within words = then_within IsLimit Good (read_limit words) _ (limit_in words) (λ limit limit_is. (limit_is, tt))

  module_limit_within : (words : List (List ℕ)) → IfOk (module_limit_asks words) Good
  module_limit_within words = then_within IsLimit Good (read_limit words) _ (limit_in words) (λ limit limit_is. (limit_is, tt))

  hest_within : (words : List (List ℕ)) → IfOk (hest_asks words) Good
  hest_within (bytes ∷ []) = then_within AreBytes Good (hex_bytes_of bytes) _ (bytes_in bytes) (λ bytes bytes_are. (bytes_are, tt))
  hest_within words = tt

  erst_within : (words : List (List ℕ)) → IfOk (erst_asks words) Good
  erst_within (bytes ∷ []) = then_within AreBytes Good (hex_bytes_of bytes) _ (bytes_in bytes) (λ bytes bytes_are. (bytes_are, tt))
  erst_within words = tt

  bert_within : (words : List (List ℕ)) → AreShort most words → IfOk (bert_asks words) Good
  bert_within (boot ∷ seconds ∷ table ∷ region ∷ []) short =
      then_within (λ n. n ≤ 2 ^ 64 - 1) Good (u64_of boot) _ (number_in (2 ^ 64 - 1) boot) (λ boot boot_is.
      then_within (λ n. n ≤ 2 ^ 64 - 1) Good (u64_of seconds) _ (number_in (2 ^ 64 - 1) seconds) (λ seconds seconds_are.
      then_within AreBytes Good (hex_bytes_of table) _ (bytes_in table) (λ table table_is.
      then_within (AreFewBytes region) Good (hex_bytes_of region) _ (few_in region) (λ region region_is.
      ((omega arith, omega arith, table_is, region_is.0), omega (arith, region_is.1, short.1.1.1.0))))))
  bert_within words short = tt

  ghes_within : (words : List (List ℕ)) → AreShort most words → IfOk (ghes_asks words) Good
  ghes_within (boot ∷ seconds ∷ source ∷ number ∷ bytes ∷ []) short =
      then_within (λ n. n ≤ 2 ^ 64 - 1) Good (u64_of boot) _ (number_in (2 ^ 64 - 1) boot) (λ boot boot_is.
      then_within (λ n. n ≤ 2 ^ 64 - 1) Good (u64_of seconds) _ (number_in (2 ^ 64 - 1) seconds) (λ seconds seconds_are.
      then_within (λ n. n ≤ 65535) Good (u16_of source) _ (number_in 65535 source) (λ source source_is.
      then_within (λ n. n ≤ 2 ^ 64 - 1) Good (u64_of number) _ (number_in (2 ^ 64 - 1) number) (λ number number_is.
      then_within (AreFewBytes bytes) Good (hex_bytes_of bytes) _ (few_in bytes) (λ bytes bytes_are.
      ((omega arith, omega arith, omega arith, omega arith, bytes_are.0), omega (arith, bytes_are.1, short.1.1.1.1.0)))))))
  ghes_within words short = tt

  put_within : (words : List (List ℕ)) → IfOk (put_asks words) Good
  put_within (id ∷ bytes ∷ []) =
      then_within (λ n. n ≤ 2 ^ 64 - 1) Good (hex_u64_of id) _ (hexadecimal_in id) (λ id id_is.
      then_within AreBytes Good (hex_bytes_of bytes) _ (bytes_in bytes) (λ bytes bytes_are.
      ((omega arith, bytes_are), tt)))
  put_within words = tt

  poll_within : (words : List (List ℕ)) → IfOk (poll_asks words) Good
  poll_within (seconds ∷ []) = then_within (λ n. n ≤ 2 ^ 64 - 1) Good (u64_of seconds) _ (number_in (2 ^ 64 - 1) seconds) (λ seconds seconds_are. (omega arith, tt))
  poll_within words = tt

  retire_within : (words : List (List ℕ)) → IfOk (retire_asks words) Good
  retire_within (boot ∷ []) = then_within (λ n. n ≤ 2 ^ 64 - 1) Good (u64_of boot) _ (number_in (2 ^ 64 - 1) boot) (λ boot boot_is. (omega arith, tt))
  retire_within words = tt

  panic_within : (words : List (List ℕ)) → IfOk (panic_asks words) Good
  panic_within [] = tt
  panic_within (id ∷ words) = if_words (length words == 10) _ (
      then_within (λ n. n ≤ 2 ^ 64 - 1) Good (hex_u64_of id) _ (hexadecimal_in id) (λ id id_is.
      then_within IsBankInRange Good (read_report words) _ (report_in words) (λ bank bank_is.
      ((omega arith, bank_is), tt))))
    where
      if_words : (b : Bool) (read : Result Line LineRefused) → IfOk read Good → IfOk (cond b read (Err LineRefused.Words)) Good
      if_words true read h = h
      if_words false read h = tt

  restart_within : (words : List (List ℕ)) → IfOk (restart_asks words) Good
  restart_within [] = (tt, tt)
  restart_within words = tt

  -- Each of these readings gives lines in range.
  abbrev AreWithin : List (List ℕ × Reading) → List (List ℕ) → Type 0
  AreWithin [] words = Unit {0}
  AreWithin (reading ∷ readings) words = IfOk (reading.1 words) Good × AreWithin readings words

  named_within : (readings : List (List ℕ × Reading)) (kind : List ℕ) (words : List (List ℕ)) → AreWithin readings words → IfOk (line_named readings kind words) Good
  named_within [] kind words all = tt
  named_within (reading ∷ readings) kind words all = by (bytes_eq kind reading.0) (named_within readings kind words all.1)
    where
      by : (b : Bool) → IfOk (line_named readings kind words) Good → IfOk (cond b (reading.1 words) (line_named readings kind words)) Good
      by true ih = all.0
      by false ih = ih

  kinds_within : (words : List (List ℕ)) → AreShort most words → AreWithin kinds words
  kinds_within words short =
      (bank_within words, (cpu_within words, (module_within words, (range_within words, (place_within words, (limit_within words, (module_limit_within words, (hest_within words, (erst_within words, (bert_within words short, (ghes_within words short, (put_within words, (poll_within words, (retire_within words, (panic_within words, (restart_within words, tt))))))))))))))))

  kind_within : (comment : Bool) (event : Result Line LineRefused) → IfOk event Good → IfOk (cond comment (Ok Line.Nothing) event) Good
  kind_within true event h = (tt, tt)
  kind_within false event h = h

  line_within : (words : List (List ℕ)) → AreShort most words → IfOk (line_of_words words) Good
  line_within [] short = (tt, tt)
  line_within (kind ∷ words) short =
      kind_within (slice_index kind 0 == 35) (line_named kinds kind words) (named_within kinds kind words (kinds_within words short.1))

-- ---- every line

-- the bytes of all words together
abbrev total : List (List ℕ) → ℕ
total [] = 0
total (word ∷ words) = length word + total words

short_total : (more : ℕ) (words : List (List ℕ)) → AreShort (more + total words) words
short_total more [] = tt
short_total more (word ∷ words) =
    let e : more + (length word + total words) ≡ more + length word + total words = omega arith in
    (omega arith, subst (λ n. AreShort n words) (sym e) (short_total (more + length word) words))

part : (P Q : Line → Type 0) (read : Result Line LineRefused) → ((line : Line) → P line → Q line) → IfOk read P → IfOk read Q
part P Q (Ok line) weaker h = weaker line h
part P Q (Err why) weaker h = tt

pub range_of_words : (words : List (List ℕ)) → IfOk (line_of_words words) IsInRange
range_of_words words = part (Good (0 + total words)) IsInRange (line_of_words words) (λ line good. good.0) (line_within (0 + total words) words (short_total 0 words))

pub range_of_line : (line : List ℕ) → IfOk (line_of line) IsInRange
range_of_line line = range_of_words (words_of line)

pub few_of_line : (line : List ℕ) → IfOk (line_of line) (HasFewBytes (length line))
few_of_line line = part (Good (length line)) (HasFewBytes (length line)) (line_of line) (λ asked good. good.1) (line_within (length line) (words_of line) (words_short line))

pub refused_has_words : (words : List (List ℕ)) → IsErr (line_of_words words) → 0 < length words
refused_has_words [] h = cc
refused_has_words (kind ∷ words) h = omega arith

-- What was read is in range.
pub read_within : (words : List (List ℕ)) (read : Result Line LineRefused) → GivesLine read (line_of_words words) → IfOk read IsInRange
read_within words (Ok line) is = (let within : IfOk (line_of_words words) IsInRange = range_of_words words in rw is at within)
read_within words (Err why) is = tt
