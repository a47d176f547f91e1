-- The text that EDAC's drivers print of a machine check is read.
use Rattle.std.proofs.Common.{◌≡◌, ℕ, ◌-◌, ◌^◌, ◌<◌, ◌≤◌, Bool, true, false, is_some, List, [], ◌∷◌, ◌++◌, codes, decimal, drop, length, refl, ap, ◌∙◌, arith, append_assoc, Option, Some, if◌then◌else◌}
use Rattle.std.proofs.Math.Seq.{take-append_seam}
use Rattle.std.proofs.lemmas.List.{drop_at}
use Rattle.std.specs.Char.{digit_value}
use Rattle.std.specs.List.{AllByRecursion, join_with_byte}
use Rattle.std.specs.Option.{option_map, option_map_or}
use Rattle.ras_klog.specs.Reading.{colon_number, provided, read_then}
use Rattle.ras_script.proofs.WrittenNumberLemmas.{decimal_read}
use Rattle.ras_script.specs.Number.{decimal_of}
use Rattle.ras_script.specs.SplittingLaws.{Lacks}
use Rattle.bank_lines.specs.EdacLines.{driver_text, edac_bank, edac_by_words, edac_line_of, edac_mark, edac_processor, edac_register, edac_start, edac_vendor, is_of_edac, edac_number}
use Rattle.bank_lines.specs.Kernel.{IsPrinted, Printed}
use Rattle.bank_lines.specs.LogHeads.{after, is_number, is_own, up_to}
use Rattle.bank_lines.specs.LogKernel.{Driver, HasNo, status_words, check_words, driver_name, driver_prefix, edac_hex, edac_kind, edac_status, pnd2, sbridge, skx, time_words}
use Rattle.bank_lines.specs.LogLines.{driver_told, edac_line_after, edac_told_by, log_line_by, log_line_of, log_mark, mark_of}
use Rattle.bank_lines.specs.Parts.{value_after}
use Rattle.bank_lines.specs.declared.edac_line.EdacLine.{EdacLine}
use Rattle.bank_lines.specs.declared.edac_line.EdacLine.TheVariants.{Start, Tsc, Addr, Misc, Processor}
use Rattle.bank_lines.specs.declared.log_line.LogLine.TheVariants.{Nothing}
use Rattle.bank_lines.specs.declared.log_line.MarkedLine.TheVariants.{Plain, Edac}
use Rattle.bank_lines.specs.declared.mark.LogMark.{LogMark}
use Rattle.bank_lines.proofs.LogMarkLemmas.{edac_marked}
use Rattle.bank_lines.proofs.LogTextLemmas.{after_is, colon_lacks, colon_read, decimal_is_number, hex_lacks, hex_read, joined_lack, status_lacks, status_read, up_to_is, vendor_lacks, words_split}
use Rattle.bank_lines.proofs.NumeralLemmas.{decimal_lacks, lack_both, literal_lacks}

-- ---- the text before the words

named_read : (controller : ℕ) (text : List ℕ) → controller < 2 ^ 64
    → provided (is_number (up_to 58 (decimal controller ++ 58 ∷ 32 ∷ text))) (value_after (codes " ") (after 58 (decimal controller ++ 58 ∷ 32 ∷ text))) ≡ Some text
named_read controller text small =
    let word : List ℕ = decimal controller in
    let lacks : Lacks 58 word = decimal_lacks 58 controller (omega arith) small in
    ap (λ (number : List ℕ). provided (is_number number) (value_after (codes " ") (after 58 (word ++ 58 ∷ 32 ∷ text)))) (up_to_is 58 word (32 ∷ text) lacks)
    ∙ ap (λ (rest : List ℕ). provided (is_number word) (value_after (codes " ") rest)) (after_is 58 word (32 ∷ text) lacks)
    ∙ ap (λ (is : Bool). provided is (Some text)) (decimal_is_number controller small)

abbrev behind_mark : Driver → ℕ → List ℕ → List ℕ
behind_mark driver controller text = driver_name driver ++ (codes " MC" ++ (decimal controller ++ (codes ": " ++ text)))

driver_read : (driver : Driver) (controller : ℕ) (text : List ℕ) → controller < 2 ^ 64 → driver_text (behind_mark driver controller text) ≡ Some text
driver_read skx controller text small = named_read controller text small
driver_read sbridge controller text small = named_read controller text small
driver_read pnd2 controller text small = named_read controller text small

prefix_is : (driver : Driver) (controller : ℕ) (text : List ℕ) → driver_prefix driver controller ++ text ≡ edac_mark ++ behind_mark driver controller text
prefix_is skx controller text = ap (λ (rest : List ℕ). codes "EDAC skx MC" ++ rest) (append_assoc (decimal controller) (codes ": ") text)
prefix_is sbridge controller text = ap (λ (rest : List ℕ). codes "EDAC sbridge MC" ++ rest) (append_assoc (decimal controller) (codes ": ") text)
prefix_is pnd2 controller text = ap (λ (rest : List ℕ). codes "EDAC pnd2 MC" ++ rest) (append_assoc (decimal controller) (codes ": ") text)

name_lacks : (driver : Driver) → Lacks 93 (driver_name driver)
name_lacks skx = literal_lacks 93 (codes "skx") refl
name_lacks sbridge = literal_lacks 93 (codes "sbridge") refl
name_lacks pnd2 = literal_lacks 93 (codes "pnd2") refl

behind_lacks : (driver : Driver) (controller : ℕ) (text : List ℕ) → controller < 2 ^ 64 → Lacks 93 text → Lacks 93 (behind_mark driver controller text)
behind_lacks driver controller text small lacks =
    lack_both 93 (driver_name driver) (codes " MC" ++ (decimal controller ++ (codes ": " ++ text))) (name_lacks driver) (
    lack_both 93 (codes " MC") (decimal controller ++ (codes ": " ++ text)) (literal_lacks 93 (codes " MC") refl) (
    lack_both 93 (decimal controller) (codes ": " ++ text) (decimal_lacks 93 controller (omega arith) small) (
    lack_both 93 (codes ": ") text (literal_lacks 93 (codes ": ") refl) lacks)))

-- ---- a line

-- the words of a line of a report
record AreWords (words : List (List ℕ)) : Type 0 where
  some : 0 < length words
  spaces : AllByRecursion (Lacks 32) words
  brackets : AllByRecursion (Lacks 93) words
  of : is_of_edac (join_with_byte 32 words) ≡ true

text_read : (words : List (List ℕ)) (line : EdacLine) → AreWords words → edac_by_words words ≡ Some line → edac_line_of (join_with_byte 32 words) ≡ Some line
text_read words line are reads = ap edac_by_words (words_split words are.some are.spaces) ∙ reads

line_read : (driver : Driver) (controller : ℕ) (head : List ℕ) (words : List (List ℕ)) (line : EdacLine) → controller < 2 ^ 64 → is_own head ≡ true → HasNo log_mark head → HasNo edac_mark head → AreWords words → edac_by_words words ≡ Some line
    → log_line_of (head ++ (driver_prefix driver controller ++ join_with_byte 32 words)) ≡ Edac line
line_read driver controller head words line small own plain edac are reads =
    let text : List ℕ = join_with_byte 32 words in
    let behind : List ℕ = behind_mark driver controller text in
    let whole : List ℕ = head ++ (edac_mark ++ behind) in
    let marked : mark_of whole ≡ Some (LogMark.AtEdac (length head)) = edac_marked head behind plain edac (behind_lacks driver controller text small (joined_lack 93 words (λ (e : ◌≡◌ {A = ℕ} 32 93). omega (arith, e)) are.brackets)) in
    ap (λ (rest : List ℕ). log_line_of (head ++ rest)) (prefix_is driver controller text)
    ∙ ap (λ (mark : Option LogMark). log_line_by whole mark) marked
    ∙ ap (λ (front : List ℕ). edac_line_after front (drop (length head) whole)) (take-append_seam head (edac_mark ++ behind))
    ∙ ap (λ (rest : List ℕ). edac_line_after head rest) (drop_at head (edac_mark ++ behind) (length head) refl)
    ∙ ap (λ (found : Option (List ℕ)). option_map_or (driver_told head) found (Plain Nothing)) (driver_read driver controller text small)
    ∙ ap (λ (of : Bool). if of then edac_told_by (provided (is_own head) (edac_line_of text)) else Plain Nothing) are.of
    ∙ ap (λ (is : Bool). edac_told_by (provided is (edac_line_of text))) own
    ∙ ap (λ (read : Option EdacLine). edac_told_by read) (text_read words line are reads)

-- ---- the literals

record Literals (byte : ℕ) : Type 0 where
  cpu : Lacks byte (codes "CPU")
  machine : Lacks byte (codes "Machine")
  check : Lacks byte (codes "Check")
  event : Lacks byte (codes "Event:")
  exception : Lacks byte (codes "Exception:")
  bank : Lacks byte (codes "Bank")
  tsc : Lacks byte (codes "TSC")
  addr : Lacks byte (codes "ADDR")
  misc : Lacks byte (codes "MISC")
  processor : Lacks byte (codes "PROCESSOR")
  time : Lacks byte (codes "TIME")
  socket : Lacks byte (codes "SOCKET")
  apic : Lacks byte (codes "APIC")

spaces : Literals 32
spaces = record {
  cpu = literal_lacks 32 (codes "CPU") refl;
  machine = literal_lacks 32 (codes "Machine") refl;
  check = literal_lacks 32 (codes "Check") refl;
  event = literal_lacks 32 (codes "Event:") refl;
  exception = literal_lacks 32 (codes "Exception:") refl;
  bank = literal_lacks 32 (codes "Bank") refl;
  tsc = literal_lacks 32 (codes "TSC") refl;
  addr = literal_lacks 32 (codes "ADDR") refl;
  misc = literal_lacks 32 (codes "MISC") refl;
  processor = literal_lacks 32 (codes "PROCESSOR") refl;
  time = literal_lacks 32 (codes "TIME") refl;
  socket = literal_lacks 32 (codes "SOCKET") refl;
  apic = literal_lacks 32 (codes "APIC") refl;
}

brackets : Literals 93
brackets = record {
  cpu = literal_lacks 93 (codes "CPU") refl;
  machine = literal_lacks 93 (codes "Machine") refl;
  check = literal_lacks 93 (codes "Check") refl;
  event = literal_lacks 93 (codes "Event:") refl;
  exception = literal_lacks 93 (codes "Exception:") refl;
  bank = literal_lacks 93 (codes "Bank") refl;
  tsc = literal_lacks 93 (codes "TSC") refl;
  addr = literal_lacks 93 (codes "ADDR") refl;
  misc = literal_lacks 93 (codes "MISC") refl;
  processor = literal_lacks 93 (codes "PROCESSOR") refl;
  time = literal_lacks 93 (codes "TIME") refl;
  socket = literal_lacks 93 (codes "SOCKET") refl;
  apic = literal_lacks 93 (codes "APIC") refl;
}

kind_lacks : (byte : ℕ) (exception : Bool) → Literals byte → Lacks byte (edac_kind exception)
kind_lacks byte true literals = literals.exception
kind_lacks byte false literals = literals.event

-- ---- the words of the five lines

module _ (p : Printed) (h : IsPrinted p) (driver : Driver) (exception : Bool) where
  abbrev start_words : List (List ℕ)
  start_words = check_words p (codes "Check" ∷ edac_kind exception ∷ status_words p (edac_hex driver p.event.mcg) (edac_status driver p.event.status))

  abbrev register_words : List ℕ → ℕ → List (List ℕ)
  register_words name n = name ∷ edac_hex driver n ∷ [] ∷ []

  abbrev last_words : List (List ℕ)
  last_words = time_words (edac_hex driver) p []

  cpu_small : p.event.cpu < 2 ^ 64
  cpu_small = omega (arith, h.cpu)

  bank_small : p.event.bank < 2 ^ 64
  bank_small = omega (arith, h.bank)

  -- the words lack this byte
  module _ (byte : ℕ) (high : 16 ≤ digit_value byte) (zero_not : ¬ (48 ≡ byte)) (x_not : ¬ (120 ≡ byte)) (colon : ¬ (58 ≡ byte)) (literals : Literals byte) where
    start_lacks : AllByRecursion (Lacks byte) start_words
    start_lacks =
        (literals.cpu, (colon_lacks byte high zero_not x_not p.event.cpu colon cpu_small, (literals.machine, (literals.check, (kind_lacks byte exception literals, (hex_lacks byte high zero_not x_not driver p.event.mcg h.numbers.1.1.1.1.0, (literals.bank, (colon_lacks byte high zero_not x_not p.event.bank colon bank_small, (status_lacks byte high zero_not x_not driver p.event.status h.numbers.1.1.1.1.1.0, tt)))))))))

    register_lacks : (name : List ℕ) (n : ℕ) → Lacks byte name → n < 2 ^ 64 → AllByRecursion (Lacks byte) (register_words name n)
    register_lacks name n literal small = (literal, (hex_lacks byte high zero_not x_not driver n small, (tt, tt)))

    last_lacks : AllByRecursion (Lacks byte) last_words
    last_lacks =
        (literals.processor, (vendor_lacks byte high zero_not x_not driver p.event.vendor p.cpuid colon h.numbers.0 h.numbers.1.1.1.1.1.1.1.1.1.1.1.1.1.0, (literals.time, (decimal_lacks byte p.event.seconds high h.numbers.1.0, (literals.socket, (decimal_lacks byte p.socket high h.numbers.1.1.1.1.1.1.1.1.1.1.1.1.1.1.0, (literals.apic, (hex_lacks byte high zero_not x_not driver p.apic h.numbers.1.1.1.1.1.1.1.1.1.1.1.1.1.1.1.0, tt))))))))

  -- the words of each line are the words of a report's line
  start_are : AreWords start_words
  start_are = record {
    some = omega arith;
    spaces = start_lacks 32 (omega arith) (λ e. omega (arith, e)) (λ e. omega (arith, e)) (λ e. omega (arith, e)) spaces;
    brackets = start_lacks 93 (omega arith) (λ e. omega (arith, e)) (λ e. omega (arith, e)) (λ e. omega (arith, e)) brackets;
    of = refl;
  }

  register_are : (name : List ℕ) (n : ℕ) → Lacks 32 name → Lacks 93 name → is_of_edac (join_with_byte 32 (register_words name n)) ≡ true → n < 2 ^ 64 → AreWords (register_words name n)
  register_are name n space bracket of small = record {
    some = omega arith;
    spaces = register_lacks 32 (omega arith) (λ e. omega (arith, e)) (λ e. omega (arith, e)) (λ e. omega (arith, e)) spaces name n space small;
    brackets = register_lacks 93 (omega arith) (λ e. omega (arith, e)) (λ e. omega (arith, e)) (λ e. omega (arith, e)) brackets name n bracket small;
    of = of;
  }

  last_are : AreWords last_words
  last_are = record {
    some = omega arith;
    spaces = last_lacks 32 (omega arith) (λ e. omega (arith, e)) (λ e. omega (arith, e)) (λ e. omega (arith, e)) spaces;
    brackets = last_lacks 93 (omega arith) (λ e. omega (arith, e)) (λ e. omega (arith, e)) (λ e. omega (arith, e)) brackets;
    of = refl;
  }

  -- the lines are read
  status_read_whole : edac_register (edac_status driver p.event.status ∷ []) ≡ Some p.event.status
  unfolding edac_register
  status_read_whole = ap (λ (o : Option ℕ). read_then o (λ (r : ℕ). Some r)) (status_read driver p.event.status h.numbers.1.1.1.1.1.0)

  bank_read : (cpu : ℕ) → edac_bank cpu (status_words p (edac_hex driver p.event.mcg) (edac_status driver p.event.status)) ≡ Some (Start cpu p.event.mcg p.event.bank p.event.status)
  unfolding edac_bank
  bank_read cpu =
      let bank : List ℕ = decimal p.event.bank ++ 58 ∷ [] in
      let status : List (List ℕ) = edac_status driver p.event.status ∷ [] in
      ap (λ (o : Option ℕ). read_then o (λ m. read_then (colon_number 255 bank) (λ b. read_then (edac_register status) (λ s. Some (Start cpu m b s))))) (hex_read driver p.event.mcg h.numbers.1.1.1.1.0)
      ∙ ap (λ (o : Option ℕ). read_then o (λ b. read_then (edac_register status) (λ s. Some (Start cpu p.event.mcg b s)))) (colon_read 255 p.event.bank (omega (arith, h.bank)) (omega arith))
      ∙ ap (λ (o : Option ℕ). read_then o (λ s. Some (Start cpu p.event.mcg p.event.bank s))) status_read_whole

  start_read : edac_by_words start_words ≡ Some (Start p.event.cpu p.event.mcg p.event.bank p.event.status)
  unfolding edac_start
  start_read = by exception
    where
      by : (e : Bool) → edac_by_words (check_words p (codes "Check" ∷ edac_kind e ∷ status_words p (edac_hex driver p.event.mcg) (edac_status driver p.event.status))) ≡ Some (Start p.event.cpu p.event.mcg p.event.bank p.event.status)
      by true =
          ap (λ (o : Option ℕ). read_then o (λ cpu. edac_bank cpu (status_words p (edac_hex driver p.event.mcg) (edac_status driver p.event.status)))) (colon_read 65535 p.event.cpu (omega (arith, h.cpu)) (omega arith)) ∙ bank_read p.event.cpu
      by false =
          ap (λ (o : Option ℕ). read_then o (λ cpu. edac_bank cpu (status_words p (edac_hex driver p.event.mcg) (edac_status driver p.event.status)))) (colon_read 65535 p.event.cpu (omega (arith, h.cpu)) (omega arith)) ∙ bank_read p.event.cpu

  register_read : (n : ℕ) → n < 2 ^ 64 → edac_register (edac_hex driver n ∷ [] ∷ []) ≡ Some n
  unfolding edac_register
  register_read n small = ap (λ (o : Option ℕ). read_then o (λ (r : ℕ). Some r)) (hex_read driver n small)

  tsc_read : edac_by_words (register_words (codes "TSC") p.event.tsc) ≡ Some (Tsc p.event.tsc)
  tsc_read = ap (option_map (λ n. Tsc n)) (register_read p.event.tsc h.numbers.1.1.0)

  addr_read : edac_by_words (register_words (codes "ADDR") p.event.addr) ≡ Some (Addr p.event.addr)
  addr_read = ap (option_map (λ n. Addr n)) (register_read p.event.addr h.numbers.1.1.1.1.1.1.0)

  misc_read : edac_by_words (register_words (codes "MISC") p.event.misc) ≡ Some (Misc p.event.misc)
  misc_read = ap (option_map (λ n. Misc n)) (register_read p.event.misc h.numbers.1.1.1.1.1.1.1.0)

  vendor_read : edac_vendor (decimal p.event.vendor ++ 58 ∷ edac_hex driver p.cpuid) ≡ Some p.event.vendor
  vendor_read =
      let word : List ℕ = decimal p.event.vendor in
      let rest : List ℕ = edac_hex driver p.cpuid in
      let lacks : Lacks 58 word = decimal_lacks 58 p.event.vendor (omega arith) h.numbers.0 in
      ap (λ (id : List ℕ). provided (is_some (edac_number id)) (decimal_of (2 ^ 64 - 1) (up_to 58 (word ++ 58 ∷ rest)))) (after_is 58 word rest lacks)
      ∙ ap (λ (o : Option ℕ). provided (is_some o) (decimal_of (2 ^ 64 - 1) (up_to 58 (word ++ 58 ∷ rest)))) (hex_read driver p.cpuid h.numbers.1.1.1.1.1.1.1.1.1.1.1.1.1.0)
      ∙ ap (decimal_of (2 ^ 64 - 1)) (up_to_is 58 word rest lacks)
      ∙ decimal_read (2 ^ 64 - 1) p.event.vendor (omega (arith, h.numbers.0)) (omega arith)

  last_read : edac_by_words last_words ≡ Some (Processor p.event.vendor p.event.seconds)
  unfolding edac_processor
  last_read =
      ap (λ (o : Option ℕ). read_then o (λ vendor. read_then (decimal_of (2 ^ 64 - 1) (decimal p.event.seconds)) (λ seconds. Some (Processor vendor seconds)))) vendor_read
      ∙ ap (λ (o : Option ℕ). read_then o (λ seconds. Some (Processor p.event.vendor seconds))) (decimal_read (2 ^ 64 - 1) p.event.seconds (omega (arith, h.numbers.1.0)) (omega arith))

  -- the five lines, each after a head
  module _ (controller : ℕ) (few : controller < 2 ^ 64) (head : List ℕ) (own : is_own head ≡ true) (plain : HasNo log_mark head) (edac : HasNo edac_mark head) where
    pub start_line : log_line_of (head ++ (driver_prefix driver controller ++ join_with_byte 32 start_words)) ≡ Edac (Start p.event.cpu p.event.mcg p.event.bank p.event.status)
    start_line = line_read driver controller head start_words (Start p.event.cpu p.event.mcg p.event.bank p.event.status) few own plain edac start_are start_read

    pub tsc_line : log_line_of (head ++ (driver_prefix driver controller ++ join_with_byte 32 (register_words (codes "TSC") p.event.tsc))) ≡ Edac (Tsc p.event.tsc)
    tsc_line =
        line_read driver controller head (register_words (codes "TSC") p.event.tsc) (Tsc p.event.tsc) few own plain edac
        (register_are (codes "TSC") p.event.tsc spaces.tsc brackets.tsc refl h.numbers.1.1.0) tsc_read

    pub addr_line : log_line_of (head ++ (driver_prefix driver controller ++ join_with_byte 32 (register_words (codes "ADDR") p.event.addr))) ≡ Edac (Addr p.event.addr)
    addr_line =
        line_read driver controller head (register_words (codes "ADDR") p.event.addr) (Addr p.event.addr) few own plain edac
        (register_are (codes "ADDR") p.event.addr spaces.addr brackets.addr refl h.numbers.1.1.1.1.1.1.0) addr_read

    pub misc_line : log_line_of (head ++ (driver_prefix driver controller ++ join_with_byte 32 (register_words (codes "MISC") p.event.misc))) ≡ Edac (Misc p.event.misc)
    misc_line =
        line_read driver controller head (register_words (codes "MISC") p.event.misc) (Misc p.event.misc) few own plain edac
        (register_are (codes "MISC") p.event.misc spaces.misc brackets.misc refl h.numbers.1.1.1.1.1.1.1.0) misc_read

    pub last_line : log_line_of (head ++ (driver_prefix driver controller ++ join_with_byte 32 last_words)) ≡ Edac (Processor p.event.vendor p.event.seconds)
    last_line = line_read driver controller head last_words (Processor p.event.vendor p.event.seconds) few own plain edac last_are last_read
