-- The text that the kernel prints of a machine check in its own lines is read.
use Rattle.std.proofs.Common.{◌≡◌, ℕ, ◌-◌, ◌^◌, ◌<◌, ◌==◌, ◌&&◌, Bool, true, false, is_some, List, [], ◌∷◌, ◌++◌, codes, decimal, drop, length, refl, sym, ap, ◌∙◌, arith, append_assoc, eqb-true, Option, Some, None, unwrap_or, if◌then◌else◌}
use Rattle.std.proofs.Math.Seq.{take-append_seam}
use Rattle.std.proofs.lemmas.List.{drop_at}
use Rattle.std.specs.List.{AllByRecursion, join_with_byte}
use Rattle.ras_klog.specs.Reading.{bank_of, check_of, colon_number, is_vendor_and_model, klog_line_of, named, processor_line_of, provided, read_then, start_line_of, told_by_words, tsc_of}
use Rattle.ras_klog.specs.declared.line.KlogLine.{KlogLine}
use Rattle.ras_klog.specs.declared.line.KlogLine.TheVariants as Klog
use Rattle.ras_script.proofs.WrittenNumberLemmas.{decimal_read, hexadecimal_read}
use Rattle.ras_script.specs.LineLaws.{hexadecimal}
use Rattle.ras_script.specs.Number.{decimal_of, hexadecimal_of}
use Rattle.ras_script.specs.SplittingLaws.{Lacks}
use Rattle.bank_lines.specs.Kernel.{IsPrinted, Printed, register}
use Rattle.bank_lines.specs.LogHeads.{after, is_joined, is_own, up_to}
use Rattle.bank_lines.specs.LogKernel.{HasNo, status_words, named_words, plain_registers, plain_start, plain_time, pnd2}
use Rattle.bank_lines.specs.LogLines.{left_unread, line_told_by, log_line_after, log_line_by, log_line_of, log_mark, printed_plain, vendor_of, with_vendor}
use Rattle.bank_lines.specs.declared.log_line.LogLine.{LogLine}
use Rattle.bank_lines.specs.declared.log_line.LogLine.TheVariants.{Part}
use Rattle.bank_lines.specs.declared.log_line.MarkedLine.TheVariants.{Plain}
use Rattle.bank_lines.specs.declared.mark.LogMark.{LogMark}
use Rattle.bank_lines.proofs.KernelLemmas.{padded_lacks, register_read}
use Rattle.bank_lines.proofs.LogMarkLemmas.{plain_marked}
use Rattle.bank_lines.proofs.LogTextLemmas.{after_is, colon_lacks, colon_read, not_joined, up_to_is, vendor_lacks, words_split}
use Rattle.bank_lines.proofs.NumeralLemmas.{decimal_lacks, hexadecimal_lacks, literal_lacks}

-- ---- a line

-- what `klog` reads in the words after the prefix
klog_reads : (words : List (List ℕ)) (line : KlogLine) → 0 < length words → AllByRecursion (Lacks 32) words → told_by_words words ≡ Some line
    → klog_line_of (log_mark ++ join_with_byte 32 words) ≡ line
klog_reads words line some spaces reads =
    ap (λ (parts : List (List ℕ)). unwrap_or (told_by_words parts) Klog.Other) (words_split words some spaces)
    ∙ ap (λ (read : Option KlogLine). unwrap_or read Klog.Other) reads

line_read : (head text : List ℕ) (line : KlogLine) (told : LogLine) → is_own head ≡ true → HasNo log_mark head → klog_line_of (log_mark ++ text) ≡ line
    → line_told_by printed_plain text line ≡ told → log_line_of (head ++ (log_mark ++ text)) ≡ Plain told
line_read head text line told own none reads tells =
    let whole : List ℕ = head ++ (log_mark ++ text) in
    ap (λ (mark : Option LogMark). log_line_by whole mark) (plain_marked head text none)
    ∙ ap (λ (front : List ℕ). Plain (log_line_after front (drop (length head) whole))) (take-append_seam head (log_mark ++ text))
    ∙ ap (λ (marked : List ℕ). Plain (log_line_after head marked)) (drop_at head (log_mark ++ text) (length head) refl)
    ∙ ap (λ (is : Bool). Plain (if is then line_told_by printed_plain text (klog_line_of (log_mark ++ text)) else left_unread text)) own
    ∙ ap (λ (read : KlogLine). Plain (line_told_by printed_plain text read)) reads
    ∙ ap (λ (t : LogLine). Plain t) tells

-- ---- the words of the three lines

module _ (p : Printed) (h : IsPrinted p) (exception : Bool) where
  zero_not : ¬ (◌≡◌ {A = ℕ} 48 32)
  zero_not e = omega (arith, e)

  x_not : ¬ (◌≡◌ {A = ℕ} 120 32)
  x_not e = omega (arith, e)

  colon : ¬ (◌≡◌ {A = ℕ} 58 32)
  colon e = omega (arith, e)

  hex_lacks : (n : ℕ) → n < 2 ^ 64 → Lacks 32 (hexadecimal n)
  hex_lacks n small = hexadecimal_lacks 32 n (omega arith) small

  cpu_small : p.event.cpu < 2 ^ 64
  cpu_small = omega (arith, h.cpu)

  bank_small : p.event.bank < 2 ^ 64
  bank_small = omega (arith, h.bank)

  -- ---- the first line

  abbrev banks : List (List ℕ)
  banks = status_words p (hexadecimal p.event.mcg) (register p.event.status)

  bank_lacks : AllByRecursion (Lacks 32) banks
  bank_lacks =
      (hex_lacks p.event.mcg h.numbers.1.1.1.1.0, (literal_lacks 32 (codes "Bank") refl, (colon_lacks 32 (omega arith) zero_not x_not p.event.bank colon bank_small, (padded_lacks 32 16 p.event.status (omega arith) zero_not h.numbers.1.1.1.1.1.0, tt))))

  start_lacks : AllByRecursion (Lacks 32) (plain_start exception p)
  start_lacks = by exception
    where
      by : (e : Bool) → AllByRecursion (Lacks 32) (plain_start e p)
      by true = (literal_lacks 32 (codes "CPU") refl, (colon_lacks 32 (omega arith) zero_not x_not p.event.cpu colon cpu_small, (literal_lacks 32 (codes "Machine") refl, (literal_lacks 32 (codes "Check") refl, (literal_lacks 32 (codes "Exception:") refl, bank_lacks)))))
      by false = (literal_lacks 32 (codes "CPU") refl, (colon_lacks 32 (omega arith) zero_not x_not p.event.cpu colon cpu_small, (literal_lacks 32 (codes "Machine") refl, (literal_lacks 32 (codes "Check:") refl, bank_lacks))))

  bank_read : (cpu : ℕ) → bank_of cpu banks ≡ Some (Klog.Start cpu p.event.mcg p.event.bank p.event.status)
  unfolding bank_of
  bank_read cpu =
      let bank : List ℕ = decimal p.event.bank ++ 58 ∷ [] in
      let status : List ℕ = register p.event.status in
      ap (λ (o : Option ℕ). read_then o (λ m. read_then (colon_number 255 bank) (λ b. read_then (hexadecimal_of status) (λ s. Some (Klog.Start cpu m b s))))) (hexadecimal_read false p.event.mcg h.numbers.1.1.1.1.0)
      ∙ ap (λ (o : Option ℕ). read_then o (λ b. read_then (hexadecimal_of status) (λ s. Some (Klog.Start cpu p.event.mcg b s)))) (colon_read 255 p.event.bank (omega (arith, h.bank)) (omega arith))
      ∙ ap (λ (o : Option ℕ). read_then o (λ s. Some (Klog.Start cpu p.event.mcg p.event.bank s))) (register_read p.event.status h.numbers.1.1.1.1.1.0)

  start_read : told_by_words (plain_start exception p) ≡ Some (Klog.Start p.event.cpu p.event.mcg p.event.bank p.event.status)
  unfolding start_line_of check_of
  start_read = by exception
    where
      by : (e : Bool) → told_by_words (plain_start e p) ≡ Some (Klog.Start p.event.cpu p.event.mcg p.event.bank p.event.status)
      by true = ap (λ (o : Option ℕ). read_then o (λ cpu. bank_of cpu banks)) (colon_read 65535 p.event.cpu (omega (arith, h.cpu)) (omega arith)) ∙ bank_read p.event.cpu
      by false = ap (λ (o : Option ℕ). read_then o (λ cpu. bank_of cpu banks)) (colon_read 65535 p.event.cpu (omega (arith, h.cpu)) (omega arith)) ∙ bank_read p.event.cpu

  -- ---- the line of the counter

  abbrev ppin_words : List (List ℕ)
  ppin_words = named_words (codes "PPIN") p.ppin ([] ∷ [])

  abbrev misc_words : List (List ℕ)
  misc_words = named_words (codes "MISC") p.event.misc ppin_words

  abbrev addr_words : List (List ℕ)
  addr_words = named_words (codes "ADDR") p.event.addr misc_words

  named_lacks : (name : List ℕ) (n : ℕ) (more : List (List ℕ)) → Lacks 32 name → n < 2 ^ 64 → AllByRecursion (Lacks 32) more → AllByRecursion (Lacks 32) (named_words name n more)
  named_lacks name n more literal small all = by (n == 0)
    where
      by : (none : Bool) → AllByRecursion (Lacks 32) (if none then more else name ∷ hexadecimal n ∷ more)
      by true = all
      by false = (literal, (hex_lacks n small, all))

  registers_lack : AllByRecursion (Lacks 32) (plain_registers p)
  registers_lack =
      (literal_lacks 32 (codes "TSC") refl, (hex_lacks p.event.tsc h.numbers.1.1.0, named_lacks (codes "ADDR") p.event.addr misc_words (literal_lacks 32 (codes "ADDR") refl) h.numbers.1.1.1.1.1.1.0 (named_lacks (codes "MISC") p.event.misc ppin_words (literal_lacks 32 (codes "MISC") refl) h.numbers.1.1.1.1.1.1.1.0 (named_lacks (codes "PPIN") p.ppin ([] ∷ []) (literal_lacks 32 (codes "PPIN") refl) h.numbers.1.1.1.1.1.1.1.1.1.1.1.1.0 (tt, tt)))))

  -- no other register has the name of a register that wasn't printed
  misc_named : (named (codes "MISC") misc_words).0 ≡ p.event.misc
  unfolding named
  misc_named = by (p.event.misc == 0) refl (p.ppin == 0)
    where
      by : (none : Bool) → (p.event.misc == 0) ≡ none → (last : Bool)
          → (named (codes "MISC") (if none then (if last then [] ∷ [] else codes "PPIN" ∷ hexadecimal p.ppin ∷ [] ∷ []) else codes "MISC" ∷ hexadecimal p.event.misc ∷ (if last then [] ∷ [] else codes "PPIN" ∷ hexadecimal p.ppin ∷ [] ∷ []))).0
          ≡ p.event.misc
      by true is true = sym (eqb-true p.event.misc 0 is)
      by true is false = sym (eqb-true p.event.misc 0 is)
      by false is last = rw (hexadecimal_read false p.event.misc h.numbers.1.1.1.1.1.1.1.0) refl

  abbrev rest : Bool → Bool → List (List ℕ)
  rest none last = if none then (if last then [] ∷ [] else codes "PPIN" ∷ hexadecimal p.ppin ∷ [] ∷ []) else codes "MISC" ∷ hexadecimal p.event.misc ∷ (if last then [] ∷ [] else codes "PPIN" ∷ hexadecimal p.ppin ∷ [] ∷ [])

  addr_named : (named (codes "ADDR") addr_words ≡ (p.event.addr, misc_words))
  unfolding named
  addr_named = by (p.event.addr == 0) refl (p.event.misc == 0) (p.ppin == 0)
    where
      by : (here : Bool) → (p.event.addr == 0) ≡ here → (none last : Bool)
          → named (codes "ADDR") (if here then rest none last else codes "ADDR" ∷ hexadecimal p.event.addr ∷ rest none last) ≡ (p.event.addr, rest none last)
      by true is true true = ap (λ (n : ℕ). (n, rest true true)) (sym (eqb-true p.event.addr 0 is))
      by true is true false = ap (λ (n : ℕ). (n, rest true false)) (sym (eqb-true p.event.addr 0 is))
      by true is false last = ap (λ (n : ℕ). (n, rest false last)) (sym (eqb-true p.event.addr 0 is))
      by false is none last = rw (hexadecimal_read false p.event.addr h.numbers.1.1.1.1.1.1.0) refl

  registers_read : told_by_words (plain_registers p) ≡ Some (Klog.Tsc p.event.tsc p.event.addr p.event.misc)
  unfolding tsc_of
  registers_read =
      ap (λ (o : Option ℕ). read_then o (λ tsc. Some (Klog.Tsc tsc (named (codes "ADDR") addr_words).0 (named (codes "MISC") (named (codes "ADDR") addr_words).1).0))) (hexadecimal_read false p.event.tsc h.numbers.1.1.0)
      ∙ ap (λ (named_addr : ℕ × List (List ℕ)). Some (Klog.Tsc p.event.tsc named_addr.0 (named (codes "MISC") named_addr.1).0)) addr_named
      ∙ ap (λ (misc : ℕ). Some (Klog.Tsc p.event.tsc p.event.addr misc)) misc_named

  -- ---- the line of the time

  abbrev vendor : List ℕ
  vendor = decimal p.event.vendor

  abbrev id : List ℕ
  id = hexadecimal p.cpuid

  id_small : p.cpuid < 2 ^ 64
  id_small = h.numbers.1.1.1.1.1.1.1.1.1.1.1.1.1.0

  vendor_no_colon : Lacks 58 vendor
  vendor_no_colon = decimal_lacks 58 p.event.vendor (omega arith) h.numbers.0

  time_lacks : AllByRecursion (Lacks 32) (plain_time p)
  time_lacks =
      (literal_lacks 32 (codes "PROCESSOR") refl, (vendor_lacks 32 (omega arith) zero_not x_not pnd2 p.event.vendor p.cpuid colon h.numbers.0 id_small, (literal_lacks 32 (codes "TIME") refl, (decimal_lacks 32 p.event.seconds (omega arith) h.numbers.1.0, (literal_lacks 32 (codes "SOCKET") refl, (decimal_lacks 32 p.socket (omega arith) h.numbers.1.1.1.1.1.1.1.1.1.1.1.1.1.1.0, (literal_lacks 32 (codes "APIC") refl, (hex_lacks p.apic h.numbers.1.1.1.1.1.1.1.1.1.1.1.1.1.1.1.0, (literal_lacks 32 (codes "microcode") refl, (hex_lacks p.microcode h.numbers.1.1.1.1.1.1.1.1.1.1.1.1.1.1.1.1.0, tt))))))))))

  vendor_reads : decimal_of (2 ^ 64 - 1) vendor ≡ Some p.event.vendor
  vendor_reads = decimal_read (2 ^ 64 - 1) p.event.vendor (omega (arith, h.numbers.0)) (omega arith)

  is_processor : is_vendor_and_model (vendor ++ 58 ∷ id) ≡ true
  is_processor =
      ap (λ (word : List ℕ). is_some (decimal_of (2 ^ 64 - 1) word) && is_some (hexadecimal_of (after 58 (vendor ++ 58 ∷ id)))) (up_to_is 58 vendor id vendor_no_colon)
      ∙ ap (λ (o : Option ℕ). is_some o && is_some (hexadecimal_of (after 58 (vendor ++ 58 ∷ id)))) vendor_reads
      ∙ ap (λ (word : List ℕ). is_some (hexadecimal_of word)) (after_is 58 vendor id vendor_no_colon)
      ∙ ap (λ (o : Option ℕ). is_some o) (hexadecimal_read false p.cpuid id_small)

  time_read : told_by_words (plain_time p) ≡ Some (Klog.Processor p.event.seconds)
  unfolding processor_line_of
  time_read =
      ap (λ (is : Bool). provided is (read_then (decimal_of (2 ^ 64 - 1) (decimal p.event.seconds)) (λ seconds. Some (Klog.Processor seconds)))) is_processor
      ∙ ap (λ (o : Option ℕ). read_then o (λ seconds. Some (Klog.Processor seconds))) (decimal_read (2 ^ 64 - 1) p.event.seconds (omega (arith, h.numbers.1.0)) (omega arith))

  -- the text after the time
  abbrev behind_time : List ℕ
  behind_time = codes "SOCKET" ++ 32 ∷ (decimal p.socket ++ 32 ∷ (codes "APIC" ++ 32 ∷ (hexadecimal p.apic ++ 32 ∷ (codes "microcode" ++ 32 ∷ hexadecimal p.microcode))))

  abbrev behind_vendor : List ℕ
  behind_vendor = codes "TIME" ++ 32 ∷ (decimal p.event.seconds ++ 32 ∷ behind_time)

  abbrev text : List ℕ
  text = join_with_byte 32 (plain_time p)

  second : after 32 text ≡ (vendor ++ 58 ∷ id) ++ 32 ∷ behind_vendor
  second = refl

  not_cut : is_joined (after 32 (after 32 (after 32 text))) ≡ false
  not_cut =
      ap (λ (rest : List ℕ). is_joined (after 32 rest)) (after_is 32 (vendor ++ 58 ∷ id) behind_vendor (vendor_lacks 32 (omega arith) zero_not x_not pnd2 p.event.vendor p.cpuid colon h.numbers.0 id_small))
      ∙ not_joined (decimal p.event.seconds) behind_time

  vendor_is : vendor_of text ≡ Some p.event.vendor
  vendor_is =
      ap (λ (cut : Bool). if cut then None else decimal_of (2 ^ 64 - 1) (up_to 58 (after 32 text))) not_cut
      ∙ ap (λ (rest : List ℕ). decimal_of (2 ^ 64 - 1) (up_to 58 rest)) (append_assoc vendor (58 ∷ id) (32 ∷ behind_vendor))
      ∙ ap (decimal_of (2 ^ 64 - 1)) (up_to_is 58 vendor (id ++ 32 ∷ behind_vendor) vendor_no_colon)
      ∙ vendor_reads

  -- ---- the three lines, each after a head

  module _ (head : List ℕ) (own : is_own head ≡ true) (none : HasNo log_mark head) where
    pub start_line : log_line_of (head ++ (log_mark ++ join_with_byte 32 (plain_start exception p))) ≡ Plain (Part (Klog.Start p.event.cpu p.event.mcg p.event.bank p.event.status) printed_plain 0)
    start_line =
        line_read head (join_with_byte 32 (plain_start exception p)) (Klog.Start p.event.cpu p.event.mcg p.event.bank p.event.status) _ own none
        (klog_reads (plain_start exception p) (Klog.Start p.event.cpu p.event.mcg p.event.bank p.event.status) (some exception) start_lacks start_read) refl
      where
        some : (e : Bool) → 0 < length (plain_start e p)
        some true = omega arith
        some false = omega arith

    pub registers_line : log_line_of (head ++ (log_mark ++ join_with_byte 32 (plain_registers p))) ≡ Plain (Part (Klog.Tsc p.event.tsc p.event.addr p.event.misc) printed_plain 0)
    registers_line =
        line_read head (join_with_byte 32 (plain_registers p)) (Klog.Tsc p.event.tsc p.event.addr p.event.misc) _ own none
        (klog_reads (plain_registers p) (Klog.Tsc p.event.tsc p.event.addr p.event.misc) (omega arith) registers_lack registers_read) refl

    pub time_line : log_line_of (head ++ (log_mark ++ join_with_byte 32 (plain_time p))) ≡ Plain (Part (Klog.Processor p.event.seconds) printed_plain p.event.vendor)
    time_line =
        line_read head text (Klog.Processor p.event.seconds) _ own none
        (klog_reads (plain_time p) (Klog.Processor p.event.seconds) (omega arith) time_lacks time_read)
        (ap (λ (o : Option ℕ). with_vendor printed_plain p.event.seconds o) vendor_is)
