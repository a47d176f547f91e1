-- No form of the event's text holds an underscore, so the event name before it is the line's last.
use Rattle.std.proofs.Common.{◌≡◌, ℕ, zero, suc, ◌+◌, ◌^◌, ◌<◌, ◌==◌, ◌&&◌, Bool, true, false, if◌then◌else◌, nat_eq, List, [], ◌∷◌, ◌++◌, codes, decimal, take, drop, length, refl, sym, ap, ◌∙◌, arith, append_assoc, length-append, Option, Some, None}
use Rattle.std.specs.Prelude.{not, replicate}
use Rattle.std.proofs.Math.Seq.{take-append_seam}
use Rattle.std.proofs.lemmas.Bool.Decides.{nat_tests}
use Rattle.std.proofs.lemmas.List.{drop_at}
use Rattle.std.specs.List.{AllByRecursion, join_with_byte, list_all, starts_with}
use Rattle.std.specs.Option.{option_map_or}
use Rattle.ras_script.specs.LineLaws.{hexadecimal}
use Rattle.ras_script.specs.SplittingLaws.{Lacks}
use Rattle.bank_lines.specs.declared.event.TraceEvent.{TraceEvent}
use Rattle.bank_lines.specs.declared.found.Finding.TheVariants.{Nothing, Unread}
use Rattle.bank_lines.specs.TraceEvent.{event_in}
use Rattle.bank_lines.specs.Kernel.{Form, IsPrinted, Printed, data_fields, data_from, event_text, fields_of, linux_5_10, linux_6_12, linux_7_2, padded, place_field, register}
use Rattle.bank_lines.specs.Trace.{event_found, found_at, is_traced, last_mark, event_mark, one_on, trace_found}
use Rattle.bank_lines.proofs.KernelLawLemmas.{event_read, named_more, slashed_more}
use Rattle.bank_lines.proofs.KernelLemmas.{padded_lacks}
use Rattle.bank_lines.proofs.NumeralLemmas.{decimal_lacks, hexadecimal_lacks, lack_both, literal_lacks}

-- ---- bytes that fields lack

abbrev Lit : List ℕ → Type 0
Lit name = list_all (λ b. not (b == 95)) name ≡ true

with_decimal : (name : List ℕ) (n : ℕ) → Lit name → n < 2 ^ 64 → Lacks 95 (name ++ decimal n)
with_decimal name n literal small = lack_both 95 name (decimal n) (literal_lacks 95 name literal) (decimal_lacks 95 n (omega arith) small)

with_hex : (name : List ℕ) (n : ℕ) → Lit name → n < 2 ^ 64 → Lacks 95 (name ++ hexadecimal n)
with_hex name n literal small = lack_both 95 name (hexadecimal n) (literal_lacks 95 name literal) (hexadecimal_lacks 95 n (omega arith) small)

not_zero : ¬ (◌≡◌ {A = ℕ} 48 95)
not_zero e = omega (arith, e)

with_register : (name : List ℕ) (n : ℕ) → Lit name → n < 2 ^ 64 → Lacks 95 (name ++ register n)
with_register name n literal small = lack_both 95 name (register n) (literal_lacks 95 name literal) (padded_lacks 95 16 n (omega arith) not_zero small)

module _ (p : Printed) (h : IsPrinted p) where
  vendor_small : p.event.vendor < 2 ^ 64
  vendor_small = h.numbers.0

  seconds_small : p.event.seconds < 2 ^ 64
  seconds_small = h.numbers.1.0

  tsc_small : p.event.tsc < 2 ^ 64
  tsc_small = h.numbers.1.1.0

  cap_small : p.event.cap < 2 ^ 64
  cap_small = h.numbers.1.1.1.0

  mcg_small : p.event.mcg < 2 ^ 64
  mcg_small = h.numbers.1.1.1.1.0

  status_small : p.event.status < 2 ^ 64
  status_small = h.numbers.1.1.1.1.1.0

  addr_small : p.event.addr < 2 ^ 64
  addr_small = h.numbers.1.1.1.1.1.1.0

  misc_small : p.event.misc < 2 ^ 64
  misc_small = h.numbers.1.1.1.1.1.1.1.0

  ipid_small : p.ipid < 2 ^ 64
  ipid_small = h.numbers.1.1.1.1.1.1.1.1.0

  synd_small : p.synd < 2 ^ 64
  synd_small = h.numbers.1.1.1.1.1.1.1.1.1.0

  cs_small : p.cs < 2 ^ 64
  cs_small = h.numbers.1.1.1.1.1.1.1.1.1.1.0

  ip_small : p.ip < 2 ^ 64
  ip_small = h.numbers.1.1.1.1.1.1.1.1.1.1.1.0

  ppin_small : p.ppin < 2 ^ 64
  ppin_small = h.numbers.1.1.1.1.1.1.1.1.1.1.1.1.0

  cpuid_small : p.cpuid < 2 ^ 64
  cpuid_small = h.numbers.1.1.1.1.1.1.1.1.1.1.1.1.1.0

  socket_small : p.socket < 2 ^ 64
  socket_small = h.numbers.1.1.1.1.1.1.1.1.1.1.1.1.1.1.0

  apic_small : p.apic < 2 ^ 64
  apic_small = h.numbers.1.1.1.1.1.1.1.1.1.1.1.1.1.1.1.0

  microcode_small : p.microcode < 2 ^ 64
  microcode_small = h.numbers.1.1.1.1.1.1.1.1.1.1.1.1.1.1.1.1.0

  bank_small : p.event.bank < 2 ^ 64
  bank_small = omega (arith, h.bank)

  place_lacks : Lacks 95 (place_field p)
  place_lacks =
      lack_both 95 (codes " RIP: ") (padded 2 p.cs ++ codes ":<" ++ register p.ip ++ codes ">") (literal_lacks 95 (codes " RIP: ") refl)
      (lack_both 95 (padded 2 p.cs ++ codes ":<" ++ register p.ip) (codes ">")
      (lack_both 95 (padded 2 p.cs ++ codes ":<") (register p.ip)
      (lack_both 95 (padded 2 p.cs) (codes ":<") (padded_lacks 95 2 p.cs (omega arith) not_zero cs_small) (literal_lacks 95 (codes ":<") refl))
      (padded_lacks 95 16 p.ip (omega arith) not_zero ip_small))
      (literal_lacks 95 (codes ">") refl))

  hex_lacks : (n : ℕ) → n < 2 ^ 64 → Lacks 95 (hexadecimal n)
  hex_lacks n small = hexadecimal_lacks 95 n (omega arith) small

  reg_lacks : (n : ℕ) → n < 2 ^ 64 → Lacks 95 (register n)
  reg_lacks n small = padded_lacks 95 16 n (omega arith) not_zero small

  first_lack : (spaces : ℕ) (more : List (List ℕ)) → AllByRecursion (Lacks 95) more → Lacks 95 (replicate spaces 32)
      → AllByRecursion (Lacks 95) ((replicate spaces 32 ++ (codes "CPU: " ++ decimal p.event.cpu)) ∷ (codes " MCGc/s: " ++ (hexadecimal p.event.cap ++ 47 ∷ hexadecimal p.event.mcg)) ∷ (codes " MC" ++ (decimal p.event.bank ++ 58 ∷ 32 ∷ register p.event.status)) ∷ (codes " IPID: " ++ register p.ipid) ∷ more)
  first_lack spaces more all blank =
      let colon : ¬ (◌≡◌ {A = ℕ} 58 95) = λ e. omega (arith, e) in
      let space : ¬ (◌≡◌ {A = ℕ} 32 95) = λ e. omega (arith, e) in
      let slash : ¬ (◌≡◌ {A = ℕ} 47 95) = λ e. omega (arith, e) in (
        lack_both 95 (replicate spaces 32) (codes "CPU: " ++ decimal p.event.cpu) blank (with_decimal (codes "CPU: ") p.event.cpu refl (omega (arith, h.cpu))),
        (
          lack_both 95 (codes " MCGc/s: ") (hexadecimal p.event.cap ++ 47 ∷ hexadecimal p.event.mcg) (literal_lacks 95 (codes " MCGc/s: ") refl)
              (lack_both 95 (hexadecimal p.event.cap) (47 ∷ hexadecimal p.event.mcg) (hex_lacks p.event.cap cap_small) (slash, hex_lacks p.event.mcg mcg_small)),
          (
            lack_both 95 (codes " MC") (decimal p.event.bank ++ 58 ∷ 32 ∷ register p.event.status) (literal_lacks 95 (codes " MC") refl)
                (lack_both 95 (decimal p.event.bank) (58 ∷ 32 ∷ register p.event.status) (decimal_lacks 95 p.event.bank (omega arith) bank_small) (colon, (space, reg_lacks p.event.status status_small))),
            (with_register (codes " IPID: ") p.ipid refl ipid_small, all),
          ),
        ),
      )

  slashed_lack : AllByRecursion (Lacks 95) (
      (codes " ADDR/MISC/SYND: " ++ (register p.event.addr ++ 47 ∷ (register p.event.misc ++ 47 ∷ register p.synd)))
      ∷ place_field p ∷ (codes " TSC: " ++ hexadecimal p.event.tsc) ∷ (codes " PROCESSOR: " ++ (decimal p.event.vendor ++ 58 ∷ hexadecimal p.cpuid))
      ∷ (codes " TIME: " ++ decimal p.event.seconds) ∷ (codes " SOCKET: " ++ decimal p.socket) ∷ (codes " APIC: " ++ hexadecimal p.apic) ∷ [])
  slashed_lack =
      let colon : ¬ (◌≡◌ {A = ℕ} 58 95) = λ e. omega (arith, e) in
      let slash : ¬ (◌≡◌ {A = ℕ} 47 95) = λ e. omega (arith, e) in
      let two : Lacks 95 (register p.event.misc ++ 47 ∷ register p.synd) = lack_both 95 (register p.event.misc) (47 ∷ register p.synd) (reg_lacks p.event.misc misc_small) (slash, reg_lacks p.synd synd_small) in
      let three : Lacks 95 (register p.event.addr ++ 47 ∷ (register p.event.misc ++ 47 ∷ register p.synd)) = lack_both 95 (register p.event.addr) (47 ∷ (register p.event.misc ++ 47 ∷ register p.synd)) (reg_lacks p.event.addr addr_small) (slash, two) in
      let processor : Lacks 95 (decimal p.event.vendor ++ 58 ∷ hexadecimal p.cpuid) = lack_both 95 (decimal p.event.vendor) (58 ∷ hexadecimal p.cpuid) (decimal_lacks 95 p.event.vendor (omega arith) vendor_small) (colon, hex_lacks p.cpuid cpuid_small) in (
        lack_both 95 (codes " ADDR/MISC/SYND: ") (register p.event.addr ++ 47 ∷ (register p.event.misc ++ 47 ∷ register p.synd)) (literal_lacks 95 (codes " ADDR/MISC/SYND: ") refl) three,
        (
          place_lacks,
          (
            with_hex (codes " TSC: ") p.event.tsc refl tsc_small,
            (
              lack_both 95 (codes " PROCESSOR: ") (decimal p.event.vendor ++ 58 ∷ hexadecimal p.cpuid) (literal_lacks 95 (codes " PROCESSOR: ") refl) processor,
              (with_decimal (codes " TIME: ") p.event.seconds refl seconds_small, (with_decimal (codes " SOCKET: ") p.socket refl socket_small, (with_hex (codes " APIC: ") p.apic refl apic_small, tt))),
            ),
          ),
        ),
      )

  named_lack : (more : List (List ℕ)) → AllByRecursion (Lacks 95) more → AllByRecursion (Lacks 95) (
      (codes " ADDR: " ++ register p.event.addr) ∷ (codes " MISC: " ++ register p.event.misc) ∷ (codes " SYND: " ++ register p.synd) ∷ place_field p
      ∷ (codes " TSC: " ++ hexadecimal p.event.tsc) ∷ (codes " PPIN: " ++ hexadecimal p.ppin) ∷ (codes " vendor: " ++ decimal p.event.vendor) ∷ (codes " CPUID: " ++ hexadecimal p.cpuid)
      ∷ (codes " time: " ++ decimal p.event.seconds) ∷ (codes " socket: " ++ decimal p.socket) ∷ (codes " APIC: " ++ hexadecimal p.apic) ∷ (codes " microcode: " ++ hexadecimal p.microcode) ∷ more)
  named_lack more all = (
    with_register (codes " ADDR: ") p.event.addr refl addr_small,
    (
      with_register (codes " MISC: ") p.event.misc refl misc_small,
      (
        with_register (codes " SYND: ") p.synd refl synd_small,
        (
          place_lacks,
          (
            with_hex (codes " TSC: ") p.event.tsc refl tsc_small,
            (
              with_hex (codes " PPIN: ") p.ppin refl ppin_small,
              (
                with_decimal (codes " vendor: ") p.event.vendor refl vendor_small,
                (
                  with_hex (codes " CPUID: ") p.cpuid refl cpuid_small,
                  (with_decimal (codes " time: ") p.event.seconds refl seconds_small, (with_decimal (codes " socket: ") p.socket refl socket_small, (with_hex (codes " APIC: ") p.apic refl apic_small, (with_hex (codes " microcode: ") p.microcode refl microcode_small, all)))),
                ),
              ),
            ),
          ),
        ),
      ),
    ),
  )

-- ---- vendor data

closed : (name : List ℕ) (byte : ℕ) → Lit name → byte < 2 ^ 64 → Lacks 95 (name ++ (hexadecimal byte ++ codes "}"))
closed name byte literal small =
    lack_both 95 name (hexadecimal byte ++ codes "}") (literal_lacks 95 name literal)
    (lack_both 95 (hexadecimal byte) (codes "}") (hexadecimal_lacks 95 byte (omega arith) small) (literal_lacks 95 (codes "}") refl))

bytes_lack : (byte : ℕ) (bytes : List ℕ) → byte < 2 ^ 64 → AllByRecursion (λ n. n < 2 ^ 64) bytes → AllByRecursion (Lacks 95) (data_from byte bytes)
bytes_lack byte [] small all = (closed (codes "0x") byte refl small, tt)
bytes_lack byte (first ∷ bytes) small all = (with_hex (codes "0x") first refl all.0, bytes_lack byte bytes small all.1)

data_lack : (byte : ℕ) (bytes : List ℕ) → byte < 2 ^ 64 → AllByRecursion (λ n. n < 2 ^ 64) bytes → AllByRecursion (Lacks 95) (data_fields byte bytes)
data_lack byte [] small all = (closed (codes " vendor data: {0x") byte refl small, tt)
data_lack byte (first ∷ bytes) small all = (with_hex (codes " vendor data: {0x") first refl all.0, bytes_lack byte bytes small all.1)

spaces_lack : (n : ℕ) → Lacks 95 (replicate n 32)
spaces_lack zero = tt
spaces_lack (suc n) = ((λ (e : ◌≡◌ {A = ℕ} 32 95). omega (arith, e)), spaces_lack n)

joined_lack : (fields : List (List ℕ)) → AllByRecursion (Lacks 95) fields → Lacks 95 (join_with_byte 44 fields)
joined_lack [] all = tt
joined_lack (field ∷ []) all = all.0
joined_lack (field ∷ next ∷ fields) all =
    let comma : ¬ (◌≡◌ {A = ℕ} 44 95) = λ e. omega (arith, e) in
    lack_both 95 field (44 ∷ join_with_byte 44 (next ∷ fields)) all.0 (comma, joined_lack (next ∷ fields) all.1)

fields_lack : (form : Form) (p : Printed) → IsPrinted p → AllByRecursion (Lacks 95) (fields_of form p)
fields_lack linux_5_10 p h = first_lack p h zero (slashed_more p) (slashed_lack p h) tt
fields_lack linux_6_12 p h = first_lack p h zero (named_more p []) (named_lack p h [] tt) tt
fields_lack linux_7_2 p h =
    let n = h.numbers.1.1.1.1.1.1.1.1.1.1.1.1.1.1.1.1.1 in
    first_lack p h zero (named_more p (data_fields p.byte p.bytes)) (named_lack p h (data_fields p.byte p.bytes) (data_lack p.byte p.bytes n.0 n.1)) tt

text_lacks : (form : Form) (p : Printed) (spaces : ℕ) → IsPrinted p → Lacks 95 (replicate spaces 32 ++ event_text form p)
text_lacks form p spaces h = lack_both 95 (replicate spaces 32) (event_text form p) (spaces_lack spaces) (joined_lack (fields_of form p) (fields_lack form p h))

-- ---- the line's last mark

other_byte : (b : ℕ) → ¬ (b ≡ 95) → nat_eq 95 b ≡ false
other_byte b other = grind (arith, nat_tests, other)

fails : (x y z t : Bool) → t ≡ false → (x && (y && (z && t))) ≡ false
fails true true true t is = is
fails true true false t is = refl
fails true false z t is = refl
fails false y z t is = refl

and_first : (t u : Bool) → t ≡ false → (t && u) ≡ false
and_first true u is = absurd cc
and_first false u is = refl

-- no event name begins where the fourth byte isn't an underscore
starts_none : (b : ℕ) (text : List ℕ) → Lacks 95 text → starts_with nat_eq (b ∷ text) event_mark ≡ false
starts_none b [] lacks = fails (nat_eq 109 b) true true false refl
starts_none b (c ∷ []) lacks = fails (nat_eq 109 b) (nat_eq 99 c) true false refl
starts_none b (c ∷ d ∷ []) lacks = fails (nat_eq 109 b) (nat_eq 99 c) (nat_eq 101 d) false refl
starts_none b (c ∷ d ∷ e ∷ rest) lacks = fails (nat_eq 109 b) (nat_eq 99 c) (nat_eq 101 d) _ (and_first (nat_eq 95 e) _ (other_byte e lacks.1.1.0))

none_in : (text : List ℕ) → Lacks 95 text → last_mark text ≡ None
none_in [] lacks = refl
none_in (b ∷ text) lacks =
    ap (λ (o : Option ℕ). one_on o (starts_with nat_eq (b ∷ text) event_mark)) (none_in text lacks.1)
    ∙ ap (one_on None) (starts_none b text lacks.1)

mark_first : (text : List ℕ) → Lacks 95 text → last_mark (event_mark ++ text) ≡ Some 0
mark_first text lacks =
    let rest : List ℕ = codes "record: " ++ text in
    let none : last_mark rest ≡ None = none_in rest (lack_both 95 (codes "record: ") text (literal_lacks 95 (codes "record: ") refl) lacks) in
    ap (λ (o : Option ℕ). one_on (one_on (one_on (one_on o false) false) false) true) none

mark_behind : (before text : List ℕ) → Lacks 95 text → last_mark (before ++ (event_mark ++ text)) ≡ Some (length before)
mark_behind [] text lacks = mark_first text lacks
mark_behind (b ∷ before) text lacks =
    let next : length before + 1 ≡ suc (length before) = omega arith in
    ap (λ (o : Option ℕ). one_on o (starts_with nat_eq (b ∷ (before ++ (event_mark ++ text))) event_mark)) (mark_behind before text lacks) ∙ ap Some next

-- the finding in a line whose text after the event name is read, and has no underscore
found_behind : (boot : ℕ) (before text : List ℕ) (e : TraceEvent) → is_traced before ≡ true → Lacks 95 text → event_in text ≡ Some e → trace_found boot (before ++ (event_mark ++ text)) ≡ event_found boot e
found_behind boot before text e traced lacks reads =
    let line : List ℕ = before ++ (event_mark ++ text) in
    let front : take (length before) line ≡ before = take-append_seam before (event_mark ++ text) in
    let size : length before + 12 ≡ length (before ++ event_mark) = omega (arith, length-append before event_mark) in
    let behind : drop (length before + 12) line ≡ text = ap (drop (length before + 12)) (sym (append_assoc before event_mark text)) ∙ drop_at (before ++ event_mark) text (length before + 12) (sym size) in
    ap (λ (o : Option ℕ). option_map_or (found_at boot line) o Nothing) (mark_behind before text lacks)
    ∙ ap (λ (t : List ℕ). if is_traced t then option_map_or (event_found boot) (event_in (drop (length before + 12) line)) Unread else Unread) front
    ∙ ap (λ (t : Bool). if t then option_map_or (event_found boot) (event_in (drop (length before + 12) line)) Unread else Unread) traced
    ∙ ap (λ (t : List ℕ). option_map_or (event_found boot) (event_in t) Unread) behind
    ∙ ap (λ (o : Option TraceEvent). option_map_or (event_found boot) o Unread) reads

pub line_read : (boot : ℕ) (before : List ℕ) (form : Form) (p : Printed) (spaces : ℕ) → IsPrinted p → is_traced before ≡ true
    → trace_found boot (before ++ (event_mark ++ (replicate spaces 32 ++ event_text form p))) ≡ event_found boot p.event
line_read boot before form p spaces h traced =
    found_behind boot before (replicate spaces 32 ++ event_text form p) p.event traced (text_lacks form p spaces h) (event_read form p spaces h)
