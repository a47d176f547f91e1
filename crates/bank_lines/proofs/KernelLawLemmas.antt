-- Each form of the event's text is read.
use Rattle.std.proofs.Common.{◌≡◌, ℕ, zero, suc, ◌-◌, ◌^◌, ◌<◌, ◌==◌, true, false, List, [], ◌∷◌, ◌++◌, codes, decimal, refl, sym, ap, ◌∙◌, arith, append_assoc, Option, Some}
use Rattle.std.specs.Prelude.{not, replicate}
use Rattle.std.proofs.lemmas.Fmt.{decimal_nonempty}
use Rattle.std.specs.List.{AllByRecursion, join_with_byte, list_all}
use Rattle.std.specs.Option.{option_map_or}
use Rattle.ras_klog.specs.Reading.{read_then}
use Rattle.ras_script.proofs.WrittenNumberLemmas.{decimal_read, hexadecimal_read}
use Rattle.ras_script.specs.LineLaws.{hexadecimal}
use Rattle.ras_script.specs.Lines.{without_last}
use Rattle.ras_script.specs.SplittingLaws.{Lacks}
use Rattle.bank_lines.specs.declared.event.TraceEvent.{TraceEvent}
use Rattle.bank_lines.specs.declared.event.Fields.{Fields}
use Rattle.bank_lines.specs.declared.event.Global.{Global}
use Rattle.bank_lines.specs.declared.event.Registers.{Registers}
use Rattle.bank_lines.specs.TraceEvent.{bank_told, event_in, whole_event, fields_after, global_told, no_fields, status_told, part_told_by, tellings, took}
use Rattle.bank_lines.specs.Kernel.{Form, IsPrinted, Printed, data_fields, data_from, event_text, first_fields, linux_5_10, linux_6_12, linux_7_2, padded, place_field, register}
use Rattle.bank_lines.specs.Parts.{after_spaces}
use Rattle.bank_lines.proofs.KernelLemmas.{bank_is_named, fields_split, global_read, no_global, padded_lacks, processor_read, register_read, registers_read}
use Rattle.bank_lines.proofs.NumeralLemmas.{decimal_lacks, hexadecimal_lacks, lack_both, literal_lacks}

-- ---- steps

step : (f g : Fields) (part : List ℕ) (parts : List (List ℕ)) → took f part ≡ Some g → fields_after f (part ∷ parts) ≡ fields_after g parts
step f g part parts is = ap (λ (o : Option Fields). read_then o (λ h. fields_after h parts)) is

spaces_passed : (n : ℕ) (text : List ℕ) → after_spaces (replicate n 32 ++ text) ≡ after_spaces text
spaces_passed zero text = refl
spaces_passed (suc n) text = spaces_passed n text

-- ---- bytes that fields lack

abbrev Lit : List ℕ → Type 0
Lit name = list_all (λ b. not (b == 44)) name ≡ true

with_decimal : (name : List ℕ) (n : ℕ) → Lit name → n < 2 ^ 64 → Lacks 44 (name ++ decimal n)
with_decimal name n literal small = lack_both 44 name (decimal n) (literal_lacks 44 name literal) (decimal_lacks 44 n (omega arith) small)

with_hex : (name : List ℕ) (n : ℕ) → Lit name → n < 2 ^ 64 → Lacks 44 (name ++ hexadecimal n)
with_hex name n literal small = lack_both 44 name (hexadecimal n) (literal_lacks 44 name literal) (hexadecimal_lacks 44 n (omega arith) small)

no_comma : ¬ (◌≡◌ {A = ℕ} 48 44)
no_comma e = omega (arith, e)

with_register : (name : List ℕ) (n : ℕ) → Lit name → n < 2 ^ 64 → Lacks 44 (name ++ register n)
with_register name n literal small = lack_both 44 name (register n) (literal_lacks 44 name literal) (padded_lacks 44 16 n (omega arith) no_comma small)

module _ (p : Printed) (h : IsPrinted p) where
  abbrev f1 : Fields
  f1 = record no_fields { cpu = Some p.event.cpu }

  abbrev f2 : Fields
  f2 = record f1 { global = Some (record { cap = p.event.cap; mcg = p.event.mcg }) }

  abbrev f3 : Fields
  f3 = record f2 { bank = Some (record { number = p.event.bank; status = p.event.status }) }

  abbrev f4 : Fields
  f4 = record f3 { addr = Some p.event.addr; misc = Some p.event.misc }

  abbrev f5 : Fields
  f5 = record f4 { tsc = Some p.event.tsc }

  abbrev f6 : Fields
  f6 = record f5 { vendor = Some p.event.vendor }

  abbrev f7 : Fields
  f7 = record f6 { seconds = Some p.event.seconds }

  vendor_small : p.event.vendor < 2 ^ 64
  vendor_small = h.numbers.0

  seconds_small : p.event.seconds < 2 ^ 64
  seconds_small = h.numbers.1.0

  tsc_small : p.event.tsc < 2 ^ 64
  tsc_small = h.numbers.1.1.0

  cap_small : p.event.cap < 2 ^ 64
  cap_small = h.numbers.1.1.1.0

  mcg_small : p.event.mcg < 2 ^ 64
  mcg_small = h.numbers.1.1.1.1.0

  status_small : p.event.status < 2 ^ 64
  status_small = h.numbers.1.1.1.1.1.0

  addr_small : p.event.addr < 2 ^ 64
  addr_small = h.numbers.1.1.1.1.1.1.0

  misc_small : p.event.misc < 2 ^ 64
  misc_small = h.numbers.1.1.1.1.1.1.1.0

  ipid_small : p.ipid < 2 ^ 64
  ipid_small = h.numbers.1.1.1.1.1.1.1.1.0

  synd_small : p.synd < 2 ^ 64
  synd_small = h.numbers.1.1.1.1.1.1.1.1.1.0

  cs_small : p.cs < 2 ^ 64
  cs_small = h.numbers.1.1.1.1.1.1.1.1.1.1.0

  ip_small : p.ip < 2 ^ 64
  ip_small = h.numbers.1.1.1.1.1.1.1.1.1.1.1.0

  ppin_small : p.ppin < 2 ^ 64
  ppin_small = h.numbers.1.1.1.1.1.1.1.1.1.1.1.1.0

  cpuid_small : p.cpuid < 2 ^ 64
  cpuid_small = h.numbers.1.1.1.1.1.1.1.1.1.1.1.1.1.0

  socket_small : p.socket < 2 ^ 64
  socket_small = h.numbers.1.1.1.1.1.1.1.1.1.1.1.1.1.1.0

  apic_small : p.apic < 2 ^ 64
  apic_small = h.numbers.1.1.1.1.1.1.1.1.1.1.1.1.1.1.1.0

  microcode_small : p.microcode < 2 ^ 64
  microcode_small = h.numbers.1.1.1.1.1.1.1.1.1.1.1.1.1.1.1.1.0

  -- ---- the fields of all forms

  cpu_took : (spaces : ℕ) → took no_fields (replicate spaces 32 ++ (codes "CPU: " ++ decimal p.event.cpu)) ≡ Some f1
  cpu_took spaces =
      ap (part_told_by tellings no_fields) (spaces_passed spaces (codes "CPU: " ++ decimal p.event.cpu))
      ∙ ap (λ (o : Option ℕ). read_then o (λ n. Some (record no_fields { cpu = Some n }))) (decimal_read 65535 p.event.cpu (omega (arith, h.cpu)) (omega arith))

  global_took : took f1 (codes " MCGc/s: " ++ (hexadecimal p.event.cap ++ 47 ∷ hexadecimal p.event.mcg)) ≡ Some f2
  global_took = ap (λ (o : Option Global). read_then o (λ g. Some (record f1 { global = Some g }))) (global_read p.event.cap p.event.mcg cap_small mcg_small)

  bank_small : p.event.bank < 2 ^ 64
  bank_small = omega (arith, h.bank)

  bank_took : took f2 (codes " MC" ++ (decimal p.event.bank ++ 58 ∷ 32 ∷ register p.event.status)) ≡ Some f3
  bank_took =
      let word : List ℕ = decimal p.event.bank in
      let value : List ℕ = register p.event.status in
      let rest : List ℕ = 58 ∷ 32 ∷ value in
      let part : List ℕ = 77 ∷ 67 ∷ (word ++ rest) in
      ap (λ (o : Option (List ℕ)). option_map_or (global_told f2) o (bank_told f2 part)) (no_global word rest (decimal_nonempty p.event.bank bank_small) (decimal_lacks 71 p.event.bank (omega arith) bank_small))
      ∙ ap (λ (o : Option (ℕ × List ℕ)). option_map_or (status_told f2) o (Some f2)) (bank_is_named word value p.event.bank (decimal_lacks 58 p.event.bank (omega arith) bank_small) (decimal_read 255 p.event.bank (omega (arith, h.bank)) (omega arith)))
      ∙ ap (λ (o : Option ℕ). read_then o (λ status. Some (record f2 { bank = Some (record { number = p.event.bank; status = status }) }))) (register_read p.event.status status_small)

  -- the fields with which all forms begin, after any number of spaces, are read
  first_after : (spaces : ℕ) (more : List (List ℕ))
      → fields_after no_fields ((replicate spaces 32 ++ (codes "CPU: " ++ decimal p.event.cpu)) ∷ (codes " MCGc/s: " ++ (hexadecimal p.event.cap ++ 47 ∷ hexadecimal p.event.mcg)) ∷ (codes " MC" ++ (decimal p.event.bank ++ 58 ∷ 32 ∷ register p.event.status)) ∷ (codes " IPID: " ++ register p.ipid) ∷ more)
      ≡ fields_after f3 more
  first_after spaces more =
      let t4 : List (List ℕ) = more in
      let t3 : List (List ℕ) = (codes " IPID: " ++ register p.ipid) ∷ t4 in
      let t2 : List (List ℕ) = (codes " MC" ++ (decimal p.event.bank ++ 58 ∷ 32 ∷ register p.event.status)) ∷ t3 in
      let t1 : List (List ℕ) = (codes " MCGc/s: " ++ (hexadecimal p.event.cap ++ 47 ∷ hexadecimal p.event.mcg)) ∷ t2 in
      step no_fields f1 (replicate spaces 32 ++ (codes "CPU: " ++ decimal p.event.cpu)) t1 (cpu_took spaces)
      ∙ step f1 f2 (codes " MCGc/s: " ++ (hexadecimal p.event.cap ++ 47 ∷ hexadecimal p.event.mcg)) t2 global_took
      ∙ step f2 f3 (codes " MC" ++ (decimal p.event.bank ++ 58 ∷ 32 ∷ register p.event.status)) t3 bank_took
      ∙ step f3 f3 (codes " IPID: " ++ register p.ipid) t4 refl

  -- ---- the first form

  registers_took : took f3 (codes " ADDR/MISC/SYND: " ++ (register p.event.addr ++ 47 ∷ (register p.event.misc ++ 47 ∷ register p.synd))) ≡ Some f4
  registers_took =
      ap (λ (o : Option Registers). read_then o (λ r. Some (record f3 { addr = Some r.addr; misc = Some r.misc }))) (registers_read p.event.addr p.event.misc p.synd addr_small misc_small synd_small)

  tsc_took : took f4 (codes " TSC: " ++ hexadecimal p.event.tsc) ≡ Some f5
  tsc_took = ap (λ (o : Option ℕ). read_then o (λ n. Some (record f4 { tsc = Some n }))) (hexadecimal_read false p.event.tsc tsc_small)

  processor_took : took f5 (codes " PROCESSOR: " ++ (decimal p.event.vendor ++ 58 ∷ hexadecimal p.cpuid)) ≡ Some f6
  processor_took = ap (λ (o : Option ℕ). read_then o (λ n. Some (record f5 { vendor = Some n }))) (processor_read p.event.vendor p.cpuid vendor_small cpuid_small)

  time_took : took f6 (codes " TIME: " ++ decimal p.event.seconds) ≡ Some f7
  time_took = ap (λ (o : Option ℕ). read_then o (λ n. Some (record f6 { seconds = Some n }))) (decimal_read (2 ^ 64 - 1) p.event.seconds (omega (arith, seconds_small)) (omega arith))

  slashed_after : fields_after f3 (
      (codes " ADDR/MISC/SYND: " ++ (register p.event.addr ++ 47 ∷ (register p.event.misc ++ 47 ∷ register p.synd)))
      ∷ place_field p ∷ (codes " TSC: " ++ hexadecimal p.event.tsc) ∷ (codes " PROCESSOR: " ++ (decimal p.event.vendor ++ 58 ∷ hexadecimal p.cpuid))
      ∷ (codes " TIME: " ++ decimal p.event.seconds) ∷ (codes " SOCKET: " ++ decimal p.socket) ∷ []) ≡ Some f7
  slashed_after =
      let t6 : List (List ℕ) = [] in
      let t5 : List (List ℕ) = (codes " SOCKET: " ++ decimal p.socket) ∷ t6 in
      let t4 : List (List ℕ) = (codes " TIME: " ++ decimal p.event.seconds) ∷ t5 in
      let t3 : List (List ℕ) = (codes " PROCESSOR: " ++ (decimal p.event.vendor ++ 58 ∷ hexadecimal p.cpuid)) ∷ t4 in
      let t2 : List (List ℕ) = (codes " TSC: " ++ hexadecimal p.event.tsc) ∷ t3 in
      let t1 : List (List ℕ) = (place_field p) ∷ t2 in
      step f3 f4 (codes " ADDR/MISC/SYND: " ++ (register p.event.addr ++ 47 ∷ (register p.event.misc ++ 47 ∷ register p.synd))) t1 registers_took
      ∙ step f4 f4 (place_field p) t2 refl
      ∙ step f4 f5 (codes " TSC: " ++ hexadecimal p.event.tsc) t3 tsc_took
      ∙ step f5 f6 (codes " PROCESSOR: " ++ (decimal p.event.vendor ++ 58 ∷ hexadecimal p.cpuid)) t4 processor_took
      ∙ step f6 f7 (codes " TIME: " ++ decimal p.event.seconds) t5 time_took
      ∙ step f7 f7 (codes " SOCKET: " ++ decimal p.socket) t6 refl

  -- ---- the other forms

  abbrev f3a : Fields
  f3a = record f3 { addr = Some p.event.addr }

  addr_took : took f3 (codes " ADDR: " ++ register p.event.addr) ≡ Some f3a
  addr_took = ap (λ (o : Option ℕ). read_then o (λ n. Some (record f3 { addr = Some n }))) (register_read p.event.addr addr_small)

  misc_took : took f3a (codes " MISC: " ++ register p.event.misc) ≡ Some f4
  misc_took = ap (λ (o : Option ℕ). read_then o (λ n. Some (record f3a { misc = Some n }))) (register_read p.event.misc misc_small)

  vendor_took : took f5 (codes " vendor: " ++ decimal p.event.vendor) ≡ Some f6
  vendor_took = ap (λ (o : Option ℕ). read_then o (λ n. Some (record f5 { vendor = Some n }))) (decimal_read (2 ^ 64 - 1) p.event.vendor (omega (arith, vendor_small)) (omega arith))

  seconds_took : took f6 (codes " time: " ++ decimal p.event.seconds) ≡ Some f7
  seconds_took = ap (λ (o : Option ℕ). read_then o (λ n. Some (record f6 { seconds = Some n }))) (decimal_read (2 ^ 64 - 1) p.event.seconds (omega (arith, seconds_small)) (omega arith))

  named_after : (more : List (List ℕ)) → fields_after f7 more ≡ Some f7 → fields_after f3 (
      (codes " ADDR: " ++ register p.event.addr) ∷ (codes " MISC: " ++ register p.event.misc) ∷ (codes " SYND: " ++ register p.synd) ∷ place_field p
      ∷ (codes " TSC: " ++ hexadecimal p.event.tsc) ∷ (codes " PPIN: " ++ hexadecimal p.ppin) ∷ (codes " vendor: " ++ decimal p.event.vendor) ∷ (codes " CPUID: " ++ hexadecimal p.cpuid)
      ∷ (codes " time: " ++ decimal p.event.seconds) ∷ (codes " socket: " ++ decimal p.socket) ∷ (codes " APIC: " ++ hexadecimal p.apic) ∷ more) ≡ Some f7
  named_after more rest =
      let t11 : List (List ℕ) = more in
      let t10 : List (List ℕ) = (codes " APIC: " ++ hexadecimal p.apic) ∷ t11 in
      let t9 : List (List ℕ) = (codes " socket: " ++ decimal p.socket) ∷ t10 in
      let t8 : List (List ℕ) = (codes " time: " ++ decimal p.event.seconds) ∷ t9 in
      let t7 : List (List ℕ) = (codes " CPUID: " ++ hexadecimal p.cpuid) ∷ t8 in
      let t6 : List (List ℕ) = (codes " vendor: " ++ decimal p.event.vendor) ∷ t7 in
      let t5 : List (List ℕ) = (codes " PPIN: " ++ hexadecimal p.ppin) ∷ t6 in
      let t4 : List (List ℕ) = (codes " TSC: " ++ hexadecimal p.event.tsc) ∷ t5 in
      let t3 : List (List ℕ) = (place_field p) ∷ t4 in
      let t2 : List (List ℕ) = (codes " SYND: " ++ register p.synd) ∷ t3 in
      let t1 : List (List ℕ) = (codes " MISC: " ++ register p.event.misc) ∷ t2 in
      step f3 f3a (codes " ADDR: " ++ register p.event.addr) t1 addr_took
      ∙ step f3a f4 (codes " MISC: " ++ register p.event.misc) t2 misc_took
      ∙ step f4 f4 (codes " SYND: " ++ register p.synd) t3 refl
      ∙ step f4 f4 (place_field p) t4 refl
      ∙ step f4 f5 (codes " TSC: " ++ hexadecimal p.event.tsc) t5 tsc_took
      ∙ step f5 f5 (codes " PPIN: " ++ hexadecimal p.ppin) t6 refl
      ∙ step f5 f6 (codes " vendor: " ++ decimal p.event.vendor) t7 vendor_took
      ∙ step f6 f6 (codes " CPUID: " ++ hexadecimal p.cpuid) t8 refl
      ∙ step f6 f7 (codes " time: " ++ decimal p.event.seconds) t9 seconds_took
      ∙ step f7 f7 (codes " socket: " ++ decimal p.socket) t10 refl
      ∙ step f7 f7 (codes " APIC: " ++ hexadecimal p.apic) t11 refl
      ∙ rest

  -- the bytes of vendor data after a part that isn't read, without the last byte, change nothing
  bytes_after : (byte : ℕ) (bytes part : List ℕ) → took f7 part ≡ Some f7 → fields_after f7 (without_last (part ∷ data_from byte bytes)) ≡ Some f7
  bytes_after byte [] part is = step f7 f7 part [] is
  bytes_after byte (first ∷ bytes) part is =
      step f7 f7 part (without_last ((codes "0x" ++ hexadecimal first) ∷ data_from byte bytes)) is
      ∙ bytes_after byte bytes (codes "0x" ++ hexadecimal first) refl

  data_after : (byte : ℕ) (bytes : List ℕ) → fields_after f7 (without_last ((codes " microcode: " ++ hexadecimal p.microcode) ∷ data_fields byte bytes)) ≡ Some f7
  data_after byte [] = step f7 f7 (codes " microcode: " ++ hexadecimal p.microcode) [] refl
  data_after byte (first ∷ bytes) =
      step f7 f7 (codes " microcode: " ++ hexadecimal p.microcode) (without_last ((codes " vendor data: {0x" ++ hexadecimal first) ∷ data_from byte bytes)) refl
      ∙ bytes_after byte bytes (codes " vendor data: {0x" ++ hexadecimal first) refl

  -- ---- no field has a comma

  place_lacks : Lacks 44 (place_field p)
  place_lacks =
      lack_both 44 (codes " RIP: ") (padded 2 p.cs ++ codes ":<" ++ register p.ip ++ codes ">") (literal_lacks 44 (codes " RIP: ") refl)
      (lack_both 44 (padded 2 p.cs ++ codes ":<" ++ register p.ip) (codes ">")
      (lack_both 44 (padded 2 p.cs ++ codes ":<") (register p.ip)
      (lack_both 44 (padded 2 p.cs) (codes ":<") (padded_lacks 44 2 p.cs (omega arith) no_comma cs_small) (literal_lacks 44 (codes ":<") refl))
      (padded_lacks 44 16 p.ip (omega arith) no_comma ip_small))
      (literal_lacks 44 (codes ">") refl))

  hex_lacks : (n : ℕ) → n < 2 ^ 64 → Lacks 44 (hexadecimal n)
  hex_lacks n small = hexadecimal_lacks 44 n (omega arith) small

  reg_lacks : (n : ℕ) → n < 2 ^ 64 → Lacks 44 (register n)
  reg_lacks n small = padded_lacks 44 16 n (omega arith) no_comma small

  first_lack : (spaces : ℕ) (more : List (List ℕ)) → AllByRecursion (Lacks 44) more → Lacks 44 (replicate spaces 32)
      → AllByRecursion (Lacks 44) ((replicate spaces 32 ++ (codes "CPU: " ++ decimal p.event.cpu)) ∷ (codes " MCGc/s: " ++ (hexadecimal p.event.cap ++ 47 ∷ hexadecimal p.event.mcg)) ∷ (codes " MC" ++ (decimal p.event.bank ++ 58 ∷ 32 ∷ register p.event.status)) ∷ (codes " IPID: " ++ register p.ipid) ∷ more)
  first_lack spaces more all blank =
      let colon : ¬ (◌≡◌ {A = ℕ} 58 44) = λ e. omega (arith, e) in
      let space : ¬ (◌≡◌ {A = ℕ} 32 44) = λ e. omega (arith, e) in
      let slash : ¬ (◌≡◌ {A = ℕ} 47 44) = λ e. omega (arith, e) in (
        lack_both 44 (replicate spaces 32) (codes "CPU: " ++ decimal p.event.cpu) blank (with_decimal (codes "CPU: ") p.event.cpu refl (omega (arith, h.cpu))),
        (
          lack_both 44 (codes " MCGc/s: ") (hexadecimal p.event.cap ++ 47 ∷ hexadecimal p.event.mcg) (literal_lacks 44 (codes " MCGc/s: ") refl)
              (lack_both 44 (hexadecimal p.event.cap) (47 ∷ hexadecimal p.event.mcg) (hex_lacks p.event.cap cap_small) (slash, hex_lacks p.event.mcg mcg_small)),
          (
            lack_both 44 (codes " MC") (decimal p.event.bank ++ 58 ∷ 32 ∷ register p.event.status) (literal_lacks 44 (codes " MC") refl)
                (lack_both 44 (decimal p.event.bank) (58 ∷ 32 ∷ register p.event.status) (decimal_lacks 44 p.event.bank (omega arith) bank_small) (colon, (space, reg_lacks p.event.status status_small))),
            (with_register (codes " IPID: ") p.ipid refl ipid_small, all),
          ),
        ),
      )

  slashed_lack : AllByRecursion (Lacks 44) (
      (codes " ADDR/MISC/SYND: " ++ (register p.event.addr ++ 47 ∷ (register p.event.misc ++ 47 ∷ register p.synd)))
      ∷ place_field p ∷ (codes " TSC: " ++ hexadecimal p.event.tsc) ∷ (codes " PROCESSOR: " ++ (decimal p.event.vendor ++ 58 ∷ hexadecimal p.cpuid))
      ∷ (codes " TIME: " ++ decimal p.event.seconds) ∷ (codes " SOCKET: " ++ decimal p.socket) ∷ (codes " APIC: " ++ hexadecimal p.apic) ∷ [])
  slashed_lack =
      let colon : ¬ (◌≡◌ {A = ℕ} 58 44) = λ e. omega (arith, e) in
      let slash : ¬ (◌≡◌ {A = ℕ} 47 44) = λ e. omega (arith, e) in
      let two : Lacks 44 (register p.event.misc ++ 47 ∷ register p.synd) = lack_both 44 (register p.event.misc) (47 ∷ register p.synd) (reg_lacks p.event.misc misc_small) (slash, reg_lacks p.synd synd_small) in
      let three : Lacks 44 (register p.event.addr ++ 47 ∷ (register p.event.misc ++ 47 ∷ register p.synd)) = lack_both 44 (register p.event.addr) (47 ∷ (register p.event.misc ++ 47 ∷ register p.synd)) (reg_lacks p.event.addr addr_small) (slash, two) in
      let processor : Lacks 44 (decimal p.event.vendor ++ 58 ∷ hexadecimal p.cpuid) = lack_both 44 (decimal p.event.vendor) (58 ∷ hexadecimal p.cpuid) (decimal_lacks 44 p.event.vendor (omega arith) vendor_small) (colon, hex_lacks p.cpuid cpuid_small) in (
        lack_both 44 (codes " ADDR/MISC/SYND: ") (register p.event.addr ++ 47 ∷ (register p.event.misc ++ 47 ∷ register p.synd)) (literal_lacks 44 (codes " ADDR/MISC/SYND: ") refl) three,
        (
          place_lacks,
          (
            with_hex (codes " TSC: ") p.event.tsc refl tsc_small,
            (
              lack_both 44 (codes " PROCESSOR: ") (decimal p.event.vendor ++ 58 ∷ hexadecimal p.cpuid) (literal_lacks 44 (codes " PROCESSOR: ") refl) processor,
              (with_decimal (codes " TIME: ") p.event.seconds refl seconds_small, (with_decimal (codes " SOCKET: ") p.socket refl socket_small, (with_hex (codes " APIC: ") p.apic refl apic_small, tt))),
            ),
          ),
        ),
      )

  named_lack : (more : List (List ℕ)) → AllByRecursion (Lacks 44) more → AllByRecursion (Lacks 44) (
      (codes " ADDR: " ++ register p.event.addr) ∷ (codes " MISC: " ++ register p.event.misc) ∷ (codes " SYND: " ++ register p.synd) ∷ place_field p
      ∷ (codes " TSC: " ++ hexadecimal p.event.tsc) ∷ (codes " PPIN: " ++ hexadecimal p.ppin) ∷ (codes " vendor: " ++ decimal p.event.vendor) ∷ (codes " CPUID: " ++ hexadecimal p.cpuid)
      ∷ (codes " time: " ++ decimal p.event.seconds) ∷ (codes " socket: " ++ decimal p.socket) ∷ (codes " APIC: " ++ hexadecimal p.apic) ∷ (codes " microcode: " ++ hexadecimal p.microcode) ∷ more)
  named_lack more all = (
    with_register (codes " ADDR: ") p.event.addr refl addr_small,
    (
      with_register (codes " MISC: ") p.event.misc refl misc_small,
      (
        with_register (codes " SYND: ") p.synd refl synd_small,
        (
          place_lacks,
          (
            with_hex (codes " TSC: ") p.event.tsc refl tsc_small,
            (
              with_hex (codes " PPIN: ") p.ppin refl ppin_small,
              (
                with_decimal (codes " vendor: ") p.event.vendor refl vendor_small,
                (
                  with_hex (codes " CPUID: ") p.cpuid refl cpuid_small,
                  (with_decimal (codes " time: ") p.event.seconds refl seconds_small, (with_decimal (codes " socket: ") p.socket refl socket_small, (with_hex (codes " APIC: ") p.apic refl apic_small, (with_hex (codes " microcode: ") p.microcode refl microcode_small, all)))),
                ),
              ),
            ),
          ),
        ),
      ),
    ),
  )

-- ---- vendor data

closed : (name : List ℕ) (byte : ℕ) → Lit name → byte < 2 ^ 64 → Lacks 44 (name ++ (hexadecimal byte ++ codes "}"))
closed name byte literal small =
    lack_both 44 name (hexadecimal byte ++ codes "}") (literal_lacks 44 name literal)
    (lack_both 44 (hexadecimal byte) (codes "}") (hexadecimal_lacks 44 byte (omega arith) small) (literal_lacks 44 (codes "}") refl))

bytes_lack : (byte : ℕ) (bytes : List ℕ) → byte < 2 ^ 64 → AllByRecursion (λ n. n < 2 ^ 64) bytes → AllByRecursion (Lacks 44) (data_from byte bytes)
bytes_lack byte [] small all = (closed (codes "0x") byte refl small, tt)
bytes_lack byte (first ∷ bytes) small all = (with_hex (codes "0x") first refl all.0, bytes_lack byte bytes small all.1)

data_lack : (byte : ℕ) (bytes : List ℕ) → byte < 2 ^ 64 → AllByRecursion (λ n. n < 2 ^ 64) bytes → AllByRecursion (Lacks 44) (data_fields byte bytes)
data_lack byte [] small all = (closed (codes " vendor data: {0x") byte refl small, tt)
data_lack byte (first ∷ bytes) small all = (with_hex (codes " vendor data: {0x") first refl all.0, bytes_lack byte bytes small all.1)

-- ---- the law

spaces_lack : (n : ℕ) → Lacks 44 (replicate n 32)
spaces_lack zero = tt
spaces_lack (suc n) = ((λ (e : ◌≡◌ {A = ℕ} 32 44). omega (arith, e)), spaces_lack n)

-- a text is read if its fields are, after any number of spaces
read_fields : (e : TraceEvent) (g : Fields) (spaces : ℕ) (first second : List ℕ) (more : List (List ℕ))
    → AllByRecursion (Lacks 44) ((replicate spaces 32 ++ first) ∷ second ∷ more)
    → fields_after no_fields (without_last ((replicate spaces 32 ++ first) ∷ second ∷ more)) ≡ Some g → whole_event g ≡ Some e
    → event_in (replicate spaces 32 ++ join_with_byte 44 (first ∷ second ∷ more)) ≡ Some e
read_fields e g spaces first second more lack after is =
    ap event_in (sym (append_assoc (replicate spaces 32) first (44 ∷ join_with_byte 44 (second ∷ more))))
    ∙ ap (λ (parts : List (List ℕ)). read_then (fields_after no_fields (without_last parts)) whole_event) (fields_split ((replicate spaces 32 ++ first) ∷ second ∷ more) (omega arith) lack)
    ∙ ap (λ (o : Option Fields). read_then o whole_event) after
    ∙ is

-- the fields after the first two
abbrev others : Printed → List (List ℕ) → List (List ℕ)
others p more = (codes " MC" ++ (decimal p.event.bank ++ 58 ∷ 32 ∷ register p.event.status)) ∷ (codes " IPID: " ++ register p.ipid) ∷ more

abbrev slashed_rest : Printed → List (List ℕ)
slashed_rest p =
    place_field p ∷ (codes " TSC: " ++ hexadecimal p.event.tsc) ∷ (codes " PROCESSOR: " ++ (decimal p.event.vendor ++ 58 ∷ hexadecimal p.cpuid))
    ∷ (codes " TIME: " ++ decimal p.event.seconds) ∷ (codes " SOCKET: " ++ decimal p.socket) ∷ (codes " APIC: " ++ hexadecimal p.apic) ∷ []

abbrev pub slashed_more : Printed → List (List ℕ)
slashed_more p = (codes " ADDR/MISC/SYND: " ++ (register p.event.addr ++ 47 ∷ (register p.event.misc ++ 47 ∷ register p.synd))) ∷ slashed_rest p

abbrev named_rest : Printed → List (List ℕ) → List (List ℕ)
named_rest p more =
    (codes " MISC: " ++ register p.event.misc) ∷ (codes " SYND: " ++ register p.synd) ∷ place_field p
    ∷ (codes " TSC: " ++ hexadecimal p.event.tsc) ∷ (codes " PPIN: " ++ hexadecimal p.ppin) ∷ (codes " vendor: " ++ decimal p.event.vendor) ∷ (codes " CPUID: " ++ hexadecimal p.cpuid)
    ∷ (codes " time: " ++ decimal p.event.seconds) ∷ (codes " socket: " ++ decimal p.socket) ∷ (codes " APIC: " ++ hexadecimal p.apic) ∷ (codes " microcode: " ++ hexadecimal p.microcode) ∷ more

abbrev pub named_more : Printed → List (List ℕ) → List (List ℕ)
named_more p more = (codes " ADDR: " ++ register p.event.addr) ∷ named_rest p more

-- a text is read if the fields after its first four are
with_more : (p : Printed) (h : IsPrinted p) (spaces : ℕ) (next : List ℕ) (more : List (List ℕ)) → AllByRecursion (Lacks 44) (next ∷ more)
    → fields_after (f3 p h) (without_last (next ∷ more)) ≡ Some (f7 p h)
    → event_in (replicate spaces 32 ++ join_with_byte 44 (first_fields p (next ∷ more))) ≡ Some p.event
with_more p h spaces next more lack after =
    read_fields p.event (f7 p h) spaces (codes "CPU: " ++ decimal p.event.cpu) (codes " MCGc/s: " ++ (hexadecimal p.event.cap ++ 47 ∷ hexadecimal p.event.mcg)) (others p (next ∷ more))
    (first_lack p h spaces (next ∷ more) lack (spaces_lack spaces))
    (first_after p h spaces (without_last (next ∷ more)) ∙ after) refl

pub event_read : (form : Form) (p : Printed) (spaces : ℕ) → IsPrinted p → event_in (replicate spaces 32 ++ event_text form p) ≡ Some p.event
event_read linux_5_10 p spaces h = with_more p h spaces (codes " ADDR/MISC/SYND: " ++ (register p.event.addr ++ 47 ∷ (register p.event.misc ++ 47 ∷ register p.synd))) (slashed_rest p) (slashed_lack p h) (slashed_after p h)
event_read linux_6_12 p spaces h = with_more p h spaces (codes " ADDR: " ++ register p.event.addr) (named_rest p []) (named_lack p h [] tt) (named_after p h [] refl)
event_read linux_7_2 p spaces h =
    let n = h.numbers.1.1.1.1.1.1.1.1.1.1.1.1.1.1.1.1.1 in
    let tail : List (List ℕ) = data_fields p.byte p.bytes in
    let last : List (List ℕ) = without_last ((codes " microcode: " ++ hexadecimal p.microcode) ∷ tail) in
    with_more p h spaces (codes " ADDR: " ++ register p.event.addr) (named_rest p tail) (named_lack p h tail (data_lack p.byte p.bytes n.0 n.1)) (named_after p h last (data_after p h p.byte p.bytes))
