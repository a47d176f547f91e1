-- What is found in a line fits its types.
use Rattle.std.proofs.Common.{◌≡◌, ℕ, ◌+◌, ◌-◌, ◌^◌, ◌<◌, ◌≤◌, ◌==◌, ◌&&◌, Bool, true, false, cond, nat_le, if◌then◌else◌, List, [], ◌∷◌, codes, take, drop, refl, arith, Option, Some, None}
use Rattle.std.specs.Prelude.{IfSome}
use Rattle.std.specs.List.{position_or_len}
use Rattle.std.specs.Option.{option_map_or}
use Rattle.std.proofs.lemmas.Bool.Decides.{nat_tests}
use Rattle.mca_status.specs.Registers.{valid}
use Rattle.ras_facts.specs.Facts.{status_in}
use Rattle.ras_facts.specs.declared.bank.BankReport.{BankReport}
use Rattle.ras_klog.specs.Reading.{provided, read_then}
use Rattle.ras_script.specs.LineLaws.{IsBankInRange}
use Rattle.ras_script.specs.Number.{decimal_of, hexadecimal_of, is_numeral}
use Rattle.std.specs.Str.Parse.{digits_value}
use Rattle.ras_script.specs.Lines.{without_last}
use Rattle.bank_lines.specs.declared.event.Bank.{Bank}
use Rattle.bank_lines.specs.declared.event.TraceEvent.{TraceEvent}
use Rattle.bank_lines.specs.declared.event.Fields.{Fields}
use Rattle.bank_lines.specs.declared.event.Global.{Global}
use Rattle.bank_lines.specs.declared.event.Registers.{Registers}
use Rattle.bank_lines.specs.declared.found.Finding.TheVariants.{Nothing, Whole, Foreign, Firmware, Unread}
use Rattle.bank_lines.specs.TraceEvent.{addr_told, bank_named, cpu_told, event_in, whole_event, fields_after, global_of, global_told, misc_told, no_fields, once, processor_vendor, processor_told, registers_of, registers_told, seconds_told, status_told, tellings, part_told_by, took, tsc_told, vendor_told}
use Rattle.bank_lines.specs.Finding.{IsInTypes, found_of}
use Rattle.bank_lines.specs.Parts.{after_spaces, cut_at, value_after}
use Rattle.bank_lines.specs.Trace.{event_found, found_at, is_traced, last_mark, event_report, trace_found}

-- ---- what is read after something that was read

then_some : {A B : Type 0} (P : A → Type 0) (Q : B → Type 0) (read : Option A) (next : A → Option B) → IfSome read P → ((a : A) → P a → IfSome (next a) Q) → IfSome (read_then read next) Q
then_some P Q None next one more = tt
then_some P Q (Some a) next one more = more a one

provided_some : {A : Type 0} (P : A → Type 0) (holds : Bool) (answer : Option A) → IfSome answer P → IfSome (provided holds answer) P
provided_some P true answer within = within
provided_some P false answer within = tt

once_some : {A : Type 0} (P : A → Type 0) (told read : Option A) → IfSome read P → IfSome (once told read) P
once_some P None read within = within
once_some P (Some told) read within = tt

-- a part is read by its name, or else by the other names
choice : {A B : Type 0} (P : A → Type 0) (Q : B → Type 0) (tell : A → Option B) (value : Option A) (rest : Option B)
    → IfSome value P → ((v : A) → P v → IfSome (tell v) Q) → IfSome rest Q → IfSome (option_map_or tell value rest) Q
choice P Q tell None rest value told more = more
choice P Q tell (Some v) rest value told more = told v value

-- ---- numbers

number_by : (value most : ℕ) (numeral within : Bool) → nat_le value most ≡ within → IfSome (cond (numeral && within) (Some value) None) (λ n. n ≤ most)
number_by value most true true is = grind (arith, nat_tests, is)
number_by value most true false is = tt
number_by value most false within is = tt

decimal_in : (most : ℕ) (word : List ℕ) → IfSome (decimal_of most word) (λ n. n ≤ most)
decimal_in most word = number_by (digits_value 10 word) most (is_numeral 10 20 word) (nat_le (digits_value 10 word) most) refl

abbrev Is64 : ℕ → Type 0
Is64 n = n ≤ 2 ^ 64 - 1

hexadecimal_in : (word : List ℕ) → IfSome (hexadecimal_of word) Is64
hexadecimal_in word = number_by (digits_value 16 word) (2 ^ 64 - 1) (is_numeral 16 16 word) (nat_le (digits_value 16 word) (2 ^ 64 - 1)) refl

-- ---- fields

abbrev GlobalIn : Global → Type 0
GlobalIn global = Is64 global.cap × Is64 global.mcg

abbrev RegistersIn : Registers → Type 0
RegistersIn registers = Is64 registers.addr × Is64 registers.misc

abbrev BankIn : Bank → Type 0
BankIn bank = (bank.number ≤ 255) × Is64 bank.status

record FieldsIn (f : Fields) : Type 0 where
  cpu : IfSome f.cpu (λ n. n ≤ 65535)
  global : IfSome f.global GlobalIn
  bank : IfSome f.bank BankIn
  addr : IfSome f.addr Is64
  misc : IfSome f.misc Is64
  tsc : IfSome f.tsc Is64
  vendor : IfSome f.vendor Is64
  seconds : IfSome f.seconds Is64

global_in : (parts : List (List ℕ)) → IfSome (global_of parts) GlobalIn
global_in (cap ∷ mcg ∷ []) =
    then_some Is64 GlobalIn (hexadecimal_of cap) _ (hexadecimal_in cap) (λ cap cap_is.
    then_some Is64 GlobalIn (hexadecimal_of mcg) _ (hexadecimal_in mcg) (λ mcg mcg_is. (cap_is, mcg_is)))
global_in parts = tt

registers_in : (parts : List (List ℕ)) → IfSome (registers_of parts) RegistersIn
registers_in (addr ∷ misc ∷ synd ∷ []) =
    then_some Is64 RegistersIn (hexadecimal_of addr) _ (hexadecimal_in addr) (λ addr addr_is.
    then_some Is64 RegistersIn (hexadecimal_of misc) _ (hexadecimal_in misc) (λ misc misc_is. (addr_is, misc_is)))
registers_in parts = tt

processor_in : (parts : List (List ℕ)) → IfSome (processor_vendor parts) Is64
processor_in (vendor ∷ model ∷ []) = decimal_in (2 ^ 64 - 1) vendor
processor_in parts = tt

module _ (f : Fields) (h : FieldsIn f) where
  cpu_in : (value : List ℕ) → IfSome (cpu_told f value) FieldsIn
  cpu_in value =
      then_some (λ n. n ≤ 65535) FieldsIn (decimal_of 65535 value) _ (decimal_in 65535 value) (λ cpu cpu_is.
      then_some (λ n. n ≤ 65535) FieldsIn (once f.cpu (Some cpu)) _ (once_some (λ n. n ≤ 65535) f.cpu (Some cpu) cpu_is) (λ n is.
      record { cpu = is; global = h.global; bank = h.bank; addr = h.addr; misc = h.misc; tsc = h.tsc; vendor = h.vendor; seconds = h.seconds }))

  global_told_in : (value : List ℕ) → IfSome (global_told f value) FieldsIn
  global_told_in value =
      then_some GlobalIn FieldsIn (once f.global (global_of (cut_at 47 value))) _ (once_some GlobalIn f.global _ (global_in (cut_at 47 value))) (λ n is.
      record { cpu = h.cpu; global = is; bank = h.bank; addr = h.addr; misc = h.misc; tsc = h.tsc; vendor = h.vendor; seconds = h.seconds })

  registers_told_in : (value : List ℕ) → IfSome (registers_told f value) FieldsIn
  registers_told_in value =
      then_some RegistersIn FieldsIn (registers_of (cut_at 47 value)) _ (registers_in (cut_at 47 value)) (λ registers both.
      then_some Is64 FieldsIn (once f.addr (Some registers.addr)) _ (once_some Is64 f.addr (Some registers.addr) both.0) (λ a a_is.
      then_some Is64 FieldsIn (once f.misc (Some registers.misc)) _ (once_some Is64 f.misc (Some registers.misc) both.1) (λ m m_is.
      record { cpu = h.cpu; global = h.global; bank = h.bank; addr = a_is; misc = m_is; tsc = h.tsc; vendor = h.vendor; seconds = h.seconds })))

  addr_in : (value : List ℕ) → IfSome (addr_told f value) FieldsIn
  addr_in value =
      then_some Is64 FieldsIn (once f.addr (hexadecimal_of value)) _ (once_some Is64 f.addr _ (hexadecimal_in value)) (λ n is.
      record { cpu = h.cpu; global = h.global; bank = h.bank; addr = is; misc = h.misc; tsc = h.tsc; vendor = h.vendor; seconds = h.seconds })

  misc_in : (value : List ℕ) → IfSome (misc_told f value) FieldsIn
  misc_in value =
      then_some Is64 FieldsIn (once f.misc (hexadecimal_of value)) _ (once_some Is64 f.misc _ (hexadecimal_in value)) (λ n is.
      record { cpu = h.cpu; global = h.global; bank = h.bank; addr = h.addr; misc = is; tsc = h.tsc; vendor = h.vendor; seconds = h.seconds })

  tsc_in : (value : List ℕ) → IfSome (tsc_told f value) FieldsIn
  tsc_in value =
      then_some Is64 FieldsIn (once f.tsc (hexadecimal_of value)) _ (once_some Is64 f.tsc _ (hexadecimal_in value)) (λ n is.
      record { cpu = h.cpu; global = h.global; bank = h.bank; addr = h.addr; misc = h.misc; tsc = is; vendor = h.vendor; seconds = h.seconds })

  processor_told_in : (value : List ℕ) → IfSome (processor_told f value) FieldsIn
  processor_told_in value =
      then_some Is64 FieldsIn (once f.vendor (processor_vendor (cut_at 58 value))) _ (once_some Is64 f.vendor _ (processor_in (cut_at 58 value))) (λ n is.
      record { cpu = h.cpu; global = h.global; bank = h.bank; addr = h.addr; misc = h.misc; tsc = h.tsc; vendor = is; seconds = h.seconds })

  vendor_in : (value : List ℕ) → IfSome (vendor_told f value) FieldsIn
  vendor_in value =
      then_some Is64 FieldsIn (once f.vendor (decimal_of (2 ^ 64 - 1) value)) _ (once_some Is64 f.vendor _ (decimal_in (2 ^ 64 - 1) value)) (λ n is.
      record { cpu = h.cpu; global = h.global; bank = h.bank; addr = h.addr; misc = h.misc; tsc = h.tsc; vendor = is; seconds = h.seconds })

  seconds_in : (value : List ℕ) → IfSome (seconds_told f value) FieldsIn
  seconds_in value =
      then_some Is64 FieldsIn (once f.seconds (decimal_of (2 ^ 64 - 1) value)) _ (once_some Is64 f.seconds _ (decimal_in (2 ^ 64 - 1) value)) (λ n is.
      record { cpu = h.cpu; global = h.global; bank = h.bank; addr = h.addr; misc = h.misc; tsc = h.tsc; vendor = h.vendor; seconds = is })

  status_in_range : (named : ℕ × List ℕ) → named.0 ≤ 255 → IfSome (status_told f named) FieldsIn
  status_in_range named few =
      then_some Is64 FieldsIn (hexadecimal_of named.1) _ (hexadecimal_in named.1) (λ status status_is.
      then_some BankIn FieldsIn (once f.bank (Some (record { number = named.0; status = status }))) _ (once_some BankIn f.bank (Some (record { number = named.0; status = status })) (few, status_is)) (λ n is.
      record { cpu = h.cpu; global = h.global; bank = is; addr = h.addr; misc = h.misc; tsc = h.tsc; vendor = h.vendor; seconds = h.seconds }))

any_text : (value : Option (List ℕ)) → IfSome value (λ v. Unit {0})
any_text None = tt
any_text (Some v) = tt

abbrev NamedIn : ℕ × List ℕ → Type 0
NamedIn named = named.0 ≤ 255

abbrev Any : List ℕ → Type 0
Any text = Unit {0}

named_in : (part : List ℕ) → IfSome (bank_named part) NamedIn
named_in part =
    then_some Any NamedIn (value_after (codes "MC") part) _ (any_text (value_after (codes "MC") part)) (λ named any.
    let colon : ℕ = position_or_len (λ b. b == 58) named in
    then_some (λ n. n ≤ 255) NamedIn (decimal_of 255 (take colon named)) _ (decimal_in 255 (take colon named)) (λ number few.
    then_some Any NamedIn (value_after (codes ": ") (drop colon named)) _ (any_text (value_after (codes ": ") (drop colon named))) (λ value any. few)))

-- ---- all fields

took_in : (f : Fields) (part : List ℕ) → FieldsIn f → IfSome (took f part) FieldsIn
took_in f part h = by (after_spaces part)
  where
    one : (name text : List ℕ) (tell : List ℕ → Option Fields) (rest : Option Fields) → ((value : List ℕ) → IfSome (tell value) FieldsIn)
        → IfSome rest FieldsIn → IfSome (option_map_or tell (value_after name text) rest) FieldsIn
    one name text tell rest told more = choice Any FieldsIn tell (value_after name text) rest (any_text (value_after name text)) (λ value any. told value) more

    by : (text : List ℕ) → IfSome (part_told_by tellings f text) FieldsIn
    by text =
        one (codes "CPU: ") text (cpu_told f) _ (cpu_in f h) (
        one (codes "MCGc/s: ") text (global_told f) _ (global_told_in f h) (
        one (codes "ADDR/MISC/SYND: ") text (registers_told f) _ (registers_told_in f h) (
        one (codes "ADDR: ") text (addr_told f) _ (addr_in f h) (
        one (codes "MISC: ") text (misc_told f) _ (misc_in f h) (
        one (codes "TSC: ") text (tsc_told f) _ (tsc_in f h) (
        one (codes "PROCESSOR: ") text (processor_told f) _ (processor_told_in f h) (
        one (codes "vendor: ") text (vendor_told f) _ (vendor_in f h) (
        one (codes "TIME: ") text (seconds_told f) _ (seconds_in f h) (
        one (codes "time: ") text (seconds_told f) _ (seconds_in f h) (
        choice NamedIn FieldsIn (status_told f) (bank_named text) (Some f) (named_in text) (status_in_range f h) h))))))))))

fields_in : (f : Fields) (parts : List (List ℕ)) → FieldsIn f → IfSome (fields_after f parts) FieldsIn
fields_in f [] h = h
fields_in f (part ∷ parts) h = then_some FieldsIn FieldsIn (took f part) _ (took_in f part h) (λ g g_is. fields_in g parts g_is)

-- ---- an event

record EventIn (e : TraceEvent) : Type 0 where
  vendor : Is64 e.vendor
  cpu : e.cpu ≤ 65535
  bank : e.bank ≤ 255
  seconds : Is64 e.seconds
  tsc : Is64 e.tsc
  cap : Is64 e.cap
  mcg : Is64 e.mcg
  status : Is64 e.status
  addr : Is64 e.addr
  misc : Is64 e.misc

event_of_in : (f : Fields) → FieldsIn f → IfSome (whole_event f) EventIn
event_of_in f h =
    then_some GlobalIn EventIn f.global _ h.global (λ global global_is.
    then_some BankIn EventIn f.bank _ h.bank (λ bank bank_is.
    then_some Is64 EventIn f.vendor _ h.vendor (λ vendor vendor_is.
    then_some (λ n. n ≤ 65535) EventIn f.cpu _ h.cpu (λ cpu cpu_is.
    then_some Is64 EventIn f.seconds _ h.seconds (λ seconds seconds_is.
    then_some Is64 EventIn f.tsc _ h.tsc (λ tsc tsc_is.
    then_some Is64 EventIn f.addr _ h.addr (λ addr addr_is.
    then_some Is64 EventIn f.misc _ h.misc (λ misc misc_is. record {
      vendor = vendor_is;
      cpu = cpu_is;
      bank = bank_is.0;
      seconds = seconds_is;
      tsc = tsc_is;
      cap = global_is.0;
      mcg = global_is.1;
      status = bank_is.1;
      addr = addr_is;
      misc = misc_is;
    }))))))))

none_in : FieldsIn no_fields
none_in = record { cpu = tt; global = tt; bank = tt; addr = tt; misc = tt; tsc = tt; vendor = tt; seconds = tt }

event_in_range : (text : List ℕ) → IfSome (event_in text) EventIn
event_in_range text =
    then_some FieldsIn EventIn (fields_after no_fields (without_last (cut_at 44 text))) whole_event (fields_in no_fields (without_last (cut_at 44 text)) none_in) event_of_in

-- ---- what is found

bank_in : (boot : ℕ) (e : TraceEvent) → boot < 2 ^ 64 → EventIn e → IsBankInRange (event_report boot e)
bank_in boot e small h =
    ((small, (omega (arith, h.seconds), (omega (arith, h.tsc), (omega (arith, h.cap), (omega (arith, h.mcg), (omega (arith, h.status), (omega (arith, h.addr), (omega (arith, h.misc), tt)))))))), omega (arith, h.cpu), omega (arith, h.bank))

found_in : (report : BankReport) → IsBankInRange report → IsInTypes (found_of report)
found_in report within = by (valid (status_in report)) (report.bank == 255)
  where
    by : (holds firmware : Bool) → IsInTypes (if holds then (if firmware then Firmware report.cpu else Whole report) else Nothing)
    by true true = within.1
    by true false = within
    by false firmware = tt

event_found_in : (boot : ℕ) (e : TraceEvent) → boot < 2 ^ 64 → EventIn e → IsInTypes (event_found boot e)
event_found_in boot e small h = by (e.vendor == 0)
  where
    by : (intel : Bool) → IsInTypes (if intel then found_of (event_report boot e) else Foreign e.vendor e.cpu e.bank)
    by true = found_in (event_report boot e) (bank_in boot e small h)
    by false = (omega (arith, h.vendor), omega (arith, h.cpu), omega (arith, h.bank))

told_in : (boot : ℕ) (event : Option TraceEvent) → boot < 2 ^ 64 → IfSome event EventIn → IsInTypes (option_map_or (event_found boot) event Unread)
told_in boot None small h = tt
told_in boot (Some e) small h = event_found_in boot e small h

marked_in : (boot : ℕ) (line : List ℕ) (place : Option ℕ) → boot < 2 ^ 64 → IsInTypes (option_map_or (found_at boot line) place Nothing)
marked_in boot line None small = tt
marked_in boot line (Some place) small = by (is_traced (take place line))
  where
    by : (traced : Bool) → IsInTypes (if traced then option_map_or (event_found boot) (event_in (drop (place + 12) line)) Unread else Unread)
    by true = told_in boot (event_in (drop (place + 12) line)) small (event_in_range (drop (place + 12) line))
    by false = tt

pub trace_in : (boot : ℕ) (line : List ℕ) → boot < 2 ^ 64 → IsInTypes (trace_found boot line)
trace_in boot line small = marked_in boot line (last_mark line) small
