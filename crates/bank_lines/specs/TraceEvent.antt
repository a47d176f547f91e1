-- What the text of a machine-check event in the kernel's trace says, by the names of its fields.
use Rattle.std.specs.Prelude.{ℕ, ◌-◌, ◌^◌, ◌==◌, List, [], ◌∷◌, codes, drop, take, Option, None, Some}
use Rattle.std.specs.List.{position_or_len}
use Rattle.std.specs.Option.{option_map_or}
use Rattle.ras_script.specs.Lines.{without_last}
use Rattle.ras_script.specs.Number.{decimal_of, hexadecimal_of}
use Rattle.ras_klog.specs.Reading.{read_then}
use Rattle.bank_lines.specs.declared.event.TraceEvent.{TraceEvent}
use Rattle.bank_lines.specs.declared.event.Fields.{Fields}
use Rattle.bank_lines.specs.declared.event.Global.{Global}
use Rattle.bank_lines.specs.declared.event.Registers.{Registers}
use Rattle.bank_lines.specs.Parts.{after_spaces, cut_at, value_after}

-- no field has been read
abbrev pub no_fields : Fields
no_fields = record {
  cpu = None;
  global = None;
  bank = None;
  addr = None;
  misc = None;
  tsc = None;
  vendor = None;
  seconds = None;
}

-- the value that was read, if there was none before
abbrev pub once : {A : Type 0} → Option A → Option A → Option A
once None read = read
once (Some told) read = None

-- ---- the fields' values. Registers and the counter are hexadecimal, all else is decimal.

-- `<cap>/<mcg>`
abbrev pub global_of : List (List ℕ) → Option Global
global_of (cap ∷ mcg ∷ []) =
    read_then (hexadecimal_of cap) (λ cap.
    read_then (hexadecimal_of mcg) (λ mcg. Some (record { cap = cap; mcg = mcg })))
global_of parts = None

-- `<addr>/<misc>/<synd>`
abbrev pub registers_of : List (List ℕ) → Option Registers
registers_of (addr ∷ misc ∷ synd ∷ []) =
    read_then (hexadecimal_of addr) (λ addr.
    read_then (hexadecimal_of misc) (λ misc. Some (record { addr = addr; misc = misc })))
registers_of parts = None

-- the vendor in `<vendor>:<model>`
abbrev pub processor_vendor : List (List ℕ) → Option ℕ
processor_vendor (vendor ∷ model ∷ []) = decimal_of (2 ^ 64 - 1) vendor
processor_vendor parts = None

-- `<bank>: <status>` after `MC`
abbrev pub bank_named : List ℕ → Option (ℕ × List ℕ)
bank_named part =
    read_then (value_after (codes "MC") part) (λ named.
    let colon = position_or_len (λ b. b == 58) named in
    read_then (decimal_of 255 (take colon named)) (λ number.
    read_then (value_after (codes ": ") (drop colon named)) (λ value. Some (number, value))))

-- ---- the fields after one more; `None` if it came before or can't be read

abbrev pub Telling : Type 0
Telling = Fields → List ℕ → Option Fields

abbrev pub cpu_told : Telling
cpu_told fields value =
    read_then (decimal_of 65535 value) (λ cpu.
    read_then (once fields.cpu (Some cpu)) (λ cpu. Some (record fields { cpu = Some cpu })))

abbrev pub global_told : Telling
global_told fields value =
    read_then (once fields.global (global_of (cut_at 47 value))) (λ global.
    Some (record fields { global = Some global }))

abbrev pub registers_told : Telling
registers_told fields value =
    read_then (registers_of (cut_at 47 value)) (λ registers.
    read_then (once fields.addr (Some registers.addr)) (λ addr.
    read_then (once fields.misc (Some registers.misc)) (λ misc.
    Some (record fields { addr = Some addr; misc = Some misc }))))

abbrev pub addr_told : Telling
addr_told fields value =
    read_then (once fields.addr (hexadecimal_of value)) (λ addr. Some (record fields { addr = Some addr }))

abbrev pub misc_told : Telling
misc_told fields value =
    read_then (once fields.misc (hexadecimal_of value)) (λ misc. Some (record fields { misc = Some misc }))

abbrev pub tsc_told : Telling
tsc_told fields value =
    read_then (once fields.tsc (hexadecimal_of value)) (λ tsc. Some (record fields { tsc = Some tsc }))

abbrev pub processor_told : Telling
processor_told fields value =
    read_then (once fields.vendor (processor_vendor (cut_at 58 value))) (λ vendor.
    Some (record fields { vendor = Some vendor }))

abbrev pub vendor_told : Telling
vendor_told fields value =
    read_then (once fields.vendor (decimal_of (2 ^ 64 - 1) value)) (λ vendor.
    Some (record fields { vendor = Some vendor }))

abbrev pub seconds_told : Telling
seconds_told fields value =
    read_then (once fields.seconds (decimal_of (2 ^ 64 - 1) value)) (λ seconds.
    Some (record fields { seconds = Some seconds }))

abbrev pub status_told : Fields → ℕ × List ℕ → Option Fields
status_told fields named =
    read_then (hexadecimal_of named.1) (λ status.
    read_then (once fields.bank (Some (record { number = named.0; status = status }))) (λ bank.
    Some (record fields { bank = Some bank })))

-- `MC<bank>: <status>`; any other part changes nothing
abbrev pub bank_told : Telling
bank_told fields part = option_map_or (status_told fields) (bank_named part) (Some fields)

-- ---- all fields

-- the names of the fields that are read, as kernels print them, each with what its value says
abbrev pub tellings : List (List ℕ × Telling)
tellings =
    (codes "CPU: ", cpu_told) ∷ (codes "MCGc/s: ", global_told)
    ∷ (codes "ADDR/MISC/SYND: ", registers_told) ∷ (codes "ADDR: ", addr_told)
    ∷ (codes "MISC: ", misc_told) ∷ (codes "TSC: ", tsc_told)
    ∷ (codes "PROCESSOR: ", processor_told) ∷ (codes "vendor: ", vendor_told)
    ∷ (codes "TIME: ", seconds_told) ∷ (codes "time: ", seconds_told) ∷ []

-- the fields after a part, by the first of these names that the part begins with
abbrev pub part_told_by : List (List ℕ × Telling) → Telling
part_told_by [] fields part = bank_told fields part
part_told_by (telling ∷ more) fields part =
    option_map_or (telling.1 fields) (value_after telling.0 part) (part_told_by more fields part)

-- the fields after one more part
abbrev pub took : Telling
took fields part = part_told_by tellings fields (after_spaces part)

-- the fields after more parts
abbrev pub fields_after : Fields → List (List ℕ) → Option Fields
fields_after fields [] = Some fields
fields_after fields (part ∷ parts) = read_then (took fields part) (λ fields. fields_after fields parts)

-- the event, if no field is missing
abbrev pub whole_event : Fields → Option TraceEvent
whole_event fields =
    read_then fields.global (λ global.
    read_then fields.bank (λ bank.
    read_then fields.vendor (λ vendor.
    read_then fields.cpu (λ cpu.
    read_then fields.seconds (λ seconds.
    read_then fields.tsc (λ tsc.
    read_then fields.addr (λ addr.
    read_then fields.misc (λ misc. Some (record {
      vendor = vendor;
      cpu = cpu;
      bank = bank.number;
      seconds = seconds;
      tsc = tsc;
      cap = global.cap;
      mcg = global.mcg;
      status = bank.status;
      addr = addr;
      misc = misc;
    })))))))))

-- The event that a text gives. The text is cut at each comma, and spaces before a field don't count. Nor does the
-- last part: kernels print no field there that is read, and a text that was cut off ends within it.
abbrev pub event_in : List ℕ → Option TraceEvent
event_in text = read_then (fields_after no_fields (without_last (cut_at 44 text))) whole_event
