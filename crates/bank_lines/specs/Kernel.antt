-- The text of the event `mce_record`, as kernels print it.
use Rattle.std.specs.Prelude.{ℕ, ◌-◌, ◌^◌, ◌<◌, List, [], ◌∷◌, ◌++◌, codes, decimal, length, replicate}
use Rattle.std.specs.List.{AllByRecursion, join_with_byte}
use Rattle.ras_script.specs.LineLaws.{hexadecimal}
use Rattle.bank_lines.specs.declared.event.TraceEvent.{TraceEvent}

-- all that the kernel prints of an event: the numbers that are read, and those that are skipped
pub record Printed : Type 0 where
  pub event : TraceEvent
  pub ipid : ℕ
  pub synd : ℕ
  pub cs : ℕ
  pub ip : ℕ
  pub ppin : ℕ
  pub cpuid : ℕ
  pub socket : ℕ
  pub apic : ℕ
  pub microcode : ℕ
  -- the last of the 16 bytes of vendor data, and the bytes before it
  pub byte : ℕ
  pub bytes : List ℕ

-- The forms of the text: of Linux 5.10 and 6.1, of Linux 6.12, and of Linux 7.2 and 7.3.
pub data Form : Type 0 where
  linux_5_10 : Form
  linux_6_12 : Form
  linux_7_2 : Form

-- a number in hexadecimal, with zeros before it up to a width
abbrev pub padded : ℕ → ℕ → List ℕ
padded width n = replicate (width - length (hexadecimal n)) 48 ++ hexadecimal n

abbrev pub register : ℕ → List ℕ
register n = padded 16 n

-- ---- fields, without the commas between them

-- the fields with which each form begins, and `more` after them
abbrev pub first_fields : Printed → List (List ℕ) → List (List ℕ)
first_fields p more =
    (codes "CPU: " ++ decimal p.event.cpu)
    ∷ (codes " MCGc/s: " ++ (hexadecimal p.event.cap ++ 47 ∷ hexadecimal p.event.mcg))
    ∷ (codes " MC" ++ (decimal p.event.bank ++ 58 ∷ 32 ∷ register p.event.status))
    ∷ (codes " IPID: " ++ register p.ipid)
    ∷ more

abbrev pub place_field : Printed → List ℕ
place_field p = codes " RIP: " ++ (padded 2 p.cs ++ codes ":<" ++ register p.ip ++ codes ">")

-- the fields of the first form
abbrev pub slashed_fields : Printed → List (List ℕ)
slashed_fields p = first_fields p (
    (codes " ADDR/MISC/SYND: " ++ (register p.event.addr ++ 47 ∷ (register p.event.misc ++ 47 ∷ register p.synd)))
    ∷ place_field p
    ∷ (codes " TSC: " ++ hexadecimal p.event.tsc)
    ∷ (codes " PROCESSOR: " ++ (decimal p.event.vendor ++ 58 ∷ hexadecimal p.cpuid))
    ∷ (codes " TIME: " ++ decimal p.event.seconds)
    ∷ (codes " SOCKET: " ++ decimal p.socket)
    ∷ (codes " APIC: " ++ hexadecimal p.apic)
    ∷ [])

-- the fields of the second form, and `more` after them
abbrev pub named_fields : Printed → List (List ℕ) → List (List ℕ)
named_fields p more = first_fields p (
    (codes " ADDR: " ++ register p.event.addr)
    ∷ (codes " MISC: " ++ register p.event.misc)
    ∷ (codes " SYND: " ++ register p.synd)
    ∷ place_field p
    ∷ (codes " TSC: " ++ hexadecimal p.event.tsc)
    ∷ (codes " PPIN: " ++ hexadecimal p.ppin)
    ∷ (codes " vendor: " ++ decimal p.event.vendor)
    ∷ (codes " CPUID: " ++ hexadecimal p.cpuid)
    ∷ (codes " time: " ++ decimal p.event.seconds)
    ∷ (codes " socket: " ++ decimal p.socket)
    ∷ (codes " APIC: " ++ hexadecimal p.apic)
    ∷ (codes " microcode: " ++ hexadecimal p.microcode)
    ∷ more)

-- The bytes of vendor data, in braces. Commas separate them, as they separate fields.
abbrev pub data_from : ℕ → List ℕ → List (List ℕ)
data_from byte [] = (codes "0x" ++ (hexadecimal byte ++ codes "}")) ∷ []
data_from byte (first ∷ bytes) = (codes "0x" ++ hexadecimal first) ∷ data_from byte bytes

abbrev pub data_fields : ℕ → List ℕ → List (List ℕ)
data_fields byte [] = (codes " vendor data: {0x" ++ (hexadecimal byte ++ codes "}")) ∷ []
data_fields byte (first ∷ bytes) = (codes " vendor data: {0x" ++ hexadecimal first) ∷ data_from byte bytes

-- ---- the text

abbrev pub fields_of : Form → Printed → List (List ℕ)
fields_of linux_5_10 p = slashed_fields p
fields_of linux_6_12 p = named_fields p []
fields_of linux_7_2 p = named_fields p (data_fields p.byte p.bytes)

abbrev pub event_text : Form → Printed → List ℕ
event_text form p = join_with_byte 44 (fields_of form p)

-- the numbers of an event fit their types
pub record IsPrinted (p : Printed) : Type 0 where
  pub cpu : p.event.cpu < 2 ^ 16
  pub bank : p.event.bank < 2 ^ 8
  pub numbers : AllByRecursion (λ n. n < 2 ^ 64) (
      p.event.vendor ∷ p.event.seconds ∷ p.event.tsc ∷ p.event.cap ∷ p.event.mcg ∷ p.event.status
      ∷ p.event.addr ∷ p.event.misc ∷ p.ipid ∷ p.synd ∷ p.cs ∷ p.ip ∷ p.ppin ∷ p.cpuid ∷ p.socket
      ∷ p.apic ∷ p.microcode ∷ p.byte ∷ p.bytes)
