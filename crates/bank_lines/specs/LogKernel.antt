-- The text of a machine check in a kernel's log: the kernel's own text, and EDAC's.
use Rattle.std.specs.Prelude.{ℕ, ◌+◌, ◌==◌, ◌≡◌, Bool, true, false, List, [], ◌∷◌, ◌++◌, codes, decimal, drop, if◌then◌else◌}
use Rattle.std.specs.List.{join_with_byte}
use Rattle.ras_facts.specs.declared.bank.BankReport.{BankReport}
use Rattle.ras_script.specs.LineLaws.{hexadecimal}
use Rattle.bank_lines.specs.EdacLines.{edac_mark}
use Rattle.bank_lines.specs.Kernel.{Printed, register}
use Rattle.bank_lines.specs.LogHeads.{begins, is_own}
use Rattle.bank_lines.specs.LogLines.{log_mark}
use Rattle.bank_lines.specs.declared.event.TraceEvent.{TraceEvent}

-- ---- words, between which a line has a space

-- the words with which both texts end
abbrev pub time_words : (ℕ → List ℕ) → Printed → List (List ℕ) → List (List ℕ)
time_words hex p more =
    codes "PROCESSOR" ∷ (decimal p.event.vendor ++ 58 ∷ hex p.cpuid) ∷ codes "TIME" ∷ decimal p.event.seconds
    ∷ codes "SOCKET" ∷ decimal p.socket ∷ codes "APIC" ∷ hex p.apic ∷ more

-- a bank and its status
abbrev pub status_words : Printed → List ℕ → List ℕ → List (List ℕ)
status_words p mcg status = mcg ∷ codes "Bank" ∷ (decimal p.event.bank ++ 58 ∷ []) ∷ status ∷ []

abbrev pub check_words : Printed → List (List ℕ) → List (List ℕ)
check_words p kind = codes "CPU" ∷ (decimal p.event.cpu ++ 58 ∷ []) ∷ codes "Machine" ∷ kind

-- ---- the kernel's own text: `__print_mce` in arch/x86/kernel/cpu/mce/core.c

-- the first line's words, whether the machine check came as an exception or not
abbrev pub plain_start : Bool → Printed → List (List ℕ)
plain_start true p =
    check_words p (codes "Check" ∷ codes "Exception:" ∷ status_words p (hexadecimal p.event.mcg) (register p.event.status))
plain_start false p = check_words p (codes "Check:" ∷ status_words p (hexadecimal p.event.mcg) (register p.event.status))

-- a number after its name, or nothing if the number is 0
abbrev pub named_words : List ℕ → ℕ → List (List ℕ) → List (List ℕ)
named_words name n more = if n == 0 then more else name ∷ hexadecimal n ∷ more

-- the words of the registers; the line ends with a space
abbrev pub plain_registers : Printed → List (List ℕ)
plain_registers p =
    codes "TSC" ∷ hexadecimal p.event.tsc ∷ named_words (codes "ADDR") p.event.addr (
    named_words (codes "MISC") p.event.misc (named_words (codes "PPIN") p.ppin ([] ∷ [])))

abbrev pub plain_time : Printed → List (List ℕ)
plain_time p = time_words hexadecimal p (codes "microcode" ∷ hexadecimal p.microcode ∷ [])

-- ---- EDAC's text

-- The drivers: skx_edac and i10nm_edac (drivers/edac/skx_common.c), sb_edac.c and pnd2_edac.c.
pub data Driver : Type 0 where
  skx : Driver
  sbridge : Driver
  pnd2 : Driver

abbrev pub driver_name : Driver → List ℕ
driver_name skx = codes "skx"
driver_name sbridge = codes "sbridge"
driver_name pnd2 = codes "pnd2"

abbrev pub edac_hex : Driver → ℕ → List ℕ
edac_hex skx n = codes "0x" ++ hexadecimal n
edac_hex driver n = hexadecimal n

abbrev pub edac_status : Driver → ℕ → List ℕ
edac_status sbridge n = register n
edac_status driver n = edac_hex driver n

-- `EDAC <driver> MC<controller>: `
abbrev pub driver_prefix : Driver → ℕ → List ℕ
driver_prefix driver controller =
    edac_mark ++ (driver_name driver ++ (codes " MC" ++ (decimal controller ++ codes ": ")))

abbrev pub edac_kind : Bool → List ℕ
edac_kind true = codes "Exception:"
edac_kind false = codes "Event:"

-- the words of EDAC's lines; the lines of registers end with a space
abbrev pub edac_words : Driver → Bool → Printed → List (List (List ℕ))
edac_words driver exception p =
    check_words p (codes "Check" ∷ edac_kind exception
    ∷ status_words p (edac_hex driver p.event.mcg) (edac_status driver p.event.status))
    ∷ (codes "TSC" ∷ edac_hex driver p.event.tsc ∷ [] ∷ [])
    ∷ (codes "ADDR" ∷ edac_hex driver p.event.addr ∷ [] ∷ [])
    ∷ (codes "MISC" ∷ edac_hex driver p.event.misc ∷ [] ∷ [])
    ∷ time_words (edac_hex driver) p [] ∷ []

-- ---- the lines of a log

-- what is printed before each line of a text, by the line's index; the kernel stamps each line separately
abbrev pub Heads : Type 0
Heads = ℕ → List ℕ

-- lines of these words, each after its head and this prefix
abbrev pub lines_behind : Heads → ℕ → List ℕ → List (List (List ℕ)) → List (List ℕ)
lines_behind heads place prefix [] = []
lines_behind heads place prefix (words ∷ lines) =
    (heads place ++ (prefix ++ join_with_byte 32 words)) ∷ lines_behind heads (place + 1) prefix lines

abbrev pub plain_log : Heads → Bool → Printed → List (List ℕ)
plain_log heads exception p =
    lines_behind heads 0 log_mark (plain_start exception p ∷ plain_registers p ∷ plain_time p ∷ [])

abbrev pub edac_log : Heads → Driver → ℕ → Bool → Printed → List (List ℕ)
edac_log heads driver controller exception p =
    lines_behind heads 0 (driver_prefix driver controller) (edac_words driver exception p)

-- the prefix occurs nowhere in the text
abbrev pub HasNo : List ℕ → List ℕ → Type 0
HasNo mark text = (place : ℕ) → begins (drop place text) mark ≡ false

-- Each head shows its line to be the kernel's own, and has no prefix in it.
pub record AreHeads (heads : Heads) : Type 0 where
  pub own : (place : ℕ) → is_own (heads place) ≡ true
  pub plain : (place : ℕ) → HasNo log_mark (heads place)
  pub edac : (place : ℕ) → HasNo edac_mark (heads place)

-- the report that both texts give, for this boot and IA32_MCG_CAP
abbrev pub log_report : ℕ → ℕ → TraceEvent → BankReport
log_report boot cap event = record {
  boot = boot;
  seconds = event.seconds;
  cpu = event.cpu;
  bank = event.bank;
  tsc = event.tsc;
  cap = cap;
  mcg = event.mcg;
  status = event.status;
  addr = event.addr;
  misc = event.misc;
}
