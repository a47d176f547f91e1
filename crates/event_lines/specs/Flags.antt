-- The kinds of PCI Express errors by the kernel's names, each with its bit of a status: the tables
-- `aer_correctable_errors` and `aer_uncorrectable_errors` of include/ras/ras_event.h. The kernel prints the names
-- of the bits that are set, from the lowest bit up with `|` between, and last `0x` and the bits without a name.
use Rattle.std.specs.Prelude.{ℕ, ◌+◌, ◌-◌, ◌^◌, ◌==◌, List, [], ◌∷◌, codes, length, nat_le, nat_lt, Option, Some, if◌then◌else◌}
use Rattle.std.specs.Map.{lookup}
use Rattle.std.specs.Option.{option_map_or}
use Rattle.std.specs.Str.{bytes_eq}
use Rattle.ras_klog.specs.Reading.{provided, read_then}
use Rattle.ras_script.specs.Number.{hexadecimal_of}
use Rattle.bank_lines.specs.Parts.{cut_at, value_after}
use Rattle.event_lines.specs.declared.aer.AerSeverity.{AerSeverity}
use Rattle.event_lines.specs.declared.aer.AerSeverity.TheVariants.{Corrected}

-- ---- the tables

abbrev pub Flags : Type 0
Flags = List (List ℕ × ℕ)

abbrev pub correctable_flags : Flags
correctable_flags =
    (codes "Receiver Error", 2 ^ 0) ∷ (codes "Bad TLP", 2 ^ 6) ∷ (codes "Bad DLLP", 2 ^ 7)
    ∷ (codes "RELAY_NUM Rollover", 2 ^ 8) ∷ (codes "Replay Timer Timeout", 2 ^ 12)
    ∷ (codes "Advisory Non-Fatal Error", 2 ^ 13) ∷ (codes "Corrected Internal Error", 2 ^ 14)
    ∷ (codes "Header Log Overflow", 2 ^ 15) ∷ []

-- the second half of the table of uncorrectable errors
abbrev pub late_flags : Flags
late_flags =
    (codes "Malformed TLP", 2 ^ 18) ∷ (codes "ECRC Error", 2 ^ 19) ∷ (codes "Unsupported Request Error", 2 ^ 20)
    ∷ (codes "ACS Violation", 2 ^ 21) ∷ (codes "Uncorrectable Internal Error", 2 ^ 22)
    ∷ (codes "MC Blocked TLP", 2 ^ 23) ∷ (codes "AtomicOp Egress Blocked", 2 ^ 24)
    ∷ (codes "TLP Prefix Blocked Error", 2 ^ 25) ∷ []

abbrev pub uncorrectable_flags : Flags
uncorrectable_flags =
    (codes "Undefined", 2 ^ 0) ∷ (codes "Data Link Protocol Error", 2 ^ 4) ∷ (codes "Surprise Down Error", 2 ^ 5)
    ∷ (codes "Poisoned TLP", 2 ^ 12) ∷ (codes "Flow Control Protocol Error", 2 ^ 13)
    ∷ (codes "Completion Timeout", 2 ^ 14) ∷ (codes "Completer Abort", 2 ^ 15)
    ∷ (codes "Unexpected Completion", 2 ^ 16) ∷ (codes "Receiver Overflow", 2 ^ 17) ∷ late_flags

-- the table by which the kernel prints the status of an error
abbrev pub flags_of : AerSeverity → Flags
flags_of Corrected = correctable_flags
flags_of severity = uncorrectable_flags

-- ---- numbers

-- the value of a hexadecimal word, if it is at most `most`
abbrev pub hexadecimal_to : ℕ → List ℕ → Option ℕ
hexadecimal_to most word = read_then (hexadecimal_of word) (λ value. provided (nat_le value most) (Some value))

-- a number of 32 bits after `0x`
abbrev pub word_of : List ℕ → Option ℕ
word_of text = read_then (value_after (codes "0x") text) (λ digits. hexadecimal_to (2 ^ 32 - 1) digits)

-- ---- a status

-- the status with the bit of a name: names come from the lowest bit up, so the bit is greater than all bits before it
abbrev pub with_bit : ℕ → ℕ → Option ℕ
with_bit status bit = provided (nat_lt status bit) (Some (status + bit))

-- the status with the bits that have no name
abbrev pub with_others : ℕ → ℕ → Option ℕ
with_others status others = provided (nat_lt (status + others) (2 ^ 32)) (Some (status + others))

-- the status with one more flag
abbrev pub flag_added : Flags → ℕ → List ℕ → Option ℕ
flag_added table status flag =
    option_map_or (with_bit status) (lookup (bytes_eq flag) table) (read_then (word_of flag) (with_others status))

-- the status with more flags
abbrev pub flags_added : Flags → ℕ → List (List ℕ) → Option ℕ
flags_added table status [] = Some status
flags_added table status (flag ∷ flags) =
    read_then (flag_added table status flag) (λ status. flags_added table status flags)

-- the status that a text gives; a text without flags is empty
abbrev pub status_of : AerSeverity → List ℕ → Option ℕ
status_of severity text =
    if length text == 0 then Some 0 else flags_added (flags_of severity) 0 (cut_at 124 text)
