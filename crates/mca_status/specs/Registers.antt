-- The fields of the machine-check registers that decoding reads, by the bit positions of the
-- Intel SDM, volume 3, chapter "Machine-Check Architecture": IA32_MCG_CAP, IA32_MCG_STATUS,
-- IA32_MCi_STATUS and IA32_MCi_MISC. A register is a number.
use Rattle.std.specs.Prelude.{ℕ, ◌≡◌, ◌==◌, Bool, false, List}
use Rattle.std.specs.List.{list_any}
use Rattle.std.specs.Int.{bit_at}
use Rattle.ras_base.specs.Bits.{is_set, bits}
use Rattle.mca_status.specs.declared.registers.Cap.{Cap}
use Rattle.mca_status.specs.declared.registers.Status.{Status}
use Rattle.mca_status.specs.declared.registers.GlobalStatus.{GlobalStatus}
use Rattle.mca_status.specs.declared.registers.Misc.{Misc}

-- Two registers have the same bits, except at the listed positions.
abbrev pub AgreeApartFrom : List ℕ → ℕ → ℕ → Type 0
AgreeApartFrom places a b = (i : ℕ) → list_any (λ place. place == i) places ≡ false → bit_at a i ≡ bit_at b i

-- IA32_MCG_CAP: MCG_CMCI_P, banks count corrected errors
abbrev pub counts_corrected : Cap → Bool
counts_corrected cap = is_set 10 cap.0

-- IA32_MCG_CAP: MCG_TES_P, banks report a threshold status
abbrev pub tells_threshold : Cap → Bool
tells_threshold cap = is_set 11 cap.0

-- IA32_MCG_CAP: MCG_SER_P, the processor reports errors that software can recover from
abbrev pub recovers_in_software : Cap → Bool
recovers_in_software cap = is_set 24 cap.0

-- IA32_MCG_STATUS: RIPV, the interrupted program can be restarted
abbrev pub restart_valid : GlobalStatus → Bool
restart_valid status = is_set 0 status.0

-- IA32_MCG_STATUS: EIPV, the instruction pointer belongs to the error
abbrev pub error_pointer_valid : GlobalStatus → Bool
error_pointer_valid status = is_set 1 status.0

-- IA32_MCG_STATUS: MCIP, a machine check is in progress
abbrev pub in_progress : GlobalStatus → Bool
in_progress status = is_set 2 status.0

-- IA32_MCi_STATUS: the MCA error code
abbrev pub error_code : Status → ℕ
error_code status = bits 0 16 status.0

-- IA32_MCi_STATUS: the corrected error count
abbrev pub corrected_count : Status → ℕ
corrected_count status = bits 38 15 status.0

-- IA32_MCi_STATUS: the threshold status
abbrev pub threshold_status : Status → ℕ
threshold_status status = bits 53 2 status.0

-- IA32_MCi_STATUS: AR, software has to act before the program goes on
abbrev pub action_required : Status → Bool
action_required status = is_set 55 status.0

-- IA32_MCi_STATUS: S, the error was signaled by a machine-check exception
abbrev pub signaled : Status → Bool
signaled status = is_set 56 status.0

-- IA32_MCi_STATUS: PCC, the processor's context is corrupt
abbrev pub context_corrupt : Status → Bool
context_corrupt status = is_set 57 status.0

-- IA32_MCi_STATUS: ADDRV, IA32_MCi_ADDR has an address
abbrev pub address_valid : Status → Bool
address_valid status = is_set 58 status.0

-- IA32_MCi_STATUS: MISCV, IA32_MCi_MISC says more about the error
abbrev pub misc_valid : Status → Bool
misc_valid status = is_set 59 status.0

-- IA32_MCi_STATUS: EN, the error was enabled in IA32_MCi_CTL
abbrev pub enabled : Status → Bool
enabled status = is_set 60 status.0

-- IA32_MCi_STATUS: UC, the hardware did not correct the error
abbrev pub uncorrected : Status → Bool
uncorrected status = is_set 61 status.0

-- IA32_MCi_STATUS: OVER, an earlier error of the bank was lost
abbrev pub overflow : Status → Bool
overflow status = is_set 62 status.0

-- IA32_MCi_STATUS: VAL, the bank has an error
abbrev pub valid : Status → Bool
valid status = is_set 63 status.0

-- IA32_MCi_MISC, if MCG_SER_P is 1: the lowest bit of the address that is valid
abbrev pub least_bit : Misc → ℕ
least_bit misc = bits 0 6 misc.0

-- IA32_MCi_MISC, if MCG_SER_P is 1: the address mode, 2 being a physical address
abbrev pub address_mode : Misc → ℕ
address_mode misc = bits 6 3 misc.0
