-- How many errors a bank's report counts for: the Intel SDM, volume 3, chapter "Machine-Check Architecture", section
-- "IA32_MCi_STATUS MSRs", on the corrected error count. That every other report weighs 1 is this project's own rule.
use Rattle.std.specs.Prelude.{ℕ, Bool, ◌&&◌, ◌==◌, not, if◌then◌else◌}
use Rattle.mca_status.specs.Registers.{counts_corrected, uncorrected, corrected_count}
use Rattle.mca_status.specs.declared.registers.Cap.{Cap}
use Rattle.mca_status.specs.declared.registers.Status.{Status}

-- whether the count field applies: the banks count corrected errors, and the error was corrected
abbrev pub count_applies : Cap → Status → Bool
count_applies cap status = counts_corrected cap && not (uncorrected status)

-- the count if it applies and isn't 0, else 1
abbrev pub weight_of : Cap → Status → ℕ
weight_of cap status =
    if count_applies cap status && not (corrected_count status == 0) then corrected_count status else 1
