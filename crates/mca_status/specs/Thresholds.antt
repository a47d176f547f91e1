-- The threshold status of a bank's corrected errors: the Intel SDM, volume 3, chapter "Machine-Check Architecture",
-- section "IA32_MCi_STATUS MSRs", on the threshold-based error status.
use Rattle.std.specs.Prelude.{Bool, ◌&&◌, not, List, [], ◌∷◌, slice_index_or, if◌then◌else◌}
use Rattle.mca_status.specs.Registers.{tells_threshold, uncorrected, threshold_status}
use Rattle.mca_status.specs.declared.registers.Cap.{Cap}
use Rattle.mca_status.specs.declared.registers.Status.{Status}
use Rattle.mca_status.specs.declared.thresholds.Threshold.{Threshold}
use Rattle.mca_status.specs.declared.thresholds.Threshold.TheVariants.{Untold, NoTracking, Green, Yellow, Reserved}

-- whether the field has a meaning: the banks report a threshold status, and the error was corrected
abbrev pub is_threshold_told : Cap → Status → Bool
is_threshold_told cap status = tells_threshold cap && not (uncorrected status)

-- the meanings of the field, by its value from 0
abbrev pub threshold_values : List Threshold
threshold_values = NoTracking ∷ Green ∷ Yellow ∷ Reserved ∷ []

-- the meaning of the field, or Untold if it has no meaning
abbrev pub threshold_of : Cap → Status → Threshold
threshold_of cap status =
    if is_threshold_told cap status then slice_index_or threshold_values (threshold_status status) Reserved
    else Untold
