-- What a log line prints about a bank besides the fact.
use Rattle.std.specs.Prelude.{ℕ, Bool, List, ◌++◌, codes, if◌then◌else◌}
use Rattle.mca_codes.specs.declared.marks.Mark.{Mark}
use Rattle.mca_codes.specs.declared.marks.Mark.TheVariants as marks
use Rattle.mca_codes.specs.Codes.{code_of_rows}
use Rattle.mca_codes.specs.Marks.{mark_of_number}
use Rattle.mca_codes.specs.Texts.{code_text_of as code_text}
use Rattle.mca_status.specs.declared.registers.Cap.{Cap}
use Rattle.mca_status.specs.declared.registers.GlobalStatus.{GlobalStatus}
use Rattle.mca_status.specs.declared.registers.Status.{Status}
use Rattle.mca_status.specs.declared.thresholds.Threshold.{Threshold}
use Rattle.mca_status.specs.declared.thresholds.Threshold.TheVariants.{Untold, NoTracking, Green, Yellow, Reserved}
use Rattle.mca_status.specs.Registers.{error_code, overflow, restart_valid, error_pointer_valid, in_progress}
use Rattle.mca_status.specs.Thresholds.{threshold_of}
use Rattle.ras_facts.specs.declared.bank.BankReport.{BankReport}
use Rattle.ras_facts.specs.Facts.{cap_in, status_in}

abbrev pub threshold_text : Threshold → List ℕ
threshold_text Untold = codes "-"
threshold_text NoTracking = codes "none"
threshold_text Green = codes "green"
threshold_text Yellow = codes "yellow"
threshold_text Reserved = codes "reserved"

abbrev pub mark_text : Mark → List ℕ
mark_text marks.Neither = codes "-"
mark_text marks.Srao = codes "srao"
mark_text marks.Srar = codes "srar"

abbrev pub bit_text : Bool → List ℕ
bit_text bit = if bit then codes "1" else codes "0"

-- the text of an error code
unfoldable pub code_detail : ℕ → List ℕ
code_detail code = codes "code=" ++ code_text (code_of_rows code)

-- The text of an error's registers besides the class, the weight and the page: the error's code, the threshold status,
-- OVER, and whether the code belongs to a recoverable error.
unfoldable pub error_detail : Cap → Status → List ℕ
error_detail cap status =
    code_detail (error_code status)
    ++ codes " threshold=" ++ threshold_text (threshold_of cap status)
    ++ codes " over=" ++ bit_text (overflow status)
    ++ codes " mark=" ++ mark_text (mark_of_number (error_code status))

-- the flags of IA32_MCG_STATUS
unfoldable pub flags_detail : GlobalStatus → List ℕ
flags_detail global =
    codes " ripv=" ++ bit_text (restart_valid global)
    ++ codes " eipv=" ++ bit_text (error_pointer_valid global)
    ++ codes " mcip=" ++ bit_text (in_progress global)

-- the text of a bank's snapshot besides its item
abbrev pub bank_detail : BankReport → List ℕ
bank_detail bank =
    error_detail (cap_in bank) (status_in bank) ++ flags_detail (record { 0 = bank.mcg })
