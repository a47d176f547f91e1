-- What a log leaves to a trace that the same run gets.
use Rattle.std.specs.Prelude.{◌≡◌, ℕ, Bool, true, false, not, List, [], ◌∷◌, ◌++◌, ◌&&◌, codes, nat_lt, Option, None, Some, if◌then◌else◌}
use Rattle.ras_facts.specs.declared.bank.BankReport.{BankReport}
use Rattle.bank_lines.specs.LogLines.{marked_stamp_of}
use Rattle.bank_lines.specs.Texts.{asking_line, found_text}
use Rattle.bank_lines.specs.declared.found.Finding.{Finding}
use Rattle.bank_lines.specs.declared.found.Finding.TheVariants.{Torn}
use Rattle.block_lines.specs.Reports.{Reporting, is_end, left_to_trace}
use Rattle.block_lines.specs.Texts.{block_text, blocks_text_at, blocks_text_beside}
use Rattle.block_lines.specs.LogLines.{report_log_line}
use Rattle.block_lines.specs.declared.report.OpenReport.{OpenReport}
use Rattle.log_lines.specs.Comments.{comment}
use Rattle.log_lines.specs.declared.borders.Borders.{Borders}
use Rattle.log_lines.specs.declared.borders.TheConstants.{LEAST_MADE}

-- nothing is left to a trace
abbrev pub no_borders : Borders
no_borders = record { checks = None; reports = None }

-- whether a time stamp stands at a border or behind it
abbrev pub is_behind : Option ℕ → Option ℕ → Bool
is_behind None stamp = false
is_behind (Some border) None = false
is_behind (Some border) (Some stamp) = not (nat_lt stamp border)

-- ---- a machine check

-- Whether a report's counter is made of its second and its registers, so that the report of the same error in a trace,
-- which has the address, gets another counter. A processor's own counter, which a log and a trace have alike, takes ten
-- years to get so high.
abbrev pub has_made_counter : BankReport → Bool
has_made_counter report = not (nat_lt report.tsc LEAST_MADE)

-- whether a trace has a machine check under another name, and whole, that lost its address in this line of a log
abbrev pub leaves_check : Option ℕ → List ℕ → Finding → Bool
leaves_check border bytes (Torn report) = is_behind border (marked_stamp_of bytes) && has_made_counter report
leaves_check border bytes found = false

abbrev pub torn_comment : ℕ → List ℕ
torn_comment number = comment (codes "# torn ") number

-- what is printed of what is found in a line of this number
abbrev pub check_said : Option ℕ → ℕ → List ℕ → Finding → List ℕ
check_said border number bytes found =
    if leaves_check border bytes found then torn_comment number else found_text number found

-- ---- all that is left out

-- Of what is found in a line the line `bank` is left out, and nothing else: its report lacks an address and a counter of
-- the processor's own, and the line was printed at the border or behind it.
pub record LeavesCheck (border : Option ℕ) (number : ℕ) (bytes : List ℕ) (found : Finding) : Type 0 where
  pub report : BankReport
  pub torn : found ≡ Torn report
  pub made : has_made_counter report ≡ true
  pub behind : is_behind border (marked_stamp_of bytes) ≡ true
  pub all : found_text number found ≡ check_said border number bytes found ++ asking_line report ++ 10 ∷ []

-- Of a firmware's report that a line ends the block and its table are left out, and nothing else.
pub record LeavesReport (border : Option ℕ) (r : Reporting) (number : ℕ) (bytes : List ℕ) : Type 0 where
  pub report : OpenReport
  pub work : r.work ≡ Some report
  pub ends : is_end r (report_log_line bytes) ≡ true
  pub left : left_to_trace border report ≡ true
  pub all :
      blocks_text_at r number (report_log_line bytes)
      ≡ block_text r report ++ blocks_text_beside border r number (report_log_line bytes)
