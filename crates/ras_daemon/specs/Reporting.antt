-- What a report of the account prints and how it ends, given what the files contain. A report writes nothing.
use Rattle.std.specs.Prelude.{◌≡◌, ℕ, ◌⊎◌, List, ◌++◌, codes, Result, Ok, Err, ⊤}
use Rattle.board_core.specs.Clock.{Clock, LeftNow}
use Rattle.board_core.specs.Stop.{Left, Begins, InOut}
use Rattle.board_core.specs.Told.{Told}
use Rattle.ras_account.specs.Account.{State}
use Rattle.ras_journal.specs.Recovered.{Refusal, damaged, recovered, too_long}
use Rattle.ras_recover.specs.DiskCalls.{IsBeginning, Makes}
use Rattle.ras_recover.specs.OpeningCalls.{IsRecovery}
use Rattle.ras_recover.specs.Recovering.{file_number}
use Rattle.listing_texts.specs.declared.listing.Listing.{Listing}
use Rattle.listing_texts.specs.declared.listing.Listing.TheVariants.{Metrics}
use Rattle.listing_texts.specs.Listing.{listing_lines}
use Rattle.ras_texts.specs.Text.{end_line}
use Rattle.ras_exit.specs.declared.exit.Exit.{Exit}
use Rattle.ras_exit.specs.declared.exit.Exit.TheVariants.{Damaged, DiskFault, Done, NoMemory, PrintFault, TooLong}
use Rattle.board_core.specs.Device.{KeepsDevice}
use Rattle.ras_exit.specs.StopLine.{stop_line}
use Rattle.ras_exit.specs.Telling.{Tells}

-- how a report ends: it succeeds, or a file is too long or damaged at an offset
abbrev pub exit_by : Result State Refusal → Exit
exit_by (Ok account) = Done
exit_by (Err too_long) = TooLong
exit_by (Err (damaged file place)) = Damaged (file_number file) place

-- What a report prints: the lines of the listing and the end line, or the `stop` line of its exit. Metrics have no
-- end line, because they contain its numbers. If there is a `stop` line instead of metrics, it is printed as a
-- comment, so that a collector takes no sample and a reader sees why.
abbrev pub output_by : Listing → Result State Refusal → List ℕ
output_by Metrics (Ok account) = listing_lines Metrics account
output_by Metrics (Err why) = codes "# " ++ stop_line (exit_by (Err why))
output_by listing (Ok account) = listing_lines listing account ++ end_line account
output_by listing (Err why) = stop_line (exit_by (Err why))

-- the exit of a report over the files of a board
abbrev pub report_exit : Left → Exit
report_exit here = exit_by (recovered here.file0 here.file1)

-- the text of a report over the files of a board
abbrev pub report_output : Listing → Left → List ℕ
report_output listing here = output_by listing (recovered here.file0 here.file1)

-- A report prints this text, or a beginning of it. Files and device are unchanged, and the disk calls are the calls
-- of a recovery, or the first few of them.
pub record Reports (listing : Listing) (result : Exit) (before now : Told) : Type 0 where
  pub tells : Tells (report_exit before.here) (report_output listing before.here) result before now
  pub file0 : now.here.file0 ≡ before.here.file0
  pub file1 : now.here.file1 ≡ before.here.file1
  pub device : KeepsDevice before now
  pub calls : Makes (IsBeginning IsRecovery) before now

-- What a crash leaves: what a crash before the report may have left, or all that the model said then, with a
-- beginning of this text printed.
abbrev pub ReportMoment : Clock → List ℕ → Left → Left → Type 0
ReportMoment clock text here left = LeftNow clock left ⊎ InOut (Begins text) here left

-- how a report may end
abbrev pub IsReportExit : Exit → Type 0
IsReportExit Done = ⊤
IsReportExit DiskFault = ⊤
IsReportExit PrintFault = ⊤
IsReportExit (Damaged file place) = ⊤
IsReportExit TooLong = ⊤
IsReportExit NoMemory = ⊤
IsReportExit exit = ⊥
