-- What a report says once the files are read, before it is printed.
use Rattle.std.specs.Prelude.{◌≡◌, ◌⊎◌, List, ℕ, [], ◌++◌, codes, Result, Ok, Err}
use Rattle.ras_account.specs.Account.{State}
use Rattle.ras_journal.specs.Recovered.{Refusal}
use Rattle.ras_recover.specs.declared.refused.OpenRefused.{OpenRefused}
use Rattle.ras_recover.specs.declared.refused.OpenRefused.TheVariants as opening
use Rattle.listing_texts.specs.declared.listing.Listing.{Listing}
use Rattle.listing_texts.specs.declared.listing.Listing.TheVariants.{Metrics}
use Rattle.listing_texts.specs.Listing.{listing_lines}
use Rattle.ras_texts.specs.Text.{end_line}
use Rattle.ras_exit.specs.declared.exit.Exit.{Exit}
use Rattle.ras_exit.specs.declared.exit.Exit.TheVariants.{Damaged, DiskFault, NoMemory, TooLong}
use Rattle.ras_exit.specs.Endings.{IsAnswer}
use Rattle.ras_daemon.specs.Reporting.{IsReportExit, exit_by, output_by}

-- how a report ends if the files weren't recovered: with an answer, or cut short
abbrev pub unrecovered : OpenRefused → Result Exit Exit
unrecovered opening.Disk = Err DiskFault
unrecovered opening.TooLong = Ok TooLong
unrecovered (opening.Damaged file place) = Ok (Damaged file place)
unrecovered opening.NoMemory = Err NoMemory

-- the text before a `stop` line that is printed instead of a listing
abbrev pub stop_mark : Listing → List ℕ
stop_mark Metrics = codes "# "
stop_mark listing = []

-- the lines of a listing with its end line, if it has one
abbrev pub whole_listing : Listing → State → List ℕ
whole_listing Metrics account = listing_lines Metrics account
whole_listing listing account = listing_lines listing account ++ end_line account

-- exit and text of a report over files with this content
pub record IsSaid (listing : Listing) (held : Result State Refusal) (exit : Exit) (text : List ℕ) : Type 0 where
  pub exit_is : exit ≡ exit_by held
  pub text_is : text ≡ output_by listing held

-- the exit of a report that isn't cut short
pub record IsReportAnswer (exit : Exit) : Type 0 where
  pub listed : IsReportExit exit
  pub answer : IsAnswer exit

-- A report is cut short by a fault of the disk, or because memory ran out.
abbrev pub IsCutBy : Result (Unit {0}) OpenRefused → Exit → Type 0
IsCutBy failure exit =
    ((exit ≡ DiskFault) × (failure ≡ Err opening.Disk)) ⊎ ((exit ≡ NoMemory) × (failure ≡ Ok tt))
