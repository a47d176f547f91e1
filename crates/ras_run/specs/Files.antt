-- Why the journal's files reject a run, and when they are unchanged.
use Rattle.std.specs.Prelude.{◌≡◌, Option, None, Some, Result, Ok, Err}
use Rattle.board_core.specs.Stop.{Left}
use Rattle.board_core.specs.Told.{Told}
use Rattle.ras_journal.specs.Recovered.{Refusal, damaged, recovered, too_long}
use Rattle.ras_recover.specs.Recovering.{file_number}
use Rattle.ras_exit.specs.declared.exit.Exit.{Exit}
use Rattle.ras_exit.specs.declared.exit.Exit.TheVariants.{Damaged, TooLong}

-- Why two files reject a run: one is too long, or one is damaged at an offset.
abbrev pub refusal_exit : {A : Type 0} → Result A Refusal → Option Exit
refusal_exit (Ok x) = None
refusal_exit (Err too_long) = Some TooLong
refusal_exit (Err (damaged file place)) = Some (Damaged (file_number file) place)

abbrev pub files_refusal : Left → Option Exit
files_refusal here = refusal_exit (recovered here.file0 here.file1)

-- Both files are unchanged.
pub record KeepsFiles (old new : Told) : Type 0 where
  pub file0 : new.here.file0 ≡ old.here.file0
  pub file1 : new.here.file1 ≡ old.here.file1
