-- The last line of a rejected run says of no event that it is done.
use Rattle.std.proofs.Common.{◌≡◌, ℕ, true, [], ◌++◌, Option, None, Some, codes, refl}
use Rattle.std.specs.Option.{option_map_or}
use Rattle.std.specs.Prelude.{decimal}
use Rattle.ras_exit.specs.declared.reason.Reason.{Reason}
use Rattle.ras_exit.specs.declared.reason.Reason.TheVariants as reason
use Rattle.ras_events.specs.QuietLines.{AreQuietLines}
use Rattle.ras_events.proofs.ByteLemmas.{decimal_unbroken, is_unbroken, lacks_from, unbroken_both}
use Rattle.ras_events.proofs.WholeLineLemmas.{refused_quiet}
use Rattle.ras_events.proofs.QuietLemmas.{quiet_line, quiet_none}
use Rattle.ras_exit.specs.declared.exit.Exit.{Exit}
use Rattle.ras_exit.specs.declared.exit.Exit.TheVariants.{BadLine, Damaged, ErstBusy, ErstRefused, ErstStatus, Full, TooLong, Usage}
use Rattle.ras_exit.specs.Reasons.{reason_number, reason_text, reason_word}
use Rattle.ras_exit.specs.StopLine.{stop_line}

word-unbroken : (why : Reason) → is_unbroken (reason_word why) ≡ true
word-unbroken reason.LongLine = refl
word-unbroken why = refl

number-unbroken : (number : Option ℕ) → is_unbroken (option_map_or (λ n. codes "." ++ decimal n) number []) ≡ true
number-unbroken None = refl
number-unbroken (Some number) = unbroken_both (codes ".") (decimal number) refl (decimal_unbroken number)

pub reason-unbroken : (why : Reason) → is_unbroken (reason_text why) ≡ true
reason-unbroken why =
    unbroken_both (reason_word why) (option_map_or (λ n. codes "." ++ decimal n) (reason_number why) []) (word-unbroken why) (number-unbroken (reason_number why))

pub stop_quiet : (exit : Exit) → AreQuietLines (stop_line exit)
stop_quiet Usage = quiet_line (codes "stop 1 usage") refl refl
stop_quiet (BadLine line why) = refused_quiet line (reason_text why) (lacks_from (reason_text why) (reason-unbroken why))
stop_quiet (Damaged file place) =
    quiet_line (codes "stop 7 file=" ++ decimal file ++ codes " place=" ++ decimal place)
    (unbroken_both (codes "stop 7 file=" ++ decimal file ++ codes " place=") (decimal place)
    (unbroken_both (codes "stop 7 file=" ++ decimal file) (codes " place=")
    (unbroken_both (codes "stop 7 file=") (decimal file) refl (decimal_unbroken file)) refl) (decimal_unbroken place)) refl
stop_quiet (ErstRefused line) =
    quiet_line (codes "stop 9 line=" ++ decimal line) (unbroken_both (codes "stop 9 line=") (decimal line) refl (decimal_unbroken line)) refl
stop_quiet ErstBusy = quiet_line (codes "stop 10 busy") refl refl
stop_quiet (ErstStatus code) =
    quiet_line (codes "stop 11 code=" ++ decimal code) (unbroken_both (codes "stop 11 code=") (decimal code) refl (decimal_unbroken code)) refl
stop_quiet Full = quiet_line (codes "stop 8 full") refl refl
stop_quiet TooLong = quiet_line (codes "stop 13 too-long") refl refl
stop_quiet exit = quiet_none
