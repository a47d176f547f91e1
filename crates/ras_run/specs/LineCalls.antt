-- The disk calls of a line that has made all of them.
use Rattle.std.specs.Prelude.{◌≡◌, List, [], ◌∷◌}
use Rattle.board_core.specs.declared.board.DiskCall.{DiskCall}
use Rattle.board_core.specs.Stop.{Left}
use Rattle.journal_format.specs.Links.{link_bytes}
use Rattle.ras_account.specs.Numbers.{fresh_entries_in}
use Rattle.ras_facts.specs.declared.entry.Entry.{Entry}
use Rattle.ras_recover.specs.OpeningCalls.{IsRecoveryOf}
use Rattle.ras_events.specs.Deeds.{Asking, Deed, reopens}
use Rattle.ras_run.specs.Deeds.{deed_pieces}
use Rattle.ras_run.specs.KeepingCalls.{IsKeeping}
use Rattle.ras_events.specs.Making.{entries_in}
use Rattle.ras_run.specs.Places.{Place, deed_at}
use Rattle.ras_run.specs.Sites.{Site}

-- New entries are appended as one link; without new entries there is no call.
abbrev pub AreNewsCalls : List Entry → List DiskCall → Type 0
AreNewsCalls [] calls = calls ≡ []
AreNewsCalls (entry ∷ entries) calls = IsKeeping (link_bytes (entry ∷ entries)) calls

-- A line that opens the journal again recovers it, by reading all that decides the result. Any other line appends its
-- new entries.
abbrev pub AreCallsBy : Asking → Left → List Entry → List DiskCall → Type 0
AreCallsBy reopens here news calls = IsRecoveryOf here calls
AreCallsBy asks here news calls = AreNewsCalls news calls

abbrev pub AreDeedCalls : Site → Left → Deed → List DiskCall → Type 0
AreDeedCalls site here deed calls =
    AreCallsBy deed.asks here (fresh_entries_in site.account (entries_in (deed_pieces site deed))) calls

abbrev pub AreCallsAt : Place → Left → List DiskCall → Type 0
AreCallsAt place here calls = AreDeedCalls place.0 here (deed_at place) calls
