-- What a deed counts and prints at a site, and what it does to the record store.
use Rattle.std.specs.Prelude.{ℕ, Bool, true, false, List, [], Option, None, Some, if◌then◌else◌, unwrap_or}
use Rattle.erst_store.specs.Store.{Stored}
use Rattle.ras_account.specs.Account.{State}
use Rattle.ras_events.specs.declared.made.Piece.{Piece}
use Rattle.ras_events.specs.Deeds.{Asking, Deed, counted_in, polls, puts, reopens, saves}
use Rattle.ras_events.specs.Preparing.{event_text_in}
use Rattle.ras_events.specs.Stores.{store_with, unreadable}
use Rattle.ras_texts.specs.Orders.{standing_lines}
use Rattle.ras_texts.specs.Text.{done_line}
use Rattle.ras_run.specs.Sites.{Site}

-- ---- what a deed counts and prints at a site

abbrev pub counted_by : Site → Asking → Option (List Piece) → Option (List Piece)
counted_by site asks reported = counted_in site.settings.topology site.store asks reported

abbrev pub deed_counts : Site → Deed → Option (List Piece)
deed_counts site deed = counted_by site deed.asks deed.reported

abbrev pub deed_pieces : Site → Deed → List Piece
deed_pieces site deed = unwrap_or (deed_counts site deed) []

-- The text: the lines of the outstanding orders, if the deed opens the journal again, and otherwise the lines of the
-- pieces.
abbrev pub text_by : State → Asking → Option (List Piece) → List ℕ
text_by account reopens counted = standing_lines account
text_by account asks (Some made) = event_text_in account made
text_by account asks None = []

abbrev pub deed_text : Site → Deed → List ℕ
deed_text site deed = text_by site.account deed.asks (deed_counts site deed)

abbrev pub deed_done : ℕ → Deed → List ℕ
deed_done number deed = if deed.has_done_line then done_line number else []

-- ---- what a deed does to the record store

-- the store once the deed's own record is in it; and whether the deed clears the readable records afterwards
abbrev pub store_asked : Asking → List Stored → List Stored
store_asked (puts r) store = store_with r.id r.bytes store
store_asked (saves r) store = store_with r.id r.bytes store
store_asked asks store = store

abbrev pub clears_by : Asking → Bool
clears_by (polls seconds) = true
clears_by asks = false

-- the store once the deed is done
abbrev pub store_done : Asking → List Stored → List Stored
store_done asks store = if clears_by asks then unreadable (store_asked asks store) else store_asked asks store
