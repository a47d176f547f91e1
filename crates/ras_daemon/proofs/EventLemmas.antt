-- What an accepted line prints: an event prints quiet lines and then its done line, and any other line prints
-- nothing.
use Rattle.std.proofs.Common.{◌≡◌, ℕ, Bool, true, false, List, [], ◌∷◌, ◌++◌, Option, Some, None, Result, Ok, Err, refl, ap, ◌∙◌, inl, inr}
use Rattle.std.specs.Prelude.{◌⊎◌, if◌then◌else◌, IfOk, unwrap_or}
use Rattle.std.specs.List.{AllByRecursion}
use Rattle.erst_store.specs.Store.{Stored}
use Rattle.ras_account.specs.Account.{State}
use Rattle.ras_account.specs.Accounts.{IsAccount}
use Rattle.ras_script.specs.declared.line.Line.{Line}
use Rattle.ras_script.specs.declared.line.Line.TheVariants as asks
use Rattle.ras_script.specs.declared.line.LineRefused.{LineRefused}
use Rattle.ras_texts.specs.Text.{done_line}
use Rattle.ras_events.specs.declared.event.Event.{Event}
use Rattle.ras_events.specs.declared.event.LineRefusal.{LineRefusal}
use Rattle.ras_exit.specs.declared.reason.Reason.TheVariants as reason
use Rattle.ras_events.specs.declared.settings.Settings.{Settings}
use Rattle.ras_events.specs.Events.{event_of}
use Rattle.ras_events.specs.Making.{entries_in}
use Rattle.ras_events.specs.declared.made.Piece.{Piece}
use Rattle.ras_events.specs.Described.{NumberedLine}
use Rattle.ras_run.specs.Sites.{Site}
use Rattle.ras_run.specs.Places.{Place, deed_at, entries_at, places_from, site_after, site_along}
use Rattle.ras_daemon.specs.Script.{is_event}
use Rattle.ras_events.specs.Sizes.{IsFit}
use Rattle.ras_events.specs.QuietLines.{AreQuietLines}
use Rattle.ras_exit.specs.declared.exit.Exit.TheVariants.{BadLine}
use Rattle.ras_run.specs.Output.{done_at, output_at, text_at}
use Rattle.ras_events.specs.Deeds.{Asking, deed_of, made_in, reopens}
use Rattle.ras_run.specs.Deeds.{deed_counts, deed_done, text_by}
use Rattle.ras_run.specs.Status.{refusal_at, site_refusal}
use Rattle.ras_run.specs.Taking.{IsAccepted}
use Rattle.ras_daemon.specs.Runs.{IsNoPoll}
use Rattle.ras_events.proofs.AskedLemmas.{Asks, of-line}
use Rattle.ras_events.proofs.DoneLemmas.{no_lines_quiet}
use Rattle.ras_events.proofs.EventLemmas.{event_quiet_in}
use Rattle.ras_events.proofs.WholeLineLemmas.{standing_quiet}
use Rattle.ras_run.proofs.LineLawLemmas.{taken_account}

-- ---- what a line asks for

-- a line that asks for something has a done line, if it isn't rejected
abbrev HasDoneLine : Result Event LineRefusal → Type 0
HasDoneLine event = IfOk event (λ asked. (deed_of (Ok asked)).has_done_line ≡ true)

line-done : (settings : Settings) (line : Line) → (line ≡ asks.Nothing → ⊥) → HasDoneLine (event_of settings line)
line-done settings line not = of-line HasDoneLine (λ why. tt) settings line (by line not)
  where
    by : (line : Line) → (line ≡ asks.Nothing → ⊥) → Asks HasDoneLine settings line
    by asks.Nothing not = absurd (not refl)
    by (asks.Report report) not = λ made. refl
    by (asks.Panic id bank) not = λ lists is none. refl
    by (asks.Poll seconds) not = λ lists is. refl
    by line not = refl

pub place-done : (p : Place) → refusal_at p ≡ None → is_event p ≡ true → done_at p ≡ done_line p.1.0
place-done (site, (number, Err why)) taken is = absurd cc
place-done (site, (number, Ok asks.Nothing)) taken is = absurd cc
place-done (site, (number, Ok line)) taken is = by (event_of site.settings line) (line-done site.settings line (λ same. absurd cc)) taken
  where
    by : (event : Result Event LineRefusal) → HasDoneLine event → site_refusal site number event ≡ None → deed_done number (deed_of event) ≡ done_line number
    by (Ok event) has taken = ap (λ (b : Bool). if b then done_line number else []) has
    by (Err why) has taken = absurd cc

-- what a line reports doesn't depend on the record store, unless the line polls
made-unpolled : (settings : Settings) (one other : List Stored) (number : ℕ) (line : Line) → IsNoPoll (number, Ok line)
    → made_in settings.topology one (event_of settings line) ≡ made_in settings.topology other (event_of settings line)
made-unpolled settings one other number line not = of-line Same (λ why. refl) settings line (by line not)
  where
    Same : Result Event LineRefusal → Type 0
    Same event = made_in settings.topology one event ≡ made_in settings.topology other event

    by : (line : Line) → IsNoPoll (number, Ok line) → Asks Same settings line
    by (asks.Poll seconds) not = absurd not
    by (asks.Report report) not = λ made. refl
    by (asks.Panic id bank) not = λ lists is none. refl
    by line not = refl

-- what such a line reports depends only on the machine description, and not on the line's number
pub entries-unpolled : (one other : Site) (k m : ℕ) (read : Result Line LineRefused) → IsNoPoll (m, read) → one.settings ≡ other.settings → entries_at (one, (k, read)) ≡ entries_at (other, (m, read))
entries-unpolled one other k m (Err why) not same = refl
entries-unpolled one other k m (Ok line) not same =
    ap (λ (s : Settings). entries_in (made_in s.topology one.store (event_of s line))) same
    ∙ ap entries_in (made-unpolled other.settings one.store other.store m line not)

-- ---- what is printed

-- an event prints quiet lines and then the done line of its number
pub record PrintsEvent (place : Place) : Type 0 where
  pub event : is_event place ≡ true
  pub text : List ℕ
  pub quiet : AreQuietLines text
  pub printed : output_at place ≡ text ++ done_line place.1.0

-- a line that isn't an event prints nothing
pub record PrintsNothing (place : Place) : Type 0 where
  pub event : is_event place ≡ false
  pub silent : output_at place ≡ []

abbrev pub Tells : Place → Type 0
Tells place = PrintsEvent place ⊎ PrintsNothing place

text-quiet : (account : State) (asks : Asking) (counted : Option (List Piece)) → IsFit (unwrap_or counted []) → IsAccount account → AreQuietLines (text_by account asks counted)
text-quiet account reopens counted fit is = standing_quiet account is
text-quiet account asks (Some made) fit is = event_quiet_in account made is fit
text-quiet account asks None fit is = no_lines_quiet

-- an accepted line prints one or the other
pub tells : (p : Place) → IsAccepted p → IsAccount p.0.account → Tells p
tells (site, (number, Ok asks.Nothing)) accepted account = inr (record { event = refl; silent = refl })
tells (site, (number, Err why)) accepted account = absurd (let refused : Some (BadLine number (reason.Line why)) ≡ None = accepted.taken in cc)
tells (site, (number, Ok line)) accepted account =
    let p : Place = (site, (number, Ok line)) in
    inl (record {
      event = refl;
      text = text_at p;
      quiet = text-quiet site.account (deed_at p).asks (deed_counts site (deed_at p)) accepted.fit account;
      printed = ap (λ (done : List ℕ). text_at p ++ done) (place-done p accepted.taken refl);
    })

-- accepted lines print so in order
pub tells-along : (site : Site) (reads : List NumberedLine) → AllByRecursion IsAccepted (places_from site reads) → IsAccount site.account → AllByRecursion Tells (places_from site reads)
tells-along site [] accepted account = tt
tells-along site (read ∷ reads) accepted account =
    (tells (site, read) accepted.0 account, tells-along (site_after site read) reads accepted.1 (taken_account (site, read) accepted.0 account))

pub account-along : (site : Site) (reads : List NumberedLine) → AllByRecursion IsAccepted (places_from site reads) → IsAccount site.account → IsAccount (site_along site reads).account
account-along site [] accepted account = account
account-along site (read ∷ reads) accepted account = account-along (site_after site read) reads accepted.1 (taken_account (site, read) accepted.0 account)
