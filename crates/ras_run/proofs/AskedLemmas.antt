-- The first acts of a deed: what the device calls leave, and what crashes leave meanwhile.
use Rattle.std.proofs.Common.{◌≡◌, ◌∙◌, ℕ, List, sym, ap, subst, inl, inr}
use Rattle.board_core.specs.Device.{KeepsDevice}
use Rattle.board_core.specs.Doing.{Moment, after_acts}
use Rattle.board_core.specs.Stop.{Becomes, InStore, Left}
use Rattle.board_core.specs.Told.{Told, device_of}
use Rattle.erst_store.specs.Device.{device_with}
use Rattle.erst_store.specs.DeviceLaws.{IsDevice}
use Rattle.erst_store.specs.Store.{Stored}
use Rattle.erst_interp.specs.Admission.{IsAdmittedTable}
use Rattle.erst_interp.specs.Run.{acts_of}
use Rattle.ras_account.specs.Account.{State}
use Rattle.ras_account.specs.Accounts.{IsAccount}
use Rattle.ras_journal.specs.Recovered.{IsAt, recovered}
use Rattle.ras_events.specs.Events.{Lists}
use Rattle.ras_events.specs.Stores.{store_with}
use Rattle.ras_records.proofs.ClearingLemmas.{calls_keep}
use Rattle.ras_records.proofs.QuietLemmas.{look_device, look_here, look_moment}
use Rattle.ras_records.proofs.SavingLemmas.{save_here, save_moment}
use Rattle.ras_events.specs.Deeds.{Asking, Deed, nothing, polls, puts, saves}
use Rattle.ras_run.specs.Deeds.{store_asked}
use Rattle.ras_run.specs.LineActs.{CanAskFor, asking_calls}
use Rattle.ras_run.specs.Moments.{IsBegun, course_to}
use Rattle.ras_run.specs.Sites.{Site, driving_lists}
use Rattle.ras_run.proofs.DrivesLemmas.{Drives}
use Rattle.ras_run.proofs.DeviceActLemmas.{calls_leave}
use Rattle.ras_run.proofs.StoreLemmas.{put_store}

-- the model once a deed has made its device calls
abbrev pub asked_told : Lists → Asking → Told → Told
asked_told lists asks t = after_acts (acts_of (asking_calls lists asks t)) t

-- ---- what holds of a board after these calls

-- A deed that clears records can clear them.
abbrev pub CanClearFor : Lists → Asking → Told → Type 0
CanClearFor lists (polls seconds) u = IsAdmittedTable lists × IsDevice (device_of u)
CanClearFor lists asks u = Unit {0}

-- The store has the deed's record.
pub record BoardAsked (site : Site) (asks : Asking) (u : Told) : Type 0 where
  pub store : u.here.store ≡ store_asked asks site.store
  pub slow : u.volatile.slow ≡ site.slow
  pub clear : CanClearFor (driving_lists site) asks u

-- The files contain the account of the site, and the store has the deed's record.
pub record HasAsked (site : Site) (asks : Asking) (u : Told) : Type 0 where
  pub account : IsAccount site.account
  pub at : IsAt site.standing site.account u.here
  pub board : BoardAsked site asks u

can_still : (lists : Lists) (asks : Asking) (u v : Told) → KeepsDevice u v → CanClearFor lists asks u → CanClearFor lists asks v
can_still lists (polls seconds) u v keeps can = (
  can.0,
  subst IsDevice (sym (ap (λ (rs : List Stored). device_with rs v.volatile) keeps.store ∙ ap (device_with u.here.store) keeps.volatile)) can.1,
)
can_still lists asks u v keeps can = tt

-- Acts that leave the device alone keep this.
pub board_kept : (site : Site) (asks : Asking) (u v : Told) → KeepsDevice u v → BoardAsked site asks u → BoardAsked site asks v
board_kept site asks u v keeps asked = record {
  store = keeps.store ∙ asked.store;
  slow = ap (λ volatile. volatile.slow) keeps.volatile ∙ asked.slow;
  clear = can_still (driving_lists site) asks u v keeps asked.clear;
}

-- ---- over a board of the site, before any device call

module _ (site : Site) (t : Told) (holds : HasAsked site nothing t) where
  abbrev lists : Lists
  lists = driving_lists site

  stays : t.here ≡ record t.here { store = site.store }
  stays = ap (λ (rs : List Stored). record t.here { store = rs }) holds.board.store

  puts_there : (r : Stored) → store_with r.id r.bytes t.here.store ≡ store_with r.id r.bytes site.store
  puts_there r = ap (store_with r.id r.bytes) holds.board.store

  saved_is : (r : Stored) (n : ℕ) → n ≡ r.id → store_with n r.bytes t.here.store ≡ store_with r.id r.bytes site.store
  saved_is r n is = ap (λ k. store_with k r.bytes t.here.store) is ∙ puts_there r

  pub asked_here : (asks : Asking) → Drives lists asks → CanAskFor asks t → (asked_told lists asks t).here ≡ record t.here { store = store_asked asks site.store }
  asked_here (puts r) drives can = ap (λ (rs : List Stored). record t.here { store = rs }) (put_store r.id r.bytes t ∙ puts_there r)
  asked_here (saves r) drives can =
      save_here lists (drives tt) t can.1 r.bytes can.0.size can.0.told can.0.each ∙ ap (λ (rs : List Stored). record t.here { store = rs }) (saved_is r _ can.0.named)
  asked_here (polls seconds) drives can = look_here lists (drives tt) t can ∙ stays
  asked_here asks drives can = stays

  can_clear : (asks : Asking) → Drives lists asks → CanAskFor asks t → CanClearFor lists asks (asked_told lists asks t)
  can_clear (polls seconds) drives can = (drives tt, look_device lists (drives tt) t can)
  can_clear asks drives can = tt

  pub has_asked : (asks : Asking) → Drives lists asks → CanAskFor asks t → HasAsked site asks (asked_told lists asks t)
  has_asked asks drives can = record {
    account = holds.account;
    at = subst (IsAt site.standing site.account) (sym (asked_here asks drives can)) (record { recovers = holds.at.recovers; position = holds.at.position });
    board = record {
      store = ap (λ (l : Left). l.store) (asked_here asks drives can);
      slow = (calls_keep (asking_calls lists asks t) t).slow ∙ holds.board.slow;
      clear = can_clear asks drives can;
    };
  }

  -- ---- what crashes leave meanwhile

  becomes_by : (one two : List Stored) (left : Left) → InStore (Becomes one) t.here left → one ≡ two → Becomes two site.store left.store
  becomes_by one two left by is = elim by.step [
    | inl same ↦ inl (ap (λ (l : Left). l.store) by.rest ∙ (same ∙ holds.board.store))
    | inr became ↦ inr (ap (λ (l : Left). l.store) by.rest ∙ (became ∙ is))
  ]

  asking_store : (asks : Asking) → Drives lists asks → CanAskFor asks t → (left : Left) → Moment (acts_of (asking_calls lists asks t)) t left → Becomes (store_asked asks site.store) site.store left.store
  asking_store (puts r) drives can left (inl torn) = becomes_by _ _ left torn (put_store r.id r.bytes t ∙ puts_there r)
  asking_store (puts r) drives can left (inr never) = absurd never
  asking_store (saves r) drives can left moment = becomes_by _ _ left (save_moment lists (drives tt) t can.1 r.bytes can.0.size can.0.told can.0.each left moment) (saved_is r _ can.0.named)
  asking_store (polls seconds) drives can left moment = inl (ap (λ (l : Left). l.store) (look_moment lists (drives tt) t can left moment) ∙ holds.board.store)
  asking_store asks drives can left never = absurd never

  pub asking_begun : (number : ℕ) (deed : Deed) (after : State) → Drives lists deed.asks → CanAskFor deed.asks t → (left : Left) → Moment (acts_of (asking_calls lists deed.asks t)) t left
      → IsBegun (course_to site number deed after) t.here.out left
  asking_begun number deed after drives can left moment =
      let leaves = calls_leave (asking_calls lists deed.asks t) t left moment in
      record {
        recovers = record { is = ap (λ (l : Left). recovered l.file0 l.file1) leaves ∙ holds.at.recovers };
        store = asking_store deed.asks drives can left moment;
        text = ap (λ (l : Left). l.out) leaves;
      }
