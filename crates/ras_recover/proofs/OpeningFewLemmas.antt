-- How many links the files of a journal have while the journal is opened, and once it is open.
use Rattle.std.proofs.Common.{◌≡◌, length, Option, None, Some, Result, Ok, Err, refl, sym, ap, subst, arith, inl, inr}
use Rattle.board_core.specs.declared.board.FileNo.TheVariants.{Zero}
use Rattle.board_core.specs.Clock.{Adds, Always, Clock, LeftNow}
use Rattle.board_core.specs.Doing.{Moment, after_acts}
use Rattle.board_core.specs.Stop.{Left}
use Rattle.board_core.specs.Told.{Told}
use Rattle.ras_account.specs.History.{empty}
use Rattle.ras_account.specs.Account.{account_of}
use Rattle.ras_account.proofs.SoundLemmas.{empty-sound}
use Rattle.entry_format.specs.declared.version.Version.TheVariants.{Two}
use Rattle.journal_format.specs.Checkpoints.{IsCheckpoint, checkpoint_bytes}
use Rattle.ras_journal.specs.Laws.{CanBegin}
use Rattle.ras_journal.specs.Recovered.{HasFewLinks, JournalFile, Refusal, is_shut, journal_of, position_of, recovered, standing_in}
use Rattle.ras_journal.proofs.FewLemmas.{few_with}
use Rattle.ras_journal.proofs.PartLemmas.{bind_of}
use Rattle.ras_recover.specs.Formatting.{behind_gate}
use Rattle.ras_recover.specs.Opening.{FormatsFirst, HoldsNone, Opening, acts_behind, opening_acts}
use Rattle.ras_recover.specs.OpeningCalls.{MakesOpening}
use Rattle.ras_recover.specs.Recovering.{KeepsTold}
use Rattle.ras_recover.proofs.FewLemmas.{formatted_few}
use Rattle.ras_recover.proofs.FormattingLemmas.{formatted, formatted_told}
use Rattle.ras_recover.proofs.OpeningLemmas.{begins, empty_length, first_moment}

pub opening_few : (clock : Clock) (here left : Left) → Always clock clock.now HasFewLinks → Opening clock here left → HasFewLinks left
opening_few clock here left few (inl now) = few left now
opening_few clock here left few (inr formats) = formats.few

-- All crash images at first have few links, and so do all that the calls add.
always_few : (P : Left → Type 0) (old new : Clock) → ((left : Left) → P left → HasFewLinks left) → Always old old.now HasFewLinks → Adds P old new → Always new old.now HasFewLinks
always_few P old new each few adds left since = elim (adds.each old.now left (omega arith) since) [ inl before ↦ few left before | inr then ↦ each left then ]

pub openings_few : (old new : Clock) (here : Left) → Always old old.now HasFewLinks → Adds (Opening old here) old new → Always new old.now HasFewLinks
openings_few old new here few adds = always_few (Opening old here) old new (λ left by. opening_few old here left few by) few adds

pub recovery_few : (told_old told_new : Option Told) (old new : Clock) → Always old old.now HasFewLinks → KeepsTold told_old old told_new new → Always new old.now HasFewLinks
recovery_few told_old told_new old new few keeps = always_few (LeftNow old) old new few few keeps.stops

-- The empty account has a checkpoint.
empty_is : IsCheckpoint Two (account_of empty) (checkpoint_bytes Two (account_of empty))
empty_is = record { account = empty-sound; told = tt; module_count = omega arith; page_count = omega arith; spelled = refl }

empty_begins : CanBegin None Two 1 (checkpoint_bytes Two (account_of empty)) (account_of empty)
empty_begins =
    begins (account_of empty) (checkpoint_bytes Two (account_of empty)) (record { room = (let long : length (checkpoint_bytes Two (account_of empty)) ≡ 72 = empty_length in omega arith); is = empty_is })

-- An opening writes only if no file is valid.
nothing_held : (here : Left) → journal_of here.file0 here.file1 ≡ Ok None → HoldsNone (account_of empty) here
unfolding recovered position_of
nothing_held here nothing = record {
  recovers = bind_of (journal_of here.file0 here.file1) _ None nothing;
  none = ap (λ (r : Result (Option JournalFile) Refusal). standing_in here.file0 here.file1 r) nothing;
}

pub opening_leaves : (t : Told) (left : Left) → Moment (opening_acts t.here) t left → FormatsFirst t.here left
opening_leaves t left moment = by (journal_of t.here.file0 t.here.file1) refl moment
  where
    by : (journal : Result (Option JournalFile) Refusal) → journal_of t.here.file0 t.here.file1 ≡ journal → Moment (acts_behind t.here journal) t left → FormatsFirst t.here left
    by (Ok None) is moment = first_moment (account_of empty) (is_shut t.here.file0) t left (nothing_held t.here is) empty_is refl moment
    by (Ok (Some journal)) is never = absurd never
    by (Err why) is never = absurd never

-- Once the formatting is done the files have few links.
acts_few : (t : Told) → HasFewLinks t.here → (journal : Result (Option JournalFile) Refusal) → HasFewLinks (after_acts (acts_behind t.here journal) t).here
acts_few t few (Ok None) =
    let bytes = behind_gate 1 (checkpoint_bytes Two (account_of empty)) in
    let shut = is_shut t.here.file0 in
    subst HasFewLinks (sym (formatted_told Zero shut bytes t)) (few_with Zero (formatted shut bytes t.here.file0) t.here
    (formatted_few shut t.here.file0 1 (checkpoint_bytes Two (account_of empty)) (account_of empty) refl empty_begins) few)
acts_few t few (Ok (Some journal)) = few
acts_few t few (Err why) = few

pub opened_few : (old new : Told) → HasFewLinks old.here → MakesOpening old new → HasFewLinks new.here
opened_few old new few opens =
    subst (λ (u : Told). HasFewLinks u.here) (sym opens.is) (acts_few _ few (journal_of old.here.file0 old.here.file1))
