-- Which acts of a run were done, and which disk calls they made.
use Rattle.std.proofs.Common.{◌≡◌, ℕ, List, [], ◌++◌, map, Option, None, Some, IsSomeAnd, refl, ap, sym, ◌∙◌, subst, append_assoc, append-nil, inl, inr}
use Rattle.std.specs.Prelude.{⊤}
use Rattle.std.proofs.lemmas.List.{map-append}
use Rattle.board_core.specs.Cause.{disk_call}
use Rattle.board_core.specs.declared.board.DiskCall.{DiskCall}
use Rattle.board_core.specs.Doing.{Act, Seen, after_acts, calls, calls_of}
use Rattle.board_core.specs.Told.{Told}
use Rattle.board_core.proofs.ActLemmas.{accesses_by_acts, calls_by_acts, calls_by_fails}
use Rattle.board_core.proofs.DoingLemmas.{after-append, fails_first, fails_then}
use Rattle.ras_base.specs.Prefix.{IsPrefixOf}
use Rattle.ras_recover.specs.DiskCalls.{IsBeginning, Makes, with_calls}
use Rattle.ras_recover.specs.Opening.{opening_acts}
use Rattle.ras_recover.specs.OpeningActs.{AreOpeningActs, LeavesUnopened}
use Rattle.ras_recover.specs.OpeningCalls.{AfterRecovery, IsRecoveryOf, MakesOpening}
use Rattle.ras_recover.proofs.OpeningActsLemmas.{FailsOpening, after_reading, formatting_fails, listed_alone, recovery_fails}
use Rattle.ras_recover.proofs.OpeningCallsLemmas.{opens_calls, reads_all, recovery_on}
use Rattle.ras_exit.specs.Endings.{CallEnding, EndsBy, IfAnswered, OnlyFault, answered, ending_of, faulted, source_failed, starved}
use Rattle.ras_exit.specs.declared.exit.Exit.{Exit}
use Rattle.ras_exit.specs.declared.exit.Exit.TheVariants.{DiskFault, SourceFault}
use Rattle.ras_run.specs.LineActs.{HoldsAt}
use Rattle.ras_run.specs.Sites.{Start, first_site}
use Rattle.ras_run.specs.Places.{places_from}
use Rattle.ras_daemon.specs.Script.{reads_in, reads_of}
use Rattle.ras_daemon.specs.Steps.Doing.{DoesRun, Opens}
use Rattle.ras_daemon.specs.Promises.{HasOpened}
use Rattle.ras_texts.specs.Orders.{standing_lines}
use Rattle.ras_daemon.specs.Steps.Running.{EndsAhead, ReadAhead, lines_from, outputs}
use Rattle.ras_daemon.specs.RunActs.{AreRunActs, AreRunCalls, AreScriptActs, DidAll, DidOf, DidRun, ListsAccesses, TookAll, last_acts, orders_acts, script_asked}
use Rattle.ras_daemon.specs.RunStatus.{run_exit}
use Rattle.ras_daemon.proofs.RunLemmas.{not_starved}
use Rattle.ras_daemon.proofs.ScriptLemmas.{script_some, takes_did, took_all}
use Rattle.ras_daemon.proofs.AlongActLemmas.{acts_along}
use Rattle.ras_run.proofs.PrintActLemmas.{calls_both}

-- a weaker statement about the model now
some-weaker : (P Q : Told → Type 0) (told : Option Told) → ((t : Told) → P t → Q t) → IsSomeAnd told P → IsSomeAnd told Q
some-weaker P Q None weaker has = absurd has
some-weaker P Q (Some t) weaker has = weaker t has

-- ---- after an opening

-- acts after other acts
did_behind : (first acts : List Act) (ending : CallEnding) (t now : Told) → DidOf acts ending (after_acts first t) now → DidOf (first ++ acts) ending t now
did_behind first acts answered t now is = is ∙ sym (after-append first acts t)
did_behind first acts (faulted kind) t now fails = fails_then kind first acts t now fails
did_behind first acts ending t now (done, begins, is) = (first ++ done, (begins.0, append_assoc first done begins.0 ∙ ap (λ more. first ++ more) begins.1), is ∙ sym (after-append first done t))

run_acts : (start : Start) (script : List ℕ) (t : Told) (first rest : List Act) → AreOpeningActs t.here first → AreScriptActs start script (after_acts first t) rest → AreRunActs start script t (first ++ rest)
run_acts start script t first rest opens takes = record { first = first; rest = rest; opens = opens; takes = takes; is = refl }

-- some of the acts of a run were done
abbrev RunDid : Start → List ℕ → CallEnding → Told → Told → Type 0
RunDid start script ending t now = (acts : List Act) × AreRunActs start script t acts × DidOf acts ending t now

-- the acts of an opening
pub opened_acts : (t there : Told) → MakesOpening t there → (first : List Act) × AreOpeningActs t.here first × (there ≡ after_acts first t)
opened_acts t there makes = (
  map calls makes.recovery ++ opening_acts t.here,
  record { recovery = makes.recovery; recovers = makes.recovers; is = refl },
  makes.is ∙ ap (after_acts (opening_acts t.here)) (sym (after_reading makes.recovery t)) ∙ sym (after-append (map calls makes.recovery) (opening_acts t.here) t),
)

opened_did : (start : Start) (script : List ℕ) (ending : CallEnding) (t there now : Told) → MakesOpening t there → (acts : List Act) × AreScriptActs start script there acts × DidOf acts ending there now → RunDid start script ending t now
opened_did start script ending t there now makes (acts, are, did) =
    let first = opened_acts t there makes in (
      first.0 ++ acts,
      run_acts start script t first.0 acts first.1 (subst (λ (u : Told). AreScriptActs start script u acts) first.2 are),
      did_behind first.0 acts ending t now (subst (λ (u : Told). DidOf acts ending u now) first.2 did),
    )

-- all acts of a run were done
opened_all : (start : Start) (script : List ℕ) (t there now : Told) → MakesOpening t there → HoldsAt (first_site start) there → TookAll start script there now → DidAll start script t now
opened_all start script t there now makes holds took =
    let first = opened_acts t there makes in
    record { first = first.0; opens = first.1; holds = subst (HoldsAt (first_site start)) first.2 holds; takes = subst (λ (u : Told). TookAll start script u now) first.2 took }

-- the acts of a run were done, all or some
pub did_acts : (start : Start) (script : List ℕ) (ending : CallEnding) (t now : Told) → DidRun start script ending t now → RunDid start script ending t now
did_acts start script answered t now d =
    let u : Told = after_acts d.first t in
    let acts : List Act =
    orders_acts start ++ (d.takes.along ++ (script_asked start script (after_acts d.takes.along (after_acts (orders_acts start) u)) ++ last_acts start (reads_of script) (run_exit start script))) in (
      d.first ++ acts,
      run_acts start script t d.first acts d.opens (record { along = d.takes.along; lines = rw d.takes.all (acts_along (places_from (first_site start) d.takes.before) (after_acts (orders_acts start) u) d.takes.along d.takes.lines); is = refl }),
      d.takes.is ∙ sym (after-append d.first acts t),
    )
did_acts start script (faulted kind) t now d = d
did_acts start script source_failed t now d = d
did_acts start script starved t now d = d

-- ---- of an opening alone

-- the calls of a recovery, followed by acts of a script, are acts of a run
opening_some : (start : Start) (script : List ℕ) (t : Told) (recovery : List DiskCall) → IsRecoveryOf t.here recovery → (more : List Act) × AreRunActs start script t (map calls recovery ++ more)
opening_some start script t recovery recovers =
    let first : List Act = map calls recovery ++ opening_acts t.here in
    let rest = script_some start script (after_acts first t) in (
      opening_acts t.here ++ rest.0,
      subst (AreRunActs start script t) (append_assoc (map calls recovery) (opening_acts t.here) rest.0) (run_acts start script t first rest.0 (record { recovery = recovery; recovers = recovers; is = refl }) rest.1),
    )

-- how a run ends whose journal wasn't opened
module _ (start : Start) (script : List ℕ) (t u : Told) where
  -- memory ran out
  read_some : AfterRecovery t u → DidRun start script starved t u
  read_some after =
      let made : List DiskCall = after.calls.made in
      let begun = after.calls.are in
      let more : List DiskCall = reads_all t.here in
      let all = opening_some start script t (begun.whole ++ more) (recovery_on t.here begun.whole begun.are) in
      let is : u ≡ with_calls made t = listed_alone t u made after.file0 after.file1 after.store after.text after.volatile after.accesses after.calls.listed in
      let later : List Act = map calls (begun.begins.0 ++ more) ++ all.0 in
      let splits : map calls made ++ later ≡ map calls (begun.whole ++ more) ++ all.0 =
      sym (append_assoc (map calls made) (map calls (begun.begins.0 ++ more)) all.0)
      ∙ ap (λ l. l ++ all.0) (sym (map-append calls made (begun.begins.0 ++ more)) ∙ ap (map calls) (sym (append_assoc made begun.begins.0 more) ∙ ap (λ l. l ++ more) begun.begins.1)) in
      (map calls (begun.whole ++ more) ++ all.0, all.1, (map calls made, (later, splits), is ∙ sym (after_reading made t)))

  -- a disk call failed
  not_read : FailsOpening t u → DidRun start script (faulted disk_call) t u
  not_read failed =
      let rest = script_some start script (after_acts failed.acts t) in
      (failed.acts ++ rest.0, run_acts start script t failed.acts rest.0 failed.are rest.1, fails_first disk_call failed.acts rest.0 t u failed.fails)

-- ---- of a run

pub run_did : {X : Type 0} (see : X → Seen) (start : Start) (script : List ℕ) (exit : Exit) (t : Told) (old new : X) → DoesRun see start script exit t old new → IsSomeAnd (see new).told (DidRun start script (ending_of exit) t)
run_did see start script exit t old new (inr d) = by (ending_of exit) refl (takes_did see start script d.there exit d.mid new d.rests d.takes)
  where
    AreDone : CallEnding → Told → Type 0
    AreDone ending now = (acts : List Act) × AreScriptActs start script d.there acts × DidOf acts ending d.there now

    some : (ending : CallEnding) → IsSomeAnd (see new).told (AreDone ending) → IsSomeAnd (see new).told (RunDid start script ending t)
    some ending did = some-weaker (AreDone ending) (RunDid start script ending t) (see new).told (λ now did. opened_did start script ending t d.there now d.makes did) did

    by : (ending : CallEnding) → ending_of exit ≡ ending → IsSomeAnd (see new).told (AreDone ending) → IsSomeAnd (see new).told (DidRun start script ending t)
    by answered so did =
        some-weaker (TookAll start script d.there) (DidAll start script t) (see new).told (λ now took. opened_all start script t d.there now d.makes d.holds took)
        (took_all see start script d.there exit d.mid new d.rests so d.takes)
    by (faulted kind) so did = some (faulted kind) did
    by source_failed so did = some source_failed did
    by starved so did = some starved did
run_did see start script exit t old new (inl d) = by (ending_of exit) refl d.cut
  where
    by : (ending : CallEnding) → ending_of exit ≡ ending → EndsBy ⊥ ⊤ (OnlyFault disk_call) ending → IsSomeAnd (see new).told (DidRun start script ending t)
    by answered so never = absurd never
    by source_failed so never = absurd never
    by (faulted kind) so only =
        rw only (some-weaker (LeavesUnopened (exit ≡ DiskFault) t) (DidRun start script (faulted disk_call) t) (see new).told
        (λ u either. not_read start script t u (elim either [ inl read ↦ recovery_fails t u read | inr failed ↦ formatting_fails t u failed.1 ])) d.unopened)
    by starved so any =
        some-weaker (LeavesUnopened (exit ≡ DiskFault) t) (DidRun start script starved t) (see new).told
        (λ u either. elim either [ inl read ↦ read_some start script t u read | inr failed ↦ absurd (not_starved exit so failed.0) ]) d.unopened

-- ---- the opening comes first

did_later : (acts : List Act) (ending : CallEnding) (there now : Told) → DidOf acts ending there now → (later : List DiskCall) × (now.disk_calls ≡ there.disk_calls ++ later)
did_later acts answered there now is = (calls_of acts, ap (λ (u : Told). u.disk_calls) is ∙ calls_by_acts acts there)
did_later acts (faulted kind) there now fails = (let lists = calls_by_fails kind acts there now fails in (lists.made, lists.listed))
did_later acts ending there now (done, begins, is) = (calls_of done, ap (λ (u : Told). u.disk_calls) is ∙ calls_by_acts done there)

has_opened : (start : Start) (t there now : Told) → MakesOpening t there → (later : List DiskCall) × (now.disk_calls ≡ there.disk_calls ++ later)
    → (more : List ℕ) × (now.here.out ≡ t.here.out ++ (standing_lines start.account ++ more)) → HasOpened start t now
has_opened start t there now makes later text =
    let first = opens_calls t there makes in
    record {
      opening = first.made;
      are = first.are;
      later = later.0;
      listed = later.1 ∙ ap (λ l. l ++ later.0) first.listed ∙ append_assoc t.disk_calls first.made later.0;
      more = text.0;
      ordered = text.1;
    }

pub opened_first : {X : Type 0} (see : X → Seen) (start : Start) (script : List ℕ) (exit : Exit) (t : Told) (left : Option (List ℕ)) (old new : X) → Opens see start script exit t old new
    → EndsAhead (exit ≡ SourceFault) start script (lines_from start t.here.out) left (see new).told → IsSomeAnd (see new).told (HasOpened start t)
opened_first see start script exit t None old new d ahead = absurd ahead
opened_first see start script exit t (Some rest) old new d ahead = by (see new).told ahead (takes_did see start script d.there exit d.mid new d.rests d.takes)
  where
    by : (told : Option Told) → IsSomeAnd told (ReadAhead (exit ≡ SourceFault) start script (lines_from start t.here.out) rest)
        → IsSomeAnd told (λ now. (acts : List Act) × AreScriptActs start script d.there acts × DidOf acts (ending_of exit) d.there now) → IsSomeAnd told (HasOpened start t)
    by None ahead did = absurd ahead
    by (Some now) ahead did =
        let orders : List ℕ = standing_lines start.account in
        let lines : List ℕ = outputs start (reads_in ahead.done) in
        has_opened start t d.there now d.makes (did_later did.0 (ending_of exit) d.there now did.2) (
          lines ++ ahead.text.0,
          ahead.text.1 ∙ append_assoc (t.here.out ++ orders) lines ahead.text.0 ∙ append_assoc t.here.out orders (lines ++ ahead.text.0),
        )

-- ---- accesses

-- if a run ended with an answer, its accesses are the accesses of all its acts
pub did_access : (start : Start) (script : List ℕ) (ending : CallEnding) (t now : Told) → DidRun start script ending t now → IfAnswered ending (ListsAccesses start script t now)
did_access start script answered t now did =
    let d = did_acts start script answered t now did in
    record { acts = d.0; are = d.1; listed = ap (λ (u : Told). u.accesses) d.2 ∙ accesses_by_acts d.0 t }
did_access start script ending t now did = tt

-- ---- disk calls

abbrev pub MakesRun : Start → List ℕ → Told → Told → Type 0
MakesRun start script t = Makes (IsBeginning (AreRunCalls start script t)) t

done_make : (start : Start) (script : List ℕ) (acts : List Act) (t now : Told) → AreRunActs start script t acts → (done : List Act) × IsPrefixOf done acts × (now ≡ after_acts done t) → MakesRun start script t now
done_make start script acts t now are (done, begins, is) = record {
  made = calls_of done;
  listed = ap (λ (u : Told). u.disk_calls) is ∙ calls_by_acts done t;
  are = record { whole = calls_of acts; are = (acts, are, refl); begins = (calls_of begins.0, sym (calls_both done begins.0) ∙ ap calls_of begins.1) };
}

acts_make : (start : Start) (script : List ℕ) (acts : List Act) (ending : CallEnding) (t now : Told) → AreRunActs start script t acts → DidOf acts ending t now → MakesRun start script t now
acts_make start script acts answered t now are is = record {
  made = calls_of acts;
  listed = ap (λ (u : Told). u.disk_calls) is ∙ calls_by_acts acts t;
  are = record { whole = calls_of acts; are = (acts, are, refl); begins = ([], append-nil (calls_of acts)) };
}
acts_make start script acts (faulted kind) t now are fails =
    let begun = calls_by_fails kind acts t now fails in
    record { made = begun.made; listed = begun.listed; are = record { whole = calls_of acts; are = (acts, are, refl); begins = begun.begins } }
acts_make start script acts ending t now are did = done_make start script acts t now are did

pub did_calls : (start : Start) (script : List ℕ) (ending : CallEnding) (t now : Told) → DidRun start script ending t now → MakesRun start script t now
did_calls start script ending t now did =
    let d = did_acts start script ending t now did in
    acts_make start script d.0 ending t now d.1 d.2
