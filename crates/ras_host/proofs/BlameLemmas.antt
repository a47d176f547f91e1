-- Each call of a board keeps the statement about why its calls failed.
use Rattle.std.proofs.Common.{◌≡◌, ℕ, ◌+◌, ◌-◌, ◌^◌, ◌<◌, ◌≤◌, min, refl, sym, ◌∙◌, subst, inl, inr, arith, lit<}
use Rattle.std.specs.Prelude.{◌⊎◌, ◌==◌, if◌then◌else◌, Bool, true, false, List, Result, Ok, Err, OnOk, IsTrue}
use Rattle.board_core.specs.Cause.{Faults, HasCause, Rose, put_failure}
use Rattle.ras_host.specs.Blame.{AreAllSound, AreBlamed, AreCaused, AreCounted, AreReports, FilesCause, IsLost}
use Rattle.ras_host.specs.BoardState.{kept_for}
use Rattle.ras_host.specs.JournalFiles.{files_for}
use Rattle.ras_host.specs.Steps.Failures.{call_answer, put_answer, refusal, system_failure}
use Rattle.ras_host.specs.declared.faults.CallFailed.{CallFailed}
use Rattle.ras_host.specs.declared.faults.CallFailed.TheVariants as why
use Rattle.ras_host.specs.declared.faults.PutFailed.{PutFailed}
use Rattle.ras_host.specs.declared.faults.PutFailed.TheVariants as put
use Rattle.erst_store.specs.Device.{Device}
use Rattle.ras_host.specs.Steps.KeptDevice.{Does, IsHere, IsSaved, Puts, after_answer}
use Rattle.ras_host.specs.declared.journal.JournalFiles.{JournalFiles}
use Rattle.ras_host.specs.declared.journal.JournalFiles.TheVariants.{Shut, Open, Unread, Seen}
use Rattle.ras_host.specs.declared.kept.Kept.{Kept}
use Rattle.ras_host.specs.declared.kept.Kept.TheVariants.{Unread as NotRead, Here, Lost, Unreadable}

-- ---- counts

rose_by : (most n n' : ℕ) → 0 < most → n' ≡ min (n + 1) most → 0 < n'
rose_by most n n' some is = omega arith

rose : (n n' : ℕ) → Rose n n' → 0 < n'
rose n n' is = rose_by (2 ^ 64 - 1) n n' (lit< tt) is

-- A call of the board failed; d faults are of its kind, and rest are others. A call of the system failed, or the board
-- refused the call.
both_by : (most n n' m d d' rest : ℕ) → n' ≡ min (n + 1) most → d' ≡ min (d + 1) most → (d + rest < most → n + m ≡ d + rest) → d' + rest < most → n' + m ≡ d' + rest
both_by most n n' m d d' rest is up each within =
    let before : n + m ≡ d + rest = each (omega (arith, up, within)) in omega (arith, before, is, up, within)

both : (n n' m d d' rest : ℕ) → Rose n n' → Rose d d' → AreCounted (d + rest) n m → AreCounted (d' + rest) n' m
both n n' m d d' rest is up each within = both_by (2 ^ 64 - 1) n n' m d d' rest is up each within

swapped : (n m sum : ℕ) → AreCounted sum n m → AreCounted sum m n
swapped n m sum each within = let is = each within in omega (arith, is)

one_more : {T : Type 0} (n n' m m' d d' rest : ℕ) (r : Result T CallFailed) → HasCause n n' (system_failure r) → HasCause m m' (refusal r) → HasCause d d' r → AreCounted (d + rest) n m → AreCounted (d' + rest) n' m'
one_more n n' m m' d d' rest (Ok v) faults refusals counts each = rw counts.same (rw faults.same (rw refusals.same each))
one_more n n' m m' d d' rest (Err why.System) faults refusals counts each = rw refusals.same (both n n' m d d' rest faults.failed counts.failed each)
one_more n n' m m' d d' rest (Err why.Refused) faults refusals counts each =
    rw faults.same (swapped m' n (d' + rest) (both m m' n d d' rest refusals.failed counts.failed (swapped n m (d + rest) each)))

-- The same counts with the kinds of fault in another order.
in_order : (n m x y : ℕ) → x ≡ y → AreCounted x n m → AreCounted y n m
in_order n m x y is each = subst (λ (sum : ℕ). AreCounted sum n m) is each

devices_first : (d g p : ℕ) → d + (g + p) ≡ g + (d + p)
devices_first d g p = omega arith

prints_first : (d g p : ℕ) → d + (g + p) ≡ p + (d + g)
prints_first d g p = omega arith

-- A count that isn't 0 stays so.
still : (P : Type 0) (n n' : ℕ) → n ≤ n' → P ⊎ (0 < n) → P ⊎ (0 < n')
still P n n' later (inl p) = inl p
still P n n' later (inr some) = inr (omega arith)

more : (P : Type 0) (n n' g g' : ℕ) → n ≤ n' → g ≤ g' → P ⊎ (0 < n + g) → P ⊎ (0 < n' + g')
more P n n' g g' later up (inl p) = inl p
more P n n' g g' later up (inr some) = inr (omega arith)

pub blamed_later : (files : JournalFiles) (n n' : ℕ) → n ≤ n' → AreBlamed files n → AreBlamed files n'
blamed_later Shut n n' later is = tt
blamed_later (Open sound) n n' later is = still (IsTrue sound.zero × IsTrue sound.one) n n' later is
blamed_later Unread n n' later is = tt
blamed_later (Seen files sound) n n' later is = tt

-- ---- a call of the journal's files

-- A call of the system, as a call that was never refused.
abbrev as_call : {T E : Type 0} → Result T E → Result T CallFailed
as_call (Ok v) = Ok v
as_call (Err e) = Err why.System

by_system : {T E : Type 0} (n n' : ℕ) (r : Result T E) → HasCause n n' r → HasCause n n' (system_failure (as_call r))
by_system n n' (Ok v) c = record { later = c.later; failed = tt; same = c.same }
by_system n n' (Err e) c = record { later = c.later; failed = c.failed; same = tt }

unrefused : {T E : Type 0} (m : ℕ) (r : Result T E) → HasCause m m (refusal (as_call r))
unrefused m (Ok v) = record { later = omega arith; failed = tt; same = refl }
unrefused m (Err e) = record { later = omega arith; failed = tt; same = refl }

by_call : {T E : Type 0} (d d' : ℕ) (r : Result T E) → HasCause d d' r → HasCause d d' (as_call r)
by_call d d' (Ok v) c = record { later = c.later; failed = tt; same = c.same }
by_call d d' (Err e) c = record { later = c.later; failed = c.failed; same = tt }

run_failed : (how : ℕ) (old new : JournalFiles) (n' g : ℕ) → (how ≡ 1 → AreReports old → ⊥) → (AreReports new → AreReports old) → AreReports new ⊎ (0 < n') → how ≡ 1 → 0 < n' + g
run_failed how old new n' g run comes (inl reports) is = absurd (run is (comes reports))
run_failed how old new n' g run comes (inr some) is = omega arith

disk_failed : {T : Type 0} (how : ℕ) (old new : JournalFiles) (d d' g n n' : ℕ) (r : Result T CallFailed) → (how ≡ 1 → AreReports old → ⊥) → FilesCause old new n n' r → HasCause d d' r
    → (how ≡ 1 → (d ≡ 0) ⊎ (0 < n + g)) → how ≡ 1 → (d' ≡ 0) ⊎ (0 < n' + g)
disk_failed how old new d d' g n n' (Ok v) run cause counts was is = rw counts.same (more (d ≡ 0) n n' g g cause.counts.later (omega arith) (was is))
disk_failed how old new d d' g n n' (Err e) run cause counts was is = inr (run_failed how old new n' g run cause.comes cause.cause is)

-- A disk call failed, or each file is as sound as before.
sound_later : {T : Type 0} (old new : JournalFiles) (d d' : ℕ) (r : Result T CallFailed) → OnOk r (AreAllSound old → AreAllSound new) → HasCause d d' r → (d ≡ 0 → AreAllSound old) → d' ≡ 0 → AreAllSound new
sound_later old new d d' (Ok v) keeps counts was none = keeps (was (sym counts.same ∙ none))
sound_later old new d d' (Err e) keeps counts was none = absurd (some_none d' (rose d d' counts.failed) none)
  where
    some_none : (n : ℕ) → 0 < n → n ≡ 0 → ⊥
    some_none n some none = omega (arith, some, none)

pub caused_files : {T : Type 0} (how : ℕ) (old new : JournalFiles) (kept : Kept) (f : Faults) (d' n n' m m' : ℕ) (r : Result T CallFailed) → AreCaused how old kept f n m → AreBlamed new n' → FilesCause old new n n' r
    → HasCause f.disk d' r → HasCause m m' (refusal r) → AreCaused how new kept (record f { disk = d' }) n' m'
caused_files how old new kept f d' n n' m m' r c blamed cause counts refusals = record {
  each = one_more n n' m m' f.disk d' (f.registers + f.prints) r cause.counts refusals counts c.each;
  blamed = blamed;
  run = λ is reports. c.run is (cause.comes reports);
  report = λ is. cause.stays (c.report is);
  sound = sound_later old new f.disk d' r cause.sound counts c.sound;
  disk = λ is. disk_failed how old new f.disk d' f.registers n n' r c.run cause counts c.disk is;
  print = still (f.prints ≡ 0) n n' cause.counts.later c.print;
  lost = c.lost;
}

-- The system was called, and the files are unchanged.
asked : {T E : Type 0} (files : JournalFiles) (n n' : ℕ) (r : Result T E) → HasCause n n' r → FilesCause files files n n' (as_call r)
asked files n n' (Ok v) c = record { counts = by_system n n' (Ok v) c; cause = tt; stays = λ is. is; comes = λ is. is; sound = λ is. is }
asked files n n' (Err e) c = record { counts = by_system n n' (Err e) c; cause = inr (rose n n' c.failed); stays = λ is. is; comes = λ is. is; sound = tt }

pub caused_asked : {T E : Type 0} (how : ℕ) (files : JournalFiles) (kept : Kept) (f : Faults) (d' n n' m : ℕ) (r : Result T E) → AreCaused how files kept f n m → HasCause n n' r → HasCause f.disk d' r
    → AreCaused how files kept (record f { disk = d' }) n' m
caused_asked how files kept f d' n n' m r c cause counts =
    caused_files how files files kept f d' n n' m m (as_call r) c (blamed_later files n n' cause.later c.blamed) (asked files n n' r cause) (by_call f.disk d' r counts) (unrefused m r)

-- A file that may not be written, because it is a report's.
pub caused_unwritten : {T : Type 0} (how : ℕ) (files : JournalFiles) (kept : Kept) (f : Faults) (d' n m m' : ℕ) → AreCaused how files kept f n m → AreReports files
    → HasCause {T = T} {E = CallFailed} f.disk d' (Err why.Refused) → HasCause m m' (refusal {T = T} (Err why.Refused)) → AreCaused how files kept (record f { disk = d' }) n m'
caused_unwritten how files kept f d' n m m' c reports counts refusals =
    caused_files how files files kept f d' n n m m' (Err why.Refused) c c.blamed
    (record { counts = record { later = omega arith; failed = tt; same = refl }; cause = inl reports; stays = λ is. is; comes = λ is. is; sound = tt }) counts refusals

-- A sync for which the system isn't called, because a change of the device may not have reached its file.
is_lost : (kept : Kept) → (IsSaved kept → ⊥) → IsLost kept
is_lost NotRead never = absurd (never tt)
is_lost (Here saved) never = absurd (never tt)
is_lost (Lost before after) never = tt
is_lost Unreadable never = absurd (never tt)

pub never_saved : (P : Type 0) (b : Bool) → b ≡ false → (P → IsTrue b) → P → ⊥
never_saved P b is saved p = false_true (sym is ∙ saved p)
  where
    false_true : false ≡ true → ⊥
    false_true e = cc

pub caused_unasked : {T : Type 0} (how : ℕ) (files : JournalFiles) (kept : Kept) (f : Faults) (d' n m m' : ℕ) → AreCaused how files kept f n m → (IsSaved kept → ⊥)
    → HasCause {T = T} {E = CallFailed} f.disk d' (Err why.Refused) → HasCause m m' (refusal {T = T} (Err why.Refused)) → AreCaused how files kept (record f { disk = d' }) n m'
caused_unasked how files kept f d' n m m' c never counts refusals =
    let lost : 0 < f.registers = c.lost (is_lost kept never) in
    record {
      each = one_more n n m m' f.disk d' (f.registers + f.prints) (Err why.Refused) (record { later = omega arith; failed = tt; same = refl }) refusals counts c.each;
      blamed = c.blamed;
      run = c.run;
      report = c.report;
      sound = sound_later files files f.disk d' (Err why.Refused) tt counts c.sound;
      disk = λ is. inr (omega (arith, lost));
      print = c.print;
      lost = c.lost;
    }

-- ---- a call of the device

lost_later : {T : Type 0} (new : Kept) (g g' : ℕ) (r : Result T CallFailed) → OnOk r (IsLost new → ⊥) → HasCause g g' r → IsLost new → 0 < g'
lost_later new g g' (Ok v) here counts lost = absurd (here lost)
lost_later new g g' (Err e) here counts lost = rose g g' counts.failed

pub caused_device : {T : Type 0} (how : ℕ) (files : JournalFiles) (old new : Kept) (f : Faults) (g' n n' m m' : ℕ) (r : Result T CallFailed) → AreCaused how files old f n m → HasCause n n' (system_failure r)
    → OnOk r (IsLost new → ⊥) → HasCause f.registers g' r → HasCause m m' (refusal r) → AreCaused how files new (record f { registers = g' }) n' m'
caused_device how files old new f g' n n' m m' r c cause here counts refusals = record {
  each =
      in_order n' m' (g' + (f.disk + f.prints)) (f.disk + (g' + f.prints)) (sym (devices_first f.disk g' f.prints))
      (one_more n n' m m' f.registers g' (f.disk + f.prints) r cause refusals counts
      (in_order n m (f.disk + (f.registers + f.prints)) (f.registers + (f.disk + f.prints)) (devices_first f.disk f.registers f.prints) c.each));
  blamed = blamed_later files n n' cause.later c.blamed;
  run = c.run;
  report = c.report;
  sound = c.sound;
  disk = λ is. more (f.disk ≡ 0) n n' f.registers g' cause.later counts.later (c.disk is);
  print = still (f.prints ≡ 0) n n' cause.later c.print;
  lost = lost_later new f.registers g' r here counts;
}

-- A device that is kept isn't lost.
not_lost : (new : Kept) (d : Device) → IsHere new d → IsLost new → ⊥
not_lost NotRead d here lost = here
not_lost (Here saved) d here lost = lost
not_lost (Lost before after) d here lost = here
not_lost Unreadable d here lost = here

pub done_here : {T E : Type 0} (step : Device → Device) (old new : Kept) (r : Result T E) → OnOk r (Does step old new) → OnOk r (IsLost new → ⊥)
done_here step old new (Ok v) does = not_lost new (step does.before) does.after
done_here step old new (Err e) does = tt

pub put_here : (id : ℕ) (bytes : List ℕ) (old new : Kept) (r : Result (Unit {0}) PutFailed) → OnOk (put_failure (put_answer r)) (Puts id bytes (put_answer r) old new) → OnOk (call_answer r) (IsLost new → ⊥)
put_here id bytes old new (Ok v) puts = not_lost new (after_answer id bytes (Ok tt) puts.before) puts.after
put_here id bytes old new (Err (put.Store e)) puts = not_lost new (after_answer id bytes (put_answer (Err (put.Store e))) puts.before) puts.after
put_here id bytes old new (Err (put.Call e)) puts = tt

-- ---- a print

printed : {T E : Type 0} (p p' n n' : ℕ) (r : Result T E) → HasCause n n' r → HasCause p p' r → (p ≡ 0) ⊎ (0 < n) → (p' ≡ 0) ⊎ (0 < n')
printed p p' n n' (Ok v) cause counts was = rw counts.same (still (p ≡ 0) n n' cause.later was)
printed p p' n n' (Err e) cause counts was = inr (rose n n' cause.failed)

pub caused_print : {T E : Type 0} (how : ℕ) (files : JournalFiles) (kept : Kept) (f : Faults) (p' n n' m : ℕ) (r : Result T E) → AreCaused how files kept f n m → HasCause n n' r → HasCause f.prints p' r
    → AreCaused how files kept (record f { prints = p' }) n' m
caused_print how files kept f p' n n' m r c cause counts = record {
  each =
      in_order n' m (p' + (f.disk + f.registers)) (f.disk + (f.registers + p')) (sym (prints_first f.disk f.registers p'))
      (one_more n n' m m f.prints p' (f.disk + f.registers) (as_call r) (by_system n n' r cause) (unrefused m r) (by_call f.prints p' r counts)
      (in_order n m (f.disk + (f.registers + f.prints)) (f.prints + (f.disk + f.registers)) (prints_first f.disk f.registers f.prints) c.each));
  blamed = blamed_later files n n' cause.later c.blamed;
  run = c.run;
  report = c.report;
  sound = c.sound;
  disk = λ is. more (f.disk ≡ 0) n n' f.registers f.registers cause.later (omega arith) (c.disk is);
  print = printed f.prints p' n n' r cause counts c.print;
  lost = c.lost;
}

-- ---- a new board

begun_blamed : (is_run : Bool) (n : ℕ) → AreBlamed (if is_run then Shut else Unread) n
begun_blamed true n = tt
begun_blamed false n = tt

begun_sound : (is_run : Bool) → AreAllSound (if is_run then Shut else Unread)
begun_sound true = tt
begun_sound false = tt

begun_kept : (is_run : Bool) → IsLost (if is_run then NotRead else Unreadable) → ⊥
begun_kept true lost = lost
begun_kept false lost = lost

pub caused_begun : (how n : ℕ) → n ≡ 0 → AreCaused how (files_for how) (kept_for how) (record { disk = 0; registers = 0; prints = 0 }) n 0
caused_begun how n none = record {
  each = λ within. omega arith;
  blamed = begun_blamed (how == 1) n;
  run = λ is reports. subst (λ (h : ℕ). AreReports (files_for h)) is reports;
  report = λ is. subst (λ (h : ℕ). AreReports (files_for h)) (sym is) tt;
  sound = λ none. begun_sound (how == 1);
  disk = λ is. inl refl;
  print = inl refl;
  lost = λ lost. absurd (begun_kept (how == 1) lost);
}
