-- The model of a board in memory, and what a crash may leave, after one call.
use Rattle.std.proofs.Common.{◌≡◌, ℕ, List, [], ◌∷◌, append-nil, Some, Result, Ok, Err, refl, ap, sym, ◌∙◌, subst, inl, inr, arith}
use Rattle.std.specs.Prelude.{IfOk}
use Rattle.erst_store.specs.Store.{Stored}
use Rattle.board_core.specs.declared.board.BoardPut.{BoardPut}
use Rattle.board_core.specs.declared.board.BoardPut.TheVariants.{Refused, Failed}
use Rattle.board_core.specs.declared.board.DiskCall.TheVariants.{WriteAt}
use Rattle.board_core.specs.declared.board.FileNo.{FileNo}
use Rattle.board_core.specs.declared.board.FileNo.TheVariants.{Zero, One}
use Rattle.board_core.specs.Cause.{Faults, Kind, FailsAs, count_of, device_call, disk_call, print_call, put_failure, with_count}
use Rattle.board_core.specs.Clock.{LeftNow, Passes}
use Rattle.board_core.specs.Doing.{Act, FailsAct, ActMade, PutMade, Seen, ActSettles, Tears, after_act, device, kind_of, put}
use Rattle.board_core.specs.MemBoard.{Past, with_act, past_after, now_of, clock_of, State, told_of, new_board, counted, with_refusal, Faulted, Performs}
use Rattle.board_core.specs.MemSource.{next_count}
use Rattle.board_core.specs.Steps.ChangeLemmas.{passes_acted, store_left}
use Rattle.board_core.specs.Steps.DiskLemmas.{nothing_begins}
use Rattle.board_core.specs.Stop.{Left, Same, InStore, InOut, Becomes, Begins}
use Rattle.board_core.specs.Steps.MomentLemmas.{torn_same}
use Rattle.board_core.specs.Told.{Told, MayList, FailsPrint, FailsWrite, after_put, device_of, file_of, with_file}
use Rattle.board_core.proofs.DoingLemmas.{after-append, same_count}

-- a board in memory as contracts see it
abbrev pub seen_of : State → Seen
seen_of s = record { told = Some (told_of s); clock = clock_of s.past; faults = s.faults }

-- If nothing changed, a crash leaves what any step leaves that may do nothing.
pub stood : (Step : Left → Left → Type 0) (old new : Past) → ((left : Left) → Step left left) → new ≡ old → Passes Step (clock_of old) (clock_of new)
stood Step old new same is = subst (λ (p : Past). Passes Step (clock_of old) (clock_of p)) (sym is) (record {
  later = omega arith;
  kept = λ t left within may. may;
  each = λ t left within may. inl may;
  ends = λ left now. record { from = left; was = now; by = same left };
})

pub store_nothing : (store : List Stored) (left : Left) → InStore (Becomes store) left left
store_nothing store left = record { store = left.store; step = inl refl; rest = refl }

pub begins_nothing : (piece : List ℕ) (left : Left) → InOut (Begins piece) left left
begins_nothing piece left = record { text = left.out; step = nothing_begins piece left.out; rest = refl }

-- ---- the counts of faults

count_in : (kind : Kind) (n : ℕ) (faults : Faults) → count_of kind (with_count kind n faults) ≡ n
count_in disk_call n faults = refl
count_in device_call n faults = refl
count_in print_call n faults = refl

quiet : {T E : Type 0} (kind : Kind) (x : T) (faults : Faults) → FailsAs {T = T} {E = E} kind faults faults (Ok x)
quiet kind x faults = record { own = record { later = omega arith; failed = tt; same = refl }; others = sym (same_count kind faults) }

faulted : {T E : Type 0} (kind : Kind) (e : E) (before new : State) → Faulted kind before new → FailsAs {T = T} {E = E} kind before.faults new.faults (Err e)
faulted kind e before new fault =
    let is : new.faults ≡ with_count kind (next_count (count_of kind before.faults)) before.faults = ap (λ (s : State). s.faults) fault.is in
    let count : count_of kind new.faults ≡ next_count (count_of kind before.faults) = ap (count_of kind) is ∙ count_in kind (next_count (count_of kind before.faults)) before.faults in
    record {
      own = record { later = fault.later; failed = count; same = tt };
      others = is ∙ ap (λ n. with_count kind n before.faults) (sym count);
    }

-- ---- a call

-- A call does this act if the board that has listed the call is like this; the past has the act if it succeeds.
pub record Acts (act : Act) (listed old : State) : Type 0 where
  pub lists : listed ≡ record old { disk_calls = listed.disk_calls; accesses = listed.accesses }
  pub told : record (after_act act (now_of old.past)) { disk_calls = listed.disk_calls; accesses = listed.accesses } ≡ after_act act (told_of old)
  pub fails : FailsAct act (told_of old) (told_of old)
  pub fails_listed : FailsAct act (told_of old) (told_of listed)
  pub stops : Passes (Tears act (Some (told_of old))) (clock_of old.past) (clock_of (with_act act old.past))
  pub stands : (left : Left) → Tears act (Some (told_of old)) left left
  pub settles : ActSettles act (seen_of old) (seen_of (record listed { past = with_act act old.past }))

module _ (act : Act) (listed old new : State) (acts : Acts act listed old) where
  failed : {T E : Type 0} (e : E) (before : State) → before.past ≡ old.past → before.faults ≡ old.faults → FailsAct act (told_of old) (told_of before) → Faulted (kind_of act) before new
      → ActMade {T = T} {E = E} act (Err e) (seen_of old) (seen_of new)
  failed {T} {E} e before past_same faults_same told fault = record {
    told = tt;
    failed = subst (λ (s : State). FailsAct act (told_of old) (told_of s)) (sym fault.is) told;
    stops = stood (Tears act (Some (told_of old))) old.past new.past acts.stands (ap (λ (s : State). s.past) fault.is ∙ past_same);
    settles = tt;
    cause = subst (λ (f : Faults). FailsAs {T = T} {E = E} (kind_of act) f new.faults (Err e)) faults_same (faulted {T = T} {E = E} (kind_of act) e before new fault);
  }

  pub made_by : {T E : Type 0} (r : Result T E) → Performs (kind_of act) listed (with_act act old.past) old new r → ActMade act r (seen_of old) (seen_of new)
  made_by {T} {E} (Ok value) performs =
      let told : told_of (record listed { past = with_act act old.past }) ≡ after_act act (told_of old) =
      ap (λ (t : Told). record t { disk_calls = listed.disk_calls; accesses = listed.accesses }) (after-append old.past.acts (act ∷ []) old.past.first) ∙ acts.told in
      let quietly : FailsAs {T = T} {E = E} (kind_of act) old.faults listed.faults (Ok value) =
      subst (λ (f : Faults). FailsAs {T = T} {E = E} (kind_of act) old.faults f (Ok value)) (sym (ap (λ (s : State). s.faults) acts.lists)) (quiet {T = T} {E = E} (kind_of act) value old.faults) in
      subst (λ (s : State). ActMade {T = T} {E = E} act (Ok value) (seen_of old) (seen_of s)) (sym performs.1) (record {
        told = ap Some told;
        failed = tt;
        stops = acts.stops;
        settles = acts.settles;
        cause = quietly;
      })
  made_by {T} {E} (Err e) performs =
      let past_same : listed.past ≡ old.past = ap (λ (s : State). s.past) acts.lists in
      let faults_same : listed.faults ≡ old.faults = ap (λ (s : State). s.faults) acts.lists in
      elim performs [
        | inl chosen ↦ failed {T = T} e (counted listed) past_same faults_same acts.fails_listed chosen.1
        | inr (inl refused) ↦ failed {T = T} e (with_refusal (counted old)) refl refl acts.fails refused
        | inr (inr refused) ↦ failed {T = T} e (with_refusal (counted listed)) past_same faults_same acts.fails_listed refused
      ]

file_same : (file : FileNo) (t : Told) → with_file file (file_of file t) t ≡ t
file_same Zero t = refl
file_same One t = refl

-- A write that failed before a byte was written, and a print.
pub fails_write : (file : FileNo) (place count : ℕ) (t new : Told) → MayList (WriteAt file place count) t new → FailsWrite file place count t new
fails_write file place count t new may =
    (file_of file t, torn_same place count (file_of file t), subst (λ (u : Told). MayList (WriteAt file place count) u new) (sym (file_same file t)) may)

pub fails_print : (bytes : List ℕ) (t : Told) → FailsPrint bytes t t
fails_print bytes t = ([], bytes, refl, ap (λ (text : List ℕ). record t { here = record t.here { out = text } }) (sym (append-nil t.here.out)))

put_acts : (id : ℕ) (bytes : List ℕ) (old : State) → Acts (device (put id bytes)) old old
put_acts id bytes old = record {
  lists = refl;
  told = refl;
  fails = inl refl;
  fails_listed = inl refl;
  stops = passes_acted old.past (put id bytes);
  stands = store_nothing (after_put id bytes (device_of (told_of old))).store;
  settles = λ before. store_left (record old { past = with_act (device (put id bytes)) old.past });
}

-- A put of a board in memory: done, refused or failed.
pub put_made : (id : ℕ) (bytes : List ℕ) (r : Result (Unit {0}) BoardPut) (old new : State) → Performs device_call old (past_after r (device (put id bytes)) old.past) old new (put_failure r) → PutMade id bytes r (seen_of old) (seen_of new)
put_made id bytes (Ok done) old new performs =
    let result : Result (Unit {0}) BoardPut = Ok tt in made_by (device (put id bytes)) old old new (put_acts id bytes old) result performs
put_made id bytes (Err (Refused why)) old new performs = record {
  told = ap (λ (s : State). Some (told_of s)) performs.1;
  stops = stood Same old.past new.past (λ left. refl) (ap (λ (s : State). s.past) performs.1);
  faults = ap (λ (s : State). s.faults) performs.1;
}
put_made id bytes (Err Failed) old new performs =
    let result : Result (Unit {0}) BoardPut = Err Failed in made_by (device (put id bytes)) old old new (put_acts id bytes old) result performs

-- ---- what is left

pub left_board : {E : Type 0} (r : Result State E) (past : Past) (file0 file1 : List ℕ) (store : List Stored) (slow : ℕ) → IfOk r (λ board. board ≡ new_board file0 file1 store slow)
    → store ≡ (now_of past).here.store → LeftNow (clock_of past) (record (now_of past).here { file0 = file0; file1 = file1 })
    → IfOk r (λ board. LeftNow (clock_of past) (record (told_of board).here { out = (now_of past).here.out }))
left_board (Ok board) past file0 file1 store slow is same left =
    subst (λ (s : State). LeftNow (clock_of past) (record (told_of s).here { out = (now_of past).here.out })) (sym is)
    (subst (λ (records : List Stored). LeftNow (clock_of past) (record { file0 = file0; file1 = file1; store = records; out = (now_of past).here.out })) (sym same) left)
left_board (Err e) past file0 file1 store slow is same left = tt
