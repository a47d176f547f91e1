-- The model after a last line was printed or not, and why the run ends with its exit.
use Rattle.std.proofs.Common.{◌≡◌, ℕ, List, Option, Result, Ok, Err, refl, ap, sym, ◌∙◌, subst, inl, inr, [], None, Some, append-nil}
use Rattle.std.specs.Prelude.{⊤}
use Rattle.board_core.specs.Cause.{Faults, print_call}
use Rattle.board_core.specs.Doing.{Act, Does, Seen}
use Rattle.board_core.specs.Told.{FailsPrint, Relates, Steps, Told, after_print}
use Rattle.ras_exit.specs.Acts.{end_of}
use Rattle.ras_exit.specs.Causes.{BoardCause, BoardCauseBy, Causes, SourceCause, SourceCauseBy}
use Rattle.ras_exit.specs.Endings.{OnAnswer, CallEnding, EndsBy, IsAnswer, IsCut, IsLineExit, IsStop, OnlyFault, answered, ending_of, faulted, source_failed, starved}
use Rattle.ras_exit.specs.declared.exit.Exit.{Exit}
use Rattle.ras_exit.specs.declared.exit.Exit.TheVariants.{Done, ErstStatus, PrintFault, SourceFault, Usage}
use Rattle.ras_exit.proofs.EndingLemmas.{not_both, on_answer, on_cut}
use Rattle.ras_exit.proofs.PrintLemmas.{not_printed, part_causes, printed}
use Rattle.ras_run.specs.Taking.{IsPrintExit}
use Rattle.ras_base.specs.Prefix.{IsPrefixOf}
use Rattle.line_filters.specs.Filters.{exit_of}
use Rattle.ras_daemon.specs.Commands.{IsRunExit}
use Rattle.ras_daemon.specs.Steps.Doing.{Ends, Says}
use Rattle.ras_daemon.specs.Promises.{Caused}
use Rattle.ras_daemon.proofs.TakenLemmas.{EndsAs, answers}

-- ---- the model

-- A beginning of a last line was printed, and all of it if the run ends with its answer.
pub record Printed (exit result : Exit) (line : List ℕ) (old now : Told) : Type 0 where
  pub part : List ℕ
  pub begins : IsPrefixOf part line
  pub is : now ≡ after_print part old
  pub answers : OnAnswer result ((result ≡ exit) × (part ≡ line))

pub none_printed : (exit result : Exit) (line : List ℕ) (a b : Option Told) → OnAnswer result ((result ≡ exit) × ([] ≡ line)) → b ≡ a → Relates (Printed exit result line) a b
none_printed exit result line None b answers same = same
none_printed exit result line (Some t) b answers same =
    rw same (record { part = []; begins = (line, refl); is = ap (λ out. record t { here = record t.here { out = out } }) (sym (append-nil t.here.out)); answers = answers })

pub says_printed : {X : Type 0} (see : X → Seen) (exit result : Exit) (line : List ℕ) (a b : X) → Says see exit result line a b → Relates (Printed exit result line) (see a).told (see b).told
says_printed see exit result line a b (inl said) = by (see a).told (printed {T = Unit {0}} see line (Ok tt) a b said.1)
  where
    by : (told : Option Told) → Steps (after_print line) told (see b).told → Relates (Printed exit result line) told (see b).told
    by None steps = steps
    by (Some t) steps = rw steps (record { part = line; begins = ([], append-nil line); is = refl; answers = on_answer result ((result ≡ exit) × (line ≡ line)) (said.0, refl) })
says_printed see exit result line a b (inr (inl failed)) = by (see a).told (see b).told (not_printed {T = Unit {0}} see line (Err PrintFault) a b failed.1)
  where
    by : (old new : Option Told) → Relates (FailsPrint line) old new → Relates (Printed exit result line) old new
    by None new fails = fails
    by (Some t) None fails = fails
    by (Some t) (Some now) (part, rest, splits, is) = record { part = part; begins = (rest, splits); is = is; answers = rw failed.0 tt }
says_printed see exit result line a b (inr (inr short)) = none_printed exit result line (see a).told (see b).told (rw short.0 tt) (ap (λ x. (see x).told) short.1)

pub ends_printed : {X : Type 0} (see : X → Seen) (exit result : Exit) (line : List ℕ) (a b : X) → Ends see exit result line a b → Relates (Printed exit result line) (see a).told (see b).told
ends_printed see exit result line a b (inl said) = says_printed see exit result line a b said.1
ends_printed see exit result line a b (inr cut) =
    none_printed exit result line (see a).told (see b).told (on_cut result ((result ≡ exit) × ([] ≡ line)) (subst IsCut (sym cut.1) cut.0)) (ap (λ x. (see x).told) cut.2)

-- ---- why a run ends with its exit

pub says_cause : {X : Type 0} (see : X → Seen) (exit result : Exit) (line : List ℕ) (a b : X) → IsAnswer exit → Says see exit result line a b → BoardCause result (see a).faults (see b).faults
says_cause see exit result line a b answer (inl said) =
    subst (λ (e : Exit). BoardCause e (see a).faults (see b).faults) (sym said.0)
    (subst (λ (e : CallEnding). BoardCauseBy e (see a).faults (see b).faults) (sym (answers exit answer)) said.1.faults)
says_cause see exit result line a b answer (inr (inl failed)) = rw failed.0 failed.1.faults
says_cause see exit result line a b answer (inr (inr short)) = rw short.0 (ap (λ x. (see x).faults) short.1)

pub says_source : {X : Type 0} (see : X → Seen) (exit result : Exit) (line : List ℕ) (a b : X) (s s' : ℕ) → IsAnswer exit → s' ≡ s → Says see exit result line a b → SourceCause result s s'
says_source see exit result line a b s s' answer same (inl said) =
    subst (λ (e : Exit). SourceCause e s s') (sym said.0) (subst (λ (e : CallEnding). SourceCauseBy e s s') (sym (answers exit answer)) same)
says_source see exit result line a b s s' answer same (inr (inl failed)) = rw failed.0 same
says_source see exit result line a b s s' answer same (inr (inr short)) = rw short.0 same

pub says_causes : {X : Type 0} (see : X → Seen) (exit result : Exit) (line : List ℕ) (a b : X) (s : ℕ) → IsAnswer exit → Says see exit result line a b → Caused result s s (see a).faults (see b).faults
says_causes see exit result line a b s answer said = record { source = says_source see exit result line a b s s answer refl said; board = says_cause see exit result line a b answer said }

-- why a run ends after lines were taken
pub ends_causes : {X : Type 0} (see : X → Seen) (lines : Result (Unit {0}) Exit) (exit result : Exit) (line : List ℕ) (a b : X) (s s' : ℕ) (f : Faults) → EndsAs lines exit → Causes {C = ℕ} SourceCause lines s s'
    → Causes {C = Faults} BoardCause lines f (see a).faults → Ends see exit result line a b → Caused result s s' f (see b).faults
ends_causes see (Ok done) exit result line a b s s' f is source board (inl said) = record {
  source = says_source see exit result line a b s s' said.0 source said.1;
  board = subst (λ (g : Faults). BoardCause result g (see b).faults) board (says_cause see exit result line a b said.0 said.1);
}
ends_causes see (Ok done) exit result line a b s s' f is source board (inr cut) = absurd (not_both exit cut.0 (rw is refl))
ends_causes see (Err found) exit result line a b s s' f is source board (inl said) =
    let answer : IsAnswer found = subst IsAnswer is.0 said.0 in
    let ending : ending_of found ≡ answered = answers found answer in
    let quiet : s' ≡ s = subst (λ (e : CallEnding). SourceCauseBy e s s') ending source in
    let still : (see a).faults ≡ f = subst (λ (e : CallEnding). BoardCauseBy e f (see a).faults) ending board in
    record {
      source = says_source see exit result line a b s s' said.0 quiet said.1;
      board = subst (λ (g : Faults). BoardCause result g (see b).faults) still (says_cause see exit result line a b said.0 said.1);
    }
ends_causes see (Err found) exit result line a b s s' f is source board (inr cut) =
    let same : result ≡ found = cut.1 ∙ is.0 in
    record { source = rw same source; board = rw (same, cut.2) board }

-- no call of the source failed if no line was taken
stop_source : (exit : Exit) (s : ℕ) → IsStop exit → SourceCause exit s s
stop_source SourceFault s stop = absurd stop
stop_source exit s stop = refl

pub stopped_causes : {X : Type 0} (see : X → Seen) (exit result : Exit) (line : List ℕ) (a b : X) (s : ℕ) (f : Faults) → IsStop exit → BoardCause exit f (see a).faults → Ends see exit result line a b → Caused result s s f (see b).faults
stopped_causes see exit result line a b s f stop board (inl said) =
    let still : (see a).faults ≡ f = subst (λ (e : CallEnding). BoardCauseBy e f (see a).faults) (answers exit said.0) board in
    record {
      source = says_source see exit result line a b s s said.0 refl said.1;
      board = subst (λ (g : Faults). BoardCause result g (see b).faults) still (says_cause see exit result line a b said.0 said.1);
    }
stopped_causes see exit result line a b s f stop board (inr cut) = record {
  source = subst (λ (e : Exit). SourceCause e s s) (sym cut.1) (stop_source exit s stop);
  board = rw (cut.1, cut.2) board;
}

-- why a run ends if the print of the orders failed
pub orders_causes : {X : Type 0} (see : X → Seen) (acts : List Act) (exit : Exit) (a b : X) (s : ℕ) → IsPrintExit exit → Does see acts (end_of (ending_of exit)) a b → Caused exit s s (see a).faults (see b).faults
orders_causes see acts exit a b s ends does = record { source = by (ending_of exit) ends; board = part_causes {T = Unit {0}} see acts (Err exit) a b does }
  where
    by : (ending : CallEnding) → EndsBy ⊥ ⊤ (OnlyFault print_call) ending → SourceCauseBy ending s s
    by answered never = absurd never
    by source_failed never = absurd never
    by starved any = refl
    by (faulted kind) only = refl

-- ---- with which exits a run ends

pub line_exit : (exit : Exit) → IsLineExit exit → IsRunExit exit
line_exit Done never = absurd never
line_exit Usage never = never
line_exit (ErstStatus code) some = some
line_exit exit any = tt

pub stop_exit : (exit : Exit) → IsStop exit → IsRunExit exit
stop_exit Done never = absurd never
stop_exit SourceFault never = absurd never
stop_exit Usage never = never
stop_exit (ErstStatus code) some = some
stop_exit exit any = tt

-- how a run may end if the orders weren't printed
pub print_line_exit : (exit : Exit) → IsPrintExit exit → IsLineExit exit
print_line_exit Done never = never
print_line_exit Usage never = never
print_line_exit (ErstStatus code) never = absurd never
print_line_exit exit any = tt

pub print_not_done : (exit : Exit) → IsPrintExit exit → exit ≡ Done → ⊥
print_not_done exit ends done = subst IsPrintExit done ends

-- the orders' exit isn't an answer, so the run ends with it
pub orders_end : {X : Type 0} (see : X → Seen) (exit ended result : Exit) (line : List ℕ) (a b new : X) → IsPrintExit exit → ended ≡ exit → b ≡ a → Ends see ended result line b new → (result ≡ exit) × (new ≡ a)
orders_end see exit ended result line a b new ends is same (inl said) = absurd (subst (EndsBy ⊥ ⊤ (OnlyFault print_call)) (answers exit (subst IsAnswer is said.0)) ends)
orders_end see exit ended result line a b new ends is same (inr cut) = (cut.1 ∙ is, cut.2 ∙ same)

-- a run ends with a printed last line, a fault, or lack of memory
pub end_exit : {X : Type 0} (see : X → Seen) (exit result : Exit) (line : List ℕ) (a b : X) → IsRunExit exit → Ends see exit result line a b → IsRunExit result
end_exit see exit result line a b may (inl (answer, inl said)) = subst IsRunExit (sym said.0) may
end_exit see exit result line a b may (inl (answer, inr (inl failed))) = rw failed.0 tt
end_exit see exit result line a b may (inl (answer, inr (inr short))) = rw short.0 tt
end_exit see exit result line a b may (inr cut) = subst IsRunExit (sym cut.1) may

-- how a run may end after lines
pub ends_exit : {X : Type 0} (see : X → Seen) (lines : Result (Unit {0}) Exit) (exit result : Exit) (line : List ℕ) (a b : X) → EndsAs lines exit → Ends see exit result line a b → IsRunExit result
ends_exit see (Ok done) exit result line a b is ends = end_exit see exit result line a b (rw is tt) ends
ends_exit see (Err found) exit result line a b is ends = end_exit see exit result line a b (rw is.0 (line_exit found is.1)) ends

-- a run whose lines weren't taken doesn't succeed
pub not_done : {X : Type 0} (see : X → Seen) (exit result : Exit) (line : List ℕ) (a b : X) → IsStop exit → Ends see exit result line a b → result ≡ Done → ⊥
not_done see exit result line a b stop ends done = by ends
  where
    never : exit ≡ Done → ⊥
    never is = subst IsStop is stop

    by : Ends see exit result line a b → ⊥
    by (inl (answer, inl said)) = never (sym said.0 ∙ done)
    by (inl (answer, inr (inl failed))) = let e = sym failed.0 ∙ done in cc
    by (inl (answer, inr (inr short))) = let e = sym short.0 ∙ done in cc
    by (inr cut) = never (sym cut.1 ∙ done)

-- a run succeeds only if its lines did
pub done_before : {X : Type 0} (see : X → Seen) (lines : Result (Unit {0}) Exit) (exit result : Exit) (line : List ℕ) (a b : X) → EndsAs lines exit → Ends see exit result line a b → result ≡ Done → exit_of lines ≡ Done
done_before see (Ok ok) exit result line a b is ends done = refl
done_before see (Err found) exit result line a b is ends done = by ends
  where
    by : Ends see exit result line a b → found ≡ Done
    by (inl (answer, inl said)) = sym is.0 ∙ sym said.0 ∙ done
    by (inl (answer, inr (inl failed))) = let e = sym failed.0 ∙ done in absurd cc
    by (inl (answer, inr (inr short))) = let e = sym short.0 ∙ done in absurd cc
    by (inr cut) = sym is.0 ∙ sym cut.1 ∙ done

-- ---- over a journal that is ready
