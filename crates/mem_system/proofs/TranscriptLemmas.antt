-- Calls whose results the folder's model allows, over a system in memory.
use Rattle.std.proofs.Common.{◌≡◌, ℕ, ◌+◌, ◌^◌, ◌<◌, ◌≤◌, ◌∷◌, [], List, length, take, nat_eq, if◌then◌else◌, true, false, refl, ap, sym, ◌∙◌, subst, arith, inl, inr}
use Rattle.std.specs.Prelude.{Option, None, Some}
use Rattle.std.specs.List.{AllByRecursion}
use Rattle.std.proofs.Math.Seq.{take-append_seam}
use Rattle.std.proofs.lemmas.List.{take_all}
use Rattle.std.proofs.lemmas.Bool.Decides.{nat_tests}
use Rattle.board_core.specs.MemSource.{next_count}
use Rattle.host_system.specs.Folder.{FolderChange, Stopped, made, removed, renamed, wrote, printed}
use Rattle.host_system.specs.FolderPast.{FolderPast, MayDo, changed_by}
use Rattle.mem_system.specs.MemSystem.{Choice, MemState, Work, nothing, everything, part, other, answer_by, after_call, begun_over, change_made, chosen_at, chosen_next, counted, faulted_if, if_everything, with_work}
use Rattle.mem_system.specs.SystemCall.{SystemCall, to_find, to_open, to_make, to_lock, to_read, to_read_at, to_write_at, to_sync, to_sync_read, to_remove, to_rename, to_sync_names, to_print, Answer, failed, did, found, gave, MayAsk, MayFail, with_any}
use Rattle.mem_system.specs.Transcript.{Exchange, Allows, Agrees, Answers, HasBytes, CanChoose, IsMet}

-- ---- one call

abbrev HasAny : Option Work → Type 0
HasAny None = Unit {0}
HasAny (Some work) = HasBytes work

-- The choice for a call with which the call has this result and this effect.
record Fitting (call : SystemCall) (answer : Answer) (old new : FolderPast) : Type 0 where
  choice : Option Work
  bytes : HasAny choice
  says : answer ≡ answer_by call choice old
  goes : new ≡ with_any (change_made call choice) old

done_whole : (call : SystemCall) (change : FolderChange) (old new : FolderPast) → ((work : Work) → change_made call (Some work) ≡ if_everything work change) → MayDo change old new → Fitting call failed old new
done_whole call change old new is may = elim may [
  | inl same ↦ record { choice = Some nothing; bytes = tt; says = refl; goes = same ∙ ap (λ (c : Option FolderChange). with_any c old) (sym (is nothing)) }
  | inr all ↦ record { choice = Some everything; bytes = tt; says = refl; goes = all ∙ ap (λ (c : Option FolderChange). with_any c old) (sym (is everything)) }
]

fitting_failure : (call : SystemCall) (old new : FolderPast) → MayFail call old new → Fitting call failed old new
fitting_failure (to_find name) old new may = record { choice = Some nothing; bytes = tt; says = refl; goes = may }
fitting_failure (to_open name) old new may = record { choice = Some nothing; bytes = tt; says = refl; goes = may }
fitting_failure (to_make name) old new may = done_whole (to_make name) (made name) old new (λ work. refl) may
fitting_failure (to_lock name) old new may = record { choice = Some nothing; bytes = tt; says = refl; goes = may }
fitting_failure (to_read name most) old new may = record { choice = Some nothing; bytes = tt; says = refl; goes = may }
fitting_failure (to_read_at name place count) old new may = record { choice = Some nothing; bytes = tt; says = refl; goes = may }
fitting_failure (to_write_at name place bytes) old new may = elim may [
  | inl same ↦ record { choice = Some nothing; bytes = tt; says = refl; goes = same }
  | inr wrote_some ↦ record {
    choice = Some (other wrote_some.0);
    bytes = wrote_some.1;
    says = refl;
    goes = wrote_some.3 ∙ ap (λ (b : List ℕ). changed_by (wrote name place (length bytes) b) old) (sym (take_all (length bytes) wrote_some.0 wrote_some.2));
  }
]
fitting_failure (to_sync name) old new may = record { choice = Some nothing; bytes = tt; says = refl; goes = may }
fitting_failure (to_sync_read file) old new may = record { choice = Some nothing; bytes = tt; says = refl; goes = may }
fitting_failure (to_remove name) old new may = done_whole (to_remove name) (removed name) old new (λ work. refl) may
fitting_failure to_rename old new may = done_whole to_rename renamed old new (λ work. refl) may
fitting_failure to_sync_names old new may = record { choice = Some nothing; bytes = tt; says = refl; goes = may }
fitting_failure (to_print bytes) old new may =
    let front : take (length may.0) bytes ≡ may.0 = ap (take (length may.0)) (sym may.2) ∙ take-append_seam may.0 may.1 in
    record {
      choice = Some (part (length may.0));
      bytes = tt;
      says = refl;
      goes = may.3 ∙ ap (λ (b : List ℕ). changed_by (printed b) old) (sym front);
    }

fitting : (call : SystemCall) (answer : Answer) (old new : FolderPast) → Allows call answer old new → Fitting call answer old new
fitting call failed old new allows = fitting_failure call old new allows
fitting call did old new allows = record { choice = None; bytes = tt; says = allows.0; goes = allows.1 }
fitting call (found size) old new allows = record { choice = None; bytes = tt; says = allows.0; goes = allows.1 }
fitting call (gave bytes) old new allows = record { choice = None; bytes = tt; says = allows.0; goes = allows.1 }

-- ---- the choices of all calls

abbrev with_choice : ℕ → Option Work → List Choice → List Choice
with_choice n None fails = fails
with_choice n (Some work) fails = record { call = n + 1; work = work } ∷ fails

chosen_here : (n : ℕ) (choice : Option Work) (fails : List Choice) → chosen_at (n + 1) fails ≡ None → chosen_at (n + 1) (with_choice n choice fails) ≡ choice
chosen_here n None fails is = is
chosen_here n (Some work) fails is =
    let same : nat_eq (n + 1) (n + 1) ≡ true = grind (arith, nat_tests) in
    ap (λ b. if b then Some work else chosen_at (n + 1) fails) same

chosen_elsewhere : (n m : ℕ) (choice : Option Work) (fails : List Choice) → (m ≡ n + 1 → ⊥) → chosen_at m (with_choice n choice fails) ≡ chosen_at m fails
chosen_elsewhere n m None fails apart = refl
chosen_elsewhere n m (Some work) fails apart =
    let differs : nat_eq (n + 1) m ≡ false = grind (arith, nat_tests) in
    ap (λ b. if b then Some work else chosen_at m fails) differs

all_can : (n : ℕ) (choice : Option Work) (fails : List Choice) → n + 1 < 2 ^ 64 → HasAny choice → AllByRecursion CanChoose fails → AllByRecursion CanChoose (with_choice n choice fails)
all_can n None fails within bytes can = can
all_can n (Some work) fails within bytes can = ((within, bytes), can)

-- ---- the state after a call, by what was chosen for it

abbrev after_by : SystemCall → Option Work → MemState → MemState
after_by call choice s = faulted_if choice (counted (with_work (change_made call choice) s))

past_after : (call : SystemCall) (choice : Option Work) (s : MemState) → (after_by call choice s).past ≡ with_any (change_made call choice) s.past
past_after call None s = refl
past_after call (Some work) s = refl

made_after : (call : SystemCall) (choice : Option Work) (s : MemState) → (after_by call choice s).made ≡ next_count s.made
made_after call None s = refl
made_after call (Some work) s = refl

fails_after : (call : SystemCall) (choice : Option Work) (s : MemState) → (after_by call choice s).fails ≡ s.fails
fails_after call None s = refl
fails_after call (Some work) s = refl

-- ---- all calls

-- Choices for the calls after the first n, with which any system in memory that has made n calls and has this past
-- gives these results.
record Meets (n : ℕ) (past : FolderPast) (transcript : List Exchange) (last : FolderPast) : Type 0 where
  fails : List Choice
  can : AllByRecursion CanChoose fails
  before : (m : ℕ) → m ≤ n → chosen_at m fails ≡ None
  runs : (s : MemState) → s.past ≡ past → s.made ≡ n → ((m : ℕ) → n < m → chosen_at m s.fails ≡ chosen_at m fails) → Answers transcript s last

-- One call before the others.
goes_on : (n : ℕ) (said : Exchange) (more : List Exchange) (past next last : FolderPast) → n + 1 < 2 ^ 64 → MayAsk said.call past → Fitting said.call said.answer past next → Meets (n + 1) next more last → Meets n past (said ∷ more) last
goes_on n said more past next last within may fit rest = record {
  fails = with_choice n fit.choice rest.fails;
  can = all_can n fit.choice rest.fails within fit.bytes rest.can;
  before = λ m le. chosen_elsewhere n m fit.choice rest.fails (λ is. omega arith) ∙ rest.before m (omega arith);
  runs = λ s same counts agree.
      let number : next_count s.made ≡ n + 1 = ap next_count counts ∙ omega arith in
      let chosen : chosen_next s ≡ fit.choice =
      ap (λ (m : ℕ). chosen_at m s.fails) number ∙ (agree (n + 1) (omega arith) ∙ chosen_here n fit.choice rest.fails (rest.before (n + 1) (omega arith))) in
      let after : after_call said.call s ≡ after_by said.call fit.choice s = ap (λ (c : Option Work). after_by said.call c s) chosen in (
        subst (MayAsk said.call) (sym same) may,
        fit.says ∙ (ap (answer_by said.call fit.choice) (sym same) ∙ ap (λ (c : Option Work). answer_by said.call c s.past) (sym chosen)),
        rest.runs (after_call said.call s)
            (ap (λ (t : MemState). t.past) after ∙ (past_after said.call fit.choice s ∙ (ap (with_any (change_made said.call fit.choice)) same ∙ sym fit.goes)))
            (ap (λ (t : MemState). t.made) after ∙ (made_after said.call fit.choice s ∙ number))
            (λ m later. ap (λ (t : MemState). chosen_at m t.fails) after ∙ (ap (chosen_at m) (fails_after said.call fit.choice s)
            ∙ (agree m (omega arith) ∙ chosen_elsewhere n m fit.choice rest.fails (λ is. omega arith)))),
      );
}

meets : (transcript : List Exchange) (n : ℕ) (past last : FolderPast) → n + length transcript < 2 ^ 64 → Agrees transcript past last → Meets n past transcript last
meets [] n past last within agrees = record {
  fails = [];
  can = tt;
  before = λ m le. refl;
  runs = λ s same counts agree. agrees ∙ sym same;
}
meets (said ∷ more) n past last within agrees =
    goes_on n said more past agrees.1 last (omega (arith, within)) agrees.0 (fitting said.call said.answer past agrees.1 agrees.2)
    (meets more (n + 1) agrees.1 last (omega (arith, within)) agrees.3)

pub transcript_met : (start : Stopped) (transcript : List Exchange) (last : FolderPast) → length transcript < 2 ^ 64 → Agrees transcript (begun_over start).past last → IsMet start transcript last
transcript_met start transcript last within agrees =
    let met : Meets 0 (begun_over start).past transcript last = meets transcript 0 (begun_over start).past last (omega (arith, within)) agrees in
    record { fails = met.fails; can = met.can; answers = met.runs (record (begun_over start) { fails = met.fails }) refl refl (λ m later. refl) }
