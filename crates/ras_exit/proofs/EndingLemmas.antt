-- What holds by how a call ends, or a part of it.
use Rattle.std.proofs.Common.{◌≡◌, Bool, true, false, refl, inl, inr}
use Rattle.std.specs.Prelude.{◌⊎◌}
use Rattle.board_core.specs.Cause.{Kind}
use Rattle.ras_exit.specs.declared.exit.Exit.{Exit}
use Rattle.ras_exit.specs.declared.exit.Exit.TheVariants.{NoMemory}
use Rattle.ras_exit.specs.Endings.{CallEnding, EndsBy, IfAnswered, IsAnswer, IsCut, OnAnswer, OnWhole, UnlessFaulted, answered, ending_of, faulted, is_answer, is_answered, source_failed, starved}

-- ---- of an exit

pub answer_or_cut : (exit : Exit) → IsAnswer exit ⊎ IsCut exit
answer_or_cut exit = by (is_answer exit) refl
  where
    by : (b : Bool) → is_answer exit ≡ b → IsAnswer exit ⊎ IsCut exit
    by true is = inl is
    by false is = inr is

pub not_both : (exit : Exit) → IsCut exit → IsAnswer exit → ⊥
not_both exit cut answer = cc

-- A statement that holds for every ending.
pub on_answer : (exit : Exit) (P : Type 0) → P → OnAnswer exit P
on_answer exit P holds = by (ending_of exit)
  where
    by : (ending : CallEnding) → IfAnswered ending P
    by answered = holds
    by ending = tt

pub on_cut : (exit : Exit) (P : Type 0) → IsCut exit → OnAnswer exit P
on_cut exit P cut = by (ending_of exit) cut
  where
    by : (ending : CallEnding) → is_answered ending ≡ false → IfAnswered ending P
    by answered cut = absurd cc
    by ending cut = tt

pub on_whole : (exit : Exit) (P : Type 0) → P → OnWhole exit P
on_whole exit P holds = by (ending_of exit)
  where
    by : (ending : CallEnding) → UnlessFaulted ending P
    by (faulted kind) = tt
    by ending = holds

-- A statement that holds if the call came to its end or to a refusal.
pub at_answer : (exit : Exit) (P : Type 0) → IsAnswer exit → OnWhole exit P → P
at_answer exit P answer holds = by (ending_of exit) answer holds
  where
    by : (ending : CallEnding) → is_answered ending ≡ true → UnlessFaulted ending P → P
    by answered answer holds = holds
    by ending answer holds = absurd cc

-- ---- of a part of a run

pub memory_ran_out : (exit : Exit) → ending_of exit ≡ starved → exit ≡ NoMemory
memory_ran_out NoMemory is = refl
memory_ran_out exit is = absurd cc

pub ends_weaker : (A A' S S' : Type 0) (F F' : Kind → Type 0) (exit : Exit) → (A → A') → (exit ≡ NoMemory → S → S') → ((kind : Kind) → F kind → F' kind)
    → EndsBy A S F (ending_of exit) → EndsBy A' S' F' (ending_of exit)
ends_weaker A A' S S' F F' exit answers starves faults ends = by (ending_of exit) refl ends
  where
    by : (ending : CallEnding) → ending_of exit ≡ ending → EndsBy A S F ending → EndsBy A' S' F' ending
    by answered is ends = answers ends
    by starved is ends = starves (memory_ran_out exit is) ends
    by (faulted kind) is ends = faults kind ends
    by source_failed is ends = absurd ends
