-- A put with its done line: what it does, and how it ends.
use Rattle.std.proofs.Common.{◌≡◌, Option, None, Some, Result, Ok, Err, IfSome, OnErr, sym, subst}
use Rattle.board_core.specs.Told.{Told}
use Rattle.ras_exit.specs.declared.exit.Exit.{Exit}
use Rattle.ras_exit.specs.declared.exit.Exit.TheVariants.{PrintFault}
use Rattle.ras_run.specs.Taking.{EndsUnless}

pub if_some : (told : Option Told) (P Q : Told → Type 0) → ((t : Told) → P t → Q t) → IfSome told P → IfSome told Q
if_some None P Q leads holds = tt
if_some (Some t) P Q leads holds = leads t holds

-- ---- how it ends

-- Only printing failed.
pub printed_ends : (refusal : Option Exit) (result : Result (Unit {0}) Exit) → OnErr result (result ≡ Err PrintFault) → refusal ≡ None → EndsUnless refusal result
printed_ends refusal (Ok over) fault none = none
printed_ends refusal (Err exit) fault none = subst (λ (r : Result (Unit {0}) Exit). EndsUnless refusal r) (sym fault) tt
