-- What the clauses of one call of a journal say once it has returned Ok.
use Rattle.std.proofs.Common.{◌≡◌, ◌≤◌, List, ℕ, Option, Some, Result, Ok, Err, subst}
use Rattle.std.specs.Prelude.{IfOk, IfSome, OnOk, false}
use Rattle.board_core.specs.Doing.{Does, GoesWell, IsMade, Seen}
use Rattle.entry_format.specs.declared.version.Version.TheVariants.{Two}
use Rattle.ras_account.specs.Account.{State}
use Rattle.ras_journal.specs.View.{JournalView}
use Rattle.ras_journal.specs.declared.limits.TheConstants.{LONGEST_FILE}
use Rattle.ras_journal.specs.declared.refused.AppendRefused.{AppendRefused}
use Rattle.ras_journal.specs.declared.refused.AppendRefused.TheVariants as append
use Rattle.ras_journal.specs.declared.standing.Standing.{Standing}
use Rattle.ras_journal.specs.Appending.{HasRoom, IsFullBy, MovesOn, append_acts, append_end, length_with}
use Rattle.ras_recover.specs.declared.refused.SwitchRefused.{SwitchRefused}
use Rattle.ras_recover.specs.Switching.{CanSwitch, MovesOver, switch_acts, switch_end}

-- ---- an append and a switch

pub has_room : (result : Result (Unit {0}) AppendRefused) (standing : Standing) (link : List ℕ) → standing.version ≡ Two → IsFullBy result (length_with standing link) → IsMade (append_end result) → HasRoom standing link
has_room (Ok done) standing link two room made = record { version = two; room = room }
has_room (Err append.Disk) standing link two room made = record { version = two; room = room }
has_room (Err append.Full) standing link two full made = absurd made

pub appended : {X P : Type 0} (see : X → Seen) (result : Result (Unit {0}) AppendRefused) (standing next : Standing) (link : List ℕ) (old new : JournalView) {a b : X} → Does see (append_acts standing link) (append_end result) a b → MovesOn result next old new
    → IsFullBy result (length_with standing link) → (new ≡ record { standing = next; failed = false } → length_with standing link ≤ LONGEST_FILE → GoesWell (append_acts standing link) (see a) (see b) → P) → OnOk result P
appended see (Ok done) standing next link old new does moves room follows = follows moves room does
appended see (Err why) standing next link old new does moves full follows = tt

pub switched : {X P : Type 0} (see : X → Seen) (result : Result (Unit {0}) SwitchRefused) (standing next : Standing) (account : State) (old new : JournalView) {a b : X} → Does see (switch_acts standing account) (switch_end result) a b
    → (IsMade (switch_end result) → CanSwitch standing account) → MovesOver result next old new
    → (new ≡ record { standing = next; failed = false } → CanSwitch standing account → GoesWell (switch_acts standing account) (see a) (see b) → P) → OnOk result P
switched see (Ok done) standing next account old new does can moves follows = follows moves (can tt) does
switched see (Err why) standing next account old new does can moves follows = tt

-- ---- an opening

-- A property of the result over a modelled board, and what follows from it if the result is Ok.
pub if-told : {T E X : Type 0} {Q R : T → Type 0} → (P : Result T E → X → Type 0) (result : Result T E) (told : Option X) → IfSome told (P result) → IfOk result Q
    → ((x : T) → IfSome told (P (Ok x)) → Q x → R x) → IfOk result R
if-told P (Ok x) told p q follows = follows x p q
if-told P (Err why) told p q follows = tt

pub told-here : {X : Type 0} (P : X → Type 0) (told : Option X) (x : X) → told ≡ Some x → IfSome told P → P x
told-here P told x tells held = subst (λ o. IfSome o P) tells held
