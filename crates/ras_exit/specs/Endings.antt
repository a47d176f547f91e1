-- How a call ends: what its exit says about it.
use Rattle.std.specs.Prelude.{◌≡◌, ◌≢◌, ℕ, Bool, true, false, ⊤}
use Rattle.board_core.specs.Cause.{Kind, device_call, disk_call, print_call}
use Rattle.ras_script.specs.declared.line.LineRefused.{LineRefused}
use Rattle.ras_script.specs.declared.line.LineRefused.TheVariants as refused
use Rattle.ras_exit.specs.declared.exit.Exit.{Exit}
use Rattle.ras_exit.specs.declared.exit.Exit.TheVariants.{Done, Usage, BadLine, SourceFault, DiskFault, RegisterFault, PrintFault, ErstStatus, NoMemory}
use Rattle.ras_exit.specs.declared.reason.Reason.TheVariants.{Line}

-- A call came to its end or to a refusal; or it was cut short, because a call of the board failed, with its kind, or
-- the source failed, or memory ran out.
pub data CallEnding : Type 0 where
  answered : CallEnding
  faulted : Kind → CallEnding
  source_failed : CallEnding
  starved : CallEnding

-- the ending of a call, by its exit
abbrev pub ending_of : Exit → CallEnding
ending_of SourceFault = source_failed
ending_of DiskFault = faulted disk_call
ending_of RegisterFault = faulted device_call
ending_of PrintFault = faulted print_call
ending_of NoMemory = starved
ending_of exit = answered

-- Whether a call came to its end or to a refusal.
abbrev pub is_answered : CallEnding → Bool
is_answered answered = true
is_answered ending = false

abbrev pub is_answer : Exit → Bool
is_answer exit = is_answered (ending_of exit)

abbrev pub IsAnswer : Exit → Type 0
IsAnswer exit = is_answer exit ≡ true

-- A fault cut the call short, or memory ran out.
abbrev pub IsCut : Exit → Type 0
IsCut exit = is_answer exit ≡ false

-- An exit that ends a run among its lines. A status of the device is an exit only if it isn't 0.
abbrev pub IsLineExit : Exit → Type 0
IsLineExit Done = ⊥
IsLineExit Usage = ⊥
IsLineExit (ErstStatus code) = code ≢ 0
IsLineExit exit = ⊤

-- An exit that ends a run among its lines, in a part of the run that doesn't read the source.
abbrev pub IsStop : Exit → Type 0
IsStop Done = ⊥
IsStop Usage = ⊥
IsStop SourceFault = ⊥
IsStop (ErstStatus code) = code ≢ 0
IsStop exit = ⊤

-- P holds if the call came to its end or to a refusal.
abbrev pub IfAnswered : CallEnding → Type 0 → Type 0
IfAnswered answered P = P
IfAnswered ending P = ⊤

-- P holds unless a call of the board failed.
abbrev pub UnlessFaulted : CallEnding → Type 0 → Type 0
UnlessFaulted (faulted kind) P = ⊤
UnlessFaulted ending P = P

-- P holds if a call came to its end or to a refusal, and wasn't cut short by a fault or by running out of memory.
abbrev pub OnAnswer : Exit → Type 0 → Type 0
OnAnswer exit P = IfAnswered (ending_of exit) P

-- P holds if no call of the board failed, even if memory ran out or the source failed.
abbrev pub OnWhole : Exit → Type 0 → Type 0
OnWhole exit P = UnlessFaulted (ending_of exit) P

-- What holds if a part of a run ends before it is done: at a refusal, when memory runs out, or at a fault of the
-- board, by its kind. The part doesn't read the source.
abbrev pub EndsBy : Type 0 → Type 0 → (Kind → Type 0) → CallEnding → Type 0
EndsBy Answered Starved Faulted answered = Answered
EndsBy Answered Starved Faulted starved = Starved
EndsBy Answered Starved Faulted (faulted kind) = Faulted kind
EndsBy Answered Starved Faulted source_failed = ⊥

-- Any kind of fault, or only one.
abbrev pub AnyFault : Kind → Type 0
AnyFault kind = ⊤

abbrev pub OnlyFault : Kind → Kind → Type 0
OnlyFault one kind = kind ≡ one

-- how a run ends if its line of this number can't be read
abbrev pub unread_exit : ℕ → LineRefused → Exit
unread_exit number refused.NoMemory = NoMemory
unread_exit number why = BadLine number (Line why)
