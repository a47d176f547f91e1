-- Results of a system's calls, one after another: whether the folder's model allows them, and whether a system in
-- memory has the same.
use Rattle.std.specs.Prelude.{◌≡◌, ◌^◌, ◌<◌, List, [], ◌∷◌}
use Rattle.std.specs.List.{AllByRecursion}
use Rattle.ras_base.specs.LittleEndian.{AreBytes}
use Rattle.host_system.specs.Folder.{Stopped}
use Rattle.host_system.specs.FolderPast.{FolderPast}
use Rattle.mem_system.specs.MemSystem.{Choice, MemState, Work, other, begun_over, answer_of, after_call}
use Rattle.mem_system.specs.SystemCall.{SystemCall, Answer, failed, answer_in, change_by, with_any, MayAsk, MayFail}

-- a call and its result
pub record Exchange : Type 0 where
  pub call : SystemCall
  pub answer : Answer

-- This result is allowed, and leads the folder from one past to the other: the call failed and did what a failed call
-- may do, or it has the folder's answer and change.
abbrev pub Allows : SystemCall → Answer → FolderPast → FolderPast → Type 0
Allows call failed old new = MayFail call old new
Allows call answer old new = (answer ≡ answer_in call old) × (new ≡ with_any (change_by call) old)

-- The folder's model allows these calls and results, one after another, from one past to the other.
abbrev pub Agrees : List Exchange → FolderPast → FolderPast → Type 0
Agrees [] past last = last ≡ past
Agrees (said ∷ more) past last =
    MayAsk said.call past × (next : FolderPast) × Allows said.call said.answer past next × Agrees more next last

-- A system in memory in this state allows these calls, one after another, has these results, and then has this past.
abbrev pub Answers : List Exchange → MemState → FolderPast → Type 0
Answers [] s last = last ≡ s.past
Answers (said ∷ more) s last =
    MayAsk said.call s.past × (said.answer ≡ answer_of said.call s) × Answers more (after_call said.call s) last

abbrev pub HasBytes : Work → Type 0
HasBytes (other bytes) = AreBytes bytes
HasBytes work = Unit {0}

-- The choice can be made: its number has 64 bits, and its bytes are below 256.
abbrev pub CanChoose : Choice → Type 0
CanChoose choice = (choice.call < 2 ^ 64) × HasBytes choice.work

-- With some choices of calls that fail, a system in memory over these files has the same results.
pub record IsMet (start : Stopped) (transcript : List Exchange) (last : FolderPast) : Type 0 where
  pub fails : List Choice
  pub can : AllByRecursion CanChoose fails
  pub answers : Answers transcript (record (begun_over start) { fails = fails }) last
