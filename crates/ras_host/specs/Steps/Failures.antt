-- Why a call of a board failed: a call of the system failed, or the board refused it.
use Rattle.std.specs.Prelude.{Result, Ok, Err}
use Rattle.board_core.specs.declared.board.BoardPut.{BoardPut}
use Rattle.board_core.specs.declared.board.BoardPut.TheVariants as board
use Rattle.ras_host.specs.declared.faults.CallFailed.{CallFailed}
use Rattle.ras_host.specs.declared.faults.CallFailed.TheVariants.{System, Refused}
use Rattle.ras_host.specs.declared.faults.PutFailed.{PutFailed}
use Rattle.ras_host.specs.declared.faults.PutFailed.TheVariants.{Store, Call}

-- The call's result, where only a failed call of the system counts as a failure.
abbrev pub system_failure : {T : Type 0} → Result T CallFailed → Result (Unit {0}) CallFailed
system_failure (Err System) = Err System
system_failure answer = Ok tt

-- The call's result, where only a refusal counts as a failure.
abbrev pub refusal : {T : Type 0} → Result T CallFailed → Result (Unit {0}) CallFailed
refusal (Err Refused) = Err Refused
refusal answer = Ok tt

-- A put that the store refuses hasn't failed.
abbrev pub call_answer : Result (Unit {0}) PutFailed → Result (Unit {0}) CallFailed
call_answer (Ok done) = Ok tt
call_answer (Err (Store why)) = Ok tt
call_answer (Err (Call why)) = Err why

-- what a board returns for a put
abbrev pub put_answer : Result (Unit {0}) PutFailed → Result (Unit {0}) BoardPut
put_answer (Ok done) = Ok tt
put_answer (Err (Store why)) = Err (board.Refused why)
put_answer (Err (Call why)) = Err board.Failed
