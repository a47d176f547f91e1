use Rattle.std.proofs.Common.{◌≡◌}
use Rattle.ras_exit.specs.Endings.{ending_of}
use Rattle.ras_daemon.proofs.CompleteLemmas.{did_counted, may_code, ran_complete, ran_stored, stops_few}
use Rattle.ras_daemon.proofs.DidLemmas.{did_access, did_calls}
use Rattle.ras_daemon.proofs.daemon.promise_laws.Goals as goal

pub returns-clause-counted : goal.returns-clause-counted
returns-clause-counted g c = λ exit first last start script left before now ran. did_counted start script (ending_of exit) before now ran.acts

pub returns-clause-calls : goal.returns-clause-calls
returns-clause-calls g c = λ exit first last start script left before now ran. did_calls start script (ending_of exit) before now ran.acts

pub returns-clause-accesses : goal.returns-clause-accesses
returns-clause-accesses g c = λ exit first last start script left before now ran. did_access start script (ending_of exit) before now ran.acts

pub returns-clause-stored : goal.returns-clause-stored
returns-clause-stored g c = λ first last start script left before now ran. ran_stored (last ≡ first) start script left before now ran

pub returns-clause-few : goal.returns-clause-few
returns-clause-few g c = λ exit first last start script t old new tells stops always.
    stops_few g.B.Board.seen exit (last ≡ first) start script t old new (g.met.B.Board.told_may_be_left old t tells) stops always

pub returns-clause-complete : goal.returns-clause-complete
returns-clause-complete g c = λ exit first last start script left before now count after faults then ran caused quiet_source quiet_board done.
    ran_complete exit (last ≡ first) start script left before now count after faults then ran caused quiet_source quiet_board done

pub returns-clause-coded : goal.returns-clause-coded
returns-clause-coded g c = λ task exit code may is. may_code task exit code may is
