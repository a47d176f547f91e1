use Rattle.std.proofs.Common.{◌∙◌, Ok, Some, sym, ap}
use Rattle.ras_account.specs.Account.{State}
use Rattle.ras_journal.specs.declared.standing.Standing.{Standing}
use Rattle.ras_recover.proofs.PairLemmas.{recovers, position}
use Rattle.ras_recover.proofs.pair.recovered_of.Goals as goal

pub returns-in-Some-clause-recovers : goal.returns-in-Some-clause-recovers
returns-in-Some-clause-recovers c = λ file0 file1 are.
    let read = rw c.in-Some.is at are.journal in
    recovers file0 file1 _ read ∙ ap (λ (a : State). Ok a) (sym c.taken_over.ensures.state)

pub returns-in-Some-clause-standing : goal.returns-in-Some-clause-standing
returns-in-Some-clause-standing c = λ file0 file1 are.
    let read = rw c.in-Some.is at are.journal in
    position file0 file1 _ read ∙ ap (λ (s : Standing). Some s) (sym (c.standing_at.ensures c.in-Some.account.state file0 file1 are.zero are.one))

pub returns-in-None-clause-recovers : goal.returns-in-None-clause-recovers
returns-in-None-clause-recovers c = λ file0 file1 are.
    let read = rw c.in-None.is at are.journal in
    recovers file0 file1 _ read ∙ ap (λ (a : State). Ok a) (sym c.new.ensures.state)

pub returns-in-None-clause-standing : goal.returns-in-None-clause-standing
returns-in-None-clause-standing c = λ file0 file1 are.
    let read = rw c.in-None.is at are.journal in
    position file0 file1 _ read
