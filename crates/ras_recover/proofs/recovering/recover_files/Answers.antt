use Rattle.std.proofs.Common.{inr}
use Rattle.std.proofs.lemmas.Result.{err_from_is_err_and}
use Rattle.ras_recover.specs.Recovering.{open_end}
use Rattle.ras_recover.proofs.KeepingLemmas.{rests_still, unless_disk}
use Rattle.ras_recover.proofs.OpeningCallsLemmas.{recovers, told_unsynced, told_recovered, reads_recovered}
use Rattle.ras_recover.proofs.SyncsLemmas.{synced_at_most, synced_rests, syncs_read}
use Rattle.ras_recover.proofs.recovering.recover_files.Goals as goal

pub returns-clause-rests : goal.returns-clause-rests
returns-clause-rests g c = unless_disk c.recover_synced.result _ (λ t told.
    rests_still t.here _ _ _ _ (c.in_ok-sync_both.ensures.rests t told) c.recover_synced.ensures.looks.keeps)

pub returns-clause-syncs : goal.returns-clause-syncs
returns-clause-syncs g c = λ t told.
    syncs_read g.B.Board.seen t c.args.board.now c.recover_synced.result c.sync_both.new.board c.recover_synced.new.board
    (synced_rests _ _ _ t _ _ _ told (c.in_ok-sync_both.ensures.rests t told) c.in_ok-sync_both.ensures.syncs) c.in_ok-sync_both.ensures.keeps c.recover_synced.ensures.looks.keeps

pub returns-in_err-sync_both-clause-syncs : goal.returns-in_err-sync_both-clause-syncs
returns-in_err-sync_both-clause-syncs g c =
    let p = err_from_is_err_and c.from_residual.result c.from_residual.ensures.1 in
    λ t told. rw p.1 (inr (record { calls = synced_at_most _ _ c.sync_both.result t _ _ told c.sync_both.ensures.syncs; stops = c.sync_both.ensures.keeps.stops }))

pub returns-clause-does : goal.returns-clause-does
returns-clause-does g c =
    let made = recovers _ _ (open_end c.recover_synced.result) _ _ _ c.in_ok-sync_both.ensures.syncs c.recover_synced.ensures.looks.calls in
    record {
      told = told_recovered (open_end c.recover_synced.result) _ _ made;
      reads = reads_recovered c.recover_synced.result _ _ made;
    }

pub returns-in_err-sync_both-clause-does : goal.returns-in_err-sync_both-clause-does
returns-in_err-sync_both-clause-does g c =
    let p = err_from_is_err_and c.from_residual.result c.from_residual.ensures.1 in
    rw p.1 (record { told = told_unsynced c.sync_both.result _ _ c.sync_both.ensures.syncs; reads = tt })
