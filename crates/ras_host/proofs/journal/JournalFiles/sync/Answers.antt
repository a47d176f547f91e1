use Rattle.std.proofs.Common.{subst, sym, ◌∙◌}
use Rattle.board_core.specs.Stop.{Same}
use Rattle.host_system.proofs.CallLemmas.{syncs, syncs_read}
use Rattle.ras_host.specs.Blame.{AreReports}
use Rattle.ras_host.proofs.ReadingLemmas.{goes_synced}
use Rattle.ras_host.proofs.JournalLemmas.{moves_open, ok_or, ready_sound, ready_usable, seen_held, seen_readable, seen_sound, sync_held}
use Rattle.ras_host.proofs.journal.JournalFiles.sync.Goals as goal

pub returns-in-Open-clause-moves : goal.returns-in-Open-clause-moves
returns-in-Open-clause-moves g c =
    let usable = ready_usable c.args.file _ c.in-Open.sound _ c.in-Open.is c.requires.held c.requires.ready in
    let s = syncs c.args.file c.sync-answer.result _ _ usable c.sync-answer.ensures.told c.sync-answer.ensures.failed in
    moves_open c.args.file Same Same _ _ _ _ (λ is. ready_sound c.args.file _ c.in-Open.sound c.in-Open.is c.requires.ready) s.told s.keeps s.stops
    (λ reports. absurd (subst AreReports c.in-Open.is reports))

pub returns-in-Open-clause-held : goal.returns-in-Open-clause-held
returns-in-Open-clause-held g c =
    let usable = ready_usable c.args.file _ c.in-Open.sound _ c.in-Open.is c.requires.held c.requires.ready in
    let s = syncs c.args.file c.sync-answer.result _ _ usable c.sync-answer.ensures.told c.sync-answer.ensures.failed in
    sync_held c.args.file c.sync-answer.result c.is_ok.result c.in-Open.sound _ _ _ _ c.in-Open.is c.requires.held s.keeps s.usable c.is_ok.ensures.value c.set.ensures

pub returns-in-Open-clause-synced : goal.returns-in-Open-clause-synced
returns-in-Open-clause-synced g c =
    let usable = ready_usable c.args.file _ c.in-Open.sound _ c.in-Open.is c.requires.held c.requires.ready in
    rw c.or.ensures (ok_or _ c.sync-answer.result _ (syncs c.args.file c.sync-answer.result _ _ usable c.sync-answer.ensures.told c.sync-answer.ensures.failed).synced)

pub returns-in-Seen-clause-moves : goal.returns-in-Seen-clause-moves
returns-in-Seen-clause-moves g c =
    let flag = sym c.of.ensures ∙ c.if-of.true in
    let readable = seen_readable c.args.file _ c.in-Seen.field-0 c.in-Seen.sound _ c.in-Seen.is c.requires.held flag in
    let s = syncs_read c.args.file c.sync_read-answer.result _ _ readable c.sync_read-answer.ensures.told c.sync_read-answer.ensures.failed in
    moves_open c.args.file Same Same _ _ _ _ (λ is. seen_sound c.args.file _ c.in-Seen.field-0 c.in-Seen.sound c.in-Seen.is flag) s.told s.keeps s.stops
    (λ reports. goes_synced c.args.file c.sync_read-answer.result _ _ c.sync_read-answer.ensures.told c.sync_read-answer.ensures.failed)

pub returns-in-Seen-clause-held : goal.returns-in-Seen-clause-held
returns-in-Seen-clause-held g c =
    let flag = sym c.of.ensures ∙ c.if-of.true in
    let readable = seen_readable c.args.file _ c.in-Seen.field-0 c.in-Seen.sound _ c.in-Seen.is c.requires.held flag in
    let s = syncs_read c.args.file c.sync_read-answer.result _ _ readable c.sync_read-answer.ensures.told c.sync_read-answer.ensures.failed in
    seen_held c.args.file c.sync_read-answer.result c.is_ok-in-Seen.result c.in-Seen.field-0 c.in-Seen.sound _ _ _ _ c.in-Seen.is c.requires.held
    s.told s.keeps s.usable c.is_ok-in-Seen.ensures.value c.set-in-Seen.ensures

pub returns-in-Seen-clause-synced : goal.returns-in-Seen-clause-synced
returns-in-Seen-clause-synced g c =
    let flag = sym c.of.ensures ∙ c.if-of.true in
    let readable = seen_readable c.args.file _ c.in-Seen.field-0 c.in-Seen.sound _ c.in-Seen.is c.requires.held flag in
    rw c.or-in-Seen.ensures (ok_or _ c.sync_read-answer.result _ (syncs_read c.args.file c.sync_read-answer.result _ _ readable c.sync_read-answer.ensures.told c.sync_read-answer.ensures.failed).synced)
