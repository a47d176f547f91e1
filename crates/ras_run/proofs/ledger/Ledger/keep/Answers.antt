use Rattle.std.proofs.lemmas.Result.{err_from_is_err_and}
use Rattle.std.proofs.Common.{ap, arith, false, ◌∙◌}
use Rattle.board_core.specs.Cause.{disk_call}
use Rattle.board_core.specs.Doing.{broke, went_well}
use Rattle.board_core.proofs.DoingLemmas.{does_first, does_then}
use Rattle.ras_journal.specs.View.{JournalView}
use Rattle.ras_journal.specs.Appending.{append_acts, standing_with}
use Rattle.ras_run.specs.Keeping.{keep_refused_end, room_acts, standing_roomy}
use Rattle.ras_run.proofs.KeepingLemmas.{is_bad, keeps_not, roomy, roomy_gate}
use Rattle.ras_run.proofs.ledger.Ledger.keep.Goals as goal

pub append-requires-clause-usable : goal.append-requires-clause-usable
append-requires-clause-usable g c = ap (λ (v : JournalView). v.failed) c.in_ok-make_room.ensures.ledger.1

pub append-requires-clause-version : goal.append-requires-clause-version
append-requires-clause-version g c =
    rw (ap (λ (v : JournalView). v.standing) c.in_ok-make_room.ensures.ledger.1) (roomy c.args.self.now.journal.standing c.args.self.now.account.state c.args.link.now c.in_ok-make_room.ensures.full).version

pub append-requires-clause-gate : goal.append-requires-clause-gate
append-requires-clause-gate g c =
    rw (ap (λ (v : JournalView). v.standing) c.in_ok-make_room.ensures.ledger.1)
    (roomy_gate _ _ _ _ _ _ (c.in_ok-make_room.ensures.can tt) c.requires.stands c.in_ok-make_room.ensures.does.told)

pub returns-in_err-make_room-clause-does : goal.returns-in_err-make_room-clause-does
returns-in_err-make_room-clause-does g c =
    let p = err_from_is_err_and c.from_residual.result c.from_residual.ensures.1 in
    let s = c.args.self.now.journal.standing in
    let a = c.args.self.now.account.state in
    rw (p.1, p.2) (does_first g.B.Board.seen (room_acts s a c.args.link.now) (append_acts (standing_roomy s a c.args.link.now) c.args.link.now) (keep_refused_end c.in_err-make_room.field-0.0) _ _
    (is_bad c.in_err-make_room.field-0.0) c.in_err-make_room.ensures.does)

pub returns-in_err-make_room-clause-ledger : goal.returns-in_err-make_room-clause-ledger
returns-in_err-make_room-clause-ledger g c =
    let p = err_from_is_err_and c.from_residual.result c.from_residual.ensures.1 in
    rw (p.1, p.2) (keeps_not c.in_err-make_room.field-0.0 _ _ _ _ c.in_err-make_room.ensures.ledger)

pub returns-in-Err-Disk-clause-does : goal.returns-in-Err-Disk-clause-does
returns-in-Err-Disk-clause-does g c =
    let s = c.args.self.now.journal.standing in
    let a = c.args.self.now.account.state in
    let link = c.args.link.now in
    let same = ap (λ (v : JournalView). v.standing) c.in_ok-make_room.ensures.ledger.1 in
    let does = rw c.in-Err-Disk.field-0-is at c.in-Err-Disk.ensures.does in
    does_then g.B.Board.seen (room_acts s a link) (append_acts (standing_roomy s a link) link) (broke disk_call) c.args.board.now c.make_room.new.board c.append.new.board c.in_ok-make_room.ensures.does tt (rw same at does)

pub returns-in-Err-Full : goal.returns-in-Err-Full
returns-in-Err-Full g c =
    let room = (roomy c.args.self.now.journal.standing c.args.self.now.account.state c.args.link.now c.in_ok-make_room.ensures.full).room in
    let full = rw c.in-Err-Full.field-0-is at c.in-Err-Full.ensures.full in
    absurd (omega (arith, room, full, ap (λ (v : JournalView). v.standing.length) c.in_ok-make_room.ensures.ledger.1))

pub returns-in-Ok-clause-does : goal.returns-in-Ok-clause-does
returns-in-Ok-clause-does g c =
    let s = c.args.self.now.journal.standing in
    let a = c.args.self.now.account.state in
    let link = c.args.link.now in
    let same = ap (λ (v : JournalView). v.standing) c.in_ok-make_room.ensures.ledger.1 in
    does_then g.B.Board.seen (room_acts s a link) (append_acts (standing_roomy s a link) link) went_well c.args.board.now c.make_room.new.board c.append.new.board c.in_ok-make_room.ensures.does tt (rw same at c.in-Ok.ensures.does)

pub returns-in-Ok-clause-ledger : goal.returns-in-Ok-clause-ledger
returns-in-Ok-clause-ledger g c =
    (c.in_ok-make_room.ensures.ledger.0, c.in-Ok.ensures.journal ∙ ap (λ (v : JournalView). record { standing = standing_with v.standing c.args.link.now; failed = false }) c.in_ok-make_room.ensures.ledger.1)
