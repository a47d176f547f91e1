use Rattle.std.proofs.Common.{◌≡◌, ◌∙◌, List, ℕ, Bool, Vec, Global, refl, ap, subst, sym}
use Rattle.std.proofs.lemmas.Result.{err_from_is_err_and}
use Rattle.board_core.specs.Cause.{disk_call}
use Rattle.board_core.specs.declared.board.FileNo.{FileNo}
use Rattle.board_core.specs.Doing.{Does, Ended, IsMade, broke, gave_up, went_well}
use Rattle.ras_journal.specs.declared.standing.Standing.{Standing}
use Rattle.ras_recover.specs.Formatting.{formatting_acts}
use Rattle.ras_recover.specs.Switching.{CanSwitch, next_bytes, switch_acts, switch_end, switch_refused_end, switched}
use Rattle.ras_recover.proofs.SwitchingLemmas.{as_switch, full_as, unmoved}
use Rattle.ras_recover.proofs.switching.switch_file.Goals as goal

pub returns-in_err-bytes-clause-does : goal.returns-in_err-bytes-clause-does
returns-in_err-bytes-clause-does g c =
    let p = err_from_is_err_and c.from_residual.result c.from_residual.ensures.1 in
    let ended : switch_end c.from_residual.result ≡ gave_up = ap switch_end p.1 ∙ (ap switch_refused_end p.2 ∙ c.in_err-bytes.ensures.refused) in
    subst (λ (e : Ended). Does g.B.Board.seen (switch_acts c.args.journal.now.standing c.args.account.now.state) e c.args.board.now c.args.board.now) (sym ended) refl

pub returns-in_err-bytes-clause-can : goal.returns-in_err-bytes-clause-can
returns-in_err-bytes-clause-can g c = λ made.
    let p = err_from_is_err_and c.from_residual.result c.from_residual.ensures.1 in
    let ended : switch_end c.from_residual.result ≡ gave_up = ap switch_end p.1 ∙ (ap switch_refused_end p.2 ∙ c.in_err-bytes.ensures.refused) in
    absurd (subst IsMade ended made)

pub returns-in_err-bytes-clause-journal : goal.returns-in_err-bytes-clause-journal
returns-in_err-bytes-clause-journal g c =
    let p = err_from_is_err_and c.from_residual.result c.from_residual.ensures.1 in
    rw (p.1, p.2) (unmoved c.in_err-bytes.field-0.0 _ _ c.in_err-bytes.ensures.refused)

pub returns-in_err-bytes-clause-full : goal.returns-in_err-bytes-clause-full
returns-in_err-bytes-clause-full g c =
    let p = err_from_is_err_and c.from_residual.result c.from_residual.ensures.1 in
    rw (p.1, p.2) (full_as (Vec ℕ Global × Standing) (Unit {0}) c.in_err-bytes.field-0.0 _ (rw c.standing-standing.ensures at c.in_err-bytes.ensures.full))

pub returns-in-Err-clause-does : goal.returns-in-Err-clause-does
returns-in-Err-clause-does g c =
    let standing = c.args.journal.now.standing in
    let account = c.args.account.now.state in
    let here = c.standing-standing.ensures in
    as_switch (λ (file : FileNo) (shut : Bool) (bytes : List ℕ). Does g.B.Board.seen (formatting_acts file shut bytes) (broke disk_call) c.args.board.now c.format_file.new.board) standing account _ _ _
    (record {
      file_is = ap (λ (s : Standing). s.file) (c.in_ok-bytes.ensures.next ∙ ap (λ (s : Standing). switched s account) here);
      shut_is = ap (λ (s : Standing). s.shut) here;
      bytes_are = c.deref.ensures.value ∙ (c.in_ok-bytes.ensures.bytes ∙ ap (λ (s : Standing). next_bytes s account) here);
    }) c.in-Err.ensures.does

pub returns-in-Err-clause-can : goal.returns-in-Err-clause-can
returns-in-Err-clause-can g c = λ made. subst (λ (s : Standing). CanSwitch s c.args.account.now.state) c.standing-standing.ensures c.in_ok-bytes.ensures.can

pub returns-clause-does : goal.returns-clause-does
returns-clause-does g c =
    let standing = c.args.journal.now.standing in
    let account = c.args.account.now.state in
    let here = c.standing-standing.ensures in
    as_switch (λ (file : FileNo) (shut : Bool) (bytes : List ℕ). Does g.B.Board.seen (formatting_acts file shut bytes) went_well c.args.board.now c.format_file.new.board) standing account _ _ _
    (record {
      file_is = ap (λ (s : Standing). s.file) (c.in_ok-bytes.ensures.next ∙ ap (λ (s : Standing). switched s account) here);
      shut_is = ap (λ (s : Standing). s.shut) here;
      bytes_are = c.deref.ensures.value ∙ (c.in_ok-bytes.ensures.bytes ∙ ap (λ (s : Standing). next_bytes s account) here);
    }) c.in_default.ensures.does

pub returns-clause-can : goal.returns-clause-can
returns-clause-can g c = λ made. subst (λ (s : Standing). CanSwitch s c.args.account.now.state) c.standing-standing.ensures c.in_ok-bytes.ensures.can
