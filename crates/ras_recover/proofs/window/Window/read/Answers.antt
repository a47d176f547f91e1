use Rattle.std.proofs.Common.{◌≡◌, ◌∙◌, ◌∷◌, [], ℕ, List, Ok, Err, length, ap, arith}
use Rattle.std.proofs.lemmas.Result.{err_from_is_err_and}
use Rattle.board_core.specs.declared.board.DiskCall.{DiskCall}
use Rattle.board_core.specs.declared.board.DiskCall.TheVariants.{ReadAt}
use Rattle.board_core.specs.Cause.{disk_call}
use Rattle.board_core.specs.Doing.{broke, went_well}
use Rattle.board_core.specs.Told.{Told}
use Rattle.ras_recover.proofs.LooksLemmas.{looks_call, looks_none, looks_weaker, part_read}
use Rattle.ras_recover.proofs.window.Window.read.Goals as goal

pub returns-in_err-resize-clause-looks : goal.returns-in_err-resize-clause-looks
returns-in_err-resize-clause-looks g c =
    let p = err_from_is_err_and c.from_residual.result c.from_residual.ensures.1 in
    rw (p.1, p.2) (looks_none _ _)

pub returns-in_err-read-clause-looks : goal.returns-in_err-read-clause-looks
returns-in_err-read-clause-looks g c =
    let p = err_from_is_err_and c.from_residual-in_err-read.result c.from_residual-in_err-read.ensures.1 in
    rw (p.1, p.2) (looks_weaker (broke disk_call) _ _ _ _ tt (looks_call _ (Err c.in_err-read.field-0.0) _ _ tt c.in_err-read.ensures.does))

pub returns-clause-looks : goal.returns-clause-looks
returns-clause-looks g c =
    let long : length c.deref_mut.result.now ≡ c.args.count = omega (arith, c.deref_mut.ensures.len, c.in_ok-resize.ensures.len) in
    looks_weaker went_well (λ (t : Told) (made : List DiskCall). made ≡ ReadAt c.args.file.no c.args.place (length c.deref_mut.result.now) ∷ []) _ _ _
    (λ t made is. part_read c.args.file.no c.args.place c.args.count made (is ∙ ap (λ (n : ℕ). ReadAt c.args.file.no c.args.place n ∷ []) long))
    (looks_call (ReadAt c.args.file.no c.args.place (length c.deref_mut.result.now)) (Ok c.in_ok-read.read) _ _ tt c.in_ok-read.ensures.does)
