use Rattle.std.proofs.Common.{◌≡◌, ◌∙◌, ◌+◌, ◌-◌, ◌^◌, ℕ, List, min, length, false, ap, subst, arith}
use Rattle.std.proofs.lemmas.Result.{err_from_is_err_and}
use Rattle.board_core.specs.Cause.{disk_call}
use Rattle.board_core.specs.Doing.{Does, broke, went_well}
use Rattle.entry_format.specs.declared.version.Version.TheVariants.{Two}
use Rattle.board_core.specs.declared.board.FileNo.TheVariants.{Zero}
use Rattle.journal_format.specs.Checkpoints.{checkpoint_bytes}
use Rattle.ras_recover.specs.Formatting.{formatting_acts}
use Rattle.ras_recover.proofs.opening.format_first.Goals as goal

pub returns-in_err-format_file-clause-does : goal.returns-in_err-format_file-clause-does
returns-in_err-format_file-clause-does g c =
    let p = err_from_is_err_and c.from_residual-in_err-format_file.result c.from_residual-in_err-format_file.ensures.1 in
    rw (p.1, p.2) (subst (λ (bytes : List ℕ). Does g.B.Board.seen (formatting_acts Zero c.args.shut.0 bytes) (broke disk_call) c.args.board.now c.format_file.new.board)
    (c.deref.ensures.value ∙ c.in_ok-bytes.ensures.is) c.in_err-format_file.ensures.does)

pub returns-clause-does : goal.returns-clause-does
returns-clause-does g c =
    subst (λ (bytes : List ℕ). Does g.B.Board.seen (formatting_acts Zero c.args.shut.0 bytes) went_well c.args.board.now c.format_file.new.board)
    (c.deref.ensures.value ∙ c.in_ok-bytes.ensures.is) c.in_ok-format_file.ensures.does

pub returns-clause-journal : goal.returns-clause-journal
returns-clause-journal g c =
    let account = c.args.account.now.state in
    let long : c.saturating_add.result ≡ min (2 ^ 64 - 1) (25 + min (2 ^ 64 - 1) (length (checkpoint_bytes Two account))) = omega (arith, c.saturating_add.ensures, c.in_ok-bytes.ensures.count) in
    c.at.ensures
    ∙ ap (λ (n : ℕ). record { standing = record { file = Zero; version = Two; generation = 1; length = n; links = 0; shut = c.args.shut.1 }; failed = false }) long
