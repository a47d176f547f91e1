use Rattle.std.proofs.Common.{[], ◌∷◌}
use Rattle.std.proofs.lemmas.Result.{err_from_is_err_and}
use Rattle.board_core.specs.Cause.{disk_call}
use Rattle.board_core.specs.Doing.{broke, one_end, through}
use Rattle.board_core.proofs.DoingLemmas.{does_first, does_then, made_one}
use Rattle.ras_recover.specs.Formatting.{closing_acts}
use Rattle.ras_recover.proofs.formatting.format_file.Goals as goal

pub returns-in_err-close_gate : goal.returns-in_err-close_gate
returns-in_err-close_gate g c =
    let see = g.B.Board.seen in
    let p = err_from_is_err_and c.from_residual.result c.from_residual.ensures.1 in
    record {
      does = rw p.1 (does_first see (closing_acts c.args.file c.args.shut) (through c.args.file 1 c.args.bytes.now ∷ through c.args.file 0 (165 ∷ []) ∷ []) (broke disk_call) _ _ tt c.in_err-close_gate.ensures.does);
    }

pub returns-in_err-write_through : goal.returns-in_err-write_through
returns-in_err-write_through g c =
    let see = g.B.Board.seen in
    let p = err_from_is_err_and c.from_residual-in_err-write_through.result c.from_residual-in_err-write_through.ensures.1 in
    record {
      does = rw p.1 (does_then see (closing_acts c.args.file c.args.shut) (through c.args.file 1 c.args.bytes.now ∷ through c.args.file 0 (165 ∷ []) ∷ []) (broke disk_call) _ _ _ c.in_ok-close_gate.ensures.does tt
          (does_first see (through c.args.file 1 c.args.bytes.now ∷ []) (through c.args.file 0 (165 ∷ []) ∷ []) (broke disk_call) _ _ tt c.in_err-write_through.ensures.does));
    }

pub returns : goal.returns
returns g c =
    let see = g.B.Board.seen in
    let end = one_end disk_call c.write_through-2.result in
    record {
      does = does_then see (closing_acts c.args.file c.args.shut) (through c.args.file 1 c.args.bytes.now ∷ through c.args.file 0 (165 ∷ []) ∷ []) end _ _ _ c.in_ok-close_gate.ensures.does (made_one disk_call c.write_through-2.result)
          (does_then see (through c.args.file 1 c.args.bytes.now ∷ []) (through c.args.file 0 (165 ∷ []) ∷ []) end _ _ _ c.in_ok-write_through.ensures.does (made_one disk_call c.write_through-2.result) c.write_through-2.ensures.does);
    }
