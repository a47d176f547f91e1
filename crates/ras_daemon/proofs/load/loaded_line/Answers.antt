use Rattle.std.proofs.Common.{◌≡◌, ◌∙◌, ap, [], subst, IfOk}
use Rattle.board_core.specs.MemBoard.{new_board, told_of}
use Rattle.ras_account.specs.Account.{State}
use Rattle.ras_load.specs.LoadScript.{load_script}
use Rattle.ras_load.specs.Summary.{load_line}
use Rattle.ras_daemon.specs.Loading.{load_account, nothing_there}
use Rattle.ras_daemon.proofs.LoadLemmas.{load_found}
use Rattle.ras_daemon.proofs.RunLemmas.{run_ends}
use Rattle.ras_daemon.proofs.load.loaded_line.Goals as goal

pub returns-in-Ok : goal.returns-in-Ok
returns-in-Ok c =
    let script : c.new-source.result.left ≡ load_script c.args.n = ap (λ source. source.left) c.new-source.ensures ∙ c.in_ok-script.ensures in
    let empty : (told_of c.in_ok-board.board).here ≡ nothing_there =
    ap (λ board. (told_of board).here) c.in_ok-board.ensures ∙ ap (λ store. (told_of (new_board [] [] store 0)).here) c.new-2.ensures in
    let slow : (told_of c.in_ok-board.board).volatile.slow ≡ 0 = ap (λ board. (told_of board).volatile.slow) c.in_ok-board.ensures in
    let account : c.in-Ok.recovered.account.state ≡ load_account c.args.n =
    load_found c.args.n c.new-source.result.left c.run.result (told_of c.in_ok-board.board) (told_of c.run.new.board) c.in-Ok.recovered.account.state script empty slow c.in-Done.is
    (λ account recovers. run_ends _ account c.new-source.result.left c.run.result (told_of c.in_ok-board.board) _ _ recovers (c.run.ensures.comes account recovers).does) c.in-Ok.ensures.recovers in
    subst (λ (state : State). IfOk c.load_line.result (λ line. line.items ≡ load_line c.args.n state)) account c.load_line.ensures
