use Rattle.std.proofs.Common.{ℕ, Vec, Global}
use Rattle.std.specs.Prelude.{Err}
use Rattle.std.proofs.lemmas.Result.{err_from_is_err_and}
use Rattle.erst_driver.proofs.ClauseLemmas.{lists_records}
use Rattle.erst_driver.proofs.ListLemmas.{all_few, all_ids, lists_refused, lists_then}
use Rattle.erst_driver.proofs.driver.Driver.ids.Goals as goal

pub returns : goal.returns
returns g c =
    let see = g.B.Board.seen in
    let lists = c.args.self.now in
    let has = c.in_ok-list_to_end.ensures.device in
    let a = c.args.board.now in
    let b = c.collect.new.board in
    let all = lists_then lists (see a) (see c.list_to_end.new.board) (see b) c.in_ok-list_to_end.ensures.lists (λ (v : Vec ℕ Global). v.items) c.collect.result c.collect.ensures.collects in
    record {
      lists = lists_records see lists a b (λ (v : Vec ℕ Global). v.items) c.collect.result all has;
      ids = all_ids (λ (v : Vec ℕ Global). v.items) lists (see a) (see b) c.collect.result has all;
      few = all_few (λ (v : Vec ℕ Global). v.items) lists (see a) (see b) c.collect.result all;
    }

pub returns-in_err-list_to_end : goal.returns-in_err-list_to_end
returns-in_err-list_to_end g c =
    let see = g.B.Board.seen in
    let lists = c.args.self.now in
    let why = c.in_err-list_to_end.field-0.0 in
    let has = c.in_err-list_to_end.ensures.device in
    let a = c.args.board.now in
    let b = c.list_to_end.new.board in
    let all = lists_refused (λ (v : Vec ℕ Global). v.items) lists (see a) (see b) why c.in_err-list_to_end.ensures.lists in
    let p = err_from_is_err_and c.from_residual.result c.from_residual.ensures.1 in
    rw (p.1, p.2) (record {
      lists = lists_records see lists a b (λ (v : Vec ℕ Global). v.items) (Err why) all has;
      ids = tt;
      few = tt;
    })
