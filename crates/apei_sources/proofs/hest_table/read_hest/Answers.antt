-- The table is refused, or its sources are.
use Rattle.std.proofs.Common.{◌≡◌, ◌∙◌, ◌-◌, List, ℕ, [], take, drop, length}
use Rattle.std.proofs.lemmas.Result.{err_from_is_err_and}
use Rattle.std.proofs.lemmas.List.{take_rest}
use Rattle.apei_sources.specs.Hest.{hest_of, sources_in}
use Rattle.apei_sources.proofs.HestLemmas.{fails, fails_so, answers, hest_refused, hest_walked}
use Rattle.apei_sources.proofs.hest_table.read_hest.Goals as goal

pub returns-in_err-table-clause-answer : goal.returns-in_err-table-clause-answer
returns-in_err-table-clause-answer c =
    let p = err_from_is_err_and c.from_residual.result c.from_residual.ensures.1 in
    let why = c.in_err-table.field-0.0 in
    rw (p.1, p.2) (answers why _ (fails why _ (hest_refused c.args.bytes.now why c.in_err-table.ensures.answer)))

pub returns-in_err-sources-clause-answer : goal.returns-in_err-sources-clause-answer
returns-in_err-sources-clause-answer c =
    let p = err_from_is_err_and c.from_residual-in_err-sources.result c.from_residual-in_err-sources.ensures.1 in
    let why = c.in_err-sources.field-0.0 in
    let table : List ℕ = c.in_ok-table.table.now in
    let rest : List ℕ = take (length table - 40) (drop 40 table) in
    let walked : hest_of c.args.bytes.now ≡ sources_in c.u32_at.result [] rest =
    hest_walked c.args.bytes.now table rest c.u32_at.result c.in_ok-table.ensures.answer c.u32_at.ensures
    (take_rest table 40) in
    rw (p.1, p.2) (answers why _ (fails_so why _ _ (λ is. walked ∙ is) c.in_err-sources.ensures.answer))

pub returns-clause-answer : goal.returns-clause-answer
returns-clause-answer c =
    let table : List ℕ = c.in_ok-table.table.now in
    hest_walked c.args.bytes.now table
    (take (length table - 40) (drop 40 table)) c.u32_at.result c.in_ok-table.ensures.answer c.u32_at.ensures
    (take_rest table 40)
    ∙ c.in_ok-sources.ensures.answer
