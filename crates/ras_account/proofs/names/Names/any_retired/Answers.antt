use Rattle.std.proofs.Common.{sym, ap, ◌∙◌}
use Rattle.std.specs.Map.{keys_of}
use Rattle.ras_account.specs.History.{is_retired}
use Rattle.ras_account.specs.Steps.Parts.{NameList}
use Rattle.ras_account.specs.Rows.{has_retired}
use Rattle.ras_account.proofs.StateLemmas.{any-at, none-more}
use Rattle.ras_account.proofs.names.Names.any_retired.Goals as goal

pub loop-place-preserved : goal.loop-place-preserved
loop-place-preserved c =
    none-more (is_retired c.args.floor) (keys_of c.self.inside.table.rows) c.loop-place.place c.key.result.now c.key.ensures c.loop-place.invariant
    (sym c.is_retired.ensures ∙ c.if-is_retired.false)

pub returns-then-is_retired : goal.returns-then-is_retired
returns-then-is_retired c =
    sym (ap (λ (v : NameList). has_retired c.args.floor v.held) (sym c.self.view_is)
    ∙ any-at (is_retired c.args.floor) (keys_of c.self.inside.table.rows) c.loop-place.place c.key.result.now c.key.ensures
    (sym c.is_retired.ensures ∙ c.if-is_retired.true))
