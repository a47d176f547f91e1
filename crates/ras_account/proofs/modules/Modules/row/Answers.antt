use Rattle.std.proofs.Common.{◌∙◌, sym, ap, slice_get}
use Rattle.ras_account.specs.Steps.Parts.{ModuleList}
use Rattle.ras_account.proofs.ModuleRowLemmas.{row-at}
use Rattle.ras_account.proofs.modules.Modules.row.Goals as goal

pub returns : goal.returns
returns c =
    ap (λ (v : ModuleList). slice_get v.rows c.args.i) (sym c.self.view_is)
    ∙ row-at c.self.inside.table.rows c.args.i c.row.result.now c.row.ensures c.self.invariant
