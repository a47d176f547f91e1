use Rattle.std.proofs.Common.{◌∙◌, sym, ap}
use Rattle.std.specs.List.{list_any}
use Rattle.std.specs.Map.{keys_of}
use Rattle.dimm_topology.specs.Labels.{same_label}
use Rattle.ras_account.specs.Steps.Parts.{ModuleList}
use Rattle.ras_account.proofs.ModuleRowLemmas.{keys-entry_of}
use Rattle.ras_account.proofs.modules.Modules.holds.Goals as goal

pub returns : goal.returns
returns c =
    c.holds.ensures ∙ ap (list_any (same_label c.args.label.now)) (sym (keys-entry_of c.self.inside.table.rows))
    ∙ ap (λ (v : ModuleList). list_any (same_label c.args.label.now) (keys_of v.rows)) c.self.view_is
