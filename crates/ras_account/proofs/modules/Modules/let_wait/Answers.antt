use Rattle.std.proofs.Common.{◌++◌, [], ◌∷◌, ◌∙◌, sym, ap}
use Rattle.dimm_topology.specs.Labels.{same_label}
use Rattle.row_tables.specs.Tables.{added_keys}
use Rattle.ras_account.specs.Steps.Parts.{ModuleList, all_labels}
use Rattle.ras_account.proofs.ModuleRowLemmas.{keys-entry_of}
use Rattle.ras_account.proofs.modules.Modules.let_wait.Goals as goal

pub returns-clause-ok : goal.returns-clause-ok
returns-clause-ok c =
    c.in_ok-let_wait.ensures.ok
    ∙ (λ i. c.self.inside.table.waiting ++ added_keys same_label (sym (keys-entry_of c.self.inside.table.rows) i ++ c.self.inside.table.waiting) (c.args.label.now ∷ []))
    ∙ ap (λ (v : ModuleList). v.waiting ++ added_keys same_label (all_labels v) (c.args.label.now ∷ [])) c.self.view_is
