use Rattle.std.proofs.Common.{◌≡◌, ◌∙◌, sym, ap}
use Rattle.std.specs.List.{list_any}
use Rattle.std.specs.Map.{keys_of}
use Rattle.dimm_topology.specs.Labels.{same_label}
use Rattle.ras_account.specs.Steps.Parts.{ModuleList}
use Rattle.ras_account.proofs.ModuleRowLemmas.{keys-entry_of, after-push}
use Rattle.ras_account.proofs.modules.Modules.push.Goals as goal

pub invariant_of-self : goal.invariant_of-self
invariant_of-self c =
    after-push c.self.inside.table.rows c.args.row c.push_row.new.self.rows c.push_row.result c.requires.counting c.self.invariant c.push_row.ensures.ok c.push_row.ensures.err

same : (c : goal.After-push_row) → list_any (same_label c.args.row.label) (keys_of c.self.inside.table.rows) ≡ list_any (same_label c.args.row.label) (keys_of c.args.self.now.rows)
same c =
    ap (list_any (same_label c.args.row.label)) (sym (keys-entry_of c.self.inside.table.rows))
    ∙ ap (λ (v : ModuleList). list_any (same_label c.args.row.label) (keys_of v.rows)) c.self.view_is

pub returns-clause-repeated : goal.returns-clause-repeated
returns-clause-repeated c = (λ is. sym (same c) ∙ c.push_row.ensures.repeated.0 is, λ held. c.push_row.ensures.repeated.1 (same c ∙ held))
