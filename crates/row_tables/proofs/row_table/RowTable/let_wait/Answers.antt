use Rattle.std.proofs.Common.{◌≡◌, ◌++◌, [], ◌∷◌, not, ◌∙◌, sym, ap, subst, drop, List, IfOk}
use Rattle.std.specs.List.{list_any}
use Rattle.std.specs.Map.{keys_of}
use Rattle.indexmap.proofs.MapLemmas.{OnOk-map}
use Rattle.row_tables.specs.Tables.{added_keys}
use Rattle.row_tables.specs.Held.{Held, all_keys}
use Rattle.row_tables.proofs.HeldLemmas.{viewed-append, all_keys-viewed, keys_of-waiting}
use Rattle.row_tables.proofs.row_table.RowTable.let_wait.Given.{Over}
use Rattle.row_tables.proofs.row_table.RowTable.let_wait.Goals as goal

keys : (g : Over) (c : goal.After-insert_last g) → keys_of c.self.inside.table.entries ≡ all_keys c.args.self.now
keys g c = sym (all_keys-viewed c.self.inside.held c.self.inside.table.entries) ∙ ap (λ (v : Held g.row.K.Denot g.row.R.Denot). all_keys v) c.self.view_is

pub returns-clause-ok : goal.returns-clause-ok
returns-clause-ok g c =
    OnOk-map c.insert_last.result _ _ (λ inserted.
    ap (λ (fs : List (g.row.K.Denot × g.row.R.Denot)). drop c.self.inside.held (keys_of fs)) inserted
    ∙ ap (λ (v : Held g.row.K.Denot g.row.R.Denot). v.waiting) (viewed-append c.self.inside.held c.self.inside.table.entries _ c.self.invariant)
    ∙ ap (λ js. drop c.self.inside.held (keys_of c.self.inside.table.entries) ++ js) (keys_of-waiting c.args.row _)
    ∙ (λ i. (c.self.view_is i).waiting ++ added_keys g.K.PartialEq.eq (keys g c i) (c.args.key ∷ [])))
    c.insert_last.ensures.ok

pub returns-clause-fresh : goal.returns-clause-fresh
returns-clause-fresh g c =
    subst (λ ks. IfOk c.insert_last.result (λ fresh. fresh ≡ not (list_any (g.K.PartialEq.eq c.args.key) ks))) (keys g c) c.insert_last.ensures.fresh
