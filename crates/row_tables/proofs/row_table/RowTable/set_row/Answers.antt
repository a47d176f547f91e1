use Rattle.std.proofs.Common.{◌≡◌, ◌<◌, ◌∙◌, ap, length, arith}
use Rattle.std.proofs.lemmas.List.{length-take-le}
use Rattle.indexmap.specs.IndexMap.{set_value_at}
use Rattle.row_tables.specs.Held.{Held}
use Rattle.row_tables.proofs.HeldLemmas.{viewed, viewed-set, length-set_value_at}
use Rattle.row_tables.proofs.row_table.RowTable.set_row.Given.{Over}
use Rattle.row_tables.proofs.row_table.RowTable.set_row.Goals as goal

pub invariant_of-self : goal.invariant_of-self
invariant_of-self g c = omega (arith, c.self.invariant, length-set_value_at c.self.inside.table.entries c.args.place c.args.row)

set : (g : Over) (c : goal.After-self-1 g)
    → viewed c.self.inside.held (set_value_at c.self.inside.table.entries c.args.place c.args.row)
    ≡ record { rows = set_value_at c.args.self.now.rows c.args.place c.args.row; waiting = c.args.self.now.waiting }
set g c =
    let below : c.args.place < c.self.inside.held =
    omega (arith, c.requires, length-take-le c.self.inside.held c.self.inside.table.entries c.self.invariant, ap (λ (v : Held g.row.K.Denot g.row.R.Denot). length v.rows) c.self.view_is) in
    viewed-set c.args.row c.self.inside.held c.self.inside.table.entries c.args.place below
    ∙ ap (λ (v : Held g.row.K.Denot g.row.R.Denot). record { rows = set_value_at v.rows c.args.place c.args.row; waiting = v.waiting }) c.self.view_is

pub returns-clause-rows : goal.returns-clause-rows
returns-clause-rows g c = ap (λ (v : Held g.row.K.Denot g.row.R.Denot). v.rows) (set g c)

pub returns-clause-waiting : goal.returns-clause-waiting
returns-clause-waiting g c = ap (λ (v : Held g.row.K.Denot g.row.R.Denot). v.waiting) (set g c)
