use Rattle.std.proofs.Common.{◌≡◌, ◌<◌, ◌+◌, ◌++◌, add-one, ◌∙◌, ap, length, take, drop, arith, length-drop}
use Rattle.std.specs.Map.{keys_of}
use Rattle.row_tables.specs.Held.{Held, waiting_rows}
use Rattle.indexmap.specs.IndexMap.{set_value_at}
use Rattle.row_tables.proofs.HeldLemmas.{viewed, viewed-next, length-keys, length-set_value_at}
use Rattle.row_tables.proofs.row_table.RowTable.begin_next.Given.{Over}
use Rattle.row_tables.proofs.row_table.RowTable.begin_next.Goals as goal

within : (g : Over) (c : goal.After-self-2-1 g) → c.self.inside.held < length c.self.inside.table.entries
within g c =
    omega (
      arith,
      c.requires,
      ap (λ (v : Held g.row.K.Denot g.row.R.Denot). length v.waiting) c.self.view_is,
      length-drop c.self.inside.held (keys_of c.self.inside.table.entries),
      length-keys c.self.inside.table.entries,
    )

pub invariant_of-self : goal.invariant_of-self
invariant_of-self g c = omega (arith, within g c, length-set_value_at c.self.inside.table.entries c.self.inside.held c.args.row)

next : (g : Over) (c : goal.After-self-2-1 g)
    → viewed (c.self.inside.held + 1) (set_value_at c.self.inside.table.entries c.self.inside.held c.args.row)
    ≡ record { rows = c.args.self.now.rows ++ waiting_rows c.args.row (take 1 c.args.self.now.waiting); waiting = drop 1 c.args.self.now.waiting }
next g c =
    ap (λ n. viewed n (set_value_at c.self.inside.table.entries c.self.inside.held c.args.row)) (add-one c.self.inside.held)
    ∙ viewed-next c.args.row c.self.inside.held c.self.inside.table.entries (within g c)
    ∙ ap (λ (v : Held g.row.K.Denot g.row.R.Denot). record { rows = v.rows ++ waiting_rows c.args.row (take 1 v.waiting); waiting = drop 1 v.waiting }) c.self.view_is

pub returns-clause-rows : goal.returns-clause-rows
returns-clause-rows g c = ap (λ (v : Held g.row.K.Denot g.row.R.Denot). v.rows) (next g c)

pub returns-clause-waiting : goal.returns-clause-waiting
returns-clause-waiting g c = ap (λ (v : Held g.row.K.Denot g.row.R.Denot). v.waiting) (next g c)
