use Rattle.std.proofs.Common.{◌≡◌, ◌-◌, ◌∙◌, ap, filter, arith}
use Rattle.row_tables.specs.Held.{Held}
use Rattle.row_tables.proofs.HeldLemmas.{viewed, viewed-kept, kept-length}
use Rattle.row_tables.proofs.row_table.RowTable.retain.Given.{Over}
use Rattle.row_tables.proofs.row_table.RowTable.retain.Goals as goal

pub overflow_sub-self : goal.overflow_sub-self
overflow_sub-self g c =
    omega (
      arith,
      c.len.ensures.len,
      c.len-2.ensures.len,
      kept-length (g.T.KeyTest.passes c.args.test.now) c.self.inside.held c.self.inside.table.entries c.keep_passing.new.table.entries c.self.invariant c.keep_passing.ensures,
    )

kept : (g : Over) (c : goal.After-self-1 g)
    → viewed (c.len-2.result - (c.len.result - c.self.inside.held)) c.keep_passing.new.table.entries
    ≡ record { rows = filter {X = g.row.K.Denot × g.row.R.Denot} (λ e. g.T.KeyTest.passes c.args.test.now e.0) c.args.self.now.rows; waiting = c.args.self.now.waiting }
kept g c =
    viewed-kept (g.T.KeyTest.passes c.args.test.now) c.self.inside.held c.self.inside.table.entries c.keep_passing.new.table.entries
    (c.len-2.result - (c.len.result - c.self.inside.held)) c.self.invariant c.keep_passing.ensures
    (λ i. c.len-2.ensures.len i - (c.len.ensures.len i - c.self.inside.held))
    ∙ ap (λ (v : Held g.row.K.Denot g.row.R.Denot). record { rows = filter {X = g.row.K.Denot × g.row.R.Denot} (λ e. g.T.KeyTest.passes c.args.test.now e.0) v.rows; waiting = v.waiting }) c.self.view_is

pub returns-clause-rows : goal.returns-clause-rows
returns-clause-rows g c = ap (λ (v : Held g.row.K.Denot g.row.R.Denot). v.rows) (kept g c)

pub returns-clause-waiting : goal.returns-clause-waiting
returns-clause-waiting g c = ap (λ (v : Held g.row.K.Denot g.row.R.Denot). v.waiting) (kept g c)
