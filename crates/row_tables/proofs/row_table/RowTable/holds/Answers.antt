use Rattle.std.proofs.Common.{◌∙◌, ap}
use Rattle.row_tables.specs.Held.{Held, is_held}
use Rattle.row_tables.proofs.HeldLemmas.{held-Some, held-None}
use Rattle.row_tables.proofs.row_table.RowTable.holds.Goals as goal

pub returns-in-Some : goal.returns-in-Some
returns-in-Some g c =
    held-Some g.K.PartialEq.eq g.met.K.ExactEq.exact c.args.key.now c.self.inside.held c.self.inside.table.entries c.in-Some.place c.self.invariant c.in-Some.ensures.index
    ∙ ap (λ (v : Held g.row.K.Denot g.row.R.Denot). is_held g.K.PartialEq.eq v.rows c.args.key.now) c.self.view_is

pub returns-in-None : goal.returns-in-None
returns-in-None g c =
    held-None g.K.PartialEq.eq g.met.K.ExactEq.exact c.args.key.now c.self.inside.held c.self.inside.table.entries c.self.invariant c.in-None.ensures.index
    ∙ ap (λ (v : Held g.row.K.Denot g.row.R.Denot). is_held g.K.PartialEq.eq v.rows c.args.key.now) c.self.view_is
