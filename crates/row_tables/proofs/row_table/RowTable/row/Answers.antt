use Rattle.std.proofs.Common.{◌<◌, ◌∙◌, sym, ap, length, slice_get, arith}
use Rattle.std.proofs.lemmas.List.{length-take-le}
use Rattle.std.specs.Map.{values_of}
use Rattle.row_tables.specs.Held.{Held}
use Rattle.row_tables.proofs.HeldLemmas.{values-take}
use Rattle.row_tables.proofs.row_table.RowTable.row.Goals as goal

pub returns : goal.returns
returns g c =
    let below : c.args.place < c.self.inside.held =
    omega (arith, c.requires, length-take-le c.self.inside.held c.self.inside.table.entries c.self.invariant, ap (λ (v : Held g.row.K.Denot g.row.R.Denot). length v.rows) c.self.view_is) in
    ap (λ (v : Held g.row.K.Denot g.row.R.Denot). slice_get (values_of v.rows) c.args.place) (sym c.self.view_is)
    ∙ values-take c.self.inside.held c.args.place c.self.inside.table.entries below ∙ c.index.ensures
