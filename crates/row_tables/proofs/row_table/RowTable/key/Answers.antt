use Rattle.std.proofs.Common.{◌<◌, ◌∙◌, sym, ap, length, slice_get, arith}
use Rattle.std.proofs.lemmas.List.{length-take-le}
use Rattle.std.proofs.lemmas.Option.{slice_get_read}
use Rattle.std.specs.Map.{keys_of}
use Rattle.row_tables.specs.Held.{Held}
use Rattle.row_tables.proofs.HeldLemmas.{keys-take, length-keys}
use Rattle.row_tables.proofs.row_table.RowTable.key.Goals as goal

pub returns : goal.returns
returns g c =
    let below : c.args.place < c.self.inside.held =
    omega (arith, c.requires, length-take-le c.self.inside.held c.self.inside.table.entries c.self.invariant, ap (λ (v : Held g.row.K.Denot g.row.R.Denot). length v.rows) c.self.view_is) in
    ap (λ (v : Held g.row.K.Denot g.row.R.Denot). slice_get (keys_of v.rows) c.args.place) (sym c.self.view_is)
    ∙ keys-take c.self.inside.held c.args.place c.self.inside.table.entries below
    ∙ ap (λ ks. slice_get ks c.args.place) (sym (c.as_slice.ensures ∙ c.keys.ensures.rest))
    ∙ slice_get_read c.as_slice.result.now (length c.self.inside.table.entries) c.args.place c.index-as_slice-place.result
    (sym (length-keys c.self.inside.table.entries) ∙ ap length (sym (c.as_slice.ensures ∙ c.keys.ensures.rest)))
    (omega (arith, below, c.self.invariant)) c.index-as_slice-place.is
