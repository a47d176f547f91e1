use Rattle.std.proofs.Common.{◌≤◌, ◌<◌, ◌∙◌, sym, ap, subst, length, arith}
use Rattle.std.proofs.lemmas.List.{length-take-le}
use Rattle.row_tables.specs.Held.{Held, IsPlace, all_keys, with_row}
use Rattle.row_tables.proofs.HeldLemmas.{all_keys-viewed, length-keys, length-set_value_at, viewed-put}
use Rattle.row_tables.proofs.row_table.RowTable.put.Given.{Over}
use Rattle.row_tables.proofs.row_table.RowTable.put.Goals as goal

within : (g : Over) (c : goal.After-self-1 g) → c.args.place < length c.self.inside.table.entries
within g c =
    omega (
      arith,
      c.requires.there,
      length-keys c.self.inside.table.entries,
      ap length (all_keys-viewed c.self.inside.held c.self.inside.table.entries),
      ap (λ (v : Held g.row.K.Denot g.row.R.Denot). length (all_keys v)) c.self.view_is,
    )

pub overflow_add-place : goal.overflow_add-place
overflow_add-place g c = omega (arith, within g c, c.len-len.ensures.len, c.len-len.ensures.small)

pub invariant_of-self : goal.invariant_of-self
invariant_of-self g c =
    omega (
      arith,
      c.max-self-inside.ensures,
      length-set_value_at c.self.inside.table.entries c.args.place c.args.row,
      c.self.invariant,
      c.requires.there,
      length-keys c.self.inside.table.entries,
      ap length (all_keys-viewed c.self.inside.held c.self.inside.table.entries),
      ap (λ (v : Held g.row.K.Denot g.row.R.Denot). length (all_keys v)) c.self.view_is,
    )

pub returns : goal.returns
returns g c = λ key at.
    let next : c.args.place ≤ c.self.inside.held =
    omega (arith, c.requires.next, length-take-le c.self.inside.held c.self.inside.table.entries c.self.invariant, ap (λ (v : Held g.row.K.Denot g.row.R.Denot). length v.rows) c.self.view_is) in
    viewed-put g.K.PartialEq.eq g.met.K.ExactEq.exact key c.args.row c.self.inside.held c.self.inside.table.entries c.args.place c.max-self-inside.result c.max-self-inside.ensures
    (subst (λ ks. IsPlace g.K.PartialEq.eq key ks c.args.place)
    (ap (λ (v : Held g.row.K.Denot g.row.R.Denot). all_keys v) (sym c.self.view_is) ∙ all_keys-viewed c.self.inside.held c.self.inside.table.entries) at) next
    ∙ ap (λ (v : Held g.row.K.Denot g.row.R.Denot). with_row g.K.PartialEq.eq v key c.args.row) c.self.view_is
