use Rattle.std.proofs.Common.{◌≡◌, ◌≤◌, true, ◌∙◌, sym, ap, subst, length, arith}
use Rattle.std.proofs.lemmas.List.{length-take-le}
use Rattle.std.specs.Map.{lookup}
use Rattle.row_tables.specs.Held.{Held, IsPlace, all_keys, is_ready}
use Rattle.row_tables.proofs.HeldLemmas.{all_keys-viewed, length-keys, ready-there, ready-place}
use Rattle.row_tables.proofs.row_table.RowTable.find.Goals as goal

pub place_of-place-requires : goal.place_of-place-requires
place_of-place-requires g c =
    ready-there g.K.PartialEq.eq g.met.K.ExactEq.exact c.args.key.now c.self.inside.held c.self.inside.table.entries
    (subst (λ (v : Held g.row.K.Denot g.row.R.Denot). is_ready g.K.PartialEq.eq v c.args.key.now ≡ true) (sym c.self.view_is) c.requires)

pub returns-clause-place : goal.returns-clause-place
returns-clause-place g c =
    subst (λ ks. IsPlace g.K.PartialEq.eq c.args.key.now ks c.place_of-place.result)
    (sym (all_keys-viewed c.self.inside.held c.self.inside.table.entries) ∙ ap (λ (v : Held g.row.K.Denot g.row.R.Denot). all_keys v) c.self.view_is)
    c.place_of-place.ensures.place

pub returns-clause-there : goal.returns-clause-there
returns-clause-there g c =
    omega (
      arith,
      c.place_of-place.ensures.within,
      length-keys c.self.inside.table.entries,
      ap length (all_keys-viewed c.self.inside.held c.self.inside.table.entries),
      ap (λ (v : Held g.row.K.Denot g.row.R.Denot). length (all_keys v)) c.self.view_is,
    )

pub returns-clause-next : goal.returns-clause-next
returns-clause-next g c =
    let within : c.place_of-place.result ≤ c.self.inside.held =
    ready-place g.K.PartialEq.eq g.met.K.ExactEq.exact c.args.key.now c.self.inside.held c.self.inside.table.entries c.place_of-place.result
    (subst (λ (v : Held g.row.K.Denot g.row.R.Denot). is_ready g.K.PartialEq.eq v c.args.key.now ≡ true) (sym c.self.view_is) c.requires) c.place_of-place.ensures.place in
    omega (arith, within, length-take-le c.self.inside.held c.self.inside.table.entries c.self.invariant, ap (λ (v : Held g.row.K.Denot g.row.R.Denot). length v.rows) c.self.view_is)

pub returns-clause-row : goal.returns-clause-row
returns-clause-row g c =
    c.row_at.ensures c.args.key.now c.place_of-place.ensures.place ∙ ap (λ (v : Held g.row.K.Denot g.row.R.Denot). lookup (g.K.PartialEq.eq c.args.key.now) v.rows) c.self.view_is
