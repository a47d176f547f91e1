use Rattle.std.proofs.Common.{◌≡◌, ◌∙◌, sym, ap, subst, length, map, add-one, slice_get, arith}
use Rattle.std.specs.Map.{values_of}
use Rattle.dimm_topology.specs.Labels.{Bytes}
use Rattle.indexmap.specs.IndexMap.{set_value_at}
use Rattle.ras_account.specs.Modules.{Module}
use Rattle.ras_account.specs.Continued.{without_bucket}
use Rattle.ras_account.specs.Steps.Parts.{ModuleList, entry_of, AreModules}
use Rattle.ras_account.proofs.ModuleRowLemmas.{mark_first, mark-step, length-mark_first, are-marked, all-marked}
use Rattle.ras_account.proofs.modules.Modules.mark.Goals as goal

pub invariant_of-self : goal.invariant_of-self
invariant_of-self c = subst AreModules (sym c.loop-place.invariant.rows) (are-marked c.loop-place.place c.self.inside.table.rows c.self.invariant)

pub row-requires : goal.row-requires
row-requires c = omega (arith, ap length c.loop-place.invariant.rows, length-mark_first c.loop-place.place c.self.inside.table.rows, c.len-place-end.ensures, c.loop-place-test.true)

pub set_row-requires : goal.set_row-requires
set_row-requires c = omega (arith, ap length c.loop-place.invariant.rows, length-mark_first c.loop-place.place c.self.inside.table.rows, c.len-place-end.ensures, c.loop-place-test.true)

pub loop-place-preserved : goal.loop-place-preserved
loop-place-preserved c = record {
  rows =
      c.set_row.ensures.rows ∙ (λ i. set_value_at (c.loop-place.invariant.rows i) c.loop-place.place (c.without_bucket-row.ensures i))
      ∙ mark-step c.loop-place.place c.self.inside.table.rows c.row.result.now
      (ap (λ rows. slice_get (values_of rows) c.loop-place.place) (sym c.loop-place.invariant.rows) ∙ c.row.ensures)
      ∙ ap (λ n. mark_first n c.self.inside.table.rows) (sym (add-one c.loop-place.place));
  waiting = c.set_row.ensures.waiting ∙ c.loop-place.invariant.waiting;
}

pub returns-clause-rows : goal.returns-clause-rows
returns-clause-rows c =
    let done : c.loop-place.place ≡ length c.self.inside.table.rows = omega (arith, c.len-place-end.ensures, c.loop-place-test.false, c.loop-place.auto.place-end) in
    ap (map entry_of) (c.loop-place.invariant.rows ∙ ap (λ n. mark_first n c.self.inside.table.rows) done)
    ∙ all-marked c.self.inside.table.rows
    ∙ ap (λ (v : ModuleList). map {B = Bytes × Module} (λ row. (row.0, without_bucket row.1)) v.rows) c.self.view_is
