use Rattle.std.proofs.Common.{◌++◌, [], ◌∷◌, ◌∙◌}
use Rattle.std.specs.Map.{keys_of}
use Rattle.row_tables.specs.Tables.{added_keys}
use Rattle.row_tables.proofs.HeldLemmas.{waiting-more}
use Rattle.row_tables.proofs.row_table.RowTable.reserve.Goals as goal

pub loop-key-preserved : goal.loop-key-preserved
loop-key-preserved g c = record {
  rows = c.in_default.ensures.rows ∙ c.loop-key.invariant.rows;
  waiting =
      c.in_default.ensures.ok
      ∙ (λ i. c.loop-key.invariant.waiting i ++ added_keys g.K.PartialEq.eq (keys_of (c.loop-key.invariant.rows i) ++ c.loop-key.invariant.waiting i) (c.key-item.is i ∷ []))
      ∙ waiting-more g.K.PartialEq.eq g.met.K.ExactEq.exact g.met.K.Eq.laws.refl (keys_of c.give_up.new.self.rows) c.args.keys.now c.loop-key.key-index c.key-item.result c.loop-key-test.true;
}
