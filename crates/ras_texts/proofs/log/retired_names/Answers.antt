use Rattle.std.proofs.Common.{◌≡◌, ◌∙◌, [], ◌∷◌, sym, refl, arith}
use Rattle.std.specs.Prelude.{count_by}
use Rattle.ras_account.specs.History.{is_retired}
use Rattle.ras_texts.proofs.TextLemmas.{count_more}
use Rattle.ras_texts.proofs.log.retired_names.Goals.{then-is_retired, else-is_retired}
use Rattle.ras_texts.proofs.log.retired_names.Goals as goal

pub loop-i-preserved : goal.loop-i-preserved
loop-i-preserved c =
    let more = count_more (is_retired c.args.boot) c.args.account.now.state.names c.loop-i.i c.name.result.now c.name.ensures in
    let before = c.loop-i.invariant in
    elim c.if-is_retired.branch [
      | then-is_retired w ↦
          let one : count_by (is_retired c.args.boot) (c.name.result.now ∷ []) ≡ 1 = rw (sym c.is_retired.ensures ∙ w.if-is_retired.true) refl in
          rw w.count-is (omega (arith, more, before, one))
      | else-is_retired w ↦
          let none : count_by (is_retired c.args.boot) (c.name.result.now ∷ []) ≡ 0 = rw (sym c.is_retired.ensures ∙ w.if-is_retired.false) refl in
          rw w.count-is (omega (arith, more, before, none))
    ]
