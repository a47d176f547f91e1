use Rattle.std.proofs.Common.{◌≡◌, ◌∙◌, ◌++◌, [], ap, refl, List, ℕ}
use Rattle.ras_account.specs.Rows.{row_of}
use Rattle.ras_texts.specs.Orders.{module_line, replaced_line}
use Rattle.ras_texts.proofs.TextLemmas.{line_more, no_line_more}
use Rattle.ras_texts.proofs.order.push_standing_modules.Goals.{then-row+in_ok-reserve, else-row}
use Rattle.ras_texts.proofs.order.push_standing_modules.Goals as goal

pub loop-i-preserved : goal.loop-i-preserved
loop-i-preserved c =
    elim c.if-row.branch [
      | then-row+in_ok-reserve w ↦
          let line : replaced_line (row_of c.module-row.result.now) ≡ module_line c.module-row.result.now.label = rw w.if-row.true refl in
          rw w.text-is
          (w.push_module.ensures.line
          ∙ ap (λ (t : List ℕ). t ++ module_line c.module-row.result.now.label) (w.in_ok-reserve.ensures.items ∙ c.loop-i.invariant)
          ∙ rw (← line) (line_more replaced_line c.args.text.now.items c.args.account.now.state.modules c.loop-i.i (row_of c.module-row.result.now) c.module-row.ensures))
      | else-row w ↦
          let none : replaced_line (row_of c.module-row.result.now) ≡ [] = rw w.if-row.false refl in
          rw w.text-is
          (c.loop-i.invariant ∙ no_line_more replaced_line c.args.text.now.items c.args.account.now.state.modules c.loop-i.i (row_of c.module-row.result.now) c.module-row.ensures none)
    ]
