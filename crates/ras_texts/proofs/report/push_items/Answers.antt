-- One more item, and in the end all items.
use Rattle.std.proofs.Common.{◌∙◌, ◌<◌, ◌≤◌, ◌++◌, min, length, get_or, List, ap, arith}
use Rattle.ras_facts.specs.declared.items.Item.{Item}
use Rattle.ras_texts.specs.Reports.{told_line}
use Rattle.ras_texts.proofs.TextLemmas.{pair_more, all_pairs}
use Rattle.ras_texts.proofs.report.push_items.Goals as goal

pub loop-i-preserved : goal.loop-i-preserved
loop-i-preserved c =
    let fact = c.args.fact.now in
    let item = c.index-items-i.result in
    let detail = c.index-details-i.result in
    let in-items : c.loop-i.i < length fact.items = omega (arith, c.loop-i-test.true, c.min-i-end.ensures, ap length c.as_slice-items.ensures) in
    let in-details : c.loop-i.i < length c.args.details.now = omega (arith, c.loop-i-test.true, c.min-i-end.ensures) in
    c.in_ok-push_item.ensures
    ∙ (λ k. c.loop-i.invariant k ++ told_line fact (item, detail))
    ∙ pair_more (told_line fact) c.args.text.now.items fact.items c.args.details.now c.loop-i.i item detail in-items in-details
    (c.index-items-i.is ∙ ap (λ (items : List Item). get_or items c.loop-i.i item) c.as_slice-items.ensures)
    c.index-details-i.is

pub returns : goal.returns
returns c =
    let fact = c.args.fact.now in
    let all : min (length fact.items) (length c.args.details.now) ≤ c.loop-i.i = omega (arith, c.loop-i-test.false, c.min-i-end.ensures, ap length c.as_slice-items.ensures) in
    c.loop-i.invariant ∙ all_pairs (told_line fact) c.args.text.now.items fact.items c.args.details.now c.loop-i.i all
