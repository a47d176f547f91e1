use Rattle.std.proofs.Common.{◌≡◌, ◌∙◌, [], ◌∷◌, sym, refl, arith}
use Rattle.std.specs.Prelude.{count_by}
use Rattle.page_policy.specs.Pages.{page_entry}
use Rattle.listing_texts.specs.Metrics.{is_page_in}
use Rattle.ras_texts.proofs.TextLemmas.{count_more}
use Rattle.listing_texts.proofs.metrics.pages_in.Goals.{then-is_same, else-is_same}
use Rattle.listing_texts.proofs.metrics.pages_in.Goals as goal

pub loop-i-preserved : goal.loop-i-preserved
loop-i-preserved c =
    let row = page_entry c.row-found.result.0 c.row-found.result.1 c.row-found.result.2 in
    let more = count_more (is_page_in c.args.state) c.args.account.now.state.pages c.loop-i.i row (rw (← c.pages-pages.ensures) c.row-found.ensures.row) in
    let before = c.loop-i.invariant in
    elim c.if-is_same.branch [
      | then-is_same w ↦
          let one : count_by (is_page_in c.args.state) (row ∷ []) ≡ 1 = rw (sym c.is_same.ensures ∙ w.if-is_same.true) refl in
          rw w.count-is (omega (arith, more, before, one))
      | else-is_same w ↦
          let none : count_by (is_page_in c.args.state) (row ∷ []) ≡ 0 = rw (sym c.is_same.ensures ∙ w.if-is_same.false) refl in
          rw w.count-is (omega (arith, more, before, none))
    ]
