-- One more class, and in the end all classes.
use Rattle.std.proofs.Common.{◌∙◌, ◌<◌, ◌≤◌, ◌++◌, ℕ, List, ap, get_or, min, length, arith}
use Rattle.std.proofs.lemmas.List.{get_or_default}
use Rattle.mca_status.specs.declared.classes.ItemClass.TheVariants.{Ce}
use Rattle.listing_texts.specs.Listing.{class_count}
use Rattle.ras_texts.proofs.TextLemmas.{pair_more, all_pairs}
use Rattle.listing_texts.proofs.listing.push_class_counts.Goals as goal

pub loop-i-preserved : goal.loop-i-preserved
loop-i-preserved c =
    let classes = c.args.classes.now in
    let sums = c.args.sums.now in
    let in-classes : c.loop-i.i < length classes = omega (arith, c.loop-i-test.true, c.min-i-end.ensures) in
    let in-sums : c.loop-i.i < length sums = omega (arith, c.loop-i-test.true, c.min-i-end.ensures) in
    c.in_ok-push_class_count.ensures
    ∙ ap (λ (t : List ℕ). t ++ class_count (get_or classes c.loop-i.i Ce, get_or sums c.loop-i.i 0)) c.loop-i.invariant
    ∙ pair_more class_count c.args.text.now.items classes sums c.loop-i.i (get_or classes c.loop-i.i Ce) (get_or sums c.loop-i.i 0) in-classes in-sums
    (get_or_default classes c.loop-i.i Ce (get_or classes c.loop-i.i Ce) in-classes)
    (get_or_default sums c.loop-i.i 0 (get_or sums c.loop-i.i 0) in-sums)

pub returns : goal.returns
returns c =
    let all : min (length c.args.classes.now) (length c.args.sums.now) ≤ c.loop-i.i = omega (arith, c.loop-i-test.false, c.min-i-end.ensures) in
    c.loop-i.invariant ∙ all_pairs class_count c.args.text.now.items c.args.classes.now c.args.sums.now c.loop-i.i all
