-- One such entry is enough.
use Rattle.std.proofs.Common.{◌≡◌, ◌∙◌, ◌+◌, ◌-◌, List, ℕ, sym, ap, arith, true}
use Rattle.apei_sources.specs.Entries.{has_entry, is_refused, rest_of}
use Rattle.apei_sources.specs.Steps.Cut.{AreInside}
use Rattle.apei_sources.proofs.CutLemmas.{next_inside, one_refused, not_refused, none_refused}
use Rattle.apei_sources.proofs.entries.is_some_refused.Goals as goal

pub first_entry-requires : goal.first_entry-requires
first_entry-requires c =
    let next = next_inside c.args.count c.loop-done.done c.args.bytes.now c.loop-done.rest.now c.loop-done-test.true in
    (next c.loop-done.invariant.inside).0

pub behind_first-rest-requires : goal.behind_first-rest-requires
behind_first-rest-requires c =
    let next = next_inside c.args.count c.loop-done.done c.args.bytes.now c.loop-done.rest.now c.loop-done-test.true in
    (next c.loop-done.invariant.inside).0

pub returns-then-is_refused : goal.returns-then-is_refused
returns-then-is_refused c =
    one_refused c.args.count c.loop-done.done c.args.bytes.now c.loop-done.rest.now c.loop-done-test.true
    (ap is_refused (sym c.first_entry.ensures.entry) ∙ sym c.is_refused.ensures
    ∙ c.if-is_refused.true) c.loop-done.invariant.left

pub loop-done-preserved : goal.loop-done-preserved
loop-done-preserved c =
    let rest : List ℕ = c.loop-done.rest.now in
    let left : ℕ = c.args.count - (c.loop-done.done + 1) in
    let inside : (has_entry rest ≡ true) × AreInside left (rest_of rest) =
    next_inside c.args.count c.loop-done.done c.args.bytes.now rest c.loop-done-test.true c.loop-done.invariant.inside in
    rw c.behind_first-rest.ensures (record {
      inside = inside.1;
      left =
          not_refused c.args.count c.loop-done.done c.args.bytes.now rest c.loop-done-test.true
          (ap is_refused (sym c.first_entry.ensures.entry) ∙ sym c.is_refused.ensures
          ∙ c.if-is_refused.false) c.loop-done.invariant.left;
    })

pub returns : goal.returns
returns c =
    none_refused c.args.count c.loop-done.done c.args.bytes.now c.loop-done.rest.now
    (omega arith) c.loop-done.invariant.left
