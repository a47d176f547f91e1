-- The requested entry is the first of the entries left.
use Rattle.std.proofs.Common.{◌≡◌, ◌∙◌, ◌+◌, ◌-◌, List, ℕ, arith, true}
use Rattle.apei_sources.specs.Entries.{has_entry, rest_of}
use Rattle.apei_sources.specs.Steps.Cut.{AreInside}
use Rattle.apei_sources.proofs.CutLemmas.{next_inside, next_left, at_last}
use Rattle.apei_sources.proofs.entries.nth_entry.Goals as goal

pub behind_first-left-requires : goal.behind_first-left-requires
behind_first-left-requires c =
    (next_inside c.args.count c.loop-passed.passed c.args.bytes.now c.loop-passed.left.now
    (omega arith) c.loop-passed.invariant.inside).0

pub loop-passed-preserved : goal.loop-passed-preserved
loop-passed-preserved c =
    let rest : List ℕ = c.loop-passed.left.now in
    let left : ℕ = c.args.count - (c.loop-passed.passed + 1) in
    let inside : (has_entry rest ≡ true) × AreInside left (rest_of rest) =
    next_inside c.args.count c.loop-passed.passed c.args.bytes.now rest (omega arith) c.loop-passed.invariant.inside in
    rw c.behind_first-left.ensures (record {
      inside = inside.1;
      left =
          next_left c.args.count c.loop-passed.passed c.args.i c.args.bytes.now rest c.requires.within
          c.loop-passed.invariant.left c.loop-passed-test.true;
    })

pub first_entry-requires : goal.first_entry-requires
first_entry-requires c =
    (next_inside c.args.count c.loop-passed.passed c.args.bytes.now c.loop-passed.left.now
    (omega arith) c.loop-passed.invariant.inside).0

pub returns-clause-entry : goal.returns-clause-entry
returns-clause-entry c =
    c.first_entry.ensures.entry
    ∙ at_last c.args.count c.loop-passed.passed c.args.i c.args.bytes.now c.loop-passed.left.now c.requires.within
    c.loop-passed.invariant.left (omega arith)
