-- Each context that is skipped fits.
use Rattle.std.proofs.Common.{◌≡◌, ◌∙◌, ◌<◌, sym, refl, arith, drop, true}
use Rattle.std.proofs.lemmas.Option.{slice_get_past}
use Rattle.cper_sections.specs.X64.{contexts_in, has_context, context_length}
use Rattle.cper_sections.proofs.ContextLemmas.{most_contexts, step_length, step_get}
use Rattle.cper_sections.proofs.x64.nth_context.Goals as goal

pub returns-then-i-stated-clause-context : goal.returns-then-i-stated-clause-context
returns-then-i-stated-clause-context c =
    sym (slice_get_past (contexts_in c.args.stated c.args.bytes.now) c.args.i (omega (arith, c.if-i-stated.true, most_contexts c.args.stated c.args.bytes.now)))

pub returns-then-i-stated-clause-none : goal.returns-then-i-stated-clause-none
returns-then-i-stated-clause-none c =
    (λ _. omega (arith, c.if-i-stated.true, most_contexts c.args.stated c.args.bytes.now), λ _. refl)

pub loop-passed-preserved : goal.loop-passed-preserved
loop-passed-preserved c =
    let stated = c.args.stated in
    let passed = c.loop-passed.passed in
    let rest = c.loop-passed.rest.now in
    let below : passed < stated = omega (arith, c.loop-passed-test.true, c.if-i-stated.false) in
    let fits : has_context rest ≡ true = c.in-Some.ensures.0 in
    let after : c.in-Some.after.now ≡ drop (context_length rest) rest = c.in-Some.ensures.2 in
    rw after (
      omega (arith, step_length stated passed rest below fits, c.loop-passed.invariant.0),
      sym (step_get stated passed c.args.i rest below c.loop-passed-test.true fits) ∙ c.loop-passed.invariant.1,
    )
