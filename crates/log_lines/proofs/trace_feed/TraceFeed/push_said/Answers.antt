use Rattle.std.proofs.Common.{◌≡◌, ℕ, ◌+◌, List, ◌++◌, ap, subst, ◌∙◌}
use Rattle.bank_lines.specs.Counts.{named_found}
use Rattle.bank_lines.specs.Texts.{found_text}
use Rattle.bank_lines.specs.declared.found.Finding.{Finding}
use Rattle.log_lines.specs.TraceFeed.{TraceFeedState, finding_with_cap, found_with_cap, gap_said, trace_said}
use Rattle.log_lines.specs.Waits.{waits}
use Rattle.log_lines.proofs.JoinLemmas.{joined_three}
use Rattle.log_lines.proofs.trace_feed.TraceFeed.push_said.Goals as goal

pub returns-clause-said : goal.returns-clause-said
returns-clause-said c =
    let line : List ℕ = c.args.line.now in
    let number : ℕ = c.self.inside.taken + 1 in
    let plain : Finding = found_with_cap c.self.inside.boot c.self.inside.cap line in
    let is : c.name.new.found ≡ named_found c.self.inside.counts plain =
    c.in_ok-name.ensures.found
    ∙ ap (named_found c.self.inside.counts)
    (c.finding_with_cap-found.ensures ∙ ap (finding_with_cap c.self.inside.cap) c.trace_found.ensures) in
    subst (λ (state : TraceFeedState). c.push_event.new.said.items ≡ c.args.said.now.items ++ trace_said state line) c.self.view_is
    (joined_three c.args.said.now.items (gap_said number line) (found_text number (named_found c.self.inside.counts plain)) _
    c.push_gap.new.said.items c.push_found.new.text.items c.push_event.new.said.items
    c.in_ok-push_gap.ensures
    (c.in_ok-push_found.ensures ∙ ap (λ (found : Finding). c.push_gap.new.said.items ++ found_text number found) is)
    c.in_ok-push_event.ensures.said)

pub returns-clause-waits : goal.returns-clause-waits
returns-clause-waits c =
    c.waits-waits.ensures
    ∙ ap waits (c.in_ok-name.ensures.found
    ∙ ap (named_found c.self.inside.counts)
    (c.finding_with_cap-found.ensures ∙ ap (finding_with_cap c.self.inside.cap) c.trace_found.ensures))
    ∙ ap (λ (state : TraceFeedState). waits (named_found state.counts (found_with_cap state.boot state.cap c.args.line.now))) c.self.view_is
