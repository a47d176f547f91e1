use Rattle.std.proofs.Common.{◌≡◌, ℕ, ◌+◌, List, ◌++◌, ap, ◌∙◌}
use Rattle.log_lines.specs.Comments.{fitted}
use Rattle.log_lines.specs.TraceFeed.{trace_said, TraceFeedState}
use Rattle.log_lines.proofs.trace_feed.TraceFeed.take_line.Goals as goal

pub returns-clause-text : goal.returns-clause-text
returns-clause-text c =
    let before : List ℕ = c.args.text.now.items in
    let bytes : List ℕ = c.args.bytes.now in
    let number : c.self.inside.taken ≡ c.args.self.now.taken + 1 =
    ap (λ (state : TraceFeedState). state.taken) (c.self.view_is ∙ c.in_ok-waits.ensures.after) in
    let whole : c.deref.result.now ≡ trace_said c.args.self.now bytes =
    c.deref.ensures.value ∙ c.in_ok-waits.ensures.said
    ∙ ap (λ (text : List ℕ). text ++ trace_said c.args.self.now bytes) c.new-said.ensures.items in
    c.in_ok-push_fitted.ensures
    ∙ ap (λ (n : ℕ). before ++ fitted n bytes c.deref.result.now) number
    ∙ ap (λ (said : List ℕ). before ++ fitted (c.args.self.now.taken + 1) bytes said) whole
