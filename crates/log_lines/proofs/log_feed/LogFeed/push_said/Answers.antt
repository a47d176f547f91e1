use Rattle.std.proofs.Common.{ℕ, ◌+◌, List, ◌++◌, ap, ◌∙◌}
use Rattle.log_lines.specs.LogFeed.{LogFeedState, checks_said, reports_after_line, reports_said}
use Rattle.log_lines.proofs.JoinLemmas.{joined_two}
use Rattle.log_lines.proofs.log_feed.LogFeed.push_said.Goals as goal

pub returns-clause-said : goal.returns-clause-said
returns-clause-said c =
    let line : List ℕ = c.args.line.now in
    joined_two c.args.said.now.items (checks_said c.args.self.now line) (reports_said c.args.self.now line)
    c.push_check_in.new.said.items c.push_report_in.new.said.items
    c.in_ok-waits.ensures.said
    (c.in_ok-push_report_in.ensures.said
    ∙ ap (λ (state : LogFeedState). c.push_check_in.new.said.items ++ reports_said state line) c.in_ok-waits.ensures.after)

pub returns-clause-after : goal.returns-clause-after
returns-clause-after c =
    let next : LogFeedState → LogFeedState = (λ state. record state { taken = state.taken + 1 }) in
    let with_reports : LogFeedState → LogFeedState =
    (λ state. record state { reports = reports_after_line state.reports c.args.line.now }) in
    ap next (c.self.view_is ∙ c.in_ok-push_report_in.ensures.after ∙ ap with_reports c.in_ok-waits.ensures.after)
