use Rattle.std.proofs.Common.{◌≡◌, ◌+◌, ◌++◌, ap, subst, ◌∙◌}
use Rattle.block_lines.specs.Filter.{BlockProgress, progress_after}
use Rattle.block_lines.specs.LogLines.{report_log_line}
use Rattle.block_lines.specs.Texts.{blocks_text_beside}
use Rattle.log_lines.specs.LogFeed.{LogFeedState, reports_after_line, reports_said}
use Rattle.log_lines.proofs.JoinLemmas.{on_ok}
use Rattle.log_lines.proofs.log_feed.LogFeed.push_report_in.Goals as goal

pub returns-clause-said : goal.returns-clause-said
returns-clause-said c =
    on_ok c.take_line_beside.result c.take_line_beside.ensures.text (λ text.
    subst (λ (state : LogFeedState). c.take_line_beside.new.text.items ≡ c.args.said.now.items ++ reports_said state c.args.line.now) c.self.view_is
    (text ∙ ap (λ (p : BlockProgress). c.args.said.now.items ++ blocks_text_beside c.self.inside.borders.reports p.reports (p.taken + 1) (report_log_line c.args.line.now))
    c.begin_line.ensures))

pub returns-clause-after : goal.returns-clause-after
returns-clause-after c =
    let after : BlockProgress → LogFeedState =
    (λ p. record { errors = c.self.inside.errors; reports = p.reports; borders = c.self.inside.borders; taken = c.self.inside.taken }) in
    on_ok c.take_line_beside.result c.take_line_beside.ensures.state (λ state.
    subst (λ (s : LogFeedState). after c.take_line_beside.new.self
    ≡ record { errors = s.errors; reports = reports_after_line s.reports c.args.line.now; borders = s.borders; taken = s.taken }) c.self.view_is
    (ap after (state ∙ ap (λ (p : BlockProgress). progress_after p c.args.line.now) c.begin_line.ensures)))
