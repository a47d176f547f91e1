use Rattle.std.proofs.Common.{ℕ, List, ◌++◌, ap, sym, ◌∙◌}
use Rattle.log_lines.proofs.LimitLemmas.{fitted_plain}
use Rattle.log_lines.proofs.comments.push_fitted.Goals as goal

pub returns-then-is_plain : goal.returns-then-is_plain
returns-then-is_plain c =
    c.in_ok-extend_from_slice.ensures.items
    ∙ ap (λ (more : List ℕ). c.args.text.now.items ++ more)
    (sym (fitted_plain c.args.number c.args.line.now c.args.said.now (sym c.is_plain.ensures ∙ c.if-is_plain.true)))
