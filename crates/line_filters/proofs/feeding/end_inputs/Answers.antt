use Rattle.std.proofs.Common.{◌≡◌, ℕ, false, true, List, [], ◌++◌, ap, refl, subst, ◌∙◌, inl}
use Rattle.line_filters.specs.Steps.Filtering.{Printed}
use Rattle.line_filters.proofs.FeedBothLemmas.{false_not_true, printed_all}
use Rattle.line_filters.proofs.feeding.end_inputs.Goals as goal

pub returns-in-Ok-print_unless-clause-says : goal.returns-in-Ok-print_unless-clause-says
returns-in-Ok-print_unless-clause-says g c =
    let last : List ℕ = (g.F.InputFilter.makes c.args.filter.now).last [] c.args.cut in
    let is = c.in-Ok.ensures.text ∙ ap (λ (bytes : List ℕ). bytes ++ last) c.new-text.ensures.items in
    inl (
      refl,
      subst (λ (text : List ℕ). Printed g.B.Board.seen text c.args.board.now c.print_unless.new.board) is
          (printed_all g.B.Board.seen (false ≡ true) c.push_last.new.text.items c.print_unless.new.waiting.items c.args.board.now c.print_unless.new.board false_not_true c.in-Ok-print_unless.ensures.prints),
    )
