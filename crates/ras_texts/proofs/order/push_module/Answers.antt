use Rattle.std.proofs.Common.{◌∙◌, ◌++◌, [], ◌∷◌, ap, List, ℕ}
use Rattle.std.specs.Prelude.{codes}
use Rattle.ras_texts.specs.Text.{label_text}
use Rattle.ras_texts.proofs.TextLemmas.{three_pieces}
use Rattle.ras_texts.proofs.order.push_module.Goals as goal

pub returns-clause-line : goal.returns-clause-line
returns-clause-line c =
    c.push_within-2.ensures.piece
    ∙ ap (λ (t : List ℕ). t ++ 10 ∷ []) (c.push_label_within.ensures.label ∙ ap (λ (t : List ℕ). t ++ label_text c.args.label.now) c.push_within.ensures.piece)
    ∙ three_pieces c.args.text.now.items (codes "order module label=") (label_text c.args.label.now) (10 ∷ [])
