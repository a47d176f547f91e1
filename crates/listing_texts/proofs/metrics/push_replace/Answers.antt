use Rattle.std.proofs.Common.{◌≡◌, OnOk, List, ℕ, subst}
use Rattle.ras_account.specs.Rows.{row_of}
use Rattle.listing_texts.proofs.MetricsLemmas.{one_replace}
use Rattle.listing_texts.proofs.metrics.push_replace.Goals as goal

pub returns-in-Some : goal.returns-in-Some
returns-in-Some c =
    subst (λ (t : List ℕ). OnOk c.push_labeled.result (c.push_labeled.new.text.items ≡ t))
    (one_replace c.args.text.now.items (row_of c.args.row.now) _ c.label_word.result.now c.number_of.result c.in-Some.is c.label_word.ensures c.number_of.ensures) c.push_labeled.ensures
