use Rattle.std.proofs.Common.{◌≡◌, ◌∙◌, ◌++◌, OnOk, List, ℕ, ap, subst}
use Rattle.page_policy.specs.declared.rows.PageState.TheVariants.{Kept, Soft, Hard}
use Rattle.listing_texts.specs.Metrics.{page_sample, sample_text}
use Rattle.listing_texts.proofs.MetricsLemmas.{three_lines}
use Rattle.listing_texts.proofs.metrics.push_pages.Goals as goal

pub returns : goal.returns
returns c =
    let pages = c.args.account.now.state.pages in
    let one = sample_text (page_sample pages Soft) in
    let two = sample_text (page_sample pages Hard) in
    let three = sample_text (page_sample pages Kept) in
    subst (λ (t : List ℕ). OnOk c.push_page_count-3.result (c.push_page_count-3.new.text.items ≡ t))
    (ap (λ (t : List ℕ). t ++ three) (c.in_ok-push_page_count-2.ensures ∙ ap (λ (t : List ℕ). t ++ two) c.in_ok-push_page_count.ensures) ∙ three_lines c.args.text.now.items one two three)
    c.push_page_count-3.ensures
