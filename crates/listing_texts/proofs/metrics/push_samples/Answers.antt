use Rattle.std.proofs.Common.{◌≡◌, [], ◌∷◌, OnOk, List, ℕ, codes, subst}
use Rattle.listing_texts.specs.declared.metrics.Metric.TheVariants.{BuildInfo, Names}
use Rattle.ras_texts.specs.declared.version.TheConstants.{VERSION}
use Rattle.listing_texts.specs.Metrics.{sample_of}
use Rattle.listing_texts.proofs.MetricsLemmas.{one_line}
use Rattle.listing_texts.proofs.metrics.push_samples.Goals as goal

pub returns-in-Names : goal.returns-in-Names
returns-in-Names c =
    subst (λ (t : List ℕ). OnOk c.push_plain-in-Names.result (c.push_plain-in-Names.new.text.items ≡ t))
    (rw (c.in-Names.is, c.names_len.ensures.count) (one_line c.args.text.now.items (sample_of Names [] _)))
    c.push_plain-in-Names.ensures

pub returns-in-BuildInfo : goal.returns-in-BuildInfo
returns-in-BuildInfo c =
    subst (λ (t : List ℕ). OnOk c.push_labeled.result (c.push_labeled.new.text.items ≡ t))
    (rw c.in-BuildInfo.is (one_line c.args.text.now.items (sample_of BuildInfo ((codes "version", VERSION.now) ∷ []) 1)))
    c.push_labeled.ensures
