use Rattle.std.proofs.Common.{◌-◌, ◌≡◌, arith, subst, ℕ}
use Rattle.std.proofs.lemmas.List.{length-take, length-drop}
use Rattle.ras_script.specs.Steps.Feeds.{line_feed_in}
use Rattle.ras_script.specs.Steps.ReaderSteps.{FeedAt}
use Rattle.ras_script.specs.Steps.Window.{held_in}
use Rattle.ras_script.proofs.FeedLemmas.{feed_at, no_feed}
use Rattle.ras_script.proofs.window.Window.first_line_feed.Goals as goal

pub returns-then-self : goal.returns-then-self
returns-then-self c =
    let w = c.args.self.now in
    let place : line_feed_in (held_in w) ≡ w.line_feed - w.start = omega (arith, w.found) in
    subst (λ k. FeedAt k (held_in w)) place (feed_at (held_in w) (omega (arith, w.found, length-take {A = ℕ}, length-drop {A = ℕ})))

pub returns-else-self : goal.returns-else-self
returns-else-self c =
    let w = c.args.self.now in
    no_feed (held_in w) (omega (arith, w.found, length-take {A = ℕ}, length-drop {A = ℕ}))
