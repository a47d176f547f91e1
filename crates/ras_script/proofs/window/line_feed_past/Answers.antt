use Rattle.std.proofs.Common.{◌≡◌, ◌+◌, length, take, drop, sym, ap, ◌∙◌, arith}
use Rattle.std.proofs.lemmas.List.{length-take-le, take-append-drop}
use Rattle.ras_script.specs.Steps.Feeds.{line_feed_in}
use Rattle.ras_script.proofs.FeedLemmas.{feed_behind, feed_kept, feed_late}
use Rattle.ras_script.proofs.SpaceLemmas.{rest_is}
use Rattle.ras_script.proofs.window.line_feed_past.Goals as goal

pub returns-then-found-searched-clause-place : goal.returns-then-found-searched-clause-place
returns-then-found-searched-clause-place c =
    let bytes = c.args.bytes.now in
    let size : length (take c.args.searched bytes) ≡ c.args.searched = length-take-le c.args.searched bytes c.requires.inside in
    c.requires.found ∙ sym (feed_kept (take c.args.searched bytes) (drop c.args.searched bytes) (omega (arith, size, c.requires.found)))
    ∙ ap line_feed_in (take-append-drop c.args.searched bytes)

pub returns-else-found-searched-clause-place : goal.returns-else-found-searched-clause-place
returns-else-found-searched-clause-place c =
    let bytes = c.args.bytes.now in
    let size : length (take c.args.searched bytes) ≡ c.args.searched = length-take-le c.args.searched bytes c.requires.inside in
    let late : line_feed_in (take c.args.searched bytes) ≡ length (take c.args.searched bytes) = feed_late (take c.args.searched bytes) (omega (arith, size, c.requires.found)) in
    let rest : c.line_feed_in.result ≡ line_feed_in (drop c.args.searched bytes) = c.line_feed_in.ensures.place ∙ ap line_feed_in (rest_is bytes c.args.searched) in
    let sum : c.args.searched + c.line_feed_in.result ≡ length (take c.args.searched bytes) + line_feed_in (drop c.args.searched bytes) = omega (arith, size, rest) in
    sum ∙ sym (feed_behind (take c.args.searched bytes) (drop c.args.searched bytes) late) ∙ ap line_feed_in (take-append-drop c.args.searched bytes)
