use Rattle.std.proofs.Common.{arith}
use Rattle.ras_events.proofs.LineLemmas.{keeps_counted, keeps_unread}
use Rattle.ras_events.proofs.beside.text_and_news.Goals as goal

pub loop-piece-preserved-in-Counted : goal.loop-piece-preserved-in-Counted
loop-piece-preserved-in-Counted c =
    rw c.in-Counted.is
    (keeps_counted _ _ _ _ _ _ _ _ _ _ _ _ _ _ _ c.in-Counted.entry c.in-Counted.details c.in_ok-is_news-in-Counted.is_news c.requires.alike c.loop-piece.invariant
    (rw c.in-Counted.is at c.in-Some.ensures.steps.0) c.in-Some.ensures.steps.1 c.wait_if_fresh.ensures.state
    (c.in_ok-is_news-in-Counted.ensures.fresh _ c.loop-piece.invariant.tally_is) (c.in_ok-is_news-in-Counted.ensures.tally _ c.loop-piece.invariant.tally_is)
    (grind (arith, c.in_ok-push_counted-in-Counted.ensures, c.as_slice.ensures)))

pub loop-piece-preserved : goal.loop-piece-preserved
loop-piece-preserved c =
    rw c.in-Unread.is
    (keeps_unread _ _ _ _ _ _ _ _ _ _ _ _ c.in-Unread.id c.in-Unread.why c.loop-piece.invariant
    (rw c.in-Unread.is at c.in-Some.ensures.steps.0) c.in-Some.ensures.steps.1 c.in_ok-push_unreadable-in-Unread.ensures)
