-- The tally, the lines and the new entries are those of the pieces so far.
use Rattle.std.specs.Vec.Iter.{into_iter_items, into_iter_len}
use Rattle.ras_events.specs.Steps.Beside.{KeepsNews}
use Rattle.ras_events.proofs.beside.text_and_news.Given as goal

abbrev pub invariant-loop-piece : goal.invariant-loop-piece
invariant-loop-piece l =
    KeepsNews l.fn.account.state l.fn.made l.yielded (into_iter_items l.piece-iterator) (into_iter_len l.piece-iterator) l.account l.tally l.news.items l.text.items
