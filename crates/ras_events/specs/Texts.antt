-- The text of an event: the lines of its pieces in order, each entry compared with the history up to it, and then the
-- lines of the orders that these entries give.
use Rattle.std.specs.Prelude.{ℕ, List, ◌++◌, if◌then◌else◌}
use Rattle.std.specs.List.{flat_map}
use Rattle.page_policy.specs.declared.rows.Order.{Order}
use Rattle.ras_base.specs.Places.{places}
use Rattle.ras_facts.specs.declared.entry.Entry.{Entry}
use Rattle.ras_account.specs.Account.{account_of}
use Rattle.ras_account.specs.Fresh.{is_fresh_behind}
use Rattle.ras_account.specs.History.{History, with_entries}
use Rattle.ras_account.specs.Orders.{orders_behind}
use Rattle.ras_texts.specs.Orders.{order_lines}
use Rattle.ras_texts.specs.Reports.{entry_lines}
use Rattle.ras_texts.specs.Text.{repeat_line}
use Rattle.ras_texts.specs.Unreadable.{unreadable_line}
use Rattle.ras_events.specs.declared.made.Piece.{Piece}
use Rattle.ras_events.specs.declared.made.Piece.TheVariants.{Counted, Unread}
use Rattle.ras_events.specs.Making.{entries_in}

-- the lines of a piece after a history: for a new entry its lines, for another entry the line of a repeat, for an
-- unreadable record the line that says so
abbrev pub piece_text : History → Piece → List ℕ
piece_text history (Counted entry details) =
    if is_fresh_behind history entry
    then entry_lines details (account_of history) entry
    else repeat_line (account_of history) entry
piece_text history (Unread id why) = unreadable_line id why

-- the lines of pieces, each after the history with the entries of the pieces before it
abbrev pub pieces_text : History → List Piece → List ℕ
pieces_text history pieces =
    flat_map (λ p. piece_text (with_entries history (entries_in p.0)) p.1) (places pieces)

-- the orders that entries give, each after the history with the entries before it
abbrev pub orders_of_entries : History → List Entry → List Order
orders_of_entries history entries =
    flat_map (λ p. orders_behind (with_entries history p.0) p.1) (places entries)

abbrev pub event_text : History → List Piece → List ℕ
event_text history made =
    pieces_text history made
    ++ order_lines (account_of (with_entries history (entries_in made))).modules
    (orders_of_entries history (entries_in made))
