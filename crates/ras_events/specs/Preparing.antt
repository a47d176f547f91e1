-- An event for which all memory is allocated, prepared for an account.
use Rattle.std.specs.Prelude.{◌≡◌, ℕ, ◌≤◌, List, [], ◌∷◌, ◌++◌, Option, None, Some, IfSome, All, length, if◌then◌else◌}
use Rattle.std.specs.List.{sum_by}
use Rattle.page_policy.specs.declared.rows.Order.{Order}
use Rattle.ras_facts.specs.declared.entry.Entry.{Entry}
use Rattle.ras_facts.specs.Entries.{IsValidEntry, most_orders}
use Rattle.ras_account.specs.Account.{State}
use Rattle.ras_account.specs.Continued.{account_after, account_after_all, is_fresh_in}
use Rattle.ras_account.specs.Numbers.{StaysWithin, fresh_entries_in}
use Rattle.ras_account.specs.Orders.{orders_at}
use Rattle.ras_account.specs.View.{View, IsReservedFor}
use Rattle.journal_format.specs.Links.{link_bytes}
use Rattle.ras_texts.specs.OrderRoom.{HasOrderRoom}
use Rattle.ras_texts.specs.Orders.{order_lines}
use Rattle.ras_texts.specs.Reports.{entry_lines}
use Rattle.ras_texts.specs.Text.{done_line, repeat_line}
use Rattle.ras_texts.specs.Unreadable.{unreadable_line}
use Rattle.ras_events.specs.declared.preparing.News.{News}
use Rattle.ras_events.specs.declared.preparing.Prepared.{Prepared}
use Rattle.ras_events.specs.declared.made.Piece.{Piece}
use Rattle.ras_events.specs.declared.made.Piece.TheVariants.{Counted, Unread}
use Rattle.ras_events.specs.Making.{entries_in}

-- the lines of pieces, each printed for the account with the entries of the pieces before it
abbrev pub text_along : State → List Piece → List ℕ
text_along account [] = []
text_along account (Counted entry details ∷ pieces) =
    (if is_fresh_in account entry then entry_lines details account entry else repeat_line account entry)
    ++ text_along (account_after account entry) pieces
text_along account (Unread id why ∷ pieces) = unreadable_line id why ++ text_along account pieces

-- the orders of entries, each given by the account with the entries before it
abbrev pub orders_along_entries : State → List Entry → List Order
orders_along_entries account [] = []
orders_along_entries account (entry ∷ entries) =
    orders_at account entry ++ orders_along_entries (account_after account entry) entries

-- the whole text of an event for an account: the lines of its pieces, and then the lines of the orders that its
-- entries give
abbrev pub event_text_in : State → List Piece → List ℕ
event_text_in account made =
    text_along account made
    ++ order_lines (account_after_all account (entries_in made)).modules
    (orders_along_entries account (entries_in made))

-- the new entries of an event, if any
abbrev pub news_entries : Option News → List Entry
news_entries None = []
news_entries (Some news) = news.entries.items

-- A prepared event has the new entries of its pieces, their link, and the texts of its pieces.
pub record IsPrepared (account : State) (number : ℕ) (made : List Piece) (event : Prepared) : Type 0 where
  pub news : news_entries event.news ≡ fresh_entries_in account (entries_in made)
  pub some : IfSome event.news (λ news. 1 ≤ length news.entries.items)
  pub link : IfSome event.news (λ news. news.link ≡ link_bytes news.entries.items)
  pub text : event.text.items ≡ text_along account made
  pub done : event.done.items ≡ done_line number

-- The account can count the new entries in turn without allocating memory, and there is room for their orders.
pub record CanTake (account : View) (news : News) : Type 0 where
  pub reserved : IsReservedFor account news.entries.items
  pub valid : All IsValidEntry news.entries.items
  pub within : StaysWithin account.state news.entries.items
  pub none : news.orders.orders ≡ []
  pub room : sum_by most_orders news.entries.items ≤ news.orders.room

-- The account can count the event's new entries, and its text has room for the lines of their orders.
pub record IsReady (account : View) (event : Prepared) : Type 0 where
  pub news : IfSome event.news (CanTake account)
  pub room : IfSome event.news (λ news. HasOrderRoom news.orders.room event.text)
