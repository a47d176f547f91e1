-- The entries of an event, all compared with the account before the event.
use Rattle.std.specs.Prelude.{◌≡◌, ℕ, ◌+◌, ◌≤◌, ◌⊎◌, Bool, if◌then◌else◌, List, [], ◌∷◌, ◌++◌, length, All, IfSome}
use Rattle.std.specs.List.{sum_by, AllByRecursion}
use Rattle.ras_facts.specs.declared.entry.Entry.{Entry}
use Rattle.ras_facts.specs.Entries.{IsValidEntry, most_orders}
use Rattle.ras_facts.specs.declared.details.Detail.{Detail}
use Rattle.ras_account.specs.declared.reserve.Tally.{Tally}
use Rattle.ras_account.specs.Account.{State}
use Rattle.ras_account.specs.Continued.{account_after_all}
use Rattle.ras_account.specs.Numbers.{StaysWithin, fresh_entries_in}
use Rattle.ras_account.specs.Tallies.{IsTallyOf}
use Rattle.ras_account.specs.View.{OrderList, View, IsReservedFor}
use Rattle.journal_format.specs.Links.{link_bytes}
use Rattle.ras_texts.specs.Reports.{entry_lines}
use Rattle.ras_texts.specs.OrderRoom.{HasOrderRoom}
use Rattle.ras_texts.specs.Text.{done_line, repeat_line}
use Rattle.ras_events.specs.declared.beside.TextAndNews.{TextAndNews}
use Rattle.ras_events.specs.declared.preparing.News.{News}
use Rattle.ras_events.specs.declared.preparing.Prepared.{Prepared}
use Rattle.ras_events.specs.declared.made.Piece.{Piece}
use Rattle.ras_events.specs.Making.{entries_in}
use Rattle.ras_events.specs.Preparing.{news_entries, orders_along_entries, text_along}
use Rattle.ras_events.specs.Sizes.{IsFact}

-- All entries are facts, or there is at most one.
abbrev pub AreAlike : List Entry → Type 0
AreAlike entries = All IsFact entries ⊎ (length entries ≤ 1)

-- A text and a list of new entries have got one more entry, which is new or a repeat.
pub record TellsEntry (is_news : Bool) (account : State) (details : List Detail) (entry : Entry) (old new : List ℕ) (before after : List Entry) : Type 0 where
  pub text : new ≡ old ++ (if is_news then entry_lines details account entry else repeat_line account entry)
  pub news : after ≡ (if is_news then before ++ entry ∷ [] else before)

-- The pieces processed so far and the pieces left, with the tally, the new entries and the lines of the processed
-- pieces.
pub record KeepsNews (account : State) (all taken left : List Piece) (number : ℕ) (now : View) (tally : Tally) (news : List Entry) (text : List ℕ) : Type 0 where
  pub pieces : taken ++ left ≡ all
  pub count : number ≡ length left
  pub state : now.state ≡ account
  pub tally_is : IsTallyOf now tally (entries_in taken)
  pub news_are : news ≡ fresh_entries_in account (entries_in taken)
  pub text_is : text ≡ text_along account taken

-- The new entries of an event: at least one, their link, and room for this number of orders.
pub record IsNewsOf (room : ℕ) (news : News) : Type 0 where
  pub some : 1 ≤ length news.entries.items
  pub link : news.link ≡ link_bytes news.entries.items
  pub none : news.orders.orders ≡ []
  pub room_is : news.orders.room ≡ room

-- A prepared event with this text and these new entries has their link, room for their orders, and its done line.
pub record IsLinked (number : ℕ) (told : TextAndNews) (event : Prepared) : Type 0 where
  pub entries : news_entries event.news ≡ told.news.items
  pub news : IfSome event.news (IsNewsOf (sum_by most_orders told.news.items))
  pub text : event.text.items ≡ told.text.items
  pub room : HasOrderRoom (sum_by most_orders told.news.items) event.text
  pub done : event.done.items ≡ done_line number

-- The account can count these entries in turn, and there is room for their orders.
pub record CanTakeAll (account : View) (orders : OrderList) (entries : List Entry) : Type 0 where
  pub reserved : IsReservedFor account entries
  pub valid : AllByRecursion IsValidEntry entries
  pub within : StaysWithin account.state entries
  pub room : sum_by most_orders entries ≤ orders.room

-- While entries are counted: counting the entries left gives the account and the orders that counting all of them
-- gives.
pub record IsTaking (start now : View) (before after : OrderList) (all left : List Entry) (number : ℕ) : Type 0 where
  pub count : number ≡ length left
  pub can : CanTakeAll now after left
  pub state : account_after_all now.state left ≡ account_after_all start.state all
  pub orders : after.orders ++ orders_along_entries now.state left ≡ before.orders ++ orders_along_entries start.state all
  pub given : after.room + length after.orders ≡ before.room + length before.orders
