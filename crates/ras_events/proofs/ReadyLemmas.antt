-- A prepared event can be counted without allocating memory.
use Rattle.std.proofs.Common.{◌≡◌, ℕ, Option, None, Some, IfSome, List, All, sym, ap, subst, ◌∙◌, arith}
use Rattle.std.specs.Global.{Vec}
use Rattle.std.specs.List.{sum_by}
use Rattle.ras_facts.specs.declared.entry.Entry.{Entry}
use Rattle.ras_facts.specs.Entries.{IsValidEntry, most_orders}
use Rattle.ras_account.specs.Numbers.{AreWithin, HasRoomFor, StaysWithin, fresh_entries_in, numbers_with}
use Rattle.ras_account.specs.View.{View, IsReservedFor, added_by}
use Rattle.ras_account.proofs.NumberLemmas.{adds, stays-within}
use Rattle.ras_texts.specs.OrderRoom.{HasOrderRoom}
use Rattle.ras_events.specs.declared.preparing.News.{News}
use Rattle.ras_events.specs.Steps.Beside.{IsNewsOf}
use Rattle.ras_events.specs.Preparing.{CanTake, IsReady, news_entries}
use Rattle.ras_events.proofs.NewsLemmas.{fresh_again, numbers_news}

module _ (account : View) (entries news : List Entry) (fresh : news ≡ fresh_entries_in account.state entries) (reserved : IsReservedFor account entries) (room : HasRoomFor account.state entries) (valid : All IsValidEntry news) where
  waits : account.waiting ≡ added_by account.state news
  waits = reserved ∙ sym (ap (added_by account.state) fresh ∙ ap (adds account.state) (fresh_again account.state entries))

  within : HasRoomFor account.state news
  within = subst AreWithin (sym (ap (numbers_with account.state) fresh ∙ numbers_news account.state entries)) room

  can_take : (new : News) → new.entries.items ≡ news → IsNewsOf (sum_by most_orders news) new → CanTake account new
  can_take new same is = record {
    reserved = waits ∙ ap (added_by account.state) (sym same);
    valid = subst (All IsValidEntry) (sym same) valid;
    within = subst (StaysWithin account.state) (sym same) (stays-within account.state news within);
    none = is.none;
    room = omega (arith, is.room_is, ap (sum_by most_orders) same);
  }

  pub ready : (found : Option News) (text done : Vec ℕ) → news_entries found ≡ news → IfSome found (IsNewsOf (sum_by most_orders news))
      → HasOrderRoom (sum_by most_orders news) text → IsReady account (record { news = found; text = text; done = done })
  ready None text done same is has = record { news = tt; room = tt }
  ready (Some new) text done same is has = record {
    news = can_take new same is;
    room = subst (λ n. HasOrderRoom n text) (sym is.room_is) has;
  }
