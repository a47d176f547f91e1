-- The text and orders of an event, by the history that it is prepared for.
use Rattle.std.proofs.Common.{◌≡◌, Bool, true, false, if◌then◌else◌, List, [], ◌∷◌, ◌++◌, refl, sym, ap, ◌∙◌, append_assoc, append-nil}
use Rattle.std.specs.List.{flat_map}
use Rattle.std.proofs.lemmas.List.Elements.{filter_map-append}
use Rattle.std.proofs.lemmas.List.Sums.{fold-append}
use Rattle.page_policy.specs.declared.rows.Order.{Order}
use Rattle.ras_base.specs.Places.{places_behind}
use Rattle.ras_facts.specs.declared.entry.Entry.{Entry}
use Rattle.ras_account.specs.Account.{State, account_of}
use Rattle.ras_account.specs.Continued.{is_fresh_in, account_after, account_after_all}
use Rattle.ras_account.specs.Fresh.{fresh_entries}
use Rattle.ras_account.specs.History.{History, with_entry, with_entries}
use Rattle.ras_account.specs.Numbers.{fresh_entries_in}
use Rattle.ras_account.specs.Orders.{orders_along, orders_behind}
use Rattle.ras_account.specs.Sightings.{sightings_in}
use Rattle.ras_account.proofs.AccountLemmas.{account_of-entry, account_of-entries}
use Rattle.ras_account.proofs.FreshLemmas.{is_fresh_in-account_of}
use Rattle.ras_account.proofs.OrderLemmas.{orders_at-account_of}
use Rattle.ras_texts.specs.Orders.{order_lines}
use Rattle.ras_texts.specs.Reports.{entry_lines}
use Rattle.ras_texts.specs.Text.{repeat_line}
use Rattle.ras_texts.specs.Unreadable.{unreadable_line}
use Rattle.ras_events.specs.declared.made.Piece.{Piece}
use Rattle.ras_events.specs.declared.made.Piece.TheVariants.{Counted, Unread}
use Rattle.ras_events.specs.Making.{entries_in, entry_in}
use Rattle.ras_events.specs.Preparing.{event_text_in, orders_along_entries, text_along}
use Rattle.ras_events.proofs.BesideLemmas.{after_if}
use Rattle.ras_events.specs.Texts.{event_text, orders_of_entries, piece_text, pieces_text}

-- ---- the new entries alone

-- the orders of an entry that is new or not
abbrev orders_if : State → Entry → Bool → List Order
orders_if a e b = if b then orders_along a (sightings_in a.limit a.module_limit e) else []

pub news_account : (a : State) (es : List Entry) → account_after_all a (fresh_entries_in a es) ≡ account_after_all a es
news_account a [] = refl
news_account a (e ∷ es) = by (is_fresh_in a e) refl (news_account (account_after a e) es)
  where
    by : (b : Bool) → is_fresh_in a e ≡ b → account_after_all (after_if a e b) (fresh_entries_in (after_if a e b) es) ≡ account_after_all (after_if a e b) es
        → account_after_all a (if b then e ∷ fresh_entries_in (after_if a e b) es else fresh_entries_in a es) ≡ account_after_all (after_if a e b) es
    by true is ih = ap (λ c. account_after_all (after_if a e c) (fresh_entries_in (after_if a e true) es)) is ∙ ih
    by false is ih = ih

pub news_orders : (a : State) (es : List Entry) → orders_along_entries a (fresh_entries_in a es) ≡ orders_along_entries a es
news_orders a [] = refl
news_orders a (e ∷ es) = by (is_fresh_in a e) refl (news_orders (account_after a e) es)
  where
    by : (b : Bool) → is_fresh_in a e ≡ b → orders_along_entries (after_if a e b) (fresh_entries_in (after_if a e b) es) ≡ orders_along_entries (after_if a e b) es
        → orders_along_entries a (if b then e ∷ fresh_entries_in (after_if a e b) es else fresh_entries_in a es) ≡ orders_if a e b ++ orders_along_entries (after_if a e b) es
    by true is ih =
        ap (λ c. orders_if a e c ++ orders_along_entries (after_if a e c) (fresh_entries_in (after_if a e true) es)) is ∙ ap (λ os. orders_if a e true ++ os) ih
    by false is ih = ih

-- ---- by histories

entries_more : (h : History) (es : List Entry) (e : Entry) → with_entries h (es ++ e ∷ []) ≡ with_entry (with_entries h es) e
entries_more h es e = fold-append with_entry h es (e ∷ [])

account_more : (h : History) (es : List Entry) (e : Entry) → account_after (account_of (with_entries h es)) e ≡ account_of (with_entries h (es ++ e ∷ []))
account_more h es e = sym (account_of-entry (with_entries h es) e) ∙ ap account_of (sym (entries_more h es e))

pub news_behind : (h : History) (es : List Entry) → fresh_entries (with_entries h es) ≡ fresh_entries h ++ fresh_entries_in (account_of h) es
news_behind h [] = sym (append-nil (fresh_entries h))
news_behind h (e ∷ es) =
    news_behind (with_entry h e) es
    ∙ (λ i. (if sym (is_fresh_in-account_of h e) i then fresh_entries h ++ e ∷ [] else fresh_entries h) ++ fresh_entries_in (account_of-entry h e i) es)
    ∙ by (is_fresh_in (account_of h) e)
  where
    by : (b : Bool)
        → (if b then fresh_entries h ++ e ∷ [] else fresh_entries h) ++ fresh_entries_in (after_if (account_of h) e b) es
        ≡ fresh_entries h ++ (if b then e ∷ fresh_entries_in (after_if (account_of h) e b) es else fresh_entries_in (account_of h) es)
    by true = append_assoc (fresh_entries h) (e ∷ []) (fresh_entries_in (after_if (account_of h) e true) es)
    by false = refl

text_behind : (h : History) (before pieces : List Piece)
    → text_along (account_of (with_entries h (entries_in before))) pieces
    ≡ flat_map (λ p. piece_text (with_entries h (entries_in p.0)) p.1) (places_behind before pieces)
text_behind h before [] = refl
text_behind h before (Counted e details ∷ pieces) =
    let p : Piece = Counted e details in
    let here : History = with_entries h (entries_in before) in
    let told : entries_in (before ++ p ∷ []) ≡ entries_in before ++ e ∷ [] = filter_map-append entry_in before (p ∷ []) in
    let after : account_after (account_of here) e ≡ account_of (with_entries h (entries_in (before ++ p ∷ []))) =
    account_more h (entries_in before) e ∙ ap (λ es. account_of (with_entries h es)) (sym told) in
    (λ i. (if is_fresh_in-account_of here e i then entry_lines details (account_of here) e else repeat_line (account_of here) e)
    ++ text_along (after i) pieces)
    ∙ ap (λ text. piece_text here p ++ text) (text_behind h (before ++ p ∷ []) pieces)
text_behind h before (Unread id why ∷ pieces) =
    let p : Piece = Unread id why in
    let told : entries_in before ≡ entries_in (before ++ p ∷ []) = sym (append-nil (entries_in before)) ∙ sym (filter_map-append entry_in before (p ∷ [])) in
    ap (λ es. unreadable_line id why ++ text_along (account_of (with_entries h es)) pieces) told
    ∙ ap (λ text. unreadable_line id why ++ text) (text_behind h (before ++ p ∷ []) pieces)

pub text_by_history : (h : History) (pieces : List Piece) → text_along (account_of h) pieces ≡ pieces_text h pieces
text_by_history h pieces = text_behind h [] pieces

orders_from : (h : History) (before es : List Entry)
    → orders_along_entries (account_of (with_entries h before)) es ≡ flat_map (λ p. orders_behind (with_entries h p.0) p.1) (places_behind before es)
orders_from h before [] = refl
orders_from h before (e ∷ es) =
    (λ i. orders_at-account_of (with_entries h before) e i ++ orders_along_entries (account_more h before e i) es)
    ∙ ap (λ orders. orders_behind (with_entries h before) e ++ orders) (orders_from h (before ++ e ∷ []) es)

pub orders_by_history : (h : History) (es : List Entry) → orders_along_entries (account_of h) es ≡ orders_of_entries h es
orders_by_history h es = orders_from h [] es

pub account_by_history : (h : History) (es : List Entry) → account_after_all (account_of h) es ≡ account_of (with_entries h es)
account_by_history h es = sym (account_of-entries h es)

-- The whole text of an event is the same with the orders of its new entries and with the orders of all its entries.
pub event_by_news : (a : State) (made : List Piece)
    → text_along a made ++ order_lines (account_after_all a (fresh_entries_in a (entries_in made))).modules (orders_along_entries a (fresh_entries_in a (entries_in made))) ≡ event_text_in a made
event_by_news a made =
    let es : List Entry = entries_in made in
    λ i. text_along a made ++ order_lines (news_account a es i).modules (news_orders a es i)

pub event_by_history : (h : History) (made : List Piece) → event_text_in (account_of h) made ≡ event_text h made
event_by_history h made =
    let es : List Entry = entries_in made in
    λ i. text_by_history h made i ++ order_lines (account_by_history h es i).modules (orders_by_history h es i)
