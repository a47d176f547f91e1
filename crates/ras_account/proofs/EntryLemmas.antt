-- What an entry adds to an account, and when it can be counted.
use Rattle.std.proofs.Common.{◌≡◌, ◌+◌, Bool, true, false, not, nat_eq, if◌then◌else◌, [], ◌∷◌, ◌++◌, length, refl, sym, ap, subst, ◌∙◌, arith, append-nil, length-append, true≢false}
use Rattle.std.specs.Map.{keys_of}
use Rattle.std.proofs.lemmas.List.{append_cancel_left}
use Rattle.dimm_topology.specs.Labels.{same_label}
use Rattle.row_tables.specs.Tables.{added_keys}
use Rattle.ras_facts.specs.declared.fact.Fact.{Fact as Told}
use Rattle.ras_facts.specs.declared.entry.Entry.{Entry}
use Rattle.ras_facts.specs.declared.entry.Entry.TheVariants.{Fact}
use Rattle.ras_facts.specs.Valid.{IsValidFact}
use Rattle.ras_account.specs.Sightings.{sightings_in}
use Rattle.ras_account.specs.Account.{State, names_of}
use Rattle.ras_account.specs.Continued.{knows, is_fresh_in, account_after, account_after_fresh, account_with_count}
use Rattle.ras_account.specs.Orders.{orders_along, orders_at}
use Rattle.ras_account.specs.Numbers.{IsWithin}
use Rattle.ras_account.specs.View.{View, OrderList, Waiting, WaitsFirst, then_waits, nothing, labels_in, pages_in, added_by}
use Rattle.ras_account.specs.Steps.Taking.{adds_fact, CanTakeFact, TakesFact, Takes, GivesOrders, sightings_at}
use Rattle.ras_account.proofs.ItemLemmas.{names-items, entries-items, total-items}
use Rattle.ras_account.proofs.NumberLemmas.{adds}

-- what one entry adds
module _ (a : State) where
  added_by-fact : (fact : Told) → is_fresh_in a (Fact fact) ≡ true → added_by a (Fact fact ∷ []) ≡ adds_fact a fact
  added_by-fact fact fresh =
      ap (λ b. adds a (if b then Fact fact ∷ [] else [])) fresh
      ∙ (λ i. record {
        names = fact.name ∷ [];
        labels = added_keys same_label (keys_of a.modules) (labels_in (append-nil fact.items i));
        pages = added_keys nat_eq (keys_of a.pages) (pages_in (append-nil fact.items i));
      })

  added_by-stale : (e : Entry) → is_fresh_in a e ≡ false → added_by a (e ∷ []) ≡ nothing
  added_by-stale e stale = ap (λ b. adds a (if b then e ∷ [] else [])) stale

-- An entry without a name and without items adds nothing.
adds_nothing : (a : State) (e : Entry) (b : Bool) → adds a (e ∷ []) ≡ nothing → adds a (if b then e ∷ [] else []) ≡ nothing
adds_nothing a e true is = is
adds_nothing a e false is = refl

no_items : (old new : View) (e : Entry) → adds old.state (e ∷ []) ≡ nothing → new.waiting ≡ old.waiting → old.waiting ≡ then_waits (added_by old.state (e ∷ [])) new.waiting
no_items old new e none waiting = sym waiting ∙ ap (λ front. then_waits front new.waiting) (sym (adds_nothing old.state e (is_fresh_in old.state e) none))

-- An entry without items gives no order.
unordered : (a : State) (e : Entry) (b : Bool) → orders_along a (sightings_in a.limit a.module_limit e) ≡ [] → (if b then orders_along a (sightings_in a.limit a.module_limit e) else []) ≡ []
unordered a e true is = is
unordered a e false is = refl

gives-none : (before : OrderList) (a : State) (e : Entry) → orders_along a (sightings_in a.limit a.module_limit e) ≡ [] → GivesOrders before before (orders_at a e)
gives-none before a e none = record {
  orders = sym (append-nil before.orders) ∙ ap (λ os. before.orders ++ os) (sym (unordered a e (is_fresh_in a e) none));
  room = omega (arith, ap length (unordered a e (is_fresh_in a e) none));
}

-- Counting a new entry other than a fact.
pub takes_other : (old new : View) (before : OrderList) (e : Entry) → is_fresh_in old.state e ≡ true
    → adds old.state (e ∷ []) ≡ nothing → orders_along old.state (sightings_in old.state.limit old.state.module_limit e) ≡ []
    → new.state ≡ account_after_fresh (account_with_count old.state) e → new.waiting ≡ old.waiting → Takes old new before before e
takes_other old new before e fresh none unasked state waiting = record {
  state = state ∙ sym (ap (λ b. if b then account_after_fresh (account_with_count old.state) e else old.state) fresh);
  waiting = no_items old new e none waiting;
  gives = gives-none before old.state e unasked;
}

-- An entry that isn't new is passed over.
pub takes_stale : (v : View) (before : OrderList) (e : Entry) → is_fresh_in v.state e ≡ false → Takes v v before before e
takes_stale v before e stale = record {
  state = sym (ap (λ b. if b then account_after_fresh (account_with_count v.state) e else v.state) stale);
  waiting = ap (λ front. then_waits front v.waiting) (sym (added_by-stale v.state e stale));
  gives = record {
    orders = sym (append-nil before.orders) ∙ ap (λ os. before.orders ++ os) (sym asked);
    room = omega (arith, ap length asked);
  };
}
  where
    asked : orders_at v.state e ≡ []
    asked = ap (λ b. if b then orders_along v.state (sightings_in v.state.limit v.state.module_limit e) else []) stale

-- A new entry leaves the account within its bounds.
pub entry-room : (a : State) (e : Entry) → is_fresh_in a e ≡ true → names_of (e ∷ []) ≡ [] → IsWithin (account_after a e) → IsWithin (account_after_fresh (account_with_count a) e)
entry-room a e fresh none within = subst (λ b. IsWithin (if b then account_after_fresh (account_with_count a) e else a)) fresh within

-- A new fact can be counted if what it adds is reserved first.
pub can_take : (v : View) (fact : Told) → is_fresh_in v.state (Fact fact) ≡ true → IsValidFact fact → WaitsFirst (added_by v.state (Fact fact ∷ [])) v.waiting
    → IsWithin (account_after v.state (Fact fact)) → CanTakeFact v fact
can_take v fact fresh valid (rest, first) within =
    let wait : v.waiting ≡ then_waits (adds_fact v.state fact) rest = sym first ∙ ap (λ front. then_waits front rest) (added_by-fact v.state fact fresh) in
    let a : State = record v.state { names = v.state.names ++ fact.name ∷ []; entries = v.state.entries + 1 } in
    let room : IsWithin (account_after_fresh (account_with_count v.state) (Fact fact)) = subst (λ b. IsWithin (if b then account_after_fresh (account_with_count v.state) (Fact fact) else v.state)) fresh within in
    record {
      rest = rest;
      valid = valid;
      unknown = known (knows v.state fact.name) fresh;
      name = ap (λ (w : Waiting). w.names) wait;
      next = record {
        valid = valid.items;
        labels = ap (λ (w : Waiting). w.labels) wait;
        pages = ap (λ (w : Waiting). w.pages) wait;
        total = omega (arith, room.total, total-items v.state.limit v.state.module_limit fact.seconds a fact.items);
      };
      names_room = omega (arith, room.names, ap length (names-items a (sightings_in v.state.limit v.state.module_limit (Fact fact))), length-append v.state.names (fact.name ∷ []));
      entries_room = omega (arith, room.entries, entries-items a (sightings_in v.state.limit v.state.module_limit (Fact fact)));
    }
  where
    known : (b : Bool) → not b ≡ true → b ≡ false
    known true h = absurd (true≢false (sym h))
    known false h = refl

-- Counting a new fact counts the entry.
pub takes_fact : (old new : View) (before after : OrderList) (fact : Told) → is_fresh_in old.state (Fact fact) ≡ true → TakesFact old new fact
    → GivesOrders before after (orders_along old.state (sightings_at old.state fact.seconds fact.items)) → Takes old new before after (Fact fact)
takes_fact old new before after fact fresh taken gives = record {
  state = taken.state ∙ sym (ap (λ b. if b then account_after_fresh (account_with_count old.state) (Fact fact) else old.state) fresh);
  waiting = taken.waiting ∙ ap (λ front. then_waits front new.waiting) (sym (added_by-fact old.state fact fresh));
  gives = subst (λ b. GivesOrders before after (if b then orders_along old.state (sightings_in old.state.limit old.state.module_limit (Fact fact)) else [])) (sym fresh) gives;
}

-- If nothing is reserved after the first part, the first part is all.
pub all_waits : (front : Waiting) → then_waits front nothing ≡ front
all_waits front = λ i. record { names = append-nil front.names i; labels = append-nil front.labels i; pages = append-nil front.pages i }

-- If the first parts of two reservations are equal, so are the other parts.
pub left_waits : (front one other : Waiting) → then_waits front one ≡ then_waits front other → one ≡ other
left_waits front one other is =
    let names : one.names ≡ other.names = append_cancel_left front.names one.names other.names (ap (λ (w : Waiting). w.names) is) in
    let labels : one.labels ≡ other.labels = append_cancel_left front.labels one.labels other.labels (ap (λ (w : Waiting). w.labels) is) in
    let pages : one.pages ≡ other.pages = append_cancel_left front.pages one.pages other.pages (ap (λ (w : Waiting). w.pages) is) in
    λ i. record { names = names i; labels = labels i; pages = pages i }
