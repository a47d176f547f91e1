-- The orders of a page: which orders are possible, and when single corrected errors give one.
use Rattle.std.proofs.Common.{◌≡◌, ℕ, suc, ◌+◌, ◌-◌, ◌<◌, ◌≤◌, ◌⊎◌, inl, inr, Bool, true, false, if◌then◌else◌, nat_le, nat_lt, ◌==◌, List, [], ◌∷◌, ◌++◌, length, fold, Option, None, Some, refl, sym, ap, subst, ◌∙◌, append-nil, append_assoc, add-zero, zero-add, arith, All}
use Rattle.std.specs.List.{filter_map, cons_option, AllByRecursion}
use Rattle.std.proofs.lemmas.Bool.Decides.{nat_tests}
use Rattle.std.proofs.lemmas.List.Sums.{fold-append}
use Rattle.std.proofs.Math.Nat.{le-div_iff_mul-le, mul-le-mul_right, mul_comm}
use Rattle.ras_base.specs.Places.{places_behind}
use Rattle.mca_status.specs.declared.classes.ItemClass.{ItemClass}
use Rattle.mca_status.specs.declared.classes.ItemClass.TheVariants.{Ce, Ucna, Srao, Srar, Uc, Odd, Corrected, Recoverable, Fatal, Informational}
use Rattle.page_policy.specs.declared.buckets.Bucket.{Bucket}
use Rattle.page_policy.specs.declared.buckets.Limit.{Limit}
use Rattle.page_policy.specs.declared.rows.Order.{Order}
use Rattle.page_policy.specs.declared.rows.Order as Ordered
use Rattle.page_policy.specs.declared.rows.PageState.{PageState}
use Rattle.page_policy.specs.declared.rows.PageState.TheVariants.{Kept, Soft, Hard}
use Rattle.page_policy.specs.declared.rows.PageRow.{PageRow}
use Rattle.page_policy.specs.Buckets.{IsLimit, leak, aged_bucket, trips, bucket_after}
use Rattle.page_policy.specs.Rows.{PageReport, higher, new_row, row_after, is_corrected, state_called_for, state_called_by, order_between}
use Rattle.page_policy.proofs.HistoryLemmas.{state_in-rows_of}
use Rattle.page_policy.specs.Histories.{first_seconds, page_history, page_row, page_rows_of, state_in, state_asked, state_under, order_behind, orders_of, AreOnceInOrder, IsSingle}

-- the orders that a page in this state may still get
abbrev AreLeft : ℕ → PageState → List Order → Type 0
AreLeft page Kept orders = AreOnceInOrder page orders
AreLeft page Soft orders = (orders ≡ []) ⊎ (orders ≡ Ordered.TheVariants.Hard page ∷ [])
AreLeft page Hard orders = orders ≡ []

-- A state that rises gives an order that isn't among the later ones.
left_before : (page : ℕ) (state called : PageState) (rest : List Order) → AreLeft page (higher state called) rest
    → AreLeft page state (cons_option (order_between page state (higher state called)) rest)
left_before page Kept Kept rest left = left
left_before page Kept Soft rest (inl none) = inr (inl (ap (λ os. Ordered.TheVariants.Soft page ∷ os) none))
left_before page Kept Soft rest (inr hard) = inr (inr (inr (ap (λ os. Ordered.TheVariants.Soft page ∷ os) hard)))
left_before page Kept Hard rest none = inr (inr (inl (ap (λ os. Ordered.TheVariants.Hard page ∷ os) none)))
left_before page Soft Kept rest left = left
left_before page Soft Soft rest left = left
left_before page Soft Hard rest none = inr (ap (λ os. Ordered.TheVariants.Hard page ∷ os) none)
left_before page Hard Kept rest left = left
left_before page Hard Soft rest left = left
left_before page Hard Hard rest left = left

-- One more report raises the state to a state that the report calls for.
state-more : (earlier : List PageReport) (r : PageReport) → (called : PageState) × ((page_row (earlier ++ r ∷ [])).state ≡ higher (page_row earlier).state called)
state-more [] r = (state_called_by (new_row r.seconds) r, refl)
state-more (q ∷ rs) r = (state_called_by (page_row (q ∷ rs)) r, ap (λ (row : PageRow). row.state) (fold-append row_after (new_row q.seconds) (q ∷ rs) (r ∷ [])))

orders_from : ℕ → List PageReport → List PageReport → List Order
orders_from page earlier rs = filter_map (λ p. order_behind page p.0 p.1) (places_behind earlier rs)

left_from : (page : ℕ) (earlier rs : List PageReport) → AreLeft page (page_row earlier).state (orders_from page earlier rs)
unfolding orders_from
left_from page earlier [] = none (page_row earlier).state
  where
    none : (state : PageState) → AreLeft page state []
    none Kept = inl refl
    none Soft = inl refl
    none Hard = refl
left_from page earlier (r ∷ rs) =
    let more : (called : PageState) × ((page_row (earlier ++ r ∷ [])).state ≡ higher (page_row earlier).state called) = state-more earlier r in
    let rest : List Order = filter_map (λ p. order_behind page p.0 p.1) (places_behind (earlier ++ r ∷ []) rs) in
    subst (λ state. AreLeft page (page_row earlier).state (cons_option (order_between page (page_row earlier).state state) rest)) (sym more.1)
    (left_before page (page_row earlier).state more.0 rest (subst (λ state. AreLeft page state rest) more.1 (left_from page (earlier ++ r ∷ []) rs)))

pub once_in_order : (history : List PageReport) (page : ℕ) → AreOnceInOrder page (orders_of history page)
unfolding orders_from
once_in_order history page = left_from page [] (page_history history page)

-- ---- the state that a page comes to by its orders

abbrev with_order : Option Order → PageState → PageState
with_order None state = state
with_order (Some order) state = higher (state_asked order) state

under-more : (order : Option Order) (orders : List Order) → state_under (cons_option order orders) ≡ with_order order (state_under orders)
under-more None orders = refl
under-more (Some order) orders = refl

-- If a state rises, the order given then asks for the new state.
raised : (page : ℕ) (state called rest : PageState) → higher state (with_order (order_between page state (higher state called)) rest) ≡ higher (higher state called) rest
raised page Kept Kept rest = refl
raised page Kept Soft Kept = refl
raised page Kept Soft Soft = refl
raised page Kept Soft Hard = refl
raised page Kept Hard Kept = refl
raised page Kept Hard Soft = refl
raised page Kept Hard Hard = refl
raised page Soft Kept rest = refl
raised page Soft Soft rest = refl
raised page Soft Hard Kept = refl
raised page Soft Hard Soft = refl
raised page Soft Hard Hard = refl
raised page Hard Kept rest = refl
raised page Hard Soft rest = refl
raised page Hard Hard rest = refl

highest : (state : PageState) → higher state Kept ≡ state
highest Kept = refl
highest Soft = refl
highest Hard = refl

state_from : (page : ℕ) (earlier rs : List PageReport) → higher (page_row earlier).state (state_under (orders_from page earlier rs)) ≡ (page_row (earlier ++ rs)).state
unfolding orders_from
state_from page earlier [] = highest (page_row earlier).state ∙ ap (λ rs. (page_row rs).state) (sym (append-nil earlier))
state_from page earlier (r ∷ rs) =
    let more : (called : PageState) × ((page_row (earlier ++ r ∷ [])).state ≡ higher (page_row earlier).state called) = state-more earlier r in
    let rest : List Order = filter_map (λ p. order_behind page p.0 p.1) (places_behind (earlier ++ r ∷ []) rs) in
    let order : Option Order = order_behind page earlier r in
    ap (higher (page_row earlier).state) (under-more order rest)
    ∙ ap (λ state. higher (page_row earlier).state (with_order (order_between page (page_row earlier).state state) (state_under rest))) more.1
    ∙ raised page (page_row earlier).state more.0 (state_under rest)
    ∙ ap (λ state. higher state (state_under rest)) (sym more.1)
    ∙ state_from page (earlier ++ r ∷ []) rs
    ∙ ap (λ rs. (page_row rs).state) (append_assoc earlier (r ∷ []) rs)

-- A page has the highest state that its orders ask for.
pub state-under : (history : List PageReport) (page : ℕ) → state_in (page_rows_of history) page ≡ state_under (orders_of history page)
unfolding orders_from
state-under history page =
    state_in-rows_of history page ∙ sym (state_from page [] (page_history history page)) ∙ lowest (state_under (orders_of history page))
  where
    lowest : (state : PageState) → higher Kept state ≡ state
    lowest Kept = refl
    lowest Soft = refl
    lowest Hard = refl

-- ---- single corrected errors within a period

-- Nothing leaks within a period.
pub unaged : (limit : Limit) (now : ℕ) (bucket : Bucket) → IsLimit limit → now < bucket.stamp + limit.period → aged_bucket limit now bucket ≡ bucket
unaged limit now bucket valid early = by (nat_le limit.period (now - bucket.stamp)) refl
  where
    leaked : Bucket
    leaked = record { count = bucket.count - leak limit (now - bucket.stamp); stamp = now }

    by : (b : Bool) → nat_le limit.period (now - bucket.stamp) ≡ b → (if b then leaked else bucket) ≡ bucket
    by true is = absurd (late (limit.period) (now - bucket.stamp) is (omega (arith, valid.period_from)))
      where
        late : (p d : ℕ) → nat_le p d ≡ true → d < p → ⊥
        late p d is below = grind (arith, nat_tests)
    by false is = refl

called-corrected : (class : ItemClass) (trip : Bool) → is_corrected class ≡ true → state_called_for class trip ≡ (if trip then Soft else Kept)
called-corrected Ce trip is = refl
called-corrected Corrected trip is = refl
called-corrected Ucna trip is = cc
called-corrected Srao trip is = cc
called-corrected Srar trip is = cc
called-corrected Uc trip is = cc
called-corrected Odd trip is = cc
called-corrected Recoverable trip is = cc
called-corrected Fatal trip is = cc
called-corrected Informational trip is = cc

module _ (limit : Limit) (from : ℕ) (valid : IsLimit limit) where
  -- Whether one more error reaches the capacity.
  abbrev reaches : ℕ → Bool
  reaches count = nat_le limit.capacity (count + 1)

  -- What a single corrected error does to a row.
  record Goes (old new : PageRow) : Type 0 where
    stamp : new.bucket.stamp ≡ old.bucket.stamp
    count : new.bucket.count ≡ (if reaches old.bucket.count then 0 else old.bucket.count + 1)
    state : new.state ≡ higher old.state (if reaches old.bucket.count then Soft else Kept)

  goes : (row : PageRow) (r : PageReport) → row.bucket.stamp ≡ from → IsSingle limit from r → Goes row (row_after row r)
  goes row r stamped single =
      let early : r.seconds < row.bucket.stamp + limit.period = omega (arith, single.within, stamped) in
      let still : aged_bucket limit r.seconds row.bucket ≡ row.bucket = unaged limit r.seconds row.bucket valid early in
      let tests : trips r.limit r.seconds r.weight row.bucket ≡ reaches row.bucket.count =
      (λ i. trips (single.limit_is i) r.seconds (single.one i) row.bucket) ∙ ap (λ (b : Bucket). nat_le limit.capacity (b.count + 1)) still in
      let bucket : (row_after row r).bucket ≡ bucket_after limit r.seconds 1 row.bucket =
      ap (λ b. if b then bucket_after r.limit r.seconds r.weight row.bucket else row.bucket) single.corrected ∙ (λ i. bucket_after (single.limit_is i) r.seconds (single.one i) row.bucket) in
      record {
        stamp = ap (λ (b : Bucket). b.stamp) bucket ∙ ap (λ (b : Bucket). b.stamp) still;
        count = ap (λ (b : Bucket). b.count) bucket ∙ ap (λ (b : Bucket). if nat_le limit.capacity (b.count + 1) then 0 else b.count + 1) still;
        state = ap (higher row.state) (called-corrected r.class (trips r.limit r.seconds r.weight row.bucket) single.corrected ∙ ap (λ b. if b then Soft else Kept) tests);
      }

  -- the row of a page after n single errors
  record Steady (n : ℕ) (row : PageRow) : Type 0 where
    stamp : row.bucket.stamp ≡ from
    below : n < limit.capacity → (row.bucket.count ≡ n) × (row.state ≡ Kept)
    reached : limit.capacity ≤ n → row.state ≡ Soft

  reaches-yes : (n : ℕ) → limit.capacity ≤ n + 1 → reaches n ≡ true
  reaches-yes n is = grind (arith, nat_tests)

  reaches-no : (n : ℕ) → n + 1 < limit.capacity → reaches n ≡ false
  reaches-no n is = grind (arith, nat_tests)

  -- A soft-offlined page stays so.
  soft_stays : (b : Bool) → higher Soft (if b then Soft else Kept) ≡ Soft
  soft_stays true = refl
  soft_stays false = refl

  -- Below the capacity: with one more error, and at the capacity.
  module _ (n : ℕ) (old new : PageRow) (steady : Steady n old) (step : Goes old new) where
    goes_on : n + 1 < limit.capacity → (new.bucket.count ≡ n + 1) × (new.state ≡ Kept)
    goes_on more =
        let here : (old.bucket.count ≡ n) × (old.state ≡ Kept) = steady.below (omega arith) in
        let no : reaches old.bucket.count ≡ false = ap reaches here.0 ∙ reaches-no n more in (
          step.count ∙ ap (λ b. if b then 0 else old.bucket.count + 1) no ∙ ap (λ k. k + 1) here.0,
          step.state ∙ ap (λ b. higher old.state (if b then Soft else Kept)) no ∙ ap (λ s. higher s Kept) here.1,
        )

    turns : n < limit.capacity → limit.capacity ≤ n + 1 → new.state ≡ Soft
    turns below full =
        let here : (old.bucket.count ≡ n) × (old.state ≡ Kept) = steady.below below in
        let yes : reaches old.bucket.count ≡ true = ap reaches here.0 ∙ reaches-yes n full in
        step.state ∙ ap (λ b. higher old.state (if b then Soft else Kept)) yes ∙ ap (λ s. higher s Soft) here.1

    stays : limit.capacity ≤ n → new.state ≡ Soft
    stays over = step.state ∙ ap (λ s. higher s (if reaches old.bucket.count then Soft else Kept)) (steady.reached over) ∙ soft_stays (reaches old.bucket.count)

    steady-more : Steady (n + 1) new
    steady-more = record {
      stamp = step.stamp ∙ steady.stamp;
      below = goes_on;
      reached = λ full. by (nat_lt n limit.capacity) refl full;
    }
      where
        by : (b : Bool) → nat_lt n limit.capacity ≡ b → limit.capacity ≤ n + 1 → new.state ≡ Soft
        by true is full = turns (grind (arith, nat_tests)) full
        by false is full = stays (grind (arith, nat_tests))

    order-single : (page : ℕ) → order_between page old.state new.state ≡ (if n + 1 == limit.capacity then Some (Ordered.TheVariants.Soft page) else None)
    order-single page = by (nat_lt n limit.capacity) refl (n + 1 == limit.capacity) refl
      where
        by : (b : Bool) → nat_lt n limit.capacity ≡ b → (e : Bool) → (n + 1 == limit.capacity) ≡ e
            → order_between page old.state new.state ≡ (if e then Some (Ordered.TheVariants.Soft page) else None)
        by true below true here = λ i. order_between page ((steady.below (grind (arith, nat_tests))).1 i) (turns (grind (arith, nat_tests)) (grind (arith, nat_tests)) i)
        by true below false here = λ i. order_between page ((steady.below (grind (arith, nat_tests))).1 i) ((goes_on (grind (arith, nat_tests))).1 i)
        by false over true here = absurd (grind (arith, nat_tests))
        by false over false here = λ i. order_between page (steady.reached (grind (arith, nat_tests)) i) (stays (grind (arith, nat_tests)) i)

  steady-new : Steady 0 (new_row from)
  steady-new = record { stamp = refl; below = λ h. (refl, refl); reached = λ h. absurd (omega (arith, valid.capacity_from)) }

  steady-all : (rs : List PageReport) (n : ℕ) (row : PageRow) → Steady n row → AllByRecursion (IsSingle limit from) rs → Steady (length rs + n) (fold row_after row rs)
  steady-all [] n row steady all = subst (λ m. Steady m row) (sym (zero-add n)) steady
  steady-all (r ∷ rs) n row steady all =
      let next : Steady (n + 1) (row_after row r) = steady-more n row (row_after row r) steady (goes row r steady.stamp all.0) in
      let count : length rs + (n + 1) ≡ suc (length rs) + n = omega arith in
      subst (λ m. Steady m (fold row_after (row_after row r) rs)) count (steady-all rs (n + 1) (row_after row r) next all.1)

-- A property of each element.
by_recursion : {X : Type 0} (P : X → Type 0) (xs : List X) → All P xs → AllByRecursion P xs
by_recursion P [] all = tt
by_recursion P (x ∷ xs) all = (all 0 x (omega arith), by_recursion P xs (λ k d within. all (suc k) d (omega arith)))

split : {X : Type 0} (P : X → Type 0) (xs : List X) (y : X) → AllByRecursion P (xs ++ y ∷ []) → AllByRecursion P xs × P y
split P [] y all = (tt, all.0)
split P (x ∷ xs) y all = let rest : AllByRecursion P xs × P y = split P xs y all.1 in ((all.0, rest.0), rest.1)

pub order-at_capacity : (limit : Limit) (page : ℕ) (earlier : List PageReport) (last : PageReport) → IsLimit limit
    → All (IsSingle limit (first_seconds (earlier ++ last ∷ []))) (earlier ++ last ∷ [])
    → order_behind page earlier last ≡ (if length earlier + 1 == limit.capacity then Some (Ordered.TheVariants.Soft page) else None)
order-at_capacity limit page earlier last valid all =
    let from : ℕ = first_seconds (earlier ++ last ∷ []) in
    let row : PageRow = fold row_after (new_row from) earlier in
    let parts : AllByRecursion (IsSingle limit from) earlier × IsSingle limit from last = split (IsSingle limit from) earlier last (by_recursion (IsSingle limit from) (earlier ++ last ∷ []) all) in
    let steady : Steady limit from valid (length earlier) row =
    subst (λ m. Steady limit from valid m row) (add-zero (length earlier)) (steady-all limit from valid earlier 0 (new_row from) (steady-new limit from valid) parts.0) in
    let after : page_row (earlier ++ last ∷ []) ≡ row_after row last = fold-append row_after (new_row from) earlier (last ∷ []) in
    (λ i. order_between page (before earlier i) (after i).state)
    ∙ order-single limit from valid (length earlier) row (row_after row last) steady (goes limit from valid row last steady.stamp parts.1) page
  where
    before : (rs : List PageReport) → (page_row rs).state ≡ (fold row_after (new_row (first_seconds (rs ++ last ∷ []))) rs).state
    before [] = refl
    before (r ∷ rs) = refl

-- In a whole period as much leaks out as the capacity.
pub aged-whole : (limit : Limit) (now : ℕ) (bucket : Bucket) → IsLimit limit → bucket.count ≤ limit.capacity → bucket.stamp + limit.period ≤ now
    → aged_bucket limit now bucket ≡ record { count = 0; stamp = now }
aged-whole limit now bucket is below late = by (nat_le limit.period passed) refl
  where
    passed : ℕ
    passed = now - bucket.stamp

    leaks : limit.capacity ≤ leak limit passed
    leaks =
        let whole : limit.period ≤ passed = omega (arith, late) in
        (le-div_iff_mul-le (omega (arith, is.period_from))).1
        (rw (mul_comm limit.capacity limit.period) (mul-le-mul_right limit.capacity whole))

    none : bucket.count - leak limit passed ≡ 0
    none = omega (arith, below, leaks)

    by : (b : Bool) → nat_le limit.period passed ≡ b → (if b then record { count = bucket.count - leak limit passed; stamp = now } else bucket) ≡ record { count = 0; stamp = now }
    by true test = λ i. record { count = none i; stamp = now }
    by false test = absurd (grind (arith, nat_tests, late, test))

pub empties : (limit : Limit) (now : ℕ) (bucket : Bucket) → IsLimit limit → bucket.count ≤ limit.capacity → bucket.stamp + limit.period ≤ now → (aged_bucket limit now bucket).count ≡ 0
empties limit now bucket is below late = ap (λ (b : Bucket). b.count) (aged-whole limit now bucket is below late)
