-- Listing identifiers.
use Rattle.std.proofs.Common.{◌≡◌, ◌∙◌, ℕ, zero, suc, ◌+◌, ◌-◌, ◌<◌, ◌≤◌, min, List, [], ◌∷◌, ◌++◌, length, take, drop, Option, Some, None, refl, sym, ap, subst, inl, inr, arith, append-nil, length-append}
use Rattle.std.proofs.lemmas.List.{length-drop}
use Rattle.std.proofs.lemmas.Option.{slice_get_within, slice_get_cases}
use Rattle.std.specs.Prelude.{◌⊎◌, slice_get, Result, Ok, Err, IfOk, IfSome}
use Rattle.std.specs.List.{AllByRecursion}
use Rattle.erst_store.specs.Actions.{get_record_identifier}
use Rattle.erst_store.specs.Steps.ActionLemmas.{length-ids}
use Rattle.erst_store.specs.Store.{Stored, Fits, all_ones, most_records, ids}
use Rattle.erst_store.specs.Device.{Device, act, after_id}
use Rattle.erst_store.specs.DeviceLaws.{IsDevice, left_to_list}
use Rattle.board_core.specs.Clock.{Passes, StoreIsLeft}
use Rattle.board_core.specs.Stop.{InStore}
use Rattle.board_core.specs.Told.{Told, device_of, Relates}
use Rattle.erst_interp.specs.declared.entries.InstructionEntry.{InstructionEntry}
use Rattle.erst_interp.specs.Faithful.{answer_after}
use Rattle.erst_interp.specs.Run.{KeepsButDevice}
use Rattle.board_core.specs.Doing.{Seen}
use Rattle.erst_interp.specs.Steps.Running.{GoesWell}
use Rattle.erst_interp.proofs.TouchLemmas.{well_more, fails_more, well_both, well_fails}
use Rattle.erst_driver.specs.declared.refusals.DriverRefused.{DriverRefused}
use Rattle.erst_driver.specs.declared.refusals.DriverRefused.TheVariants.{Register, Busy, Status, NoMemory}
use Rattle.erst_driver.specs.declared.step.Step.{Step}
use Rattle.erst_driver.specs.Operations.{without_input, listings, ids_steps, after_step, after_steps, device_calls, list_calls, told_by}
use Rattle.erst_driver.specs.Answers.{IsMemoryOnly, HasCauseIn, Stays}
use Rattle.erst_driver.specs.Steps.Operating.{Begins, HasCall, KeepsStored, Leaves, Over, HasDevice, Starves, Plan, ComesThrough, StoreIn, Done, CutIn, FailsIn, IsBeginning, Acted, Acts, Quietly, FailsQuietly, EndsListing, ListsOut, Collected, Collects, ListsAll, Tells}
use Rattle.erst_interp.specs.Admission.{IsAdmittedTable}
use Rattle.erst_driver.proofs.DeviceLemmas.{over_told}
use Rattle.erst_driver.proofs.DoesLemmas.{has_call}
use Rattle.erst_driver.proofs.OperationLemmas.{passes_at}
use Rattle.erst_driver.proofs.PlanLemmas.{begun_of, begun_then, both_plans, after_both, done_then, done_as, fails_then, fails_as, cut_then, cut_as, over_device, over_both_device, over_both, over_more, over_after, everywhere}

abbrev list : Step
list = without_input get_record_identifier

-- ---- one listing

-- What a listing returns for an identifier, and at the end.
pub record Listed (d e : Device) (value : ℕ) : Type 0 where
  pub store : e.store ≡ d.store
  pub within : (value ≡ all_ones → ⊥) → (slice_get (ids d.store) d.cursor ≡ Some value) × (e.cursor ≡ d.cursor + 1)
  pub past : value ≡ all_ones → (length d.store ≤ d.cursor) × (e.cursor ≡ 0)

fits_below : (rs : List Stored) (i id : ℕ) → AllByRecursion Fits rs → slice_get (ids rs) i ≡ Some id → id < all_ones
fits_below [] i id each is = absurd cc
fits_below (r ∷ rs) zero id each is = let same : r.id ≡ id = cc in subst (λ (n : ℕ). n < all_ones) same each.0.below
fits_below (r ∷ rs) (suc i) id each is = fits_below rs i id each.1 is

none_some : (x : ℕ) → ◌≡◌ {A = Option ℕ} None (Some x) → ⊥
none_some x e = cc

listed_by : (d : Device) (o : Option ℕ) → IsDevice d → slice_get (ids d.store) d.cursor ≡ o
    → Listed d (record (after_id d o) { action = get_record_identifier }) (after_id d o).value
listed_by d (Some id) device is = record {
  store = refl;
  within = λ not_end. (is, refl);
  past = λ end. absurd (let below = fits_below d.store d.cursor id device.store.each is in omega (arith, below, end));
}
listed_by d None device is = record {
  store = refl;
  within = λ not_end. absurd (not_end refl);
  past = λ end. (
    elim (slice_get_cases (ids d.store) d.cursor).1 [
      | inl there ↦ absurd (none_some there.0 (sym is ∙ there.2))
      | inr past ↦ omega (arith, past.0, length-ids d.store)
    ],
    refl,
  );
}

pub listed : (d : Device) → IsDevice d → Listed d (after_step (without_input get_record_identifier) d) (answer_after get_record_identifier 0 d)
unfolding act
listed d device = listed_by d (slice_get (ids d.store) d.cursor) device refl

-- ---- lists of listings

pub listings_both : (one two : ℕ) → listings one ++ listings two ≡ listings (one + two)
listings_both zero two = ap listings (let e : two ≡ 0 + two = omega arith in e)
listings_both (suc one) two =
    let e : suc (one + two) ≡ suc one + two = omega arith in
    ap (λ (steps : List Step). list ∷ steps) (listings_both one two) ∙ ap listings e

-- One more listing makes a call.
listing_calls : (lists : List (List InstructionEntry)) (count : ℕ) (d : Device) → IsAdmittedTable lists → HasCall (device_calls lists (listings (count + 1)) d)
listing_calls lists count d admitted =
    let next : suc count ≡ count + 1 = omega arith in
    subst (λ (n : ℕ). HasCall (device_calls lists (listings n) d)) next
    (has_call lists list (listings count) d admitted (record { action = omega arith; input = omega arith }))

pub ids_calls : (lists : List (List InstructionEntry)) (d : Device) → IsAdmittedTable lists → HasCall (list_calls lists d)
ids_calls lists d admitted =
    let next : suc (length d.store - d.cursor) ≡ left_to_list d = omega arith in
    subst (λ (n : ℕ). HasCall (device_calls lists (listings n ++ listings (min (length d.store + 1) most_records)) d)) next
    (has_call lists list (listings (length d.store - d.cursor) ++ listings (min (length d.store + 1) most_records)) d admitted (record { action = omega arith; input = omega arith }))

begins_listings : (count all : ℕ) → count ≤ all → IsBeginning (listings count) (listings all)
begins_listings count all fits =
    let left = all - count in
    let sums : count + left ≡ all = omega (arith, fits) in
    (listings left, listings_both count left ∙ ap listings sums)

one_store : (d : Device) → (after_step (without_input get_record_identifier) d).store ≡ d.store
unfolding act
one_store d = by (slice_get (ids d.store) d.cursor)
  where
    by : (o : Option ℕ) → (after_id d o).store ≡ d.store
    by (Some id) = refl
    by None = refl

pub through_listings : (count : ℕ) (d : Device) (store : List Stored) → ComesThrough (listings count) d store → store ≡ d.store
unfolding ComesThrough
through_listings zero d store is = is
through_listings (suc count) d store is =
    elim is [ inl here ↦ here | inr later ↦ through_listings count (after_step (without_input get_record_identifier) d) store later ∙ one_store d ]

quiet : (count : ℕ) (told : Option Told) (x y : List Stored) → StoreIn (λ d. listings count) told x y → Quietly told x y
quiet count None x y is = tt
quiet count (Some t) x y is = λ device. elim (is device) [ inl same ↦ inl same | inr through ↦ inr (through_listings count (device_of t) y through) ]

-- ---- a listing on its way

-- The device after this many listings, none of which reached the end.
pub record At (count : ℕ) (d : Device) : Type 0 where
  pub cursor : (after_steps (listings count) d).cursor ≡ d.cursor + count
  pub store : (after_steps (listings count) d).store ≡ d.store
  pub within : (count ≡ 0) ⊎ (d.cursor + count ≤ length d.store)

at_left : (count : ℕ) (d : Device) → At count d → count + 1 ≤ left_to_list d
at_left count d at = elim at.within [ inl none ↦ omega (arith, none) | inr within ↦ omega (arith, within) ]

pub record Listing (lists : List (List InstructionEntry)) (count : ℕ) (a b : Seen) : Type 0 where
  pub done : Done lists (λ d. listings count) a b
  pub at : Over (λ t. At count (device_of t)) a.told

pub listing_begins : (lists : List (List InstructionEntry)) (a : Seen) → Done lists (λ d. []) a a → Listing lists 0 a a
unfolding after_steps
listing_begins lists a done = record {
  done = done;
  at = everywhere _ a.told (λ t. record { cursor = omega arith; store = refl; within = inl refl });
}

next_is : (count : ℕ) (d : Device) → after_steps (listings (count + 1)) d ≡ after_step list (after_steps (listings count) d)
unfolding after_steps
next_is count d = ap (λ (steps : List Step). after_steps steps d) (sym (listings_both count 1)) ∙ after_both (listings count) (list ∷ []) d

module _ (count value : ℕ) (d : Device) (at : At count d)
    (one : Listed (after_steps (listings count) d) (after_step list (after_steps (listings count) d)) value) where
  there : (value ≡ all_ones → ⊥) → slice_get (ids d.store) (d.cursor + count) ≡ Some value
  there not_end = subst (λ (rs : List Stored). slice_get (ids rs) (d.cursor + count) ≡ Some value) at.store
      (subst (λ (n : ℕ). slice_get (ids (after_steps (listings count) d).store) n ≡ Some value) at.cursor (one.within not_end).0)

  at_next : (value ≡ all_ones → ⊥) → At (count + 1) d
  at_next not_end =
      let inside = slice_get_within (ids d.store) (d.cursor + count) value (there not_end) in
      record {
        cursor = ap (λ (x : Device). x.cursor) (next_is count d) ∙ (let e = (one.within not_end).1 in omega (arith, e, at.cursor));
        store = ap (λ (x : Device). x.store) (next_is count d) ∙ one.store ∙ at.store;
        within = inr (omega (arith, inside, length-ids d.store));
      }

  at_end : value ≡ all_ones → count + 1 ≡ left_to_list d
  at_end end =
      let past : length d.store ≤ d.cursor + count =
      subst (λ (rs : List Stored). length rs ≤ d.cursor + count) at.store
      (subst (λ (n : ℕ). length (after_steps (listings count) d).store ≤ n) at.cursor (one.past end).0) in
      elim at.within [ inl none ↦ omega (arith, none, past) | inr within ↦ omega (arith, within, past) ]

  end_cursor : value ≡ all_ones → (after_steps (listings (count + 1)) d).cursor ≡ 0
  end_cursor end = ap (λ (x : Device). x.cursor) (next_is count d) ∙ (one.past end).1

  end_store : (after_steps (listings (count + 1)) d).store ≡ d.store
  end_store = ap (λ (x : Device). x.store) (next_is count d) ∙ one.store ∙ at.store

module _ (lists : List (List InstructionEntry)) (count : ℕ) (a b c : Seen) (listing : Listing lists count a b) where
  one_fails : FailsIn lists (λ d. list ∷ []) b c → FailsIn lists (λ d. listings (count + 1)) a c
  one_fails fails = fails_as lists (λ d. listings count ++ list ∷ []) (λ d. listings (count + 1)) a c
      (everywhere _ a.told (λ t. ([], append-nil (listings count ++ list ∷ []) ∙ listings_both count 1)))
      (fails_then lists (λ d. listings count) (λ d. list ∷ []) a b c listing.done fails)

  pub list_fails : (p : Plan) → Over (λ t. IsBeginning (listings (count + 1)) (p (device_of t))) a.told → FailsIn lists (λ d. list ∷ []) b c → FailsQuietly lists p a c
  list_fails p begins fails =
      let all = one_fails fails in
      record {
        fails = fails_more (StoreIn (λ d. listings (count + 1)) a.told) (Quietly a.told) (quiet (count + 1) a.told) a c all.fails;
        cut = cut_as lists (λ d. listings (count + 1)) p a.told c.told begins all.cut;
      }

  to_end : Over (λ t. IsBeginning (listings (count + 1)) (listings (left_to_list (device_of t)))) a.told
  to_end = over_more _ _ a.told listing.at (λ t at. begins_listings (count + 1) (left_to_list (device_of t)) (at_left count (device_of t) at))

  pub to_most : count < most_records → Over (λ t. IsBeginning (listings (count + 1)) (listings (min (left_to_list (device_of t)) most_records))) a.told
  to_most inside = over_more _ _ a.told listing.at (λ t at.
      (let fits = at_left count (device_of t) at in begins_listings (count + 1) (min (left_to_list (device_of t)) most_records) (omega (arith, fits, inside))))

  pub list_refused : (e : DriverRefused) → Acts lists (without_input get_record_identifier) (Err e) b c → ListsOut lists (Err e) a c
  list_refused Register acts = list_fails (λ d. listings (left_to_list d)) to_end acts
  list_refused Busy acts = absurd acts
  list_refused (Status code) acts = absurd acts
  list_refused NoMemory acts = absurd acts

  module _ (value : ℕ) (acted : Acted lists (without_input get_record_identifier) value b c) where
    listed_here : Over (λ t. Listed (after_steps (listings count) (device_of t)) (after_step list (after_steps (listings count) (device_of t))) value) a.told
    listed_here = over_both _ _ _ a.told listing.done.tells (over_after lists (λ d. listings count) a b listing.done (λ d. value ≡ answer_after get_record_identifier 0 d) acted.gives)
        (λ t tells is. subst (λ (n : ℕ). Listed (after_steps (listings count) (device_of t)) (after_step list (after_steps (listings count) (device_of t))) n) (sym is)
        (listed (after_steps (listings count) (device_of t)) tells.is))

    pub next_done : Done lists (λ d. listings (count + 1)) a c
    next_done = done_as lists (λ d. listings count ++ list ∷ []) (λ d. listings (count + 1)) a c (everywhere _ a.told (λ t. listings_both count 1))
        (done_then lists (λ d. listings count) (λ d. list ∷ []) a b c listing.done acted.done)

    pub listing_next : (value ≡ all_ones → ⊥) → Listing lists (count + 1) a c
    listing_next not_end = record {
      done = next_done;
      at = over_both _ _ _ a.told listing.at listed_here (λ t at one. at_next count value (device_of t) at one not_end);
    }

    left : value ≡ all_ones → Over (λ t. count + 1 ≡ left_to_list (device_of t)) a.told
    left end = over_both _ _ _ a.told listing.at listed_here (λ t at one. at_end count value (device_of t) at one end)

    pub listing_ends : value ≡ all_ones → EndsListing lists a c
    listing_ends end = record {
      done = done_as lists (λ d. listings (count + 1)) (λ d. listings (left_to_list d)) a c (over_more _ _ a.told (left end) (λ t is. ap listings is)) next_done;
      cursor = over_both _ _ _ a.told listing.at listed_here (λ t at one.
          subst (λ (n : ℕ). (after_steps (listings n) (device_of t)).cursor ≡ 0) (at_end count value (device_of t) at one end) (end_cursor count value (device_of t) at one end));
      store = over_both _ _ _ a.told listing.at listed_here (λ t at one.
          subst (λ (n : ℕ). (after_steps (listings n) (device_of t)).store ≡ t.here.store) (at_end count value (device_of t) at one end) (end_store count value (device_of t) at one));
    }

-- A store has fewer records than that.
pub listing_gives_up : (lists : List (List InstructionEntry)) (count : ℕ) (a b : Seen) → Listing lists count a b → count ≡ most_records + 1 → EndsListing lists a b
listing_gives_up lists count a b listing is = record {
  done = done_as lists (λ d. listings count) (λ d. listings (left_to_list d)) a b (over_more _ _ a.told never (λ t no_more. absurd no_more)) listing.done;
  cursor = over_more _ _ a.told never (λ t no_more. absurd no_more);
  store = over_more _ _ a.told never (λ t no_more. absurd no_more);
}
  where
    never : Over (λ t. ⊥) a.told
    never = over_device _ _ a.told listing.at (λ t device at.
        (let count_is = device.store.count in elim at.within [ inl none ↦ omega (arith, none, is) | inr within ↦ omega (arith, within, is, count_is) ]))

-- ---- identifiers that are collected

pub record Collecting (lists : List (List InstructionEntry)) (count : ℕ) (found : List ℕ) (a b : Seen) : Type 0 where
  pub listing : Listing lists count a b
  pub few : length found ≤ count
  pub found_is : Over (λ t. found ≡ take count (drop (device_of t).cursor (ids t.here.store))) a.told

pub collecting_begins : (lists : List (List InstructionEntry)) (a : Seen) → Done lists (λ d. []) a a → Collecting lists 0 [] a a
collecting_begins lists a done = record { listing = listing_begins lists a done; few = omega arith; found_is = everywhere _ a.told (λ t. refl) }

take_all : (count : ℕ) (xs : List ℕ) → length xs ≤ count → take count xs ≡ xs
take_all zero [] fits = refl
take_all (suc count) [] fits = refl
take_all zero (x ∷ xs) fits = absurd (omega (arith, fits))
take_all (suc count) (x ∷ xs) fits = ap (λ (ys : List ℕ). x ∷ ys) (take_all count xs (omega (arith, fits)))

take_next : (count start x : ℕ) (xs : List ℕ) → slice_get xs (start + count) ≡ Some x → take (suc count) (drop start xs) ≡ take count (drop start xs) ++ x ∷ []
take_next count start x [] is = absurd cc
take_next zero zero x (y ∷ xs) is = let same : y ≡ x = cc in ap (λ (z : ℕ). z ∷ []) same
take_next (suc count) zero x (y ∷ xs) is =
    ap (λ (zs : List ℕ). y ∷ zs) (take_next count zero x xs (let e : 0 + suc count ≡ suc (0 + count) = omega arith in subst (λ (n : ℕ). slice_get (y ∷ xs) n ≡ Some x) e is))
take_next count (suc start) x (y ∷ xs) is =
    take_next count start x xs (let e : suc start + count ≡ suc (start + count) = omega arith in subst (λ (n : ℕ). slice_get (y ∷ xs) n ≡ Some x) e is)

module _ (lists : List (List InstructionEntry)) (count : ℕ) (found : List ℕ) (a b c : Seen) (collecting : Collecting lists count found a b) where
  pub collect_refused : {X : Type 0} (view : X → List ℕ) (inside : count < most_records) (e : DriverRefused) → Acts lists (without_input get_record_identifier) (Err e) b c
      → Collects {X = X} view lists (Err e) a c
  collect_refused view inside Register acts =
      list_fails lists count a b c collecting.listing (λ d. listings (min (left_to_list d) most_records)) (to_most lists count a b c collecting.listing inside) acts
  collect_refused view inside Busy acts = absurd acts
  collect_refused view inside (Status code) acts = absurd acts
  collect_refused view inside NoMemory acts = absurd acts

  module _ (value : ℕ) (acted : Acted lists (without_input get_record_identifier) value b c) where
    here : Over (λ t. Listed (after_steps (listings count) (device_of t)) (after_step list (after_steps (listings count) (device_of t))) value) a.told
    here = listed_here lists count a b c collecting.listing value acted

    pub collect_starves : count < most_records → IsAdmittedTable lists → Starves lists (λ d. listings (min (left_to_list d) most_records)) a c
    collect_starves inside admitted =
        let done = next_done lists count a b c collecting.listing value acted in
        record {
          well = well_more (StoreIn (λ d. listings (count + 1)) a.told) (Quietly a.told) (quiet (count + 1) a.told) a c done.well;
          begun = begun_of lists (λ d. listings (count + 1)) (λ d. listings (min (left_to_list d) most_records)) a c
              (to_most lists count a b c collecting.listing inside) (λ d. listing_calls lists count d admitted) done;
        }

    pub collecting_next : (value ≡ all_ones → ⊥) → Collecting lists (count + 1) (found ++ value ∷ []) a c
    collecting_next not_end = record {
      listing = listing_next lists count a b c collecting.listing value acted not_end;
      few = omega (arith, collecting.few, length-append found (value ∷ []));
      found_is = over_both _ _ _ a.told (over_both (λ t. At count (device_of t)) _ (λ t. slice_get (ids t.here.store) ((device_of t).cursor + count) ≡ Some value) a.told collecting.listing.at here
          (λ t at one. there count value (device_of t) at one not_end)) collecting.found_is
          (λ t next is. ap (λ (xs : List ℕ). xs ++ value ∷ []) is ∙ sym (take_next count (device_of t).cursor value (ids t.here.store) next)
          ∙ (let e : suc count ≡ count + 1 = omega arith in ap (λ (n : ℕ). take n (drop (device_of t).cursor (ids t.here.store))) e));
    }

    pub collect_ends : value ≡ all_ones → count < most_records → Collected lists found a c
    collect_ends end inside = record {
      done = done_as lists (λ d. listings (count + 1)) (λ d. listings (min (left_to_list d) most_records)) a c
          (over_more _ _ a.told (left lists count a b c collecting.listing value acted end) (λ t is. ap listings (omega (arith, is, inside))))
          (next_done lists count a b c collecting.listing value acted);
      few = omega (arith, collecting.few, inside);
      found_is = over_both _ _ _ a.told (left lists count a b c collecting.listing value acted end) collecting.found_is
          (λ t is found_is.
          (let rest = drop (device_of t).cursor (ids t.here.store) in
          let size : length rest ≡ length t.here.store - (device_of t).cursor = length-drop (device_of t).cursor (ids t.here.store) ∙ ap (λ (n : ℕ). n - (device_of t).cursor) (length-ids t.here.store) in
          found_is ∙ take_all count rest (omega (arith, size, is)) ∙ sym (take_all most_records rest (omega (arith, size, is, inside)))));
    }

pub collect_full : (lists : List (List InstructionEntry)) (count : ℕ) (found : List ℕ) (a b : Seen) → Collecting lists count found a b → count ≡ most_records → Collected lists found a b
collect_full lists count found a b collecting is = record {
  done = done_as lists (λ d. listings count) (λ d. listings (min (left_to_list d) most_records)) a b
      (over_more _ _ a.told collecting.listing.at (λ t at. ap listings
      (elim at.within [ inl none ↦ absurd (omega (arith, none, is)) | inr within ↦ omega (arith, within, is) ]))) collecting.listing.done;
  few = omega (arith, collecting.few, is);
  found_is = over_more _ _ a.told collecting.found_is (λ t found_is. found_is ∙ ap (λ (n : ℕ). take n (drop (device_of t).cursor (ids t.here.store))) is);
}

-- ---- all identifiers

module _ (lists : List (List InstructionEntry)) (a b c : Seen) (ends : EndsListing lists a b) where
  quiet_both : (x y z : List Stored) → StoreIn (λ d. listings (left_to_list d)) a.told x y → Quietly b.told y z → Quietly a.told x z
  quiet_both x y z one two = by a.told ends.done.tells ends.store one
    where
      by : (o : Option Told) → Over (λ t. Tells lists (listings (left_to_list (device_of t))) t b.told) o
          → Over (λ t. (after_steps (listings (left_to_list (device_of t))) (device_of t)).store ≡ t.here.store) o
          → StoreIn (λ d. listings (left_to_list d)) o x y → Quietly o x z
      by None tells store one = tt
      by (Some t) tells store one = λ device.
          (let is = tells device in
          let u = told_by lists (listings (left_to_list (device_of t))) t in
          let there : IsDevice (device_of u) = subst IsDevice (sym is.device) is.is in
          let next = subst (λ (o : Option Told). Quietly o y z) is.told two in
          elim (next there) [
            | inl same ↦ elim (one device) [
              | inl old ↦ inl (same ∙ old)
              | inr through ↦ inr (same ∙ through_listings (left_to_list (device_of t)) (device_of t) y through)
            ]
            | inr told ↦ inr (told ∙ ap (λ (d : Device). d.store) is.device ∙ store device)
          ])

  quiet_first : (x y : List Stored) → StoreIn (λ d. listings (left_to_list d)) a.told x y → Quietly a.told x y
  quiet_first x y one = by a.told one
    where
      by : (o : Option Told) → StoreIn (λ d. listings (left_to_list d)) o x y → Quietly o x y
      by None one = tt
      by (Some t) one = λ device. elim (one device) [ inl same ↦ inl same | inr through ↦ inr (through_listings (left_to_list (device_of t)) (device_of t) y through) ]

  goes_on : GoesWell (Quietly b.told) b c → GoesWell (Quietly a.told) a c
  goes_on well = well_both (StoreIn (λ d. listings (left_to_list d)) a.told) (Quietly a.told) quiet_first (Quietly b.told) quiet_both a b c ends.done.well well

  -- The listing starts again.
  same_steps : Over (λ t. both_plans (λ d. listings (left_to_list d)) (λ d. listings (min (left_to_list d) most_records)) (device_of t) ≡ ids_steps (device_of t)) a.told
  same_steps = over_both _ _ _ a.told ends.cursor ends.store
      (λ t cursor store. ap (λ (n : ℕ). listings (left_to_list (device_of t)) ++ listings (min n most_records)) (anew (device_of t) cursor store))
    where
      anew : (d : Device) → (after_steps (listings (left_to_list d)) d).cursor ≡ 0 → (after_steps (listings (left_to_list d)) d).store ≡ d.store
          → left_to_list (after_steps (listings (left_to_list d)) d) ≡ length d.store + 1
      anew d cursor store = let size = ap (λ (rs : List Stored). length rs) store in omega (arith, size, cursor)

  all_done : Done lists (λ d. listings (min (left_to_list d) most_records)) b c → Done lists ids_steps a c
  all_done done = done_as lists (both_plans (λ d. listings (left_to_list d)) (λ d. listings (min (left_to_list d) most_records))) ids_steps a c same_steps
      (done_then lists (λ d. listings (left_to_list d)) (λ d. listings (min (left_to_list d) most_records)) a b c ends.done done)

  all_cut : CutIn lists (λ d. listings (min (left_to_list d) most_records)) b.told c.told → CutIn lists ids_steps a.told c.told
  all_cut cut = cut_as lists (both_plans (λ d. listings (left_to_list d)) (λ d. listings (min (left_to_list d) most_records))) ids_steps a.told c.told
      (over_more _ _ a.told same_steps (λ t same. ([], append-nil _ ∙ same)))
      (cut_then lists (λ d. listings (left_to_list d)) (λ d. listings (min (left_to_list d) most_records)) a b c ends.done c.told cut)

  all_begun : Over (λ t. Begins (device_calls lists (listings (min (left_to_list (device_of t)) most_records)) (device_of t)) t c.told) b.told
      → Over (λ t. Begins (device_calls lists (ids_steps (device_of t)) (device_of t)) t c.told) a.told
  all_begun begun = over_both _ _ _ a.told same_steps
      (begun_then lists (λ d. listings (left_to_list d)) (λ d. listings (min (left_to_list d) most_records)) a b c ends.done c.told begun)
      (λ t same is. subst (λ (steps : List Step). Begins (device_calls lists steps (device_of t)) t c.told) same is)

  all_found : (found : List ℕ) → Over (λ t. found ≡ take most_records (drop (device_of t).cursor (ids t.here.store))) b.told → Over (λ t. found ≡ ids t.here.store) a.told
  all_found found over = over_both_device _ _ _ a.told (over_both (λ t. (after_steps (listings (left_to_list (device_of t))) (device_of t)).cursor ≡ 0) _
      (λ t. found ≡ take most_records (ids (after_steps (listings (left_to_list (device_of t))) (device_of t)).store)) a.told ends.cursor
      (over_after lists (λ d. listings (left_to_list d)) a b ends.done (λ d. found ≡ take most_records (drop d.cursor (ids d.store))) over)
      (λ t cursor is. is ∙ ap (λ (n : ℕ). take most_records (drop n (ids (after_steps (listings (left_to_list (device_of t))) (device_of t)).store))) cursor)) ends.store
      (λ t device is store. (let count_is = device.store.count in
      is ∙ ap (λ (rs : List Stored). take most_records (ids rs)) store ∙ take_all most_records (ids t.here.store) (omega (arith, count_is, length-ids t.here.store))))

  pub lists_then : {X : Type 0} (view : X → List ℕ) (result : Result X DriverRefused) → Collects view lists result b c → ListsAll view lists result a c
  lists_then view (Ok found) collected = record { done = all_done collected.done; few = collected.few; found_is = all_found (view found) collected.found_is }
  lists_then view (Err Register) fails = record {
    fails = well_fails (StoreIn (λ d. listings (left_to_list d)) a.told) (Quietly a.told) quiet_first (Quietly b.told) quiet_both a b c ends.done.well fails.fails;
    cut = all_cut fails.cut;
  }
  lists_then view (Err Busy) collected = absurd collected
  lists_then view (Err (Status code)) collected = absurd collected
  lists_then view (Err NoMemory) starves = record { well = goes_on starves.well; begun = all_begun starves.begun }

pub lists_refused : {X : Type 0} (view : X → List ℕ) (lists : List (List InstructionEntry)) (a b : Seen) (e : DriverRefused) → ListsOut lists (Err e) a b → ListsAll {X = X} view lists (Err e) a b
lists_refused view lists a b Register fails = record {
  fails = fails.fails;
  cut = cut_as lists (λ d. listings (left_to_list d)) ids_steps a.told b.told
      (everywhere _ a.told (λ t. (listings (min (length t.here.store + 1) most_records), refl))) fails.cut;
}
lists_refused view lists a b Busy is = absurd is
lists_refused view lists a b (Status code) is = absurd is
lists_refused view lists a b NoMemory is = absurd is

-- ---- what is said of it

module _ {X : Type 0} (view : X → List ℕ) (lists : List (List InstructionEntry)) (a b : Seen) where
  pub all_ids : (result : Result X DriverRefused) → HasDevice lists a.told → ListsAll view lists result a b → IfOk result (λ v. IfSome a.told (λ t. view v ≡ ids t.here.store))
  all_ids (Ok found) device all = over_told lists _ a.told device all.found_is
  all_ids (Err why) device all = tt

  pub all_few : (result : Result X DriverRefused) → ListsAll view lists result a b → IfOk result (λ v. length (view v) ≤ most_records)
  all_few (Ok found) all = all.few
  all_few (Err why) all = tt

  pub all_told : (result : Result X DriverRefused) → ListsAll view lists result a b → Over (λ t. Leaves result t b.told (list_calls lists (device_of t))) a.told
  all_told (Ok found) all = over_more _ _ a.told all.done.tells (λ t tells. tells.told)
  all_told (Err Register) all = all.cut
  all_told (Err Busy) all = absurd all
  all_told (Err (Status code)) all = absurd all
  all_told (Err NoMemory) all = all.begun

  pub all_refused : (result : Result X DriverRefused) → ListsAll view lists result a b → IsMemoryOnly result
  all_refused (Ok found) all = tt
  all_refused (Err Register) all = tt
  all_refused (Err Busy) all = absurd all
  all_refused (Err (Status code)) all = absurd all
  all_refused (Err NoMemory) all = tt

  pub all_kept : (result : Result X DriverRefused) → ListsAll view lists result a b → Relates KeepsButDevice a.told b.told
  all_kept (Ok found) all = all.done.well.kept
  all_kept (Err Register) all = all.fails.kept
  all_kept (Err Busy) all = absurd all
  all_kept (Err (Status code)) all = absurd all
  all_kept (Err NoMemory) all = all.well.kept

  pub all_cause : (result : Result X DriverRefused) → ListsAll view lists result a b → HasCauseIn result a.faults b.faults
  all_cause (Ok found) all = all.done.well.faults
  all_cause (Err Register) all = all.fails.raises
  all_cause (Err Busy) all = absurd all
  all_cause (Err (Status code)) all = absurd all
  all_cause (Err NoMemory) all = all.well.faults

  pub all_stored : (result : Result X DriverRefused) → ListsAll view lists result a b → KeepsStored result a b
  all_stored (Ok found) all = all.done.well.stored
  all_stored (Err Register) all = tt
  all_stored (Err Busy) all = absurd all
  all_stored (Err (Status code)) all = absurd all
  all_stored (Err NoMemory) all = all.well.stored

  quiet_ids : (o : Option Told) (x y : List Stored) → StoreIn ids_steps o x y → Quietly o x y
  quiet_ids None x y is = tt
  quiet_ids (Some t) x y is = λ device. elim (is device) [
    | inl same ↦ inl same
    | inr through ↦ inr (through_listings (left_to_list (device_of t) + min (length t.here.store + 1) most_records) (device_of t) y
        (rw (sym (listings_both (left_to_list (device_of t)) (min (length t.here.store + 1) most_records))) through))
  ]

  all_stops : (result : Result X DriverRefused) → ListsAll view lists result a b → Passes (InStore (Quietly a.told)) a.clock b.clock
  all_stops (Ok found) all = (well_more (StoreIn ids_steps a.told) (Quietly a.told) (quiet_ids a.told) a b all.done.well).stops
  all_stops (Err Register) all = all.fails.stops
  all_stops (Err Busy) all = absurd all
  all_stops (Err (Status code)) all = absurd all
  all_stops (Err NoMemory) all = all.well.stops

  stays : (o : Option Told) (x y : List Stored) → IfSome o (λ t. IsDevice (device_of t)) → ((t : Told) → o ≡ Some t → x ≡ t.here.store) → Quietly o x y → Stays o x y
  stays None x y device law is = tt
  stays (Some t) x y device law is = elim (is device) [ inl same ↦ same | inr told ↦ told ∙ sym (law t refl) ]

  pub all_stays : (result : Result X DriverRefused) → HasDevice lists a.told → ListsAll view lists result a b → StoreIsLeft a.told a.clock
      → Passes (InStore (Stays a.told)) a.clock b.clock
  all_stays result device all law = passes_at (Quietly a.told) (Stays a.told) a.told a.clock b.clock law (λ x y. stays a.told x y device.device) (all_stops result all)
