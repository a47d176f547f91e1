-- The laws of tables, which other crates use too.
use Rattle.std.proofs.Common.{◌≡◌, ◌<◌, Bool, true, false, cond, if◌then◌else◌, ◌||◌, List, [], ◌∷◌, ◌++◌, length, map, Option, None, Some, refl, sym, ap, ◌∙◌, append_assoc, append-nil, true≢false, unwrap_or, arith}
use Rattle.std.specs.List.{list_any, filter_map, IsDistinct, AllByRecursion}
use Rattle.std.specs.Map.{keys_of, lookup}
use Rattle.std.specs.Option.{option_map_or}
use Rattle.std.proofs.lemmas.List.Elements.{filter-append, filter_map-append}
use Rattle.std.proofs.lemmas.List.Folds.{list_any-append}
pub use Rattle.indexmap.proofs.CallerLemmas.{Contains-list_any}
use Rattle.row_tables.specs.Tables.{added_keys, distinct_keys, is_key, of_key, table, updated_rows, table_after}

-- b: whether a key is among the earlier ones; t: whether it is this one; r and s: whether it is
-- among two lists
step_new : (b t r s : Bool) → ((b || (t || false)) || r) ≡ ((b || (t || false)) || s) → (b || (t || r)) ≡ (b || (t || s))
step_new true t r s h = refl
step_new false true r s h = refl
step_new false false r s h = h

step_known : (b t r s : Bool) → (t ≡ true → b ≡ true) → (b || r) ≡ (b || s) → (b || r) ≡ (b || (t || s))
step_known true t r s known h = refl
step_known false true r s known h = absurd (true≢false (sym (known refl)))
step_known false false r s known h = h

or_false : (b : Bool) → (b || false) ≡ b
or_false true = refl
or_false false = refl

or_left : (b c : Bool) → b ≡ true → (b || c) ≡ true
or_left true c is = refl
or_left false c is = absurd (true≢false (sym is))

or_right : (b : Bool) → (b || true) ≡ true
or_right true = refl
or_right false = refl

-- `same` says whether two keys are equal.
module _ {K : Type 0} (same : K → K → Bool) (exact : (x y : K) → same x y ≡ true → x ≡ y) (own : (x : K) → same x x ≡ true) where
  -- No key is in the list twice.
  abbrev pub Once : List K → Type 0
  Once [] = Unit {0}
  Once (k ∷ ks) = (list_any (same k) ks ≡ false) × Once ks

  other_way : (j k : K) → same k j ≡ false → same j k ≡ false
  other_way j k apart = by (same j k) refl
    where
      by : (b : Bool) → same j k ≡ b → b ≡ false
      by true is = absurd (true≢false (sym (own k) ∙ ap (same k) (sym (exact j k is)) ∙ apart))
      by false is = refl

  pub added-append : (held ks js : List K) → added_keys same held (ks ++ js) ≡ added_keys same held ks ++ added_keys same (held ++ added_keys same held ks) js
  added-append held [] js = ap (λ before. added_keys same before js) (sym (append-nil held))
  added-append held (k ∷ ks) js = by (list_any (same k) held) (added-append held ks js) (added-append (held ++ k ∷ []) ks js)
    where
      later : List K
      later = added_keys same (held ++ k ∷ []) ks

      by : (b : Bool) → added_keys same held (ks ++ js) ≡ added_keys same held ks ++ added_keys same (held ++ added_keys same held ks) js
          → added_keys same (held ++ k ∷ []) (ks ++ js) ≡ later ++ added_keys same ((held ++ k ∷ []) ++ later) js
          → (if b then added_keys same held (ks ++ js) else k ∷ added_keys same (held ++ k ∷ []) (ks ++ js))
          ≡ (if b then added_keys same held ks else k ∷ later) ++ added_keys same (held ++ (if b then added_keys same held ks else k ∷ later)) js
      by true known new = known
      by false known new = ap (λ rest. k ∷ rest) (new ∙ ap (λ before. later ++ added_keys same before js) (append_assoc held (k ∷ []) later))

  -- A key is in the list with the added keys if and only if it is in one of the two lists.
  pub any-added : (k : K) (held ks : List K) → (list_any (same k) held || list_any (same k) (added_keys same held ks)) ≡ (list_any (same k) held || list_any (same k) ks)
  any-added k held [] = refl
  any-added k held (j ∷ js) =
      by (list_any (same j) held) refl (any-added k held js)
      (ap (λ b. b || list_any (same k) (added_keys same (held ++ j ∷ []) js)) (sym (list_any-append (same k) held (j ∷ []))) ∙ any-added k (held ++ j ∷ []) js ∙ ap (λ b. b || list_any (same k) js) (list_any-append (same k) held (j ∷ [])))
    where
      H : Bool
      H = list_any (same k) held

      by : (b : Bool) → list_any (same j) held ≡ b → (H || list_any (same k) (added_keys same held js)) ≡ (H || list_any (same k) js)
          → ((H || (same k j || false)) || list_any (same k) (added_keys same (held ++ j ∷ []) js)) ≡ ((H || (same k j || false)) || list_any (same k) js)
          → (H || list_any (same k) (if b then added_keys same held js else j ∷ added_keys same (held ++ j ∷ []) js)) ≡ (H || (same k j || list_any (same k) js))
      by true known ih new = step_known H (same k j) _ _ (λ is. ap (λ x. list_any (same x) held) (exact k j is) ∙ known) ih
      by false fresh ih new = step_new H (same k j) _ _ new

  pub any-distinct : (k : K) (ks : List K) → list_any (same k) (distinct_keys same ks) ≡ list_any (same k) ks
  any-distinct k ks = any-added k [] ks

  -- A key that has a row isn't added.
  none-added : (k : K) (held ks : List K) → list_any (same k) held ≡ true → list_any (same k) (added_keys same held ks) ≡ false
  none-added k held [] there = refl
  none-added k held (j ∷ js) there =
      by (list_any (same j) held) refl (none-added k held js there)
      (none-added k (held ++ j ∷ []) js (list_any-append (same k) held (j ∷ []) ∙ or_left _ _ there))
    where
      by : (b : Bool) → list_any (same j) held ≡ b → list_any (same k) (added_keys same held js) ≡ false
          → list_any (same k) (added_keys same (held ++ j ∷ []) js) ≡ false
          → list_any (same k) (if b then added_keys same held js else j ∷ added_keys same (held ++ j ∷ []) js) ≡ false
      by true known ih new = ih
      by false fresh ih new = at (same k j) refl
        where
          at : (b : Bool) → same k j ≡ b → (b || list_any (same k) (added_keys same (held ++ j ∷ []) js)) ≡ false
          at true is = absurd (true≢false (sym there ∙ ap (λ x. list_any (same x) held) (exact k j is) ∙ fresh))
          at false is = new

  pub once-added : (held ks : List K) → Once (added_keys same held ks)
  once-added held [] = tt
  once-added held (k ∷ ks) = by (list_any (same k) held) (once-added held ks)
      (none-added k (held ++ k ∷ []) ks (list_any-append (same k) held (k ∷ []) ∙ ap (λ b. list_any (same k) held || (b || false)) (own k) ∙ or_right _), once-added (held ++ k ∷ []) ks)
    where
      by : (b : Bool) → Once (added_keys same held ks) → Once (k ∷ added_keys same (held ++ k ∷ []) ks) → Once (if b then added_keys same held ks else k ∷ added_keys same (held ++ k ∷ []) ks)
      by true known new = known
      by false known new = new

  -- The keys of a list with one more key.
  pub distinct-known : (ks : List K) (k : K) → list_any (same k) ks ≡ true → distinct_keys same (ks ++ k ∷ []) ≡ distinct_keys same ks
  distinct-known ks k there =
      added-append [] ks (k ∷ []) ∙ ap (λ b. distinct_keys same ks ++ (if b then [] else k ∷ [])) (any-distinct k ks ∙ there) ∙ append-nil (distinct_keys same ks)

  pub distinct-new : (ks : List K) (k : K) → list_any (same k) ks ≡ false → distinct_keys same (ks ++ k ∷ []) ≡ distinct_keys same ks ++ k ∷ []
  distinct-new ks k fresh =
      added-append [] ks (k ∷ []) ∙ ap (λ b. distinct_keys same ks ++ (if b then [] else k ∷ [])) (any-distinct k ks ∙ fresh)

  -- the look-up of a key among keys with their rows
  pub lookup-keyed : {R : Type 0} (f : K → R) (k : K) (ks : List K) → lookup (same k) (map {B = K × R} (λ j. (j, f j)) ks) ≡ cond (list_any (same k) ks) (Some (f k)) None
  lookup-keyed f k [] = refl
  lookup-keyed {R} f k (j ∷ js) = by (same k j) refl (lookup-keyed f k js)
    where
      by : (b : Bool) → same k j ≡ b → lookup (same k) (map {B = K × R} (λ j. (j, f j)) js) ≡ cond (list_any (same k) js) (Some (f k)) None
          → cond b (Some (f j)) (lookup (same k) (map {B = K × R} (λ j. (j, f j)) js)) ≡ cond (b || list_any (same k) js) (Some (f k)) None
      by true is ih = ap (λ x. Some (f x)) (sym (exact k j is))
      by false is ih = ih

  -- Rows that differ only at one key.
  module _ {R : Type 0} (f g : K → R) (k : K) (elsewhere : (j : K) → same k j ≡ false → g j ≡ f j) where
    apart : (js : List K) → list_any (same k) js ≡ false → map {B = K × R} (λ j. (j, g j)) js ≡ map {B = K × R} (λ j. (j, f j)) js
    apart [] none = refl
    apart (j ∷ js) none = by (same k j) refl none (apart js)
      where
        by : (b : Bool) → same k j ≡ b → (b || list_any (same k) js) ≡ false
            → (list_any (same k) js ≡ false → map {B = K × R} (λ j. (j, g j)) js ≡ map {B = K × R} (λ j. (j, f j)) js)
            → map {B = K × R} (λ j. (j, g j)) (j ∷ js) ≡ map {B = K × R} (λ j. (j, f j)) (j ∷ js)
        by true is h ih = absurd (true≢false h)
        by false is h ih = λ i. (j, elsewhere j is i) ∷ ih h i

    updated-known : (new : R) (change : R → R) → g k ≡ change (f k) → (js : List K) → Once js → list_any (same k) js ≡ true
        → map {B = K × R} (λ j. (j, g j)) js ≡ updated_rows same k new change (map {B = K × R} (λ j. (j, f j)) js)
    updated-known new change here [] once there = absurd (true≢false (sym there))
    updated-known new change here (j ∷ js) once there = by (same k j) refl there (updated-known new change here js once.1)
      where
        by : (b : Bool) → same k j ≡ b → (b || list_any (same k) js) ≡ true
            → (list_any (same k) js ≡ true → map {B = K × R} (λ j. (j, g j)) js ≡ updated_rows same k new change (map {B = K × R} (λ j. (j, f j)) js))
            → map {B = K × R} (λ j. (j, g j)) (j ∷ js) ≡ (if b then (j, change (f j)) ∷ map {B = K × R} (λ j. (j, f j)) js else (j, f j) ∷ updated_rows same k new change (map {B = K × R} (λ j. (j, f j)) js))
        by true is h ih =
            let at : k ≡ j = exact k j is in
            let row : g j ≡ change (f j) = ap g (sym at) ∙ here ∙ ap (λ x. change (f x)) at in
            let rest : map {B = K × R} (λ j. (j, g j)) js ≡ map {B = K × R} (λ j. (j, f j)) js = apart js (ap (λ x. list_any (same x) js) at ∙ once.0) in
            λ i. (j, row i) ∷ rest i
        by false is h ih = λ i. (j, elsewhere j is i) ∷ ih h i

    updated-new : (new : R) (change : R → R) → g k ≡ new → (js : List K) → list_any (same k) js ≡ false
        → map {B = K × R} (λ j. (j, g j)) (js ++ k ∷ []) ≡ updated_rows same k new change (map {B = K × R} (λ j. (j, f j)) js)
    updated-new new change here [] none = λ i. (k, here i) ∷ []
    updated-new new change here (j ∷ js) none = by (same k j) refl none (updated-new new change here js)
      where
        by : (b : Bool) → same k j ≡ b → (b || list_any (same k) js) ≡ false
            → (list_any (same k) js ≡ false → map {B = K × R} (λ j. (j, g j)) (js ++ k ∷ []) ≡ updated_rows same k new change (map {B = K × R} (λ j. (j, f j)) js))
            → map {B = K × R} (λ j. (j, g j)) ((j ∷ js) ++ k ∷ []) ≡ (if b then (j, change (f j)) ∷ map {B = K × R} (λ j. (j, f j)) js else (j, f j) ∷ updated_rows same k new change (map {B = K × R} (λ j. (j, f j)) js))
        by true is h ih = absurd (true≢false h)
        by false is h ih = λ i. (j, elsewhere j is i) ∷ ih h i

  -- Keys with their rows, if a list has one more key and only its row differs.
  pub keyed-more : {R : Type 0} (f g : K → R) (k : K) (new : R) (change : R → R) (keys : List K)
      → ((j : K) → same k j ≡ false → g j ≡ f j)
      → (list_any (same k) keys ≡ true → g k ≡ change (f k))
      → (list_any (same k) keys ≡ false → g k ≡ new)
      → map {B = K × R} (λ j. (j, g j)) (distinct_keys same (keys ++ k ∷ [])) ≡ updated_rows same k new change (map {B = K × R} (λ j. (j, f j)) (distinct_keys same keys))
  keyed-more {R} f g k new change keys elsewhere known fresh = by (list_any (same k) keys) refl
    where
      by : (b : Bool) → list_any (same k) keys ≡ b
          → map {B = K × R} (λ j. (j, g j)) (distinct_keys same (keys ++ k ∷ [])) ≡ updated_rows same k new change (map {B = K × R} (λ j. (j, f j)) (distinct_keys same keys))
      by true there =
          ap (λ ks. map {B = K × R} (λ j. (j, g j)) ks) (distinct-known keys k there)
          ∙ updated-known f g k elsewhere new change (known there) (distinct_keys same keys) (once-added [] keys) (any-distinct k keys ∙ there)
      by false none =
          ap (λ ks. map {B = K × R} (λ j. (j, g j)) ks) (distinct-new keys k none)
          ∙ updated-new f g k elsewhere new change (fresh none) (distinct_keys same keys) (any-distinct k keys ∙ none)

  pub keys-keyed : {R : Type 0} (f : K → R) (ks : List K) → keys_of (map {B = K × R} (λ k. (k, f k)) ks) ≡ ks
  keys-keyed f [] = refl
  keys-keyed f (k ∷ ks) = ap (λ rest. k ∷ rest) (keys-keyed f ks)

  -- The elements of a key in a list with one more element.
  module _ {X : Type 0} (key : X → Option K) (xs : List X) (x : X) where
    of_key-more : (k : K) (b : Bool) → is_key same k (key x) ≡ b → of_key same key (xs ++ x ∷ []) k ≡ of_key same key xs k ++ (if b then x ∷ [] else [])
    of_key-more k b is = filter-append (λ y. is_key same k (key y)) xs (x ∷ []) ∙ ap (λ c. of_key same key xs k ++ cond c (x ∷ []) []) is

    pub of_key-own : (k : K) → key x ≡ Some k → of_key same key (xs ++ x ∷ []) k ≡ of_key same key xs k ++ x ∷ []
    of_key-own k names = of_key-more k true (ap (is_key same k) names ∙ own k)

    of_key-other : (j k : K) → key x ≡ Some k → same k j ≡ false → of_key same key (xs ++ x ∷ []) j ≡ of_key same key xs j
    of_key-other j k names is = of_key-more j false (ap (is_key same j) names ∙ other_way j k is) ∙ append-nil (of_key same key xs j)

    of_key-none : (j : K) → key x ≡ None → of_key same key (xs ++ x ∷ []) j ≡ of_key same key xs j
    of_key-none j names = of_key-more j false (ap (is_key same j) names) ∙ append-nil (of_key same key xs j)

  -- A key has elements if and only if an element names it.
  module _ {X : Type 0} (key : X → Option K) (k : K) where
    pub of_key-unnamed : (xs : List X) → list_any (same k) (filter_map key xs) ≡ false → of_key same key xs k ≡ []
    of_key-unnamed [] none = refl
    of_key-unnamed (x ∷ xs) none = at (key x) refl none (of_key-unnamed xs)
      where
        at : (o : Option K) → key x ≡ o → list_any (same k) (filter_map key (x ∷ xs)) ≡ false → (list_any (same k) (filter_map key xs) ≡ false → of_key same key xs k ≡ [])
            → of_key same key (x ∷ xs) k ≡ []
        at None is h ih = rw is (ih (rw is at h))
        at (Some j) is h ih = rw is (by (same k j) (rw is at h) ih)
          where
            by : (b : Bool) → (b || list_any (same k) (filter_map key xs)) ≡ false → (list_any (same k) (filter_map key xs) ≡ false → of_key same key xs k ≡ [])
                → cond b (x ∷ of_key same key xs k) (of_key same key xs k) ≡ []
            by true h ih = absurd (true≢false h)
            by false h ih = ih h

    pub of_key-named : (xs : List X) → list_any (same k) (filter_map key xs) ≡ true → 0 < length (of_key same key xs k)
    of_key-named [] there = absurd (true≢false (sym there))
    of_key-named (x ∷ xs) there = at (key x) refl there (of_key-named xs)
      where
        at : (o : Option K) → key x ≡ o → list_any (same k) (filter_map key (x ∷ xs)) ≡ true → (list_any (same k) (filter_map key xs) ≡ true → 0 < length (of_key same key xs k))
            → 0 < length (of_key same key (x ∷ xs) k)
        at None is h ih = rw is (ih (rw is at h))
        at (Some j) is h ih = rw is (by (same k j) (rw is at h) ih)
          where
            by : (b : Bool) → (b || list_any (same k) (filter_map key xs)) ≡ true → (list_any (same k) (filter_map key xs) ≡ true → 0 < length (of_key same key xs k))
                → 0 < length (cond b (x ∷ of_key same key xs k) (of_key same key xs k))
            by true h ih = omega arith
            by false h ih = ih h

  -- The law: the table of a list with one more element is the table of the list, continued by the element, if a row is
  -- continued by one element.
  module _ {X R : Type 0} (key : X → Option K) (row : List X → R) (first : X → R) (more : R → X → R)
      (starts : (x : X) → row (x ∷ []) ≡ first x) (goes : (xs : List X) (x : X) → 0 < length xs → row (xs ++ x ∷ []) ≡ more (row xs) x) where
    pub table-more : (xs : List X) (x : X) → table same key row (xs ++ x ∷ []) ≡ table_after same key first more (table same key row xs) x
    table-more xs x = at (key x) refl
      where
        before : K → R
        before k = row (of_key same key xs k)

        after : K → R
        after k = row (of_key same key (xs ++ x ∷ []) k)

        keys : List K
        keys = filter_map key xs

        at : (o : Option K) → key x ≡ o → table same key row (xs ++ x ∷ []) ≡ table_after same key first more (table same key row xs) x
        at None is =
            let all : filter_map key (xs ++ x ∷ []) ≡ keys = filter_map-append key xs (x ∷ []) ∙ ap (λ ks. keys ++ ks) (rw is refl) ∙ append-nil keys in
            ap (λ ks. map {B = K × R} (λ k. (k, after k)) (distinct_keys same ks)) all
            ∙ ap (λ (f : K → R). map {B = K × R} (λ k. (k, f k)) (distinct_keys same keys)) (λ i k. row (of_key-none key xs x k is i))
            ∙ rw is refl
        at (Some k) is =
            let all : filter_map key (xs ++ x ∷ []) ≡ keys ++ k ∷ [] = filter_map-append key xs (x ∷ []) ∙ ap (λ ks. keys ++ ks) (rw is refl) in
            ap (λ ks. map {B = K × R} (λ j. (j, after j)) (distinct_keys same ks)) all
            ∙ by (list_any (same k) keys) refl
            ∙ rw is refl
          where
            elsewhere : (j : K) → same k j ≡ false → after j ≡ before j
            elsewhere j apart = ap row (of_key-other key xs x j k is apart)

            by : (b : Bool) → list_any (same k) keys ≡ b
                → map {B = K × R} (λ j. (j, after j)) (distinct_keys same (keys ++ k ∷ [])) ≡ updated_rows same k (first x) (λ r. more r x) (table same key row xs)
            by true there =
                let here : after k ≡ more (before k) x = ap row (of_key-own key xs x k is) ∙ goes (of_key same key xs k) x (of_key-named key k xs there) in
                ap (λ ks. map {B = K × R} (λ j. (j, after j)) ks) (distinct-known keys k there)
                ∙ updated-known before after k elsewhere (first x) (λ r. more r x) here (distinct_keys same keys) (once-added [] keys) (any-distinct k keys ∙ there)
            by false fresh =
                let here : after k ≡ first x = ap row (of_key-own key xs x k is ∙ ap (λ ys. ys ++ x ∷ []) (of_key-unnamed key k xs fresh)) ∙ starts x in
                ap (λ ks. map {B = K × R} (λ j. (j, after j)) ks) (distinct-new keys k fresh)
                ∙ updated-new before after k elsewhere (first x) (λ r. more r x) here (distinct_keys same keys) (any-distinct k keys ∙ fresh)

  -- The look-up of a key finds the row of its elements, if an element names the key.
  pub lookup-table : {X R : Type 0} (key : X → Option K) (row : List X → R) (xs : List X) (k : K)
      → lookup (same k) (table same key row xs) ≡ cond (list_any (same k) (filter_map key xs)) (Some (row (of_key same key xs k))) None
  lookup-table key row xs k =
      lookup-keyed (λ j. row (of_key same key xs j)) k (distinct_keys same (filter_map key xs))
      ∙ ap (λ b. cond b (Some (row (of_key same key xs k))) None) (any-distinct k (filter_map key xs))

  -- The keys of an updated table.
  pub keys-updated : {R : Type 0} (k : K) (new : R) (change : R → R) (es : List (K × R))
      → keys_of (updated_rows same k new change es) ≡ (if list_any (same k) (keys_of es) then keys_of es else keys_of es ++ k ∷ [])
  keys-updated k new change [] = refl
  keys-updated {R} k new change (e ∷ es) = by (same k e.0) (keys-updated k new change es)
    where
      push : (c : Bool) → e.0 ∷ (if c then keys_of es else keys_of es ++ k ∷ []) ≡ (if c then e.0 ∷ keys_of es else e.0 ∷ (keys_of es ++ k ∷ []))
      push true = refl
      push false = refl

      by : (b : Bool) → keys_of (updated_rows same k new change es) ≡ (if list_any (same k) (keys_of es) then keys_of es else keys_of es ++ k ∷ [])
          → keys_of (if b then (e.0, change e.1) ∷ es else e ∷ updated_rows same k new change es) ≡ (if b || list_any (same k) (keys_of es) then e.0 ∷ keys_of es else e.0 ∷ (keys_of es ++ k ∷ []))
      by true ih = refl
      by false ih = ap (λ ks. e.0 ∷ ks) ih ∙ push (list_any (same k) (keys_of es))

  -- the keys of the table of a list
  pub keys-table : {X R : Type 0} (key : X → Option K) (row : List X → R) (xs : List X) → keys_of (table same key row xs) ≡ distinct_keys same (filter_map key xs)
  keys-table {X} {R} key row xs = keys-keyed (distinct_keys same (filter_map key xs))
    where
      keys-keyed : (ks : List K) → keys_of (map {B = K × R} (λ k. (k, row (of_key same key xs k))) ks) ≡ ks
      keys-keyed [] = refl
      keys-keyed (k ∷ ks) = ap (λ rest. k ∷ rest) (keys-keyed ks)

  -- No key is there twice among the keys in first-seen order.
  none-apart : (k : K) (ks : List K) → list_any (same k) ks ≡ false → AllByRecursion (λ j. same k j ≡ false) ks
  none-apart k [] is = tt
  none-apart k (j ∷ js) is = by (same k j) refl is (none-apart k js)
    where
      by : (b : Bool) → same k j ≡ b → (b || list_any (same k) js) ≡ false → (list_any (same k) js ≡ false → AllByRecursion (λ j. same k j ≡ false) js)
          → AllByRecursion (λ j. same k j ≡ false) (j ∷ js)
      by true here h ih = absurd (true≢false h)
      by false here h ih = (here, ih h)

  IsDistinct-once : (ks : List K) → Once ks → IsDistinct same ks
  unfolding IsDistinct
  IsDistinct-once [] once = tt
  IsDistinct-once (k ∷ ks) once = (none-apart k ks once.0, IsDistinct-once ks once.1)

  pub distinct-once : (ks : List K) → IsDistinct same (distinct_keys same ks)
  distinct-once ks = IsDistinct-once (distinct_keys same ks) (once-added [] ks)

  -- The look-ups in an updated table.
  pub lookup-updated-own : {R : Type 0} (k : K) (new : R) (change : R → R) (es : List (K × R))
      → lookup (same k) (updated_rows same k new change es) ≡ Some (option_map_or change (lookup (same k) es) new)
  lookup-updated-own k new change [] = ap (λ b. cond b (Some new) None) (own k)
  lookup-updated-own {R} k new change (e ∷ es) = by (same k e.0) refl (lookup-updated-own k new change es)
    where
      by : (b : Bool) → same k e.0 ≡ b → lookup (same k) (updated_rows same k new change es) ≡ Some (option_map_or change (lookup (same k) es) new)
          → lookup (same k) (if b then (e.0, change e.1) ∷ es else e ∷ updated_rows same k new change es) ≡ Some (option_map_or change (cond b (Some e.1) (lookup (same k) es)) new)
      by true is ih = ap (λ b. cond b (Some (change e.1)) (lookup (same k) es)) is
      by false is ih = ap (λ b. cond b (Some e.1) (lookup (same k) (updated_rows same k new change es))) is ∙ ih

  pub lookup-updated-other : {R : Type 0} (j k : K) (new : R) (change : R → R) (es : List (K × R)) → same j k ≡ false
      → lookup (same j) (updated_rows same k new change es) ≡ lookup (same j) es
  lookup-updated-other j k new change [] apart = ap (λ b. cond b (Some new) None) apart
  lookup-updated-other {R} j k new change (e ∷ es) apart = by (same k e.0) refl (lookup-updated-other j k new change es apart)
    where
      by : (b : Bool) → same k e.0 ≡ b → lookup (same j) (updated_rows same k new change es) ≡ lookup (same j) es
          → lookup (same j) (if b then (e.0, change e.1) ∷ es else e ∷ updated_rows same k new change es) ≡ lookup (same j) (e ∷ es)
      by true is ih =
          let other : same j e.0 ≡ false = ap (same j) (sym (exact k e.0 is)) ∙ apart in
          ap (λ b. cond b (Some (change e.1)) (lookup (same j) es)) other ∙ ap (λ b. cond b (Some e.1) (lookup (same j) es)) (sym other)
      by false is ih = ap (λ rest. cond (same j e.0) (Some e.1) rest) ih

module _ {K : Type 0} (same : K → K → Bool) where
  -- Replacing the row of a key is changing it, if the new row is made from the row that a look-up finds.
  pub updated-looked : {R : Type 0} (k : K) (new : R) (change : R → R) (row : R) (es : List (K × R)) → row ≡ change (unwrap_or (lookup (same k) es) new)
      → updated_rows same k row (λ old. row) es ≡ updated_rows same k (change new) change es
  updated-looked k new change row [] is = λ i. (k, is i) ∷ []
  updated-looked {R} k new change row (e ∷ es) is = by (same k e.0) is (updated-looked k new change row es)
    where
      by : (b : Bool) → row ≡ change (unwrap_or (cond b (Some e.1) (lookup (same k) es)) new)
          → (row ≡ change (unwrap_or (lookup (same k) es) new) → updated_rows same k row (λ old. row) es ≡ updated_rows same k (change new) change es)
          → (if b then (e.0, row) ∷ es else e ∷ updated_rows same k row (λ old. row) es) ≡ (if b then (e.0, change e.1) ∷ es else e ∷ updated_rows same k (change new) change es)
      by true is ih = λ i. (e.0, is i) ∷ es
      by false is ih = ap (λ (rest : List (K × R)). e ∷ rest) (ih is)
