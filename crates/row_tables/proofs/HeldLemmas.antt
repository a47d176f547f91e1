-- Tables as a list of entries and the number of rows: the first entries have rows, and the keys of the others are
-- reserved. Other crates use this too.
use Rattle.std.proofs.Common.{◌≡◌, ℕ, zero, suc, ◌+◌, ◌<◌, ◌≤◌, Bool, true, false, not, cond, if◌then◌else◌, ◌||◌, nat_lt, List, [], ◌∷◌, ◌++◌, length, take, drop, None, Some, refl, sym, ap, ◌∙◌, true≢false, max, unwrap_or, slice_get, is_some, arith, append-nil, add-one, get_or, filter, nat_eq, ◌-◌, length-append, length-drop}
use Rattle.std.specs.List.{list_any, position, position_or_len, IsDistinct}
use Rattle.std.proofs.lemmas.Map.Keys.{IsDistinct-tail, apart_from_distinct}
use Rattle.std.specs.Map.{keys_of, values_of, lookup}
use Rattle.std.proofs.lemmas.Bool.Decides.{nat_tests}
use Rattle.std.specs.Map.Calls.{RetainsPairs}
use Rattle.std.proofs.Math.Seq.{take-suc, take-append_seam, drop-append_seam}
use Rattle.std.proofs.lemmas.Map.Made.{is_some-lookup}
use Rattle.indexmap.specs.IndexMap.{set_value_at, insert_entry}
use Rattle.row_tables.specs.Tables.{added_keys, updated_rows}
use Rattle.row_tables.specs.Held.{Held, IsPlace, is_ready, with_row, waiting_rows, kept_entries}
use Rattle.row_tables.proofs.TableLemmas.{added-append}

pub not_true : (b : Bool) → true ≡ not b → b ≡ false
not_true true is = absurd (true≢false is)
not_true false is = refl

pub not_false : (b : Bool) → false ≡ not b → b ≡ true
not_false true is = refl
not_false false is = absurd (true≢false (sym is))

not_zero : (n : ℕ) → nat_eq (suc n) 0 ≡ false
not_zero n = grind (arith, nat_tests)

-- how many rows there are once the key at an index has a row
abbrev pub covers : ℕ → ℕ → ℕ
covers zero place = suc zero
covers (suc held) zero = suc held
covers (suc held) (suc place) = suc (covers held place)

pub covers-max : (held place : ℕ) → place ≤ held → covers held place ≡ max held (place + 1)
covers-max zero place within = omega arith
covers-max (suc held) zero within = omega arith
covers-max (suc held) (suc place) within =
    let rest : covers held place ≡ max held (place + 1) = covers-max held place (omega arith) in omega arith

module _ {K R : Type 0} where
  -- entries as contracts see them, if the first ones have rows
  abbrev pub viewed : ℕ → List (K × R) → Held K R
  viewed held es = record { rows = take held es; waiting = drop held (keys_of es) }

  pub length-keys : (es : List (K × R)) → length (keys_of es) ≡ length es
  length-keys [] = refl
  length-keys (e ∷ es) = ap suc (length-keys es)

  pub length-set_value_at : (es : List (K × R)) (i : ℕ) (row : R) → length (set_value_at es i row) ≡ length es
  length-set_value_at [] i row = refl
  length-set_value_at (e ∷ es) zero row = refl
  length-set_value_at (e ∷ es) (suc i) row = ap suc (length-set_value_at es i row)

  pub keys_of-append : (es fs : List (K × R)) → keys_of (es ++ fs) ≡ keys_of es ++ keys_of fs
  keys_of-append [] fs = refl
  keys_of-append (e ∷ es) fs = ap (λ rest. e.0 ∷ rest) (keys_of-append es fs)

  -- The keys with rows and the reserved keys are all keys.
  pub all_keys-viewed : (held : ℕ) (es : List (K × R)) → keys_of (take held es) ++ drop held (keys_of es) ≡ keys_of es
  all_keys-viewed zero es = refl
  all_keys-viewed (suc held) [] = refl
  all_keys-viewed (suc held) (e ∷ es) = ap (λ ks. e.0 ∷ ks) (all_keys-viewed held es)

  -- The first entries are unchanged.
  pub viewed-append : (held : ℕ) (es more : List (K × R)) → held ≤ length es
      → viewed held (es ++ more) ≡ record { rows = take held es; waiting = drop held (keys_of es) ++ keys_of more }
  viewed-append zero es more within = λ i. record { rows = []; waiting = keys_of-append es more i }
  viewed-append (suc held) [] more within = absurd (omega arith)
  viewed-append (suc held) (e ∷ es) more within =
      ap (λ (v : Held K R). record { rows = e ∷ v.rows; waiting = v.waiting }) (viewed-append held es more (omega arith))

  -- The first reserved key gets a row.
  pub viewed-next : (row : R) (held : ℕ) (es : List (K × R)) → held < length es
      → viewed (suc held) (set_value_at es held row)
      ≡ record { rows = take held es ++ waiting_rows row (take 1 (drop held (keys_of es))); waiting = drop 1 (drop held (keys_of es)) }
  viewed-next row zero [] within = absurd (omega arith)
  viewed-next row zero (e ∷ es) within = refl
  viewed-next row (suc held) [] within = absurd (omega arith)
  viewed-next row (suc held) (e ∷ es) within =
      ap (λ (v : Held K R). record { rows = e ∷ v.rows; waiting = v.waiting }) (viewed-next row held es (omega arith))

  -- A row replaces the row at an index.
  pub viewed-set : (row : R) (held : ℕ) (es : List (K × R)) (place : ℕ) → place < held
      → viewed held (set_value_at es place row) ≡ record { rows = set_value_at (take held es) place row; waiting = drop held (keys_of es) }
  viewed-set row zero es place below = absurd (omega arith)
  viewed-set row (suc held) [] place below = refl
  viewed-set row (suc held) (e ∷ es) zero below = refl
  viewed-set row (suc held) (e ∷ es) (suc place) below =
      ap (λ (v : Held K R). record { rows = e ∷ v.rows; waiting = v.waiting }) (viewed-set row held es place (omega arith))

  pub keys_of-waiting : (row : R) (ks : List K) → keys_of (waiting_rows row ks) ≡ ks
  keys_of-waiting row [] = refl
  keys_of-waiting row (k ∷ ks) = ap (λ rest. k ∷ rest) (keys_of-waiting row ks)

  -- The key at an index among the rows.
  pub keys-take : (held i : ℕ) (es : List (K × R)) → i < held → slice_get (keys_of (take held es)) i ≡ slice_get (keys_of es) i
  keys-take zero i es below = absurd (omega arith)
  keys-take (suc held) i [] below = refl
  keys-take (suc held) zero (e ∷ es) below = refl
  keys-take (suc held) (suc i) (e ∷ es) below = keys-take held i es (omega arith)

  pub values-take : (held i : ℕ) (es : List (K × R)) → i < held → slice_get (values_of (take held es)) i ≡ slice_get (values_of es) i
  values-take zero i es below = absurd (omega arith)
  values-take (suc held) i [] below = refl
  values-take (suc held) zero (e ∷ es) below = refl
  values-take (suc held) (suc i) (e ∷ es) below = values-take held i es (omega arith)

  -- The key and the row at an index.
  pub slice_get-pair : (es : List (K × R)) (i : ℕ) (k : K) (row : R) → slice_get (keys_of es) i ≡ Some k → slice_get (values_of es) i ≡ Some row → slice_get es i ≡ Some (k, row)
  slice_get-pair [] i k row is row_is = cc
  slice_get-pair (e ∷ es) zero k row is row_is =
      let key : e.0 ≡ k = cc in
      let value : e.1 ≡ row = cc in
      λ i. Some (key i, value i)
  slice_get-pair (e ∷ es) (suc i) k row is row_is = slice_get-pair es i k row is row_is

  -- The keys of the entries whose keys pass.
  pub keys-filter : (test : K → Bool) (es : List (K × R)) → keys_of (filter {X = K × R} (λ e. test e.0) es) ≡ filter test (keys_of es)
  keys-filter test [] = refl
  keys-filter test (e ∷ es) = by (test e.0) (keys-filter test es)
    where
      by : (b : Bool) → keys_of (filter {X = K × R} (λ e. test e.0) es) ≡ filter test (keys_of es)
          → keys_of (cond b (e ∷ filter {X = K × R} (λ e. test e.0) es) (filter {X = K × R} (λ e. test e.0) es)) ≡ cond b (e.0 ∷ filter test (keys_of es)) (filter test (keys_of es))
      by true ih = ap (λ ks. e.0 ∷ ks) ih
      by false ih = ih

  -- The entries that are kept: those with rows whose keys pass, and all reserved ones.
  kept-append : (test : K → Bool) (held : ℕ) (es : List (K × R)) → held ≤ length es
      → kept_entries test held es ≡ filter {X = K × R} (λ e. test e.0) (take held es) ++ drop held es
  kept-append test zero es within = refl
  kept-append test (suc held) [] within = absurd (omega arith)
  kept-append test (suc held) (e ∷ es) within = by (test e.0) (kept-append test held es (omega arith))
    where
      by : (b : Bool) → kept_entries test held es ≡ filter {X = K × R} (λ e. test e.0) (take held es) ++ drop held es
          → (if b then e ∷ kept_entries test held es else kept_entries test held es)
          ≡ cond b (e ∷ filter {X = K × R} (λ e. test e.0) (take held es)) (filter {X = K × R} (λ e. test e.0) (take held es)) ++ drop held es
      by true ih = ap (λ (rest : List (K × R)). e ∷ rest) ih
      by false ih = ih

  keys_of-drop : (held : ℕ) (es : List (K × R)) → keys_of (drop held es) ≡ drop held (keys_of es)
  keys_of-drop zero es = refl
  keys_of-drop (suc held) [] = refl
  keys_of-drop (suc held) (e ∷ es) = keys_of-drop held es

  -- The number of rows left is the number of all entries left without the reserved ones.
  pub kept-count : (test : K → Bool) (held : ℕ) (es after : List (K × R)) (n : ℕ) → held ≤ length es → after ≡ kept_entries test held es → n ≡ length after - (length es - held)
      → n ≡ length (filter {X = K × R} (λ e. test e.0) (take held es))
  kept-count test held es after n within kept count =
      let all : after ≡ filter {X = K × R} (λ e. test e.0) (take held es) ++ drop held es = kept ∙ kept-append test held es within in
      omega (arith, count, within, ap length all, length-append (filter {X = K × R} (λ e. test e.0) (take held es)) (drop held es), length-drop held es)

  pub viewed-kept : (test : K → Bool) (held : ℕ) (es after : List (K × R)) (n : ℕ) → held ≤ length es → after ≡ kept_entries test held es → n ≡ length after - (length es - held)
      → viewed n after ≡ record { rows = filter {X = K × R} (λ e. test e.0) (take held es); waiting = drop held (keys_of es) }
  viewed-kept test held es after n within kept count =
      let front : List (K × R) = filter {X = K × R} (λ e. test e.0) (take held es) in
      let all : after ≡ front ++ drop held es = kept ∙ kept-append test held es within in
      let size : n ≡ length front = kept-count test held es after n within kept count in
      let rows : take n after ≡ front = (λ i. take (size i) (all i)) ∙ take-append_seam front (drop held es) in
      let waiting : drop n (keys_of after) ≡ drop held (keys_of es) =
      (λ i. drop (size i) (keys_of (all i)))
      ∙ (λ i. drop (sym (length-keys front) i) (keys_of-append front (drop held es) i))
      ∙ drop-append_seam (keys_of front) (keys_of (drop held es)) ∙ keys_of-drop held es in
      λ i. record { rows = rows i; waiting = waiting i }

  pub kept-length : (test : K → Bool) (held : ℕ) (es after : List (K × R)) → held ≤ length es → after ≡ kept_entries test held es → length es - held ≤ length after
  kept-length test held es after within kept =
      let all : after ≡ filter {X = K × R} (λ e. test e.0) (take held es) ++ drop held es = kept ∙ kept-append test held es within in
      omega (arith, within, ap length all, length-append (filter {X = K × R} (λ e. test e.0) (take held es)) (drop held es), length-drop held es)

  -- What a map's `retain` leaves, if the closure counts down and passes everything once the count is 0.
  pub kept-RetainsPairs : {F : Type 0} (T : F → K → R → Bool → R → F → Type 0) (test : F → K → Bool) (left : F → ℕ)
      → ((f : F) (k : K) (row : R) (b : Bool) (row' : R) (g : F) → T f k row b row' g → (b ≡ (nat_eq (left f) 0 || test f k)) × (row' ≡ row) × (left g ≡ left f - 1) × (test g ≡ test f))
      → (es : List (K × R)) (f : F) (held : ℕ) → left f ≡ held → (kept : List (K × R)) → RetainsPairs T f es kept → kept ≡ kept_entries (test f) held es
  kept-RetainsPairs T test left says [] f zero start kept h = h
  kept-RetainsPairs T test left says [] f (suc held) start kept h = h
  kept-RetainsPairs T test left says (e ∷ es) f zero start kept h =
      let s = says f e.0 e.1 h.0 h.1 h.2 h.4 in
      let passes : h.0 ≡ true = s.0 ∙ ap (λ n. nat_eq n 0 || test f e.0) start in
      let next : left h.2 ≡ 0 = omega (arith, s.2, start) in
      let rest : h.3 ≡ es = kept-RetainsPairs T test left says es h.2 0 next h.3 h.5 in
      h.6 ∙ (λ i. cond (passes i) ((e.0, s.1 i) ∷ rest i) (rest i))
  kept-RetainsPairs T test left says (e ∷ es) f (suc held) start kept h =
      let s = says f e.0 e.1 h.0 h.1 h.2 h.4 in
      let passes : h.0 ≡ test f e.0 = s.0 ∙ ap (λ n. nat_eq n 0 || test f e.0) start ∙ ap (λ b. b || test f e.0) (not_zero held) in
      let next : left h.2 ≡ held = omega (arith, s.2, start) in
      let rest : h.3 ≡ kept_entries (test f) held es = kept-RetainsPairs T test left says es h.2 held next h.3 h.5 ∙ ap (λ t. kept_entries t held es) s.3 in
      h.6 ∙ (λ i. cond (passes i) ((e.0, s.1 i) ∷ rest i) (rest i))

  -- If no key is reserved, all entries have rows.
  pub all_held : (held : ℕ) (es : List (K × R)) → held ≤ length es → drop held (keys_of es) ≡ [] → take held es ≡ es
  all_held zero [] within none = refl
  all_held zero (e ∷ es) within none = cc
  all_held (suc held) [] within none = refl
  all_held (suc held) (e ∷ es) within none = ap (λ (rest : List (K × R)). e ∷ rest) (all_held held es (omega arith) none)

  pub rows_are : (held : ℕ) (es : List (K × R)) (v : Held K R) → held ≤ length es → viewed held es ≡ v → v.waiting ≡ [] → es ≡ v.rows
  rows_are held es v within is none =
      sym (all_held held es within (ap (λ (v : Held K R). v.waiting) is ∙ none)) ∙ ap (λ (v : Held K R). v.rows) is

  pub none_waits : (es : List (K × R)) → drop (length es) (keys_of es) ≡ []
  none_waits [] = refl
  none_waits (e ∷ es) = none_waits es

-- `same` says whether two keys are equal.
module _ {K R : Type 0} (same : K → K → Bool) (exact : (x y : K) → same x y ≡ true → x ≡ y) where
  abbrev is_in : List (K × R) → K → Bool
  is_in es k = list_any (same k) (keys_of es)

  -- The keys before an index differ from the key there.
  pub apart_before : (k : K) (es : List (K × R)) (held : ℕ) (d : K) → IsDistinct same (keys_of es) → held < length es
      → same k (get_or (keys_of es) held d) ≡ true → is_in (take held es) k ≡ false
  apart_before k [] held d once within here = absurd (omega arith)
  apart_before k (e ∷ es) zero d once within here = refl
  apart_before k (e ∷ es) (suc held) d once within here =
      by (same k e.0) refl (apart_before k es held d (IsDistinct-tail same e.0 (keys_of es) once) (omega arith) here)
    where
      other : same e.0 (get_or (keys_of es) held d) ≡ false
      other = apart_from_distinct same (e.0 ∷ keys_of es) 0 (suc held) d once (omega arith) (omega (arith, length-keys es))

      by : (b : Bool) → same k e.0 ≡ b → is_in (take held es) k ≡ false → (b || is_in (take held es) k) ≡ false
      by true equal ih = absurd (true≢false (sym here ∙ ap (λ j. same j (get_or (keys_of es) held d)) (exact k e.0 equal) ∙ other))
      by false equal ih = ih

  module _ (k : K) where
    -- The first index at which the test of a key passes is the key's index.
    place-or_len : (es : List (K × R)) → is_in es k ≡ true
        → IsPlace same k (keys_of es) (position_or_len (same k) (keys_of es)) × (position_or_len (same k) (keys_of es) < length es)
    place-or_len [] there = absurd (true≢false (sym there))
    place-or_len (e ∷ es) there = by (same k e.0) refl there (place-or_len es)
      where
        n : ℕ
        n = position_or_len (same k) (keys_of es)

        Placed : Bool → Type 0
        Placed b = IsPlace same k (keys_of (e ∷ es)) (cond (not b) (1 + n) 0) × (cond (not b) (1 + n) 0 < length (e ∷ es))

        by : (b : Bool) → same k e.0 ≡ b → (b || is_in es k) ≡ true
            → (is_in es k ≡ true → IsPlace same k (keys_of es) n × (n < length es))
            → Placed b
        by true is h ih = (is, omega arith)
        by false is h ih =
            let next : 1 + n ≡ suc n = omega arith in
            rw next ((is, (ih h).0), omega (arith, (ih h).1))

    pub is_place : (es : List (K × R)) (len place : ℕ) → is_in es k ≡ true → place ≡ unwrap_or (position (same k) (keys_of es)) len
        → IsPlace same k (keys_of es) place × (place < length es)
    is_place es len place there is = by (nat_lt (position_or_len (same k) (keys_of es)) (length (keys_of es))) refl is
      where
        n : ℕ
        n = position_or_len (same k) (keys_of es)

        by : (b : Bool) → nat_lt n (length (keys_of es)) ≡ b → place ≡ unwrap_or (cond b (Some n) None) len → IsPlace same k (keys_of es) place × (place < length es)
        by true test h = rw h (place-or_len es there)
        by false test h = absurd (above (length-keys es) (place-or_len es there).1 test)
          where
            above : length (keys_of es) ≡ length es → n < length es → nat_lt n (length (keys_of es)) ≡ false → ⊥
            above same within test = grind (arith, nat_tests)

    -- Whether a key has a row, by the index that `position` returns.
    pub held-position : (held : ℕ) (es : List (K × R)) → held ≤ length es → is_in (take held es) k ≡ nat_lt (position_or_len (same k) (keys_of es)) held
    held-position zero [] within = refl
    held-position (suc held) [] within = absurd (omega arith)
    held-position zero (e ∷ es) within = grind (arith, nat_tests)
    held-position (suc held) (e ∷ es) within = by (same k e.0) (held-position held es (omega arith))
      where
        n : ℕ
        n = position_or_len (same k) (keys_of es)

        by : (b : Bool) → is_in (take held es) k ≡ nat_lt n held → (b || is_in (take held es) k) ≡ nat_lt (cond (not b) (1 + n) 0) (suc held)
        by true ih = grind (arith, nat_tests)
        by false ih = ih ∙ grind (arith, nat_tests)

    pub held-Some : (held : ℕ) (es : List (K × R)) (place : ℕ) → held ≤ length es → Some place ≡ position (same k) (keys_of es) → nat_lt place held ≡ is_in (take held es) k
    held-Some held es place within is = by (nat_lt n (length (keys_of es))) is ∙ sym (held-position held es within)
      where
        n : ℕ
        n = position_or_len (same k) (keys_of es)

        by : (b : Bool) → Some place ≡ cond b (Some n) None → nat_lt place held ≡ nat_lt n held
        by true there = let same : place ≡ n = cc in ap (λ i. nat_lt i held) same
        by false there = cc

    pub held-None : (held : ℕ) (es : List (K × R)) → held ≤ length es → None ≡ position (same k) (keys_of es) → false ≡ is_in (take held es) k
    held-None held es within is = by (nat_lt n (length (keys_of es))) refl is (length-keys es) ∙ sym (held-position held es within)
      where
        n : ℕ
        n = position_or_len (same k) (keys_of es)

        by : (b : Bool) → nat_lt n (length (keys_of es)) ≡ b → None ≡ cond b (Some n) None → length (keys_of es) ≡ length es → false ≡ nat_lt n held
        by true test there len = cc
        by false test there len = grind (arith, nat_tests)

    -- A key that has a row or is the first reserved one is in the table, at an index among the rows or right after
    -- them.
    pub ready-there : (held : ℕ) (es : List (K × R)) → is_ready same (viewed held es) k ≡ true → is_in es k ≡ true
    ready-there zero [] ready = ready
    ready-there zero (e ∷ es) ready = by (same k e.0) ready
      where
        by : (b : Bool) → (b || false) ≡ true → (b || is_in es k) ≡ true
        by true h = refl
        by false h = absurd (true≢false (sym h))
    ready-there (suc held) [] ready = ready
    ready-there (suc held) (e ∷ es) ready = by (same k e.0) ready (ready-there held es)
      where
        by : (b : Bool) → (b || is_ready same (viewed held es) k) ≡ true → (is_ready same (viewed held es) k ≡ true → is_in es k ≡ true) → (b || is_in es k) ≡ true
        by true h ih = refl
        by false h ih = ih h

    pub ready-place : (held : ℕ) (es : List (K × R)) (place : ℕ) → is_ready same (viewed held es) k ≡ true → IsPlace same k (keys_of es) place → place ≤ held
    ready-place held [] place ready at = absurd at
    ready-place held (e ∷ es) zero ready at = omega arith
    ready-place zero (e ∷ es) (suc place) ready at = absurd (true≢false (sym ready ∙ ap (λ b. b || false) at.0))
    ready-place (suc held) (e ∷ es) (suc place) ready at =
        let rest : is_ready same (viewed held es) k ≡ true = sym (ap (λ b. b || is_ready same (viewed held es) k) at.0) ∙ ready in
        let within : place ≤ held = ready-place held es place rest at.1 in omega arith

    -- The row at the key's index is the row that a look-up finds, if the key has a row.
    pub lookup-held : (held : ℕ) (es : List (K × R)) (place : ℕ) (row : R) → IsPlace same k (keys_of es) place → place < held → slice_get (values_of es) place ≡ Some row
        → Some row ≡ lookup (same k) (take held es)
    lookup-held held [] place row at below is = absurd at
    lookup-held zero (e ∷ es) place row at below is = absurd (omega arith)
    lookup-held (suc held) (e ∷ es) zero row at below is = sym is ∙ ap (λ b. cond b (Some e.1) (lookup (same k) (take held es))) (sym at)
    lookup-held (suc held) (e ∷ es) (suc place) row at below is =
        lookup-held held es place row at.1 (omega arith) is ∙ ap (λ b. cond b (Some e.1) (lookup (same k) (take held es))) (sym at.0)

    pub lookup-waiting : (held : ℕ) (es : List (K × R)) (place : ℕ) → IsPlace same k (keys_of es) place → held ≤ place → None ≡ lookup (same k) (take held es)
    lookup-waiting held [] place at above = absurd at
    lookup-waiting zero (e ∷ es) place at above = refl
    lookup-waiting (suc held) (e ∷ es) zero at above = absurd (omega arith)
    lookup-waiting (suc held) (e ∷ es) (suc place) at above =
        lookup-waiting held es place at.1 (omega arith) ∙ ap (λ b. cond b (Some e.1) (lookup (same k) (take held es))) (sym at.0)

    -- A row is written at the key's index.
    rows-put : (row : R) (held : ℕ) (es : List (K × R)) (place : ℕ) → IsPlace same k (keys_of es) place → place ≤ held
        → take (covers held place) (set_value_at es place row) ≡ updated_rows same k row (λ old. row) (take held es)
    rows-put row held [] place at within = absurd at
    rows-put row zero (e ∷ es) zero at within = λ i. (sym (exact k e.0 at) i, row) ∷ []
    rows-put row zero (e ∷ es) (suc place) at within = absurd (omega arith)
    rows-put row (suc held) (e ∷ es) zero at within =
        ap (λ b. if b then (e.0, row) ∷ take held es else e ∷ updated_rows same k row (λ old. row) (take held es)) (sym at)
    rows-put row (suc held) (e ∷ es) (suc place) at within =
        ap (λ (rest : List (K × R)). e ∷ rest) (rows-put row held es place at.1 (omega arith))
        ∙ ap (λ b. if b then (e.0, row) ∷ take held es else e ∷ updated_rows same k row (λ old. row) (take held es)) (sym at.0)

    waiting-put : (row : R) (held : ℕ) (es : List (K × R)) (place : ℕ) → IsPlace same k (keys_of es) place → place ≤ held
        → drop (covers held place) (keys_of (set_value_at es place row))
        ≡ (if is_in (take held es) k then drop held (keys_of es) else drop 1 (drop held (keys_of es)))
    waiting-put row held [] place at within = absurd at
    waiting-put row zero (e ∷ es) zero at within = refl
    waiting-put row zero (e ∷ es) (suc place) at within = absurd (omega arith)
    waiting-put row (suc held) (e ∷ es) zero at within =
        ap (λ b. if b || is_in (take held es) k then drop held (keys_of es) else drop 1 (drop held (keys_of es))) (sym at)
    waiting-put row (suc held) (e ∷ es) (suc place) at within =
        waiting-put row held es place at.1 (omega arith)
        ∙ ap (λ b. if b || is_in (take held es) k then drop held (keys_of es) else drop 1 (drop held (keys_of es))) (sym at.0)

    pub viewed-put : (row : R) (held : ℕ) (es : List (K × R)) (place : ℕ) (n : ℕ) → n ≡ max held (place + 1) → IsPlace same k (keys_of es) place → place ≤ held
        → viewed n (set_value_at es place row) ≡ with_row same (viewed held es) k row
    viewed-put row held es place n count at within =
        let covered : n ≡ covers held place = count ∙ sym (covers-max held place within) in
        ap (λ m. viewed m (set_value_at es place row)) covered
        ∙ (λ i. record { rows = rows-put row held es place at within i; waiting = waiting-put row held es place at within i })

    -- A key that isn't in the table is inserted after the others.
    pub inserted-known : (es : List (K × R)) (row : R) → is_in es k ≡ true → es ≡ es ++ waiting_rows row (added_keys same (keys_of es) (k ∷ []))
    inserted-known es row known = sym (ap (λ b. es ++ waiting_rows row (if b then [] else k ∷ [])) known ∙ append-nil es)

    pub inserted-new : (es : List (K × R)) (row : R) → is_in es k ≡ false → es ++ (k, row) ∷ [] ≡ es ++ waiting_rows row (added_keys same (keys_of es) (k ∷ []))
    inserted-new es row fresh = sym (ap (λ b. es ++ waiting_rows row (if b then [] else k ∷ [])) fresh)

    -- A key that isn't in the table goes after the others.
    pub insert_entry-last : (es : List (K × R)) (row : R) → is_in es k ≡ false → insert_entry same es k row ≡ es ++ (k, row) ∷ []
    insert_entry-last [] row none = refl
    insert_entry-last (e ∷ es) row none = by (same k e.0) none (insert_entry-last es row)
      where
        by : (b : Bool) → (b || is_in es k) ≡ false → (is_in es k ≡ false → insert_entry same es k row ≡ es ++ (k, row) ∷ [])
            → (if b then (e.0, row) ∷ es else e ∷ insert_entry same es k row) ≡ e ∷ (es ++ (k, row) ∷ [])
        by true h ih = absurd (true≢false h)
        by false h ih = ap (λ (rest : List (K × R)). e ∷ rest) (ih h)

    -- A row replaced the key's own row, and then the key's own row was put back.
    pub put_back : (es : List (K × R)) (row known : R) → lookup (same k) es ≡ Some known
        → set_value_at (insert_entry same es k row) (position_or_len (same k) (keys_of es)) known ≡ es
    put_back [] row known there = cc
    put_back (e ∷ es) row known there = by (same k e.0) there (put_back es row known)
      where
        n : ℕ
        n = position_or_len (same k) (keys_of es)

        by : (b : Bool) → cond b (Some e.1) (lookup (same k) es) ≡ Some known → (lookup (same k) es ≡ Some known → set_value_at (insert_entry same es k row) n known ≡ es)
            → set_value_at (if b then (e.0, row) ∷ es else e ∷ insert_entry same es k row) (cond (not b) (1 + n) 0) known ≡ e ∷ es
        by true h ih = let own : known ≡ e.1 = cc in λ i. (e.0, own i) ∷ es
        by false h ih = let next : 1 + n ≡ suc n = omega arith in rw next (ap (λ (rest : List (K × R)). e ∷ rest) (ih h))

    pub is_in-lookup : (es : List (K × R)) → is_some (lookup (same k) es) ≡ is_in es k
    is_in-lookup es = is_some-lookup (same k) es

module _ {K : Type 0} (same : K → K → Bool) (exact : (x y : K) → same x y ≡ true → x ≡ y) (own : (x : K) → same x x ≡ true) where
  -- The reserved keys, with one more.
  pub waiting-more : (held ks : List K) (i : ℕ) (d : K) → i < length ks
      → added_keys same held (take i ks) ++ added_keys same (held ++ added_keys same held (take i ks)) (get_or ks i d ∷ []) ≡ added_keys same held (take (i + 1) ks)
  waiting-more held ks i d within =
      sym (added-append same exact own held (take i ks) (get_or ks i d ∷ []))
      ∙ ap (λ js. added_keys same held js) (sym (ap (λ n. take n ks) (add-one i) ∙ take-suc ks i d within))
