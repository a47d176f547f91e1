-- The error samples of the account of a history are the counts of the history.
use Rattle.std.proofs.Common.{◌≡◌, ℕ, zero, suc, ◌<◌, Bool, true, false, ◌||◌, List, [], ◌∷◌, map, length, get_or, Contains, refl, ap, sym, subst, ◌∙◌, ◌↔◌, ⊎_elim, arith}
use Rattle.std.specs.List.{flat_map, list_any}
use Rattle.std.proofs.lemmas.List.Elements.{Contains-append_cases, Contains-append_left, Contains-append_right}
use Rattle.mca_status.specs.declared.classes.ItemClass.{ItemClass}
use Rattle.mca_status.specs.declared.classes.ItemClass.TheVariants.{Ce, Ucna, Srao, Srar, Uc, Odd, Corrected, Recoverable, Fatal, Informational}
use Rattle.mca_status.specs.Classes.{classes}
use Rattle.dimm_topology.specs.Labels.{Bytes, same_label}
use Rattle.dimm_topology.specs.Steps.LabelLemmas.{same_label-exact, same_label-refl}
use Rattle.row_tables.specs.Tables.{distinct_keys}
use Rattle.row_tables.proofs.TableLemmas.{any-distinct}
use Rattle.ras_account.specs.Account.{account_of, is_seen, module_count}
use Rattle.ras_account.specs.History.{History}
use Rattle.ras_account.specs.Modules.{Module, module_by_items}
use Rattle.ras_account.specs.Sightings.{label_of, sightings, sightings_since_mark}
use Rattle.listing_texts.specs.declared.metrics.Metric.TheVariants.{ErrorsTotal}
use Rattle.listing_texts.specs.Metrics.{IsErrorSample, Sample, error_sample, error_samples, samples_of}

-- ---- elements of lists

module _ {X Y : Type 0} (f : X → List Y) where
  pub in_flat : (xs : List X) (y : Y) → Contains (flat_map f xs) y → (x : X) × Contains xs x × Contains (f x) y
  in_flat [] y there = absurd (omega (arith, there.1))
  in_flat (x ∷ xs) y there =
      ⊎_elim (λ here. (x, (0, omega arith, refl), here))
      (λ later. let found = in_flat xs y later in (found.0, Contains-append_right (x ∷ []) xs found.0 found.1, found.2))
      (Contains-append_cases (f x) (flat_map f xs) y there)

  of_flat_at : (xs : List X) (x : X) (y : Y) (k : ℕ) → k < length xs → get_or xs k x ≡ x → Contains (f x) y → Contains (flat_map f xs) y
  of_flat_at [] x y k within is there = absurd (omega arith)
  of_flat_at (z ∷ xs) x y zero within is there = Contains-append_left (f z) (flat_map f xs) y (subst (λ w. Contains (f w) y) (sym is) there)
  of_flat_at (z ∷ xs) x y (suc k) within is there = Contains-append_right (f z) (flat_map f xs) y (of_flat_at xs x y k (omega arith) is there)

  pub of_flat : (xs : List X) (x : X) (y : Y) → Contains xs x → Contains (f x) y → Contains (flat_map f xs) y
  of_flat xs x y at there = of_flat_at xs x y at.0 at.1 at.2 there

module _ {X Y : Type 0} (g : X → Y) where
  in_map_at : (xs : List X) (y : Y) (k : ℕ) → k < length (map g xs) → get_or (map g xs) k y ≡ y → (x : X) × Contains xs x × (g x ≡ y)
  in_map_at [] y k within is = absurd (omega arith)
  in_map_at (x ∷ xs) y zero within is = (x, (0, omega arith, refl), is)
  in_map_at (x ∷ xs) y (suc k) within is =
      let found = in_map_at xs y k (omega arith) is in
      (found.0, Contains-append_right (x ∷ []) xs found.0 found.1, found.2)

  pub in_map : (xs : List X) (y : Y) → Contains (map g xs) y → (x : X) × Contains xs x × (g x ≡ y)
  in_map xs y there = in_map_at xs y there.0 there.1 there.2

  of_map_at : (xs : List X) (x : X) (k : ℕ) → k < length xs → get_or xs k x ≡ x → Contains (map g xs) (g x)
  of_map_at [] x k within is = absurd (omega arith)
  of_map_at (z ∷ xs) x zero within is = (0, omega arith, ap g is)
  of_map_at (z ∷ xs) x (suc k) within is = Contains-append_right (g z ∷ []) (map g xs) (g x) (of_map_at xs x k (omega arith) is)

  pub of_map : (xs : List X) (x : X) → Contains xs x → Contains (map g xs) (g x)
  of_map xs x at = of_map_at xs x at.0 at.1 at.2

class_there : (class : ItemClass) → Contains classes class
class_there Ce = (0, omega arith, refl)
class_there Ucna = (1, omega arith, refl)
class_there Srao = (2, omega arith, refl)
class_there Srar = (3, omega arith, refl)
class_there Uc = (4, omega arith, refl)
class_there Odd = (5, omega arith, refl)
class_there Corrected = (6, omega arith, refl)
class_there Recoverable = (7, omega arith, refl)
class_there Fatal = (8, omega arith, refl)
class_there Informational = (9, omega arith, refl)

-- ---- labels

any_there : (labels : List Bytes) (label : Bytes) → list_any (same_label label) labels ≡ true → Contains labels label
any_there [] label is = absurd cc
any_there (other ∷ labels) label is = by (same_label label other) refl (any_there labels label)
  where
    by : (b : Bool) → same_label label other ≡ b → (list_any (same_label label) labels ≡ true → Contains labels label) → Contains (other ∷ labels) label
    by true e later = (0, omega arith, sym (same_label-exact label other e))
    by false e later = Contains-append_right (other ∷ []) labels label (later (rw e at is))

there_any_at : (labels : List Bytes) (label : Bytes) (k : ℕ) → k < length labels → get_or labels k label ≡ label → list_any (same_label label) labels ≡ true
there_any_at [] label k within is = absurd (omega arith)
there_any_at (other ∷ labels) label zero within is =
    let own : same_label label other ≡ true = ap (same_label label) is ∙ same_label-refl label in
    rw own refl
there_any_at (other ∷ labels) label (suc k) within is = by (same_label label other) (there_any_at labels label k (omega arith) is)
  where
    by : (b : Bool) → list_any (same_label label) labels ≡ true → (b || list_any (same_label label) labels) ≡ true
    by true later = refl
    by false later = later

-- ---- the samples of errors

module _ (history : History) where
  abbrev labels : List Bytes
  labels = map label_of (sightings history)

  abbrev row : Bytes → Bytes × Module
  row label = (label, module_by_items (sightings history) (sightings_since_mark history) label)

  abbrev sample : Bytes → ItemClass → Sample
  sample label class = error_sample label (class, module_count history label class)

  same_any : (label : Bytes) → list_any (same_label label) (distinct_keys same_label labels) ≡ is_seen history label
  same_any label = any-distinct same_label same_label-exact same_label-refl label labels

  pub errors_told : (s : Sample) → Contains (samples_of ErrorsTotal (account_of history)) s → IsErrorSample history s
  errors_told s there =
      let in_row = in_flat error_samples (map row (distinct_keys same_label labels)) s there in
      let at = in_map row (distinct_keys same_label labels) in_row.0 in_row.1 in
      let inside : Contains (error_samples (row at.0)) s = subst (λ (r : Bytes × Module). Contains (error_samples r) s) (sym at.2) in_row.2 in
      let found = in_map (sample at.0) classes s inside in
      record {
        label = at.0;
        class = found.0;
        seen = sym (same_any at.0) ∙ there_any_at (distinct_keys same_label labels) at.0 at.1.0 at.1.1 at.1.2;
        is = sym found.2;
      }

  pub errors_counted : (s : Sample) → IsErrorSample history s → Contains (samples_of ErrorsTotal (account_of history)) s
  errors_counted s is =
      let at : Contains (distinct_keys same_label labels) is.label = any_there (distinct_keys same_label labels) is.label (same_any is.label ∙ is.seen) in
      let here : Contains (error_samples (row is.label)) (sample is.label is.class) = of_map (sample is.label) classes is.class (class_there is.class) in
      subst (λ (other : Sample). Contains (samples_of ErrorsTotal (account_of history)) other) (sym is.is)
      (of_flat error_samples (map row (distinct_keys same_label labels)) (row is.label) (sample is.label is.class) (of_map row (distinct_keys same_label labels) is.label at) here)

pub errors_are_counts : (history : History) (s : Sample) → Contains (samples_of ErrorsTotal (account_of history)) s ↔ IsErrorSample history s
errors_are_counts history s = (errors_told history s, errors_counted history s)
