-- The rows of modules: a row that is replaced at its label, and upgrade markers.
use Rattle.std.proofs.Common.{Result, Ok, Err, OnOk, OnErr, ◌≡◌, ℕ, zero, suc, ◌+◌, ◌≤◌, Bool, true, false, not, ◌&&◌, ◌||◌, cond, if◌then◌else◌, List, [], ◌∷◌, ◌++◌, length, map, drop, Option, Some, None, unwrap_or, refl, sym, ap, subst, ◌∙◌, slice_get, sum, arith}
use Rattle.std.specs.List.{list_any}
use Rattle.std.specs.Map.{keys_of, values_of, lookup}
use Rattle.std.specs.Option.{option_map_or}
use Rattle.std.proofs.lemmas.List.Sums.{sum_by-cons}
use Rattle.indexmap.specs.IndexMap.{set_value_at}
use Rattle.dimm_topology.specs.Labels.{Bytes, same_label}
use Rattle.dimm_topology.specs.Steps.LabelLemmas.{same_label-exact, same_label-refl}
use Rattle.page_policy.specs.declared.rows.Order.{Order}
use Rattle.page_policy.specs.declared.rows.Order as Ordered
use Rattle.row_tables.specs.Tables.{updated_rows}
use Rattle.row_tables.specs.Held.{Held, IsPlace, with_row}
use Rattle.row_tables.proofs.TableLemmas.{keys-updated, lookup-updated-own}
use Rattle.ras_account.specs.declared.modules.ModuleRow.{ModuleRow}
use Rattle.ras_account.specs.Sightings.{Sighting, label_of}
use Rattle.ras_account.specs.Modules.{Module}
use Rattle.ras_account.specs.Account.{weight_in}
use Rattle.ras_account.specs.Continued.{new_module, module_after, modules_after, without_bucket}
use Rattle.ras_account.specs.Orders.{place_of, is_replaced, module_order_in}
use Rattle.ras_account.specs.Steps.Parts.{ModuleList, with_sighting, entry_of, IsCounting, AreModules}
use Rattle.ras_account.specs.Rows.{row_of}

abbrev Rows : Type 0
Rows = List (Bytes × ModuleRow)

-- a table as contracts see it
abbrev pub seen_modules : Held Bytes ModuleRow → ModuleList
seen_modules held = record { rows = map entry_of held.rows; waiting = held.waiting }

-- the sums, the bucket and the replacement of a row's module
abbrev pub module_in : ModuleRow → Module
module_in row = (row_of row).1

pub keys-entry_of : (es : Rows) → keys_of (map entry_of es) ≡ keys_of es
keys-entry_of [] = refl
keys-entry_of (e ∷ es) = ap (λ ks. e.0 ∷ ks) (keys-entry_of es)

-- the row of a label, or a new row
abbrev pub row_for : Rows → Bytes → ModuleRow → ModuleRow
row_for es label new = unwrap_or (lookup (same_label label) es) new

module _ (label : Bytes) (new : ModuleRow) where
  pub label-row_for : (es : Rows) → new.label ≡ label → AreModules es → (row_for es label new).label ≡ label
  label-row_for [] is all = is
  label-row_for (e ∷ es) is all = by (same_label label e.0) refl (label-row_for es is all.1)
    where
      by : (b : Bool) → same_label label e.0 ≡ b → (row_for es label new).label ≡ label → (unwrap_or (cond b (Some e.1) (lookup (same_label label) es)) new).label ≡ label
      by true same ih = all.0.label ∙ sym (same_label-exact label e.0 same)
      by false same ih = ih

  pub counting-row_for : (es : Rows) → IsCounting new → AreModules es → IsCounting (row_for es label new)
  counting-row_for [] is all = is
  counting-row_for (e ∷ es) is all = by (same_label label e.0) (counting-row_for es is all.1)
    where
      by : (b : Bool) → IsCounting (row_for es label new) → IsCounting (unwrap_or (cond b (Some e.1) (lookup (same_label label) es)) new)
      by true ih = all.0.counting
      by false ih = ih

  -- The sums of one row are among the sums of all rows.
  pub sums-row_for : (es : Rows) → sum new.sums ≡ 0 → sum (row_for es label new).sums ≤ weight_in (map entry_of es)
  sums-row_for [] none = omega (arith, none)
  sums-row_for (e ∷ es) none = by (same_label label e.0) (sums-row_for es none)
    where
      all : weight_in (map entry_of (e ∷ es)) ≡ sum e.1.sums + weight_in (map entry_of es)
      all = sum_by-cons (λ (row : Bytes × Module). sum row.1.sums) (entry_of e) (map entry_of es)

      by : (b : Bool) → sum (row_for es label new).sums ≤ weight_in (map entry_of es)
          → sum (unwrap_or (cond b (Some e.1) (lookup (same_label label) es)) new).sums ≤ weight_in (map entry_of (e ∷ es))
      by true ih = omega (arith, all)
      by false ih = omega (arith, all, ih)

  -- Whether the module is to be replaced already.
  replaced-row_for : (es : Rows) → new.replace ≡ false → is_replaced (map entry_of es) label ≡ (row_for es label new).replace
  replaced-row_for [] none = sym none
  replaced-row_for (e ∷ es) none = by (same_label label e.0) (replaced-row_for es none)
    where
      by : (b : Bool) → is_replaced (map entry_of es) label ≡ (row_for es label new).replace
          → option_map_or (λ (m : Module). m.replace) (cond b (Some (module_in e.1)) (lookup (same_label label) (map entry_of es))) false
          ≡ (unwrap_or (cond b (Some e.1) (lookup (same_label label) es)) new).replace
      by true ih = refl
      by false ih = ih

-- The row after an item replaces the row of its label.
module _ (s : Sighting) (new row : ModuleRow) where
  rows-after : (es : Rows) → module_in new ≡ new_module → module_in row ≡ module_after (module_in (row_for es (label_of s) new)) s
      → map entry_of (updated_rows same_label (label_of s) row (λ old. row) es) ≡ modules_after (map entry_of es) s
  rows-after [] starts is = λ i. (label_of s, (is ∙ ap (λ m. module_after m s) starts) i) ∷ []
  rows-after (e ∷ es) starts is = by (same_label (label_of s) e.0) is (rows-after es starts)
    where
      by : (b : Bool) → module_in row ≡ module_after (module_in (unwrap_or (cond b (Some e.1) (lookup (same_label (label_of s)) es)) new)) s
          → (module_in row ≡ module_after (module_in (row_for es (label_of s) new)) s → map entry_of (updated_rows same_label (label_of s) row (λ old. row) es) ≡ modules_after (map entry_of es) s)
          → map entry_of (if b then (e.0, row) ∷ es else e ∷ updated_rows same_label (label_of s) row (λ old. row) es)
          ≡ (if b then (e.0, module_after (module_in e.1) s) ∷ map entry_of es else entry_of e ∷ modules_after (map entry_of es) s)
      by true h ih = λ i. (e.0, h i) ∷ map entry_of es
      by false h ih = ap (λ (rest : List (Bytes × Module)). entry_of e ∷ rest) (ih h)

  pub counted : (held : Held Bytes ModuleRow) → module_in new ≡ new_module → module_in row ≡ module_after (module_in (row_for held.rows (label_of s) new)) s
      → seen_modules (with_row same_label held (label_of s) row) ≡ with_sighting (seen_modules held) s
  counted held starts is = λ i. record {
    rows = rows-after held.rows starts is i;
    waiting = if list_any (same_label (label_of s)) (sym (keys-entry_of held.rows) i) then held.waiting else drop 1 held.waiting;
  }

-- The index of a label among the labels that have rows after it was counted.
place_of-after : (label : Bytes) (labels waiting : List Bytes) (place : ℕ) → IsPlace same_label label (labels ++ waiting) place → place ≤ length labels
    → place_of label (if list_any (same_label label) labels then labels else labels ++ label ∷ []) ≡ place
place_of-after label [] waiting zero at within = ap (λ b. if b then zero else suc zero) (same_label-refl label)
place_of-after label [] waiting (suc place) at within = absurd (omega arith)
place_of-after label (j ∷ js) waiting zero at within = ap (λ b. place_of label (if b || list_any (same_label label) js then j ∷ js else (j ∷ js) ++ label ∷ [])) at ∙ ap (λ b. if b then zero else suc (place_of label js)) at
place_of-after label (j ∷ js) waiting (suc place) at within =
    ap (λ b. place_of label (if b || list_any (same_label label) js then j ∷ js else (j ∷ js) ++ label ∷ [])) at.0
    ∙ by (list_any (same_label label) js) (place_of-after label js waiting place at.1 (omega arith))
  where
    by : (b : Bool) → place_of label (if b then js else js ++ label ∷ []) ≡ place → place_of label (if b then j ∷ js else (j ∷ js) ++ label ∷ []) ≡ suc place
    by true ih = ap (λ c. if c then zero else suc (place_of label js)) at.0 ∙ ap suc ih
    by false ih = ap (λ c. if c then zero else suc (place_of label (js ++ label ∷ []))) at.0 ∙ ap suc ih

pub place-after : (s : Sighting) (held : Held Bytes ModuleRow) (place : ℕ) → IsPlace same_label (label_of s) (keys_of held.rows ++ held.waiting) place → place ≤ length held.rows
    → place_of (label_of s) (keys_of (modules_after (map entry_of held.rows) s)) ≡ place
place-after s held place at within =
    ap (place_of (label_of s)) (keys-updated same_label same_label-exact same_label-refl (label_of s) (module_after new_module s) (λ m. module_after m s) (map entry_of held.rows))
    ∙ (λ i. place_of (label_of s) (if list_any (same_label (label_of s)) (keys-entry_of held.rows i) then keys-entry_of held.rows i else keys-entry_of held.rows i ++ label_of s ∷ []))
    ∙ place_of-after (label_of s) (keys_of held.rows) held.waiting place at (omega (arith, within, length-rows held.rows))
  where
    length-rows : (es : Rows) → length (keys_of es) ≡ length es
    length-rows [] = refl
    length-rows (e ∷ es) = ap suc (length-rows es)

-- The order for the module of an item, by the module's row before and after.
pub order-after : (s : Sighting) (held : Held Bytes ModuleRow) (place : ℕ) (new row : ModuleRow)
    → IsPlace same_label (label_of s) (keys_of held.rows ++ held.waiting) place → place ≤ length held.rows → module_in new ≡ new_module
    → module_in row ≡ module_after (module_in (row_for held.rows (label_of s) new)) s
    → (if not (row_for held.rows (label_of s) new).replace && row.replace then Some (Ordered.TheVariants.Module place) else None) ≡ module_order_in (map entry_of held.rows) s
order-after s held place new row at within starts is =
    λ i. if not (before i) && after i then Some (Ordered.TheVariants.Module (sym (place-after s held place at within) i)) else None
  where
    rows : Rows
    rows = held.rows

    before : (row_for rows (label_of s) new).replace ≡ is_replaced (map entry_of rows) (label_of s)
    before = sym (replaced-row_for (label_of s) new rows (ap (λ (m : Module). m.replace) starts))

    after : row.replace ≡ is_replaced (modules_after (map entry_of rows) s) (label_of s)
    after =
        sym (
        ap (λ modules. is_replaced modules (label_of s)) (sym (rows-after s new row rows starts is))
        ∙ replaced-row_for (label_of s) new (updated_rows same_label (label_of s) row (λ old. row) rows) (ap (λ (m : Module). m.replace) starts)
        ∙ ap (λ o. (unwrap_or o new).replace) (lookup-updated-own same_label same_label-exact same_label-refl (label_of s) row (λ old. row) rows ∙ ap Some (own (lookup (same_label (label_of s)) rows))))
      where
        own : (o : Option ModuleRow) → option_map_or (λ old. row) o row ≡ row
        own None = refl
        own (Some old) = refl

-- What holds of every table of modules.
are-updated : (label : Bytes) (row : ModuleRow) (es : Rows) → row.label ≡ label → IsCounting row → AreModules es → AreModules (updated_rows same_label label row (λ old. row) es)
are-updated label row [] is counting all = (record { label = is; counting = counting }, tt)
are-updated label row (e ∷ es) is counting all = by (same_label label e.0) refl (are-updated label row es is counting all.1)
  where
    by : (b : Bool) → same_label label e.0 ≡ b → AreModules (updated_rows same_label label row (λ old. row) es)
        → AreModules (if b then (e.0, row) ∷ es else e ∷ updated_rows same_label label row (λ old. row) es)
    by true same ih = (record { label = is ∙ same_label-exact label e.0 same; counting = counting }, all.1)
    by false same ih = (all.0, ih)

pub are-with_row : (held now : Held Bytes ModuleRow) (label : Bytes) (row : ModuleRow) → now ≡ with_row same_label held label row → row.label ≡ label → IsCounting row → AreModules held.rows → AreModules now.rows
are-with_row held now label row is named counting all = subst (λ (v : Held Bytes ModuleRow). AreModules v.rows) (sym is) (are-updated label row held.rows named counting all)

pub are-behind : (es : Rows) (row : ModuleRow) → IsCounting row → AreModules es → AreModules (es ++ (row.label, row) ∷ [])
are-behind [] row counting all = (record { label = refl; counting = counting }, tt)
are-behind (e ∷ es) row counting all = (all.0, are-behind es row counting all.1)

pub map-behind : (es : Rows) (row : ModuleRow) → map entry_of (es ++ (row.label, row) ∷ []) ≡ map entry_of es ++ row_of row ∷ []
map-behind [] row = refl
map-behind (e ∷ es) row = ap (λ (rest : List (Bytes × Module)). entry_of e ∷ rest) (map-behind es row)

pub row-at : (es : Rows) (i : ℕ) (row : ModuleRow) → slice_get (values_of es) i ≡ Some row → AreModules es → slice_get (map entry_of es) i ≡ Some (row_of row)
row-at [] i row is all = cc
row-at (e ∷ es) zero row is all =
    let here : e.1 ≡ row = cc in
    λ i. Some ((sym all.0.label ∙ ap (λ (r : ModuleRow). r.label) here) i, module_in (here i))
row-at (e ∷ es) (suc i) row is all = row-at es i row is all.1

pub length-entry_of : (es : Rows) → length (map entry_of es) ≡ length es
length-entry_of [] = refl
length-entry_of (e ∷ es) = ap suc (length-entry_of es)

-- Upgrade markers: a row without its bucket, and a table whose first rows have lost their buckets.
abbrev pub unmarked : ModuleRow → ModuleRow
unmarked row = record row { bucket = None; replace = false }

abbrev pub mark_first : ℕ → Rows → Rows
mark_first zero es = es
mark_first (suc n) [] = []
mark_first (suc n) (e ∷ es) = (e.0, unmarked e.1) ∷ mark_first n es

pub mark-step : (n : ℕ) (es : Rows) (row : ModuleRow) → slice_get (values_of (mark_first n es)) n ≡ Some row → set_value_at (mark_first n es) n (unmarked row) ≡ mark_first (suc n) es
mark-step zero [] row is = refl
mark-step zero (e ∷ es) row is = let here : row ≡ e.1 = cc in λ i. (e.0, unmarked (here i)) ∷ es
mark-step (suc n) [] row is = refl
mark-step (suc n) (e ∷ es) row is = ap (λ (rest : Rows). (e.0, unmarked e.1) ∷ rest) (mark-step n es row is)

pub length-mark_first : (n : ℕ) (es : Rows) → length (mark_first n es) ≡ length es
length-mark_first zero es = refl
length-mark_first (suc n) [] = refl
length-mark_first (suc n) (e ∷ es) = ap suc (length-mark_first n es)

pub are-marked : (n : ℕ) (es : Rows) → AreModules es → AreModules (mark_first n es)
are-marked zero es all = all
are-marked (suc n) [] all = tt
are-marked (suc n) (e ∷ es) all = (record { label = all.0.label; counting = record { ten = all.0.counting.ten; small = tt } }, are-marked n es all.1)

pub all-marked : (es : Rows) → map entry_of (mark_first (length es) es) ≡ map {B = Bytes × Module} (λ row. (row.0, without_bucket row.1)) (map entry_of es)
all-marked [] = refl
all-marked (e ∷ es) = ap (λ (rest : List (Bytes × Module)). (e.0, without_bucket (module_in e.1)) ∷ rest) (all-marked es)

pub after-push : {E : Type 0} (es : Rows) (row : ModuleRow) (after : Rows) (r : Result (Unit {0}) E) → IsCounting row → AreModules es
    → OnOk r (after ≡ es ++ (row.label, row) ∷ []) → OnErr r (after ≡ es) → AreModules after
after-push es row after (Ok done) counting all ok err = subst AreModules (sym ok) (are-behind es row counting all)
after-push es row after (Err refused) counting all ok err = subst AreModules (sym err) all
