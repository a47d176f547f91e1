-- An account stays valid with one more row, if its table accepted the row.
use Rattle.std.proofs.Common.{◌≡◌, ◌≤◌, ◌<◌, ◌+◌, ◌^◌, ℕ, Bool, true, false, nat_eq, List, [], ◌∷◌, ◌++◌, length, sum, Result, Ok, Err, Option, Some, None, ◌↔◌, IsTrue, IfSome, OnOk, OnErr, ◌||◌, refl, sym, subst, arith, length-append}
use Rattle.std.specs.Bool.{IsFalse}
use Rattle.std.specs.List.{list_any}
use Rattle.std.specs.Map.{keys_of}
use Rattle.dimm_topology.specs.Labels.{Bytes, same_label, is_label_or_none}
use Rattle.row_tables.specs.declared.row_table.RowRefused.{RowRefused}
use Rattle.row_tables.specs.declared.row_table.RowRefused.TheVariants.{Repeated}
use Rattle.page_policy.specs.declared.buckets.Bucket.{Bucket}
use Rattle.page_policy.specs.declared.rows.PageRow.{PageRow}
use Rattle.page_policy.specs.Buckets.{most_count}
use Rattle.ras_facts.specs.declared.name.Name.{Name}
use Rattle.ras_facts.specs.Valid.{IsValidName}
use Rattle.ras_account.specs.declared.modules.ModuleRow.{ModuleRow}
use Rattle.ras_account.specs.declared.limits.TheConstants.{MOST_NAMES, MOST_TOTAL}
use Rattle.ras_account.specs.History.{is_retired}
use Rattle.ras_account.specs.Fresh.{is_among}
use Rattle.ras_account.specs.Modules.{Module}
use Rattle.ras_account.specs.Account.{State}
use Rattle.ras_account.specs.Accounts.{IsBucket, IsModuleRow, IsPageRow, IsAccount}
use Rattle.ras_account.specs.Rows.{row_of}
use Rattle.ras_account.proofs.SoundLemmas.{name-sound, module-pushed, page-pushed}

-- A row that was accepted wasn't there before.
pub taken-new : {T : Type 0} (value : T) (held : Bool) → ((◌≡◌ {A = Result T RowRefused} (Ok value) (Err Repeated)) ↔ IsTrue held) → held ≡ false
taken-new value true repeated = absurd (let no : ◌≡◌ {A = Result _ RowRefused} (Ok value) (Err Repeated) = repeated.1 refl in cc)
taken-new value false repeated = refl

pub page-taken : (a : State) (rows : List (ℕ × PageRow)) (row : ℕ × PageRow) (answer : Result (Unit {0}) RowRefused) → IsAccount a → IsPageRow row
    → OnOk answer (rows ≡ a.pages ++ row ∷ []) → OnErr answer (rows ≡ a.pages) → ((answer ≡ Err Repeated) ↔ IsTrue (list_any (nat_eq row.0) (keys_of a.pages)))
    → IsAccount (record a { pages = rows })
page-taken a rows row (Ok value) account sound ok err repeated =
    subst (λ ps. IsAccount (record a { pages = ps })) (sym ok) (page-pushed a row account sound (taken-new value (list_any (nat_eq row.0) (keys_of a.pages)) repeated))
page-taken a rows row (Err e) account sound ok err repeated = subst (λ ps. IsAccount (record a { pages = ps })) (sym err) account

pub name-taken : (a : State) (names : List Name) (name : Name) (answer : Result (Unit {0}) RowRefused) → IsAccount a → IsValidName name → IsFalse (is_retired a.floor name)
    → length a.names < MOST_NAMES → OnOk answer (names ≡ a.names ++ name ∷ []) → OnErr answer (names ≡ a.names) → ((answer ≡ Err Repeated) ↔ IsTrue (is_among a.names name))
    → IsAccount (record a { names = names })
name-taken a names name (Ok value) account valid kept room ok err repeated =
    subst (λ ns. IsAccount (record a { names = ns })) (sym ok)
    (name-sound a name a.entries account valid (λ i. taken-new value (is_among a.names name) repeated i || kept i) (record {
      names = omega (arith, room, length-append a.names (name ∷ []));
      entries = account.within.entries;
      total = account.within.total;
    }))
name-taken a names name (Err e) account valid kept room ok err repeated = subst (λ ns. IsAccount (record a { names = ns })) (sym err) account

module_row-sound : (row : ModuleRow) → IsTrue (is_label_or_none row.label) → length row.sums ≡ 10 → IfSome row.bucket (λ bucket. bucket.count ≤ most_count)
    → IfSome row.bucket (λ bucket. bucket.stamp < 2 ^ 64) → (row.label ≡ [] → row.bucket ≡ None) → (row.bucket ≡ None → IsFalse row.replace) → IsModuleRow (row_of row)
module_row-sound row label ten count stamp unlabeled replace = record { label = label; ten = ten; bucket = by row.bucket count stamp; unlabeled = unlabeled; replace = replace }
  where
    by : (bucket : Option Bucket) → IfSome bucket (λ b. b.count ≤ most_count) → IfSome bucket (λ b. b.stamp < 2 ^ 64) → IfSome bucket IsBucket
    by None count stamp = tt
    by (Some b) count stamp = record { count = count; stamp = stamp }

pub module-taken : (a : State) (rows : List (Bytes × Module)) (total : ℕ) (row : ModuleRow) → IsAccount a
    → IsTrue (is_label_or_none row.label) → length row.sums ≡ 10 → IfSome row.bucket (λ bucket. bucket.count ≤ most_count)
    → IfSome row.bucket (λ bucket. bucket.stamp < 2 ^ 64) → (row.label ≡ [] → row.bucket ≡ None) → (row.bucket ≡ None → IsFalse row.replace)
    → list_any (same_label row.label) (keys_of a.modules) ≡ false → total ≡ a.total + sum row.sums → total ≤ MOST_TOTAL
    → rows ≡ a.modules ++ row_of row ∷ [] → IsAccount (record a { modules = rows; total = total })
module-taken a rows total row account label ten count stamp unlabeled replace new sums within is =
    subst IsAccount (λ i. record a { modules = sym is i; total = sym sums i })
    (module-pushed a (row_of row) account (module_row-sound row label ten count stamp unlabeled replace) new (omega (arith, sums, within)))
