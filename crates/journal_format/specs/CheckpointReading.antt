-- The account that a checkpoint spells, read from left to right. By a law it is the account whose checkpoint the bytes
-- are.
use Rattle.std.specs.Prelude.{ℕ, Bool, true, false, not, nat_eq, nat_le, ◌==◌, ◌&&◌, if◌then◌else◌, Option, None, Some, is_some, List, [], ◌∷◌, length, Result, Ok, Err}
use Rattle.std.specs.List.{list_all}
use Rattle.std.specs.Map.{keys_of}
use Rattle.ras_base.specs.Chaining.{◌>>=◌}
use Rattle.mca_status.specs.declared.classes.TheConstants.{CLASS_COUNT}
use Rattle.dimm_topology.specs.Labels.{Bytes, same_label}
use Rattle.page_policy.specs.declared.buckets.TheConstants.{MOST_COUNT}
use Rattle.page_policy.specs.declared.buckets.Bucket.{Bucket}
use Rattle.page_policy.specs.declared.buckets.Limit.{Limit}
use Rattle.page_policy.specs.declared.rows.PageState.{PageState}
use Rattle.page_policy.specs.declared.rows.PageState.TheVariants.{Kept, Soft, Hard}
use Rattle.page_policy.specs.declared.rows.PageRow.{PageRow}
use Rattle.ras_facts.specs.declared.name.Name.{Name}
use Rattle.ras_facts.specs.Names.{same_name}
use Rattle.ras_account.specs.declared.limits.TheConstants.{FIRST_MODULE_LIMIT, MOST_NAMES, MOST_ENTRIES, MOST_TOTAL}
use Rattle.ras_account.specs.History.{is_retired}
use Rattle.ras_account.specs.Modules.{Module}
use Rattle.ras_account.specs.Account.{State, weight_in}
use Rattle.entry_format.specs.declared.version.Version.{Version}
use Rattle.entry_format.specs.declared.version.Version.TheVariants.{One, Two}
use Rattle.entry_format.specs.declared.refused.EntryRefused.{EntryRefused}
use Rattle.entry_format.specs.declared.refused.EntryRefused.TheVariants.{Bad}
use Rattle.entry_format.specs.Reading.{Reader, both_at, some_or_bad, made_at, if_passes, many_at, whole_at, by_kind, byte_at, u64_at, name_at, label_at, limit_at, page_number_at}
use Rattle.journal_format.specs.PayloadReading.{found_in}

-- rows of one kind after their number
unfoldable pub list_at : {A : Type 0} → Reader A → Reader (List A)
list_at read bytes = do
  count ← u64_at bytes
  many_at read count.0 count.1

-- ---- the numbers at the front

-- The numbers at the front: the two limits, the number of entries, and the floor if it is there.
abbrev pub CheckpointFront : Type 0
CheckpointFront = Limit × (Limit × (ℕ × ℕ))

unfoldable pub entry_count_at : Reader ℕ
entry_count_at = made_at (if_passes (λ entries. nat_le entries MOST_ENTRIES)) u64_at

unfoldable pub front_at : Version → Reader CheckpointFront
front_at One = made_at (λ p. Some (p.0, (FIRST_MODULE_LIMIT, (p.1, 0)))) (both_at limit_at entry_count_at)
front_at Two = both_at limit_at (both_at limit_at (both_at entry_count_at u64_at))

-- ---- rows

unfoldable pub bucket_at : Reader Bucket
bucket_at =
    made_at (λ p. if nat_le p.0 MOST_COUNT then Some (record { count = p.0; stamp = p.1 }) else None)
    (both_at u64_at u64_at)

-- a module's bucket, and whether the module is to be replaced
abbrev pub Replacement : Type 0
Replacement = Option Bucket × Bool

abbrev pub no_replacement : Replacement
no_replacement = (None, false)

unfoldable pub replace_of : ℕ → Option Bool
replace_of byte = if byte == 0 then Some false else if byte == 1 then Some true else None

unfoldable pub replace_at : Reader Bool
replace_at = made_at replace_of byte_at

unfoldable pub some_replacement_at : Reader Replacement
some_replacement_at = made_at (λ p. Some (Some p.0, p.1)) (both_at bucket_at replace_at)

abbrev pub no_replacement_at : Reader Replacement
no_replacement_at bytes = Ok (no_replacement, bytes)

abbrev pub replacement_of_flag : ℕ → Reader Replacement
replacement_of_flag flag bytes =
    if flag == 0 then no_replacement_at bytes
    else if flag == 1 then some_replacement_at bytes
    else Err Bad

unfoldable pub replacement_at : Version → Reader Replacement
replacement_at One bytes = no_replacement_at bytes
replacement_at Two bytes = by_kind replacement_of_flag bytes

-- A module's row. A row without a label has no bucket.
abbrev pub module_of : Bytes × (List ℕ × Replacement) → Option (Bytes × Module)
module_of p =
    if not ((length p.0 == 0) && is_some p.1.1.0)
    then Some (p.0, record { sums = p.1.0; bucket = p.1.1.0; replace = p.1.1.1 })
    else None

unfoldable pub module_at : Version → Reader (Bytes × Module)
module_at version =
    made_at module_of (both_at label_at (both_at (many_at u64_at CLASS_COUNT) (replacement_at version)))

unfoldable pub page_state_of : ℕ → Option PageState
page_state_of number =
    if number == 0 then Some Kept else if number == 1 then Some Soft else if number == 2 then Some Hard else None

unfoldable pub page_state_at : Reader PageState
page_state_at = made_at page_state_of byte_at

unfoldable pub page_row_at : Reader (ℕ × PageRow)
page_row_at =
    made_at (λ p. Some (p.0, record { bucket = p.1.0; state = p.1.1 }))
    (both_at page_number_at (both_at bucket_at page_state_at))

-- ---- the end

-- the floor at the end of version 1, if it isn't 0
unfoldable pub end_floor_at : Reader ℕ
end_floor_at = made_at (if_passes (λ floor. not (floor == 0))) u64_at

-- the floor, given the bytes left after the rows and the floor that was read at the front
unfoldable pub floor_in : Version → ℕ → List ℕ → Result ℕ EntryRefused
floor_in One floor [] = Ok floor
floor_in One floor (byte ∷ bytes) = whole_at end_floor_at (byte ∷ bytes)
floor_in Two floor [] = Ok floor
floor_in Two floor (byte ∷ bytes) = Err Bad

-- ---- the whole

-- Whether no key is twice in a list.
abbrev pub are_once : {K : Type 0} → (K → K → Bool) → List K → Bool
are_once same [] = true
are_once same (x ∷ xs) = list_all (λ y. not (same x y)) xs && are_once same xs

-- Whether no name, label or page is there twice, no name's boot is retired, and the numbers are within an account's
-- limits.
abbrev pub is_sound : State → Bool
is_sound a =
    (nat_le (length a.names) MOST_NAMES && nat_le a.total MOST_TOTAL)
    && (list_all (λ name. not (is_retired a.floor name)) a.names
    && (are_once same_name a.names
    && (are_once same_label (keys_of a.modules) && are_once nat_eq (keys_of a.pages))))

-- the account of what was read: the front, the names, the rows of modules and of pages, and the floor
abbrev pub state_with : CheckpointFront → List Name → List (Bytes × Module) → List (ℕ × PageRow) → ℕ → State
state_with front names modules pages floor = record {
  names = names;
  floor = floor;
  limit = front.0;
  module_limit = front.1.0;
  entries = front.1.1.0;
  total = weight_in modules;
  modules = modules;
  pages = pages;
}

-- the account that the bytes of a whole checkpoint spell
unfoldable pub checkpoint_in : Version → List ℕ → Result State EntryRefused
checkpoint_in version bytes = do
  front ← front_at version bytes
  names ← list_at name_at front.1
  modules ← list_at (module_at version) names.1
  pages ← list_at page_row_at modules.1
  floor ← floor_in version front.0.1.1.1 pages.1
  some_or_bad (if_passes is_sound (state_with front.0 names.0 modules.0 pages.0 floor))

-- The account whose checkpoint the bytes are, or None if they aren't a checkpoint.
unfoldable pub checkpoint_of : Version → List ℕ → Option State
checkpoint_of version bytes = found_in (checkpoint_in version bytes)
