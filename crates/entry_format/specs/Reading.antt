-- How fields are read from left to right, each at the start of the bytes. A field is read if and only if the bytes
-- begin with its spelling.
use Rattle.std.specs.Prelude.{◌≡◌, ℕ, zero, suc, List, [], ◌∷◌, length, take, drop, Option, Some, None, Result, Ok, Err, Bool, nat_lt, nat_le, ◌==◌, ◌&&◌, if◌then◌else◌}
use Rattle.std.specs.List.{find}
use Rattle.ras_base.specs.Chaining.{◌>>=◌}
use Rattle.ras_base.specs.LittleEndian.{number_at}
use Rattle.mca_status.specs.Classes.{class_number, classes}
use Rattle.mca_status.specs.declared.classes.ItemClass.{ItemClass}
use Rattle.dimm_topology.specs.Labels.{Bytes, is_label_or_none}
use Rattle.page_policy.specs.declared.buckets.Limit.{Limit}
use Rattle.page_policy.specs.Buckets.{limit_of}
use Rattle.ras_facts.specs.declared.name.Name.{Name}
use Rattle.ras_facts.specs.declared.name.Name.TheVariants as name
use Rattle.ras_facts.specs.declared.items.Item.{Item}
use Rattle.ras_facts.specs.declared.items.TheConstants.{MOST_WEIGHT, PAGES}
use Rattle.ras_facts.specs.declared.fact.Fact.{Fact}
use Rattle.ras_facts.specs.declared.entry.Entry.{Entry}
use Rattle.ras_facts.specs.declared.entry.Entry.TheVariants as entry
use Rattle.entry_format.specs.declared.version.Version.{Version}
use Rattle.entry_format.specs.declared.version.Version.TheVariants.{One, Two}
use Rattle.entry_format.specs.declared.refused.EntryRefused.{EntryRefused}
use Rattle.entry_format.specs.declared.refused.EntryRefused.TheVariants.{Bad, NoMemory}

-- A field's value and the bytes after it, or Bad if the bytes don't begin with the field.
abbrev pub Reader : Type 0 → Type 0
Reader A = List ℕ → Result (A × List ℕ) EntryRefused

-- The error of a function is the error of reading, unless memory ran out.
abbrev pub FailsUnlessMemory : {Y : Type 0} → EntryRefused → Result Y EntryRefused → Type 0
FailsUnlessMemory NoMemory read = Unit {0}
FailsUnlessMemory Bad read = read ≡ Err Bad

-- A function returns what reading gives, seen by view, unless memory runs out.
abbrev pub ReadsUnlessMemory : {X Y : Type 0} → (X → Y) → Result X EntryRefused → Result Y EntryRefused → Type 0
ReadsUnlessMemory view (Ok x) read = read ≡ Ok (view x)
ReadsUnlessMemory view (Err e) read = FailsUnlessMemory e read

-- The error of a function that allocates nothing is the error of reading.
abbrev pub RefusesExactly : {Y : Type 0} → EntryRefused → Result Y EntryRefused → Type 0
RefusesExactly NoMemory read = ⊥
RefusesExactly Bad read = read ≡ Err Bad

-- A function that allocates nothing returns what reading gives, seen by view.
abbrev pub ReadsExactly : {X Y : Type 0} → (X → Y) → Result X EntryRefused → Result Y EntryRefused → Type 0
ReadsExactly view (Ok x) read = read ≡ Ok (view x)
ReadsExactly view (Err e) read = RefusesExactly e read

-- ---- how readers are put together

-- two fields, one after the other
abbrev pub both_at : {A B : Type 0} → Reader A → Reader B → Reader (A × B)
both_at first second bytes = do
  x ← first bytes
  y ← second x.1
  Ok ((x.0, y.0), y.1)

abbrev pub some_or_bad : {A : Type 0} → Option A → Result A EntryRefused
some_or_bad None = Err Bad
some_or_bad (Some x) = Ok x

-- a field that is converted from the value read, if it can be
abbrev pub made_at : {A B : Type 0} → (A → Option B) → Reader A → Reader B
made_at make read bytes = do
  x ← read bytes
  y ← some_or_bad (make x.0)
  Ok (y, x.1)

-- a field whose value has to pass a test
abbrev pub if_passes : {A : Type 0} → (A → Bool) → A → Option A
if_passes test x = if test x then Some x else None

-- n fields of one kind
unfoldable pub many_at : {A : Type 0} → Reader A → ℕ → Reader (List A)
many_at read zero bytes = Ok ([], bytes)
many_at read (suc n) bytes = do
  first ← read bytes
  others ← many_at read n first.1
  Ok (first.0 ∷ others.0, others.1)

-- a field that takes all of the bytes
abbrev pub whole_at : {A : Type 0} → Reader A → List ℕ → Result A EntryRefused
whole_at read bytes = do
  x ← read bytes
  if length x.1 == 0 then Ok x.0 else Err Bad

-- n bytes as they are
unfoldable pub bytes_at : ℕ → Reader Bytes
bytes_at n bytes = if nat_lt (length bytes) n then Err Bad else Ok (take n bytes, drop n bytes)

-- ---- numbers

-- a number of n bytes
abbrev pub leading_number : ℕ → Reader ℕ
leading_number width bytes =
    if nat_lt (length bytes) width then Err Bad else Ok (number_at 0 width bytes, drop width bytes)

unfoldable pub u16_at : Reader ℕ
u16_at = leading_number 2

unfoldable pub u32_at : Reader ℕ
u32_at = leading_number 4

unfoldable pub u64_at : Reader ℕ
u64_at = leading_number 8

unfoldable pub byte_at : Reader ℕ
byte_at [] = Err Bad
byte_at (byte ∷ rest) = Ok (byte, rest)

-- the field after a kind of one byte, by the kind
abbrev pub by_kind : {A : Type 0} → (ℕ → Reader A) → Reader A
by_kind read bytes = do
  kind ← byte_at bytes
  read kind.0 kind.1

-- ---- names

unfoldable pub bank_name_at : Reader Name
bank_name_at =
    made_at (λ p. Some (name.Bank p.0 p.1.0 p.1.1.0 p.1.1.1))
    (both_at u64_at (both_at u16_at (both_at byte_at u64_at)))

unfoldable pub record_name_at : Reader Name
record_name_at = made_at (λ id. Some (name.Record id)) u64_at

unfoldable pub block_name_at : Reader Name
block_name_at =
    made_at (λ p. Some (name.Block p.0 p.1.0 p.1.1)) (both_at u64_at (both_at u16_at u64_at))

unfoldable pub boot_name_at : Reader Name
boot_name_at = made_at (λ boot. Some (name.Boot boot)) u64_at

abbrev pub name_of_kind : ℕ → Reader Name
name_of_kind kind bytes =
    if kind == 1 then bank_name_at bytes
    else if kind == 2 then record_name_at bytes
    else if kind == 3 then block_name_at bytes
    else if kind == 4 then boot_name_at bytes
    else Err Bad

unfoldable pub name_at : Reader Name
name_at = by_kind name_of_kind

-- ---- items

-- the class of a number
unfoldable pub class_of : ℕ → Option ItemClass
class_of number = find (λ c. class_number c == number) classes

unfoldable pub class_at : Reader ItemClass
class_at = made_at class_of byte_at

-- a label, maybe empty, after the number of its bytes
unfoldable pub label_at : Reader Bytes
label_at bytes = do
  n ← byte_at bytes
  made_at (if_passes is_label_or_none) (bytes_at n.0) n.1

unfoldable pub page_number_at : Reader ℕ
page_number_at = made_at (if_passes (λ page. nat_lt page PAGES)) u64_at

unfoldable pub some_page_at : Reader (Option ℕ)
some_page_at = made_at (λ page. Some (Some page)) page_number_at

abbrev pub no_page_at : Reader (Option ℕ)
no_page_at bytes = Ok (None, bytes)

abbrev pub page_of_kind : ℕ → Reader (Option ℕ)
page_of_kind kind bytes =
    if kind == 0 then no_page_at bytes else if kind == 1 then some_page_at bytes else Err Bad

-- a page, or no page, after the flag that says which
unfoldable pub page_at : Reader (Option ℕ)
page_at = by_kind page_of_kind

unfoldable pub weight_at : Reader ℕ
weight_at = made_at (if_passes (λ weight. nat_le 1 weight && nat_le weight MOST_WEIGHT)) u16_at

unfoldable pub item_at : Reader Item
item_at =
    made_at (λ p. Some (record { class = p.0; label = p.1.0; page = p.1.1.0; weight = p.1.1.1 }))
    (both_at class_at (both_at label_at (both_at page_at weight_at)))

-- ---- entries

-- items after their number
unfoldable pub items_at : Reader (List Item)
items_at bytes = do
  n ← u16_at bytes
  many_at item_at n.0 n.1

unfoldable pub fact_at : Reader Fact
fact_at =
    made_at (λ p. Some (record { name = p.0; seconds = p.1.0; items = p.1.1 }))
    (both_at name_at (both_at u64_at items_at))

unfoldable pub limit_at : Reader Limit
limit_at = made_at (λ p. limit_of p.0 p.1) (both_at u64_at u64_at)

unfoldable pub fact_entry_at : Reader Entry
fact_entry_at = made_at (λ fact. Some (entry.Fact fact)) fact_at

unfoldable pub limit_entry_at : Reader Entry
limit_entry_at = made_at (λ limit. Some (entry.Limit limit)) limit_at

unfoldable pub retire_entry_at : Reader Entry
retire_entry_at = made_at (λ boot. Some (entry.Retire boot)) u64_at

unfoldable pub module_limit_entry_at : Version → Reader Entry
module_limit_entry_at One bytes = Err Bad
module_limit_entry_at Two bytes = made_at (λ limit. Some (entry.ModuleLimit limit)) limit_at bytes

abbrev pub entry_of_kind : Version → ℕ → Reader Entry
entry_of_kind version kind bytes =
    if kind == 1 then fact_entry_at bytes
    else if kind == 2 then limit_entry_at bytes
    else if kind == 3 then retire_entry_at bytes
    else if kind == 4 then module_limit_entry_at version bytes
    else Err Bad

unfoldable pub entry_at : Version → Reader Entry
entry_at version = by_kind (entry_of_kind version)
