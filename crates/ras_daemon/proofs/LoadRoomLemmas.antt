-- The account and the journal of a run have room for many reports that have one item each. A report adds at most one
-- of each kind to the account, and a switch of the journal has room for the checkpoint of such an account.
use Rattle.std.proofs.Common.{◌≡◌, ℕ, ◌+◌, ◌*◌, ◌<◌, ◌≤◌, Bool, true, false, ◌&&◌, List, [], ◌∷◌, ◌++◌, length, Option, Some, None, refl, arith, length-append}
use Rattle.std.specs.Prelude.{if◌then◌else◌, nat_eq, nat_le, nat_lt}
use Rattle.std.specs.List.{AllByRecursion, flat_map, sum_by}
use Rattle.std.specs.Option.{option_map_or}
use Rattle.std.proofs.lemmas.Bool.Decides.{nat_tests}
use Rattle.std.proofs.lemmas.List.Elements.{recursion_from_All}
use Rattle.ras_base.specs.LittleEndian.{u32_bytes, u64_bytes}
use Rattle.ras_base.specs.Steps.LittleEndianLemmas.{length-u16_bytes, length-u32_bytes, length-u64_bytes}
use Rattle.dimm_topology.specs.Labels.{Bytes, is_label_or_none, same_label}
use Rattle.page_policy.specs.declared.buckets.Bucket.{Bucket}
use Rattle.page_policy.specs.declared.rows.PageRow.{PageRow}
use Rattle.page_policy.specs.Histories.{rows_after}
use Rattle.page_policy.specs.Rows.{PageReport, row_after}
use Rattle.ras_facts.specs.declared.entry.Entry.{Entry}
use Rattle.ras_facts.specs.declared.entry.Entry.TheVariants.{Fact}
use Rattle.ras_facts.specs.declared.fact.Fact.{Fact as FactOf}
use Rattle.ras_facts.specs.declared.items.Item.{Item}
use Rattle.ras_facts.specs.declared.name.Name.{Name}
use Rattle.ras_facts.specs.declared.name.Name.TheVariants.{Bank, Record, Block, Boot}
use Rattle.ras_facts.specs.Valid.{IsValidFact, IsValidItem}
use Rattle.ras_account.specs.Account.{State, names_of}
use Rattle.ras_account.specs.Accounts.{IsAccount, IsModuleRow}
use Rattle.ras_account.specs.Continued.{account_after, account_after_fresh, account_with_count, is_fresh_in, module_after, modules_after}
use Rattle.ras_account.specs.Modules.{Module}
use Rattle.ras_account.specs.Numbers.{AreWithin, Numbers, are_past, items_of, numbers_with}
use Rattle.ras_account.specs.Sightings.{Sighting, label_of, report_of}
use Rattle.ras_account.proofs.NumberLemmas.{past-within}
use Rattle.ras_account.proofs.SoundLemmas.{continued-sound}
use Rattle.entry_format.specs.declared.version.Version.TheVariants.{Two}
use Rattle.entry_format.specs.Spelling.{entry_bytes, label_bytes, name_bytes}
use Rattle.entry_format.proofs.SizeLemmas.{fact_entry_most}
use Rattle.journal_format.specs.Checkpoints.{bucket_bytes, checkpoint_bytes, module_bytes, replacement_bytes}
use Rattle.journal_format.specs.Links.{link_bytes, payload_bytes}
use Rattle.journal_format.proofs.SizeLemmas.{checkpoint_size, numbers_size}
use Rattle.ras_journal.specs.declared.limits.TheConstants.{LAST_GENERATION, LONGEST_FILE}
use Rattle.ras_journal.specs.declared.standing.Standing.{Standing}
use Rattle.ras_journal.specs.Appending.{length_with, needs_switch, standing_with}
use Rattle.ras_recover.specs.Switching.{has_no_room, switched}
use Rattle.ras_run.specs.Keeping.{lacks_room, standing_kept}

-- ---- how many bytes a checkpoint has

name_most : (name : Name) → length (name_bytes name) ≤ 20
unfolding name_bytes
name_most (Bank boot cpu bank tsc) = simp (length-append, length-u16_bytes, length-u64_bytes) (omega arith)
name_most (Record id) = omega (arith, length-u64_bytes id)
name_most (Block boot source number) = simp (length-append, length-u16_bytes, length-u64_bytes) (omega arith)
name_most (Boot boot) = omega (arith, length-u64_bytes boot)

names_most : (names : List Name) → length (flat_map name_bytes names) ≤ 20 * length names
names_most [] = omega arith
names_most (name ∷ names) = omega (arith, length-append (name_bytes name) (flat_map name_bytes names), name_most name, names_most names)

bucket_size : (bucket : Bucket) → length (bucket_bytes bucket) ≡ 16
unfolding bucket_bytes
bucket_size bucket = omega (arith, length-append (u64_bytes bucket.count) (u64_bytes bucket.stamp), length-u64_bytes bucket.count, length-u64_bytes bucket.stamp)

replacement_most : (bucket : Option Bucket) (replace : Bool) → length (replacement_bytes bucket replace) ≤ 18
unfolding replacement_bytes
replacement_most None replace = omega arith
replacement_most (Some bucket) replace = omega (arith, length-append (bucket_bytes bucket) ((if replace then 1 else 0) ∷ []), bucket_size bucket)

label_short : (label : Bytes) → is_label_or_none label ≡ true → length label ≤ 32
label_short label is = grind (arith, nat_tests, is)

module_most : (row : Bytes × Module) → IsModuleRow row → length (module_bytes Two row) ≤ 131
unfolding module_bytes label_bytes
module_most row is =
    simp length-append (omega (arith, label_short row.0 is.label, numbers_size row.1.sums, is.ten, replacement_most row.1.bucket row.1.replace))

modules_most : (rows : List (Bytes × Module)) → AllByRecursion IsModuleRow rows → length (flat_map (module_bytes Two) rows) ≤ 131 * length rows
modules_most [] all = omega arith
modules_most (row ∷ rows) all = omega (arith, length-append (module_bytes Two row) (flat_map (module_bytes Two) rows), module_most row all.0, modules_most rows all.1)

-- ---- the account after k reports, and its journal's position

-- an account has at most what k reports with one item each add
pub record AreUpTo (k : ℕ) (a : State) : Type 0 where
  pub names : length a.names ≤ k
  pub entries : a.entries ≤ k
  pub total : a.total ≤ 32767 * k
  pub modules : length a.modules ≤ k
  pub pages : length a.pages ≤ k

-- this account has at most that, and its journal was switched no more often
pub record HasPlace (k : ℕ) (a : State) (standing : Standing) : Type 0 where
  pub account : IsAccount a
  pub numbers : AreUpTo k a
  pub generation : standing.generation ≤ k + 1

checkpoint_most : (k : ℕ) (a : State) → IsAccount a → AreUpTo k a → length (checkpoint_bytes Two a) ≤ 72 + 176 * k
checkpoint_most k a account numbers =
    omega (
      arith,
      checkpoint_size a,
      names_most a.names,
      modules_most a.modules (recursion_from_All IsModuleRow a.modules account.modules),
      numbers.names,
      numbers.modules,
      numbers.pages,
    )

-- there is room for a switch before a short link
roomy : (k : ℕ) (a : State) (standing : Standing) (link : List ℕ) → k ≤ 50000 → HasPlace k a standing → length link ≤ 1000
    → has_no_room standing a link ≡ false
roomy k a standing link few is short =
    let most = checkpoint_most k a is.account is.numbers in
    let generation : nat_le LAST_GENERATION standing.generation ≡ false = grind (arith, nat_tests, is.generation, few) in
    let long : length_with (switched standing a) link ≤ LONGEST_FILE = omega arith in
    let fits : nat_lt LONGEST_FILE (length_with (switched standing a) link) ≡ false = grind (arith, nat_tests, long) in
    rw (generation, fits) refl

if-due : (needed lacks : Bool) → lacks ≡ false → (needed && lacks) ≡ false
if-due true lacks is = is
if-due false lacks is = refl

generation_most : (needed : Bool) (standing : Standing) (a : State) (link : List ℕ) → (standing_with (if needed then switched standing a else standing) link).generation ≤ standing.generation + 1
generation_most true standing a link = omega arith
generation_most false standing a link = omega arith

-- ---- one item more

abbrev pub module_with : Bytes × Module → Sighting → Bytes × Module
module_with row s = (row.0, module_after row.1 s)

modules_grow : (rows : List (Bytes × Module)) (s : Sighting) → length (modules_after rows s) ≤ length rows + 1
modules_grow [] s = omega arith
modules_grow (row ∷ rows) s = by (same_label (label_of s) row.0) (modules_grow rows s)
  where
    by : (same : Bool) → length (modules_after rows s) ≤ length rows + 1 → length (if same then module_with row s ∷ rows else row ∷ modules_after rows s) ≤ length (row ∷ rows) + 1
    by true rest = omega arith
    by false rest = omega arith

abbrev row_with : ℕ × PageRow → PageReport → ℕ × PageRow
row_with row report = (row.0, row_after row.1 report)

rows_grow : (rows : List (ℕ × PageRow)) (report : PageReport) → length (rows_after rows report) ≤ length rows + 1
rows_grow [] report = omega arith
rows_grow (row ∷ rows) report = by (nat_eq report.page row.0) (rows_grow rows report)
  where
    by : (same : Bool) → length (rows_after rows report) ≤ length rows + 1 → length (if same then row_with row report ∷ rows else row ∷ rows_after rows report) ≤ length (row ∷ rows) + 1
    by true rest = omega arith
    by false rest = omega arith

pages_grow : (rows : List (ℕ × PageRow)) (report : Option PageReport) → length (option_map_or (rows_after rows) report rows) ≤ length rows + 1
pages_grow rows None = omega arith
pages_grow rows (Some report) = rows_grow rows report

-- ---- no report more

pub wider : (k : ℕ) (a : State) (standing : Standing) → HasPlace k a standing → HasPlace (k + 1) a standing
wider k a standing is = record {
  account = is.account;
  numbers = record {
    names = omega (arith, is.numbers.names);
    entries = omega (arith, is.numbers.entries);
    total = omega (arith, is.numbers.total);
    modules = omega (arith, is.numbers.modules);
    pages = omega (arith, is.numbers.pages);
  };
  generation = omega (arith, is.generation);
}

pub nothing_past : (k : ℕ) (a : State) (standing : Standing) → k < 50000 → HasPlace k a standing → are_past (numbers_with a []) ≡ false
nothing_past k a standing few is =
    (past-within (numbers_with a [])).1 (record { names = omega (arith, is.numbers.names); entries = omega (arith, is.numbers.entries); total = omega (arith, is.numbers.total) })

-- ---- a report with one item more

abbrev pub report_of_one : Name → ℕ → Item → FactOf
report_of_one name seconds item = record { name = name; seconds = seconds; items = item ∷ [] }

abbrev pub entry_of_one : Name → ℕ → Item → Entry
entry_of_one name seconds item = Fact (report_of_one name seconds item)

module _ (k : ℕ) (a : State) (standing : Standing) (name : Name) (seconds : ℕ) (item : Item) (few : k < 50000) (is : HasPlace k a standing) (valid : IsValidFact (report_of_one name seconds item)) where
  abbrev entry : Entry
  entry = entry_of_one name seconds item

  abbrev numbers_by : List Entry → Numbers
  numbers_by fresh = record {
    names = length a.names + length (names_of fresh);
    entries = a.entries + length fresh;
    total = a.total + sum_by (λ (item : Item). item.weight) (items_of fresh);
  }

  weight : item.weight ≤ 32767
  weight = (recursion_from_All IsValidItem (item ∷ []) valid.items).0.weight

  seen : Sighting
  seen = record { item = item; seconds = seconds; limit = a.limit; module_limit = a.module_limit }

  grown : (fresh : Bool) → AreUpTo (k + 1) (if fresh then account_after_fresh (account_with_count a) entry else a)
  unfolding seen
  grown true = record {
    names = omega (arith, length-append a.names (name ∷ []), is.numbers.names);
    entries = omega (arith, is.numbers.entries);
    total = omega (arith, is.numbers.total, weight);
    modules = omega (arith, is.numbers.modules, modules_grow a.modules seen);
    pages = omega (arith, is.numbers.pages, pages_grow a.pages (report_of seen));
  }
  grown false = record {
    names = omega (arith, is.numbers.names);
    entries = omega (arith, is.numbers.entries);
    total = omega (arith, is.numbers.total);
    modules = omega (arith, is.numbers.modules);
    pages = omega (arith, is.numbers.pages);
  }

  after : AreUpTo (k + 1) (account_after a entry)
  after = grown (is_fresh_in a entry)

  sound : IsAccount (account_after a entry)
  sound = continued-sound a entry is.account valid (record { names = omega (arith, after.names); entries = omega (arith, after.entries); total = omega (arith, after.total) })

  link_short : length (link_bytes (entry ∷ [])) ≤ 1000
  unfolding link_bytes payload_bytes
  link_short =
      omega (
        arith,
        length-append (u32_bytes (length (payload_bytes (entry ∷ [])))) (payload_bytes (entry ∷ [])),
        length-append (u32_bytes 1) (entry_bytes entry ++ []),
        length-append (entry_bytes entry) [],
        length-u32_bytes 1,
        length-u32_bytes (length (payload_bytes (entry ∷ []))),
        fact_entry_most (report_of_one name seconds item) valid,
      )

  -- neither the account nor the journal lacks room for the entry
  numbers_within : (fresh : Bool) → AreWithin (numbers_by (if fresh then entry ∷ [] else []))
  numbers_within true = record {
    names = omega (arith, is.numbers.names);
    entries = omega (arith, is.numbers.entries);
    total = omega (arith, is.numbers.total, weight);
  }
  numbers_within false = record { names = omega (arith, is.numbers.names); entries = omega (arith, is.numbers.entries); total = omega (arith, is.numbers.total) }

  pub account_has_room : are_past (numbers_with a (entry ∷ [])) ≡ false
  account_has_room = (past-within (numbers_with a (entry ∷ []))).1 (numbers_within (is_fresh_in a entry))

  pub journal_has_room : lacks_room standing a (link_bytes (entry ∷ [])) ≡ false
  journal_has_room = if-due (needs_switch standing (link_bytes (entry ∷ []))) _ (roomy k a standing (link_bytes (entry ∷ [])) (omega arith) is link_short)

  -- there is room for the next report, whether its entry is new or not
  pub stays : HasPlace (k + 1) (account_after a entry) standing
  stays = record { account = sound; numbers = after; generation = omega (arith, is.generation) }

  pub kept : HasPlace (k + 1) (account_after a entry) (standing_kept standing a (link_bytes (entry ∷ [])))
  kept = record {
    account = sound;
    numbers = after;
    generation = omega (arith, is.generation, generation_most (needs_switch standing (link_bytes (entry ∷ []))) standing a (link_bytes (entry ∷ [])));
  }
