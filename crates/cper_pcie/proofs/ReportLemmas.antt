-- The sections of a report by their indices, and the PCI Express sections among the first ones.
use Rattle.std.proofs.Common.{◌≡◌, ℕ, zero, suc, ◌+◌, ◌-◌, ◌<◌, ◌≤◌, Bool, true, false, ◌||◌, if◌then◌else◌, List, [], ◌∷◌, ◌++◌, length, take, Some, refl, sym, ap, subst, ◌∙◌, append-nil, append_assoc, arith}
use Rattle.std.specs.Prelude.{replicate, slice_get}
use Rattle.std.specs.List.{filter_map, list_any}
use Rattle.std.specs.Option.{option_map}
use Rattle.std.proofs.lemmas.List.{length-map, take_more, take_all}
use Rattle.std.specs.Result.{result_ok}
use Rattle.std.proofs.lemmas.List.Concat.{flat_map-append}
use Rattle.std.proofs.lemmas.List.Elements.{filter_map-append}
use Rattle.std.proofs.lemmas.List.Folds.{list_any-append}
use Rattle.std.proofs.lemmas.List.FromFn.{length-map-range_with_len, get_or-map-range_with_len}
use Rattle.std.proofs.lemmas.Option.{slice_get-get_or, slice_get-map, slice_get_within, get_or_from_slice_get}
use Rattle.cper_records.specs.Header.{section_count}
use Rattle.cper_records.specs.Readable.{filled}
use Rattle.apei_sources.specs.Blocks.{BlockParts, entry_at}
use Rattle.ras_facts.specs.declared.name.Name.{Name}
use Rattle.cper_pcie.specs.Reports.{Found, Taken, record_section, record_sections, block_section, block_sections, is_pcie, pcie_section}
use Rattle.cper_pcie.specs.Section.{pcie_of}
use Rattle.cper_pcie.specs.Along.{sections_lines, totals_after}
use Rattle.cper_pcie.specs.Steps.Filtering.{sections_in, taken_from}
use Rattle.cper_pcie.specs.Texts.{read_sections, section_line}
use Rattle.cper_pcie.specs.Totals.{Totals}
use Rattle.cper_pcie.specs.declared.reports.Sections.{Sections}
use Rattle.cper_pcie.specs.declared.reports.Sections.TheVariants as sections
use Rattle.cper_pcie.proofs.TotalLemmas.{totals-append}

-- ---- a section by its number

pub record-count : (own : List ℕ) → length (record_sections own) ≡ section_count own
record-count own = length-map-range_with_len (record_section own) 0 (section_count own)

pub record-at : (own : List ℕ) (i : ℕ) → i < section_count own → slice_get (record_sections own) i ≡ Some (record_section own i)
record-at own i below =
    let long : i < length (record_sections own) = omega (arith, record-count own) in
    slice_get-get_or (record_sections own) i (record_section own i) long
    ∙ ap (λ (x : Found). Some x) (get_or-map-range_with_len (record_section own) 0 (section_count own) i i (record_section own i) below (omega arith))

pub block-count : (block : BlockParts) → length (block_sections block) ≡ length block.entries
block-count block = length-map block.entries block_section

pub block-at : (block : BlockParts) (i : ℕ) → i < length block.entries → slice_get (block_sections block) i ≡ Some (block_section (entry_at block i))
block-at block i below =
    slice_get-map block_section block.entries i ∙ ap (option_map block_section) (slice_get-get_or block.entries i [] below)

pub record-below : (s : Sections) (own : List ℕ) (i : ℕ) → s ≡ sections.Record own → i < length (sections_in s) → i < section_count own
record-below s own i is below =
    let there : i < length (record_sections own) = subst (λ (x : Sections). i < length (sections_in x)) is below in
    omega (arith, record-count own)

pub block-below : (s : Sections) (block : BlockParts) (i : ℕ) → s ≡ sections.Block block → i < length (sections_in s) → i < length block.entries
block-below s block i is below =
    let there : i < length (block_sections block) = subst (λ (x : Sections). i < length (sections_in x)) is below in
    omega (arith, block-count block)

pub found-is : (a b : Found) → a.guid ≡ b.guid → a.severity ≡ b.severity → a.bytes ≡ b.bytes → Some b ≡ Some a
found-is a b guid severity bytes = sym whole
  where
    whole : Some a ≡ Some b
    whole = λ k. Some (record { guid = guid k; severity = severity k; bytes = bytes k })

-- ---- among the first ones

take-next : {X : Type 0} (xs : List X) (i : ℕ) (x : X) → slice_get xs i ≡ Some x → take (i + 1) xs ≡ take i xs ++ x ∷ []
take-next xs i x is = take_more xs i x (slice_get_within xs i x is) ∙ ap (λ y. take i xs ++ y ∷ []) (get_or_from_slice_get xs i x x is)

either : (a b : Bool) → a ≡ false → b ≡ false → (a || (b || false)) ≡ false
either a b one other = cc

pub any-next : {X : Type 0} (p : X → Bool) (xs : List X) (i : ℕ) (x : X) → slice_get xs i ≡ Some x
    → list_any p (take i xs) ≡ false → p x ≡ false → list_any p (take (i + 1) xs) ≡ false
any-next p xs i x is before here =
    ap (list_any p) (take-next xs i x is) ∙ list_any-append p (take i xs) (x ∷ []) ∙ either (list_any p (take i xs)) (p x) before here

pub any-there : {X : Type 0} (p : X → Bool) (xs : List X) (i : ℕ) (x : X) → slice_get xs i ≡ Some x → p x ≡ true → list_any p xs ≡ true
any-there p [] i x is here = absurd cc
any-there p (y ∷ ys) zero x is here = first
  where
    first : (p y || list_any p ys) ≡ true
    first = cc
any-there p (y ∷ ys) (suc i) x is here = later (p y) (any-there p ys i x is here)
  where
    later : (b : Bool) → list_any p ys ≡ true → (b || list_any p ys) ≡ true
    later true rest = refl
    later false rest = rest

pub any-all : {X : Type 0} (p : X → Bool) (xs : List X) (i : ℕ) → length xs ≤ i → list_any p (take i xs) ≡ false → list_any p xs ≡ false
any-all p xs i all is = ap (list_any p) (sym (take_all i xs all)) ∙ is

of_test : (name : Name) (found : Found) (b : Bool) → is_pcie found ≡ b
    → filter_map (pcie_section name) (found ∷ []) ≡ (if b then record { name = name; severity = found.severity; bytes = found.bytes } ∷ [] else [])
of_test name found true is = rw is refl
of_test name found false is = rw is refl

pub taken-next : (name : Name) (found : List Found) (i : ℕ) (x : Found) → slice_get found i ≡ Some x → is_pcie x ≡ true
    → taken_from name (take (i + 1) found) ≡ taken_from name (take i found) ++ record { name = name; severity = x.severity; bytes = x.bytes } ∷ []
taken-next name found i x is here =
    ap (taken_from name) (take-next found i x is) ∙ filter_map-append (pcie_section name) (take i found) (x ∷ [])
    ∙ ap (λ (more : List Taken). taken_from name (take i found) ++ more) (of_test name x true here)

pub taken-same : (name : Name) (found : List Found) (i : ℕ) (x : Found) → slice_get found i ≡ Some x → is_pcie x ≡ false
    → taken_from name (take (i + 1) found) ≡ taken_from name (take i found)
taken-same name found i x is here =
    ap (taken_from name) (take-next found i x is) ∙ filter_map-append (pcie_section name) (take i found) (x ∷ [])
    ∙ ap (λ (more : List Taken). taken_from name (take i found) ++ more) (of_test name x false here)
    ∙ append-nil (taken_from name (take i found))

pub taken-all : (name : Name) (found : List Found) (i : ℕ) → length found ≤ i → taken_from name (take i found) ≡ taken_from name found
taken-all name found i all = ap (taken_from name) (take_all i found all)

-- ---- what is taken of the first sections

-- the PCI Express sections among the first ones were added up, and their lines printed
pub record TookFirst (name : Name) (found : List Found) (i : ℕ) (before after : Totals) (old new : List ℕ) : Type 0 where
  pub totals : after ≡ totals_after before (read_sections (taken_from name (take i found)))
  pub text : new ≡ old ++ sections_lines (taken_from name (take i found))
  pub few : after.sections ≤ before.sections + i

pub read-append : (xs ys : List Taken) → read_sections (xs ++ ys) ≡ read_sections xs ++ read_sections ys
read-append xs ys = filter_map-append (λ (section : Taken). result_ok (pcie_of section.bytes)) xs ys

pub took-none : (name : Name) (found : List Found) (before : Totals) (old : List ℕ) → TookFirst name found 0 before before old old
took-none name found before old = record { totals = refl; text = sym (append-nil old); few = omega arith }

pub took-next : (name : Name) (found : List Found) (i : ℕ) (before middle after : Totals) (old text new : List ℕ) (x : Found)
    → slice_get found i ≡ Some x → is_pcie x ≡ true → TookFirst name found i before middle old text
    → after ≡ totals_after middle (read_sections (record { name = name; severity = x.severity; bytes = x.bytes } ∷ []))
    → new ≡ text ++ section_line (record { name = name; severity = x.severity; bytes = x.bytes })
    → after.sections ≤ middle.sections + 1 → TookFirst name found (i + 1) before after old new
took-next name found i before middle after old text new x is here took totals-is text-is few =
    let taken : Taken = record { name = name; severity = x.severity; bytes = x.bytes } in
    let first : List Taken = taken_from name (take i found) in
    let more : taken_from name (take (i + 1) found) ≡ first ++ taken ∷ [] = taken-next name found i x is here in
    record {
      totals = totals-is ∙ ap (λ (t : Totals). totals_after t (read_sections (taken ∷ []))) took.totals
          ∙ sym (totals-append before (read_sections first) (read_sections (taken ∷ [])))
          ∙ ap (totals_after before) (sym (read-append first (taken ∷ [])))
          ∙ ap (λ (t : List Taken). totals_after before (read_sections t)) (sym more);
      text = text-is ∙ ap (λ t. t ++ section_line taken) took.text ∙ append_assoc old (sections_lines first) (section_line taken)
          ∙ ap (λ t. old ++ (sections_lines first ++ t)) (sym (append-nil (section_line taken)))
          ∙ ap (λ t. old ++ t) (sym (flat_map-append section_line first (taken ∷ [])))
          ∙ ap (λ (t : List Taken). old ++ sections_lines t) (sym more);
      few = omega (arith, took.few);
    }

pub took-same : (name : Name) (found : List Found) (i : ℕ) (before middle after : Totals) (old text new : List ℕ) (x : Found)
    → slice_get found i ≡ Some x → is_pcie x ≡ false → TookFirst name found i before middle old text
    → after ≡ middle → new ≡ text → TookFirst name found (i + 1) before after old new
took-same name found i before middle after old text new x is here took totals-is text-is =
    let same : taken_from name (take (i + 1) found) ≡ taken_from name (take i found) = taken-same name found i x is here in
    record {
      totals = totals-is ∙ took.totals ∙ ap (λ (t : List Taken). totals_after before (read_sections t)) (sym same);
      text = text-is ∙ took.text ∙ ap (λ (t : List Taken). old ++ sections_lines t) (sym same);
      few = omega (arith, took.few, ap (λ (t : Totals). t.sections) totals-is);
    }

pub took-totals : (name : Name) (found : List Found) (i : ℕ) (before after : Totals) (old new : List ℕ) → length found ≤ i
    → TookFirst name found i before after old new → after ≡ totals_after before (read_sections (taken_from name found))
took-totals name found i before after old new all took =
    took.totals ∙ ap (λ (t : List Taken). totals_after before (read_sections t)) (taken-all name found i all)

pub took-text : (name : Name) (found : List Found) (i : ℕ) (before after : Totals) (old new : List ℕ) → length found ≤ i
    → TookFirst name found i before after old new → new ≡ old ++ sections_lines (taken_from name found)
took-text name found i before after old new all took =
    took.text ∙ ap (λ (t : List Taken). old ++ sections_lines t) (taken-all name found i all)

-- ---- a record in the store

-- bytes in a buffer, and zeros after them
pub filled-is : (bytes held : List ℕ) (n : ℕ) → held ≡ bytes → n ≡ length bytes → length bytes ≤ 16384
    → take 16384 held ++ replicate (16384 - n) 0 ≡ filled bytes
filled-is bytes held n same count short =
    ap (λ (b : List ℕ). take 16384 b ++ replicate (16384 - n) 0) same
    ∙ ap (λ (b : List ℕ). b ++ replicate (16384 - n) 0) (take_all 16384 bytes short)
    ∙ ap (λ m. bytes ++ replicate (16384 - m) 0) count
