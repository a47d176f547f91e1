-- The text of an event is quiet: the lines of its entries, and the lines of the orders that they give.
use Rattle.std.proofs.Common.{◌≡◌, ℕ, ◌==◌, Bool, true, false, if◌then◌else◌, List, [], ◌∷◌, ◌++◌, codes, decimal, length, All, count_by, flat_map, refl, subst}
use Rattle.std.specs.List.{zip}
use Rattle.std.proofs.lemmas.List.Elements.{All-nil, All-cons, All-head, All-tail, All-weaker}
use Rattle.std.specs.Int.{to_be_bytes, w64}
use Rattle.hex.specs.Hex.{encode_lower}
use Rattle.cper_records.specs.declared.refusals.RecordRefused.TheVariants.{Short, Signature, Length, DescriptorOut, SectionOut, Section}
use Rattle.cper_records.specs.declared.refusals.Unreadable.{Unreadable}
use Rattle.cper_records.specs.declared.refusals.Unreadable.TheVariants.{NoRecord, OtherId}
use Rattle.dimm_topology.specs.Labels.{Bytes, same_label}
use Rattle.page_policy.specs.declared.buckets.Limit.{Limit}
use Rattle.row_tables.specs.Tables.{updated_rows}
use Rattle.ras_facts.specs.declared.fact.Fact.{Fact}
use Rattle.ras_facts.specs.declared.items.Item.{Item}
use Rattle.ras_facts.specs.declared.entry.Entry.{Entry}
use Rattle.ras_facts.specs.declared.entry.Entry.TheVariants.{Fact as FactEntry, Limit as PageLimit, Retire, ModuleLimit}
use Rattle.ras_facts.specs.Entries.{IsValidEntry}
use Rattle.ras_facts.specs.Valid.{IsValidItem}
use Rattle.ras_facts.specs.declared.details.Detail.{Detail}
use Rattle.ras_facts.specs.declared.details.Detail.TheVariants.{Bank, Memory, Processor, X64, Other}
use Rattle.ras_account.specs.Account.{State, account_of}
use Rattle.ras_account.specs.Accounts.{IsAccount, IsModuleRow}
use Rattle.ras_account.specs.Continued.{is_fresh_in, new_module, module_after, account_after_item, account_after_items, account_after_fresh, account_with_count, account_after, account_after_all}
use Rattle.ras_account.specs.History.{History, is_retired}
use Rattle.ras_account.specs.Modules.{Module}
use Rattle.ras_account.specs.Sightings.{Sighting, sightings_of}
use Rattle.ras_texts.specs.Orders.{order_lines}
use Rattle.ras_texts.specs.Reports.{detail_text, told_line, empty_line, report_lines, entry_lines}
use Rattle.ras_texts.specs.Text.{name_text, repeat_line}
use Rattle.ras_texts.specs.Unreadable.{unreadable_word, unreadable_line}
use Rattle.ras_events.specs.declared.made.Piece.{Piece}
use Rattle.ras_events.specs.declared.made.Piece.TheVariants.{Counted, Unread}
use Rattle.ras_events.specs.Making.{entries_in}
use Rattle.ras_events.specs.Sizes.{IsFit}
use Rattle.ras_events.specs.Preparing.{event_text_in, orders_along_entries, text_along}
use Rattle.ras_events.specs.Texts.{event_text}
use Rattle.ras_events.proofs.HistoryLemmas.{event_by_history}
use Rattle.ras_events.specs.QuietLines.{AreQuietLines}
use Rattle.ras_events.proofs.ByteLemmas.{is_unbroken, unbroken-append, decimal_unbroken, hexadecimal_unbroken}
use Rattle.ras_events.proofs.PieceLemmas.{name_unbroken, bank_unbroken, section_unbroken, processor_unbroken, x64_unbroken, other_unbroken}
use Rattle.ras_events.proofs.QuietLemmas.{quiet_none, quiet_both, quiet_line}
use Rattle.ras_events.proofs.WholeLineLemmas.{HasLabel, item_quiet, limit_quiet, module_limit_quiet, retire_quiet, repeat_quiet, orders_quiet}

quiet_if : (t : Bool) (one other : List ℕ) → AreQuietLines one → AreQuietLines other → AreQuietLines (if t then one else other)
quiet_if true one other first second = first
quiet_if false one other first second = second

-- ---- the lines of an entry

detail_unbroken : (detail : Detail) → is_unbroken (detail_text detail) ≡ true
detail_unbroken (Bank bank) = bank_unbroken bank
detail_unbroken (Memory section) = section_unbroken section
detail_unbroken (Processor section) = processor_unbroken section
detail_unbroken (X64 section) = x64_unbroken section
detail_unbroken (Other guid) = other_unbroken guid

told_quiet : (fact : Fact) (items : List Item) (details : List Detail) → All IsValidItem items → AreQuietLines (flat_map (told_line fact) (zip items details))
told_quiet fact [] details all = quiet_none
told_quiet fact (item ∷ items) [] all = quiet_none
told_quiet fact (item ∷ items) (detail ∷ details) all =
    let told : Item × Detail = (item, detail) in
    let valid : IsValidItem item = All-head IsValidItem item items all in
    quiet_both (told_line fact told) (flat_map (told_line fact) (zip items details))
    (item_quiet fact (detail_text detail) item (detail_unbroken detail) valid.label)
    (told_quiet fact items details (All-tail IsValidItem item items all))

empty_quiet : (fact : Fact) → AreQuietLines (empty_line fact)
unfolding empty_line
empty_quiet fact =
    quiet_line (codes "log " ++ name_text fact.name ++ codes " t=" ++ decimal fact.seconds ++ codes " empty")
    (simp (unbroken-append, name_unbroken, decimal_unbroken)) refl

report_quiet : (fact : Fact) (details : List Detail) → All IsValidItem fact.items → AreQuietLines (report_lines fact details)
report_quiet fact details all =
    quiet_if (length fact.items == 0) (empty_line fact) (flat_map (told_line fact) (zip fact.items details))
    (empty_quiet fact) (told_quiet fact fact.items details all)

entry_quiet : (details : List Detail) (a : State) (entry : Entry) → IsValidEntry entry → AreQuietLines (entry_lines details a entry)
entry_quiet details a (FactEntry fact) valid = report_quiet fact details valid.items
entry_quiet details a (PageLimit limit) valid = limit_quiet limit
entry_quiet details a (Retire boot) valid = retire_quiet boot (count_by (is_retired boot) a.names)
entry_quiet details a (ModuleLimit limit) valid = module_limit_quiet limit

reason_unbroken : (why : Unreadable) → is_unbroken (unreadable_word why) ≡ true
reason_unbroken (NoRecord Short) = refl
reason_unbroken (NoRecord Signature) = refl
reason_unbroken (NoRecord Length) = refl
reason_unbroken (NoRecord DescriptorOut) = refl
reason_unbroken (NoRecord SectionOut) = refl
reason_unbroken (NoRecord Section) = refl
reason_unbroken OtherId = refl

unreadable_quiet : (id : ℕ) (why : Unreadable) → AreQuietLines (unreadable_line id why)
unfolding unreadable_line
unreadable_quiet id why =
    quiet_line (codes "unreadable record=" ++ encode_lower (to_be_bytes w64 id) ++ codes " reason=" ++ unreadable_word why)
    (simp (unbroken-append, hexadecimal_unbroken, reason_unbroken)) refl

-- The lines of pieces are quiet.
text_quiet : (a : State) (pieces : List Piece) → All IsValidEntry (entries_in pieces) → AreQuietLines (text_along a pieces)
text_quiet a [] all = quiet_none
text_quiet a (Counted entry details ∷ pieces) all =
    let valid : IsValidEntry entry = All-head IsValidEntry entry (entries_in pieces) all in
    quiet_both (if is_fresh_in a entry then entry_lines details a entry else repeat_line a entry) (text_along (account_after a entry) pieces)
    (quiet_if (is_fresh_in a entry) (entry_lines details a entry) (repeat_line a entry) (entry_quiet details a entry valid) (repeat_quiet a entry))
    (text_quiet (account_after a entry) pieces (All-tail IsValidEntry entry (entries_in pieces) all))
text_quiet a (Unread id why ∷ pieces) all =
    quiet_both (unreadable_line id why) (text_along a pieces) (unreadable_quiet id why) (text_quiet a pieces all)

-- ---- the labels of modules

labels_updated : (k : Bytes) (new : Module) (change : Module → Module) → HasLabel (k, new) → (rows : List (Bytes × Module)) → All HasLabel rows → All HasLabel (updated_rows same_label k new change rows)
labels_updated k new change starts [] all = All-cons HasLabel (k, new) [] starts (All-nil HasLabel)
labels_updated k new change starts (row ∷ rows) all =
    by (same_label k row.0) (labels_updated k new change starts rows (All-tail HasLabel row rows all))
  where
    by : (t : Bool) → All HasLabel (updated_rows same_label k new change rows) → All HasLabel (if t then (row.0, change row.1) ∷ rows else row ∷ updated_rows same_label k new change rows)
    by true later = All-cons HasLabel (row.0, change row.1) rows (All-head HasLabel row rows all) (All-tail HasLabel row rows all)
    by false later = All-cons HasLabel row (updated_rows same_label k new change rows) (All-head HasLabel row rows all) later

labels_with_items : (limit module_limit : Limit) (seconds : ℕ) (a : State) (items : List Item) → All IsValidItem items → All HasLabel a.modules
    → All HasLabel (account_after_items a (sightings_of limit module_limit seconds items)).modules
labels_with_items limit module_limit seconds a [] valid all = all
labels_with_items limit module_limit seconds a (item ∷ items) valid all =
    let s : Sighting = record { item = item; seconds = seconds; limit = limit; module_limit = module_limit } in
    let first : IsValidItem item = All-head IsValidItem item items valid in
    labels_with_items limit module_limit seconds (account_after_item a s) items (All-tail IsValidItem item items valid)
    (labels_updated item.label (module_after new_module s) (λ m. module_after m s) first.label a.modules all)

labels_fresh : (a : State) (entry : Entry) → IsValidEntry entry → All HasLabel a.modules → All HasLabel (account_after_fresh a entry).modules
labels_fresh a (FactEntry fact) valid all =
    labels_with_items a.limit a.module_limit fact.seconds (record a { names = a.names ++ fact.name ∷ [] }) fact.items valid.items all
labels_fresh a (PageLimit limit) valid all = all
labels_fresh a (Retire boot) valid all = all
labels_fresh a (ModuleLimit limit) valid all = all

labels_with : (a : State) (entry : Entry) → IsValidEntry entry → All HasLabel a.modules → All HasLabel (account_after a entry).modules
labels_with a entry valid all = by (is_fresh_in a entry)
  where
    by : (t : Bool) → All HasLabel (if t then account_after_fresh (account_with_count a) entry else a).modules
    by true = labels_fresh (account_with_count a) entry valid all
    by false = all

labels_with_all : (a : State) (entries : List Entry) → All IsValidEntry entries → All HasLabel a.modules → All HasLabel (account_after_all a entries).modules
labels_with_all a [] valid all = all
labels_with_all a (entry ∷ entries) valid all =
    labels_with_all (account_after a entry) entries (All-tail IsValidEntry entry entries valid)
    (labels_with a entry (All-head IsValidEntry entry entries valid) all)

-- ---- an event

pub event_quiet_in : (a : State) (made : List Piece) → IsAccount a → IsFit made → AreQuietLines (event_text_in a made)
event_quiet_in a made account fit =
    let es : List Entry = entries_in made in
    let before : All HasLabel a.modules = All-weaker IsModuleRow HasLabel (λ row is. is.label) a.modules account.modules in
    let after : All HasLabel (account_after_all a es).modules = labels_with_all a es fit.valid before in
    quiet_both (text_along a made) (order_lines (account_after_all a es).modules (orders_along_entries a es))
    (text_quiet a made fit.valid)
    (orders_quiet (account_after_all a es).modules (orders_along_entries a es) after)

pub event_quiet : (h : History) (made : List Piece) → IsAccount (account_of h) → IsFit made → AreQuietLines (event_text h made)
event_quiet h made account fit = subst AreQuietLines (event_by_history h made) (event_quiet_in (account_of h) made account fit)
