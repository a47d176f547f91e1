-- The tables say what the rows say, as rows are added.
use Rattle.std.proofs.Common.{◌≡◌, ℕ, ◌≤◌, Bool, true, false, cond, ◌&&◌, ◌||◌, nat_eq, Option, Some, None, Result, Ok, Err, List, [], ◌∷◌, ◌++◌, refl, sym, ap, ◌∙◌, arith, filter, append-nil, option_map}
use Rattle.std.proofs.lemmas.Grind.{common_steps}
use Rattle.std.proofs.lemmas.Bool.Decides.{nat_tests}
use Rattle.std.proofs.lemmas.List.Folds.{list_any-append, list_all-append}
use Rattle.std.proofs.lemmas.List.Elements.{filter-append, filter_map-append}
use Rattle.std.specs.Prelude.{OnOk, OnErr}
use Rattle.std.specs.List.{list_any, list_all, find, filter_map, last_or}
use Rattle.std.specs.Cmp.Lexicographic.{nat_list_eq_equiv}
use Rattle.std.specs.HashMap.{get}
use Rattle.std.specs.HashSet.{contains}
use Rattle.ras_base.specs.declared.NoMemory.{NoMemory}
use Rattle.dimm_topology.specs.Labels.{Bytes, same_label}
use Rattle.dimm_topology.specs.contracts.row.LocationPartialEq.TheImpl.{eq-value as location_eq}
use Rattle.dimm_topology.specs.declared.ranges.HeldRange.{HeldRange}
use Rattle.dimm_topology.specs.declared.row.Location.{Location}
use Rattle.dimm_topology.specs.declared.row.Location.TheVariants.{Channel, Numbers}
use Rattle.dimm_topology.specs.declared.row.Row.{Row}
use Rattle.dimm_topology.specs.declared.row.Row.TheVariants.{Cpu, Module, Range, Place}
use Rattle.dimm_topology.specs.declared.tables.Tables.{Tables}
use Rattle.dimm_topology.specs.Rows.{socket_of, label_in, labels_of_rows, is_at, is_module_of, is_module_label, is_range_over, overlap}
use Rattle.dimm_topology.specs.Owners.{owner_of_address, socket_by_rows}
use Rattle.dimm_topology.specs.Steps.Ranges.{meets, put_in}
use Rattle.dimm_topology.specs.Steps.Tables.{meets_one, noted, joined, Tells}
use Rattle.dimm_topology.proofs.OwnerLemmas.{none_over}
use Rattle.dimm_topology.proofs.RangeLemmas.{any_put, find_put, found_put}
use Rattle.dimm_topology.proofs.LocationLemmas.{location-exact, at_channel, at_numbers}

none_overlaps : (row : Row) → ((other : Row) → overlap row other ≡ false) → (rows : List Row) → list_any (overlap row) rows ≡ false
none_overlaps row none [] = refl
none_overlaps row none (other ∷ rows) = rw (none other) (none_overlaps row none rows)

-- The ranges that a row meets are the ranges that it overlaps.
pub meets_overlapped : (rows : List Row) (tables : Tables) (row : Row) → Tells rows tables → meets_one tables.ranges row ≡ list_any (overlap row) rows
meets_overlapped rows tables (Range label first last) tells = sym (tells.held label first last)
meets_overlapped rows tables (Cpu cpu socket) tells = sym (none_overlaps (Cpu cpu socket) (λ other. refl) rows)
meets_overlapped rows tables (Module label socket bank channel) tells = sym (none_overlaps (Module label socket bank channel) (λ other. refl) rows)
meets_overlapped rows tables (Place label node card module') tells = sym (none_overlaps (Place label node card module') (λ other. refl) rows)

-- A row that isn't a range over an address doesn't change the address's owner.
pub same_owner : (rows : List Row) (row : Row) (address : ℕ) → is_range_over address row ≡ false → owner_of_address (rows ++ row ∷ []) address ≡ owner_of_address rows address
same_owner rows row address other =
    let more : filter (is_range_over address) (rows ++ row ∷ []) ≡ filter (is_range_over address) rows =
    filter-append (is_range_over address) rows (row ∷ []) ∙ rw other (append-nil (filter (is_range_over address) rows)) in
    rw more refl

same_module : (rows : List Row) (row : Row) (label : Bytes) → is_module_of label row ≡ false → is_module_label (rows ++ row ∷ []) label ≡ is_module_label rows label
same_module rows row label other = list_any-append (is_module_of label) rows (row ∷ []) ∙ grind (arith, common_steps, other)

same_held : (rows : List Row) (row : Row) (label : Bytes) (first last : ℕ) → overlap (Range label first last) row ≡ false
    → list_any (overlap (Range label first last)) (rows ++ row ∷ []) ≡ list_any (overlap (Range label first last)) rows
same_held rows row label first last other = list_any-append (overlap (Range label first last)) rows (row ∷ []) ∙ grind (arith, common_steps, other)

last_added : (xs : List ℕ) (first : Option ℕ) (x : ℕ) → last_or first (xs ++ x ∷ []) ≡ Some x
last_added [] first x = refl
last_added (y ∷ xs) first x = last_added xs (Some y) x

-- Labels with one more.
noted_more : (labels : List Bytes) (label : Bytes) → noted (labels ++ label ∷ []) ≡ Some (joined (noted labels) label)
noted_more [] label = refl
noted_more (first ∷ labels) label =
    by (list_all (same_label first) labels) (same_label first label) refl refl (list_all-append (same_label first) labels (label ∷ []))
  where
    by : (b c : Bool) → list_all (same_label first) labels ≡ b → same_label first label ≡ c
        → list_all (same_label first) (labels ++ label ∷ []) ≡ (list_all (same_label first) labels && (same_label first label && true))
        → noted (first ∷ labels ++ label ∷ []) ≡ Some (joined (noted (first ∷ labels)) label)
    by true true all same more = rw (more, all, same) refl
    by true false all same more = rw (more, all, same) refl
    by false c all same more = rw (more, all) refl

-- the labels of the rows of a location
abbrev pub labels_at : List Row → Location → List Bytes
labels_at rows at = labels_of_rows (filter (is_at at) rows)

same_noted : (rows : List Row) (row : Row) (at : Location) → is_at at row ≡ false → labels_at (rows ++ row ∷ []) at ≡ labels_at rows at
same_noted rows row at other =
    let more : filter (is_at at) (rows ++ row ∷ []) ≡ filter (is_at at) rows =
    filter-append (is_at at) rows (row ∷ []) ∙ rw other (append-nil (filter (is_at at) rows)) in
    ap labels_of_rows more

one_noted : (rows : List Row) (row : Row) (label : Bytes) (at : Location) → label_in row ≡ Some label → is_at at row ≡ true
    → labels_at (rows ++ row ∷ []) at ≡ labels_at rows at ++ label ∷ []
one_noted rows row label at names here =
    let more : filter (is_at at) (rows ++ row ∷ []) ≡ filter (is_at at) rows ++ row ∷ [] = filter-append (is_at at) rows (row ∷ []) ∙ rw here refl in
    ap labels_of_rows more ∙ filter_map-append label_in (filter (is_at at) rows) (row ∷ []) ∙ rw names refl

-- The owners of locations, after a row of one location is added.
owners_more : (rows : List Row) (row : Row) (label : Bytes) (own : Location) (old new : Location → Option (Option Bytes)) → label_in row ≡ Some label
    → ((at : Location) → is_at at row ≡ location_eq.it own at)
    → ((at : Location) → new at ≡ cond (location_eq.it own at) (Some (joined (old own) label)) (old at))
    → ((at : Location) → old at ≡ noted (labels_at rows at)) → (at : Location) → new at ≡ noted (labels_at (rows ++ row ∷ []) at)
owners_more rows row label own old new names is after before at = by (location_eq.it own at) refl
  where
    by : (b : Bool) → location_eq.it own at ≡ b → new at ≡ noted (labels_at (rows ++ row ∷ []) at)
    by true here =
        let same : own ≡ at = location-exact own at here in
        after at ∙ rw (here, one_noted rows row label at names (is at ∙ here), noted_more (labels_at rows at) label, same, before at) refl
    by false other = after at ∙ rw (other, same_noted rows row at (is at ∙ other)) (before at)

-- The sockets of CPUs are unchanged after a row that isn't a CPU's.
same_socket : (rows : List Row) (row : Row) (cpu : ℕ) → socket_of cpu row ≡ None → socket_by_rows (rows ++ row ∷ []) cpu ≡ socket_by_rows rows cpu
same_socket rows row cpu other =
    let more : filter_map (socket_of cpu) (rows ++ row ∷ []) ≡ filter_map (socket_of cpu) rows =
    filter_map-append (socket_of cpu) rows (row ∷ []) ∙ rw other (append-nil (filter_map (socket_of cpu) rows)) in
    ap (last_or None) more

-- A row of a CPU gives the CPU its socket.
pub socket_more : (rows : List Row) (cpu socket at : ℕ)
    → socket_by_rows (rows ++ Cpu cpu socket ∷ []) at ≡ cond (nat_eq at cpu) (Some socket) (socket_by_rows rows at)
socket_more rows cpu socket at = by (nat_eq at cpu) refl
  where
    by : (b : Bool) → nat_eq at cpu ≡ b → socket_by_rows (rows ++ Cpu cpu socket ∷ []) at ≡ cond b (Some socket) (socket_by_rows rows at)
    by true own =
        let more : filter_map (socket_of at) (rows ++ Cpu cpu socket ∷ []) ≡ filter_map (socket_of at) rows ++ socket ∷ [] =
        filter_map-append (socket_of at) rows (Cpu cpu socket ∷ []) ∙ rw own refl in
        ap (last_or None) more ∙ last_added (filter_map (socket_of at) rows) None socket
    by false other = same_socket rows (Cpu cpu socket) at (rw other refl)

-- The tables with the socket of a CPU.
pub cpu_more : (rows : List Row) (cpu socket : ℕ) (old new : Tables) → new.modules ≡ old.modules → new.owners ≡ old.owners → new.ranges ≡ old.ranges
    → ((at : ℕ) → get nat_eq new.sockets at ≡ cond (nat_eq cpu at) (Some socket) (get nat_eq old.sockets at)) → Tells rows old
    → Tells (rows ++ Cpu cpu socket ∷ []) new
cpu_more rows cpu socket old new modules owners ranges sockets tells = record {
  sockets = λ at. sockets at ∙ sym (socket_more rows cpu socket at ∙ rw (turned at, tells.sockets at) refl);
  modules = λ label. rw modules (tells.modules label ∙ sym (same_module rows (Cpu cpu socket) label refl));
  owners = λ at. rw owners (tells.owners at ∙ ap noted (sym (same_noted rows (Cpu cpu socket) at refl)));
  held = λ label first last. rw ranges (same_held rows (Cpu cpu socket) label first last refl ∙ tells.held label first last);
  owned = λ address. rw ranges (same_owner rows (Cpu cpu socket) address refl ∙ tells.owned address);
}
  where
    turned : (at : ℕ) → nat_eq at cpu ≡ nat_eq cpu at
    turned at = grind (arith, nat_tests)

any_more : (b c : Bool) → (c || (b || false)) ≡ cond b true c
any_more true true = refl
any_more true false = refl
any_more false true = refl
any_more false false = refl

-- The tables with a row of a module.
pub module_more : (rows : List Row) (label : Bytes) (socket bank channel : ℕ) (old new : Tables) → new.sockets ≡ old.sockets → new.ranges ≡ old.ranges
    → ((at : Bytes) → contains same_label new.modules at ≡ cond (same_label label at) true (contains same_label old.modules at))
    → ((at : Location) → get location_eq.it new.owners at ≡ cond (location_eq.it (Channel socket bank channel) at)
    (Some (joined (get location_eq.it old.owners (Channel socket bank channel)) label)) (get location_eq.it old.owners at)) → Tells rows old
    → Tells (rows ++ Module label socket bank channel ∷ []) new
module_more rows label socket bank channel old new sockets ranges modules owners tells =
    let row : Row = Module label socket bank channel in record {
      sockets = λ cpu. rw sockets (tells.sockets cpu ∙ sym (same_socket rows row cpu refl));
      modules = λ at. modules at ∙ with_module at (tells.modules at);
      owners = owners_more rows row label (Channel socket bank channel) (get location_eq.it old.owners) (get location_eq.it new.owners) refl (at_channel label socket bank channel) owners tells.owners;
      held = λ label' first last. rw ranges (same_held rows row label' first last refl ∙ tells.held label' first last);
      owned = λ address. rw ranges (same_owner rows row address refl ∙ tells.owned address);
    }
  where
    with_module : (at : Bytes) → contains same_label old.modules at ≡ is_module_label rows at
        → cond (same_label label at) true (contains same_label old.modules at) ≡ is_module_label (rows ++ Module label socket bank channel ∷ []) at
    with_module at before = sym (list_any-append (is_module_of at) rows (Module label socket bank channel ∷ [])
        ∙ rw (nat_list_eq_equiv.symm at label, ← before) (any_more (same_label label at) (contains same_label old.modules at)))

-- The tables with a row of a place.
pub place_more : (rows : List Row) (label : Bytes) (node card module' : ℕ) (old new : Tables) → new.sockets ≡ old.sockets → new.modules ≡ old.modules
    → new.ranges ≡ old.ranges → ((at : Location) → get location_eq.it new.owners at ≡ cond (location_eq.it (Numbers node card module') at)
    (Some (joined (get location_eq.it old.owners (Numbers node card module')) label)) (get location_eq.it old.owners at)) → Tells rows old
    → Tells (rows ++ Place label node card module' ∷ []) new
place_more rows label node card module' old new sockets modules ranges owners tells =
    let row : Row = Place label node card module' in record {
      sockets = λ cpu. rw sockets (tells.sockets cpu ∙ sym (same_socket rows row cpu refl));
      modules = λ at. rw modules (tells.modules at ∙ sym (same_module rows row at refl));
      owners = owners_more rows row label (Numbers node card module') (get location_eq.it old.owners) (get location_eq.it new.owners) refl (at_numbers label node card module') owners tells.owners;
      held = λ label' first last. rw ranges (same_held rows row label' first last refl ∙ tells.held label' first last);
      owned = λ address. rw ranges (same_owner rows row address refl ∙ tells.owned address);
    }

-- The tables with one more range.
pub range_more : (rows : List Row) (label : Bytes) (first last : ℕ) (old new : Tables) → new.sockets ≡ old.sockets → new.modules ≡ old.modules → new.owners ≡ old.owners
    → first ≤ last → meets_one old.ranges (Range label first last) ≡ false
    → new.ranges ≡ put_in (record { label = label; first = first; last = last }) old.ranges → Tells rows old → Tells (rows ++ Range label first last ∷ []) new
range_more rows label first last old new sockets modules owners upright free put tells = record {
  sockets = λ cpu. rw sockets (tells.sockets cpu ∙ sym (same_socket rows (Range label first last) cpu refl));
  modules = λ at. rw modules (tells.modules at ∙ sym (same_module rows (Range label first last) at refl));
  owners = λ at. rw owners (tells.owners at ∙ ap noted (sym (same_noted rows (Range label first last) at refl)));
  held = λ label' first' last'. rw put (list_any-append (overlap (Range label' first' last')) rows (Range label first last ∷ [])
      ∙ grind (arith, common_steps, any_put (meets first' last') range old.ranges, tells.held label' first' last'));
  owned = λ address. rw put (by address (is_range_over address (Range label first last)) refl);
}
  where
    range : HeldRange
    range = record { label = label; first = first; last = last }

    apart : list_any (overlap (Range label first last)) rows ≡ false
    apart = tells.held label first last ∙ free

    by : (address : ℕ) (b : Bool) → is_range_over address (Range label first last) ≡ b
        → owner_of_address (rows ++ Range label first last ∷ []) address ≡ option_map (λ range. range.label) (find (meets address address) (put_in range old.ranges))
    by address true over =
        let here : meets address address range ≡ true = grind (arith, nat_tests) in
        let more : filter (is_range_over address) (rows ++ Range label first last ∷ []) ≡ Range label first last ∷ [] =
        filter-append (is_range_over address) rows (Range label first last ∷ []) ∙ rw (none_over address (Range label first last) rows over apart, over) refl in
        rw (more, found_put address range old.ranges here free) refl
    by address false over =
        let none : meets address address range ≡ false = grind (arith, nat_tests) in
        same_owner rows (Range label first last) address over ∙ tells.owned address ∙ rw (find_put (meets address address) range old.ranges none) refl

-- What follows from what holds on success.
pub after : {P Q : Type 0} (result : Result (Unit {0}) NoMemory) → (P → Q) → OnOk result P → OnOk result Q
after (Ok done) f p = f p
after (Err refused) f p = tt

-- A statement that holds in any case holds of a failure too.
pub on_failure : {P : Type 0} (result : Result (Unit {0}) NoMemory) → P → OnErr result P
on_failure (Ok done) p = tt
on_failure (Err refused) p = p

-- Tables with the same entries, in any order.
pub same_entries : (rows : List Row) (old new : Tables) → new.sockets ≡ old.sockets → new.ranges ≡ old.ranges
    → ((label : Bytes) → contains same_label new.modules label ≡ contains same_label old.modules label) → new.owners.entries ≡ old.owners.entries
    → Tells rows old → Tells rows new
same_entries rows old new sockets ranges modules owners tells = record {
  sockets = λ cpu. rw sockets (tells.sockets cpu);
  modules = λ label. modules label ∙ tells.modules label;
  owners = λ at. rw owners (tells.owners at);
  held = λ label first last. rw ranges (tells.held label first last);
  owned = λ address. rw ranges (tells.owned address);
}
