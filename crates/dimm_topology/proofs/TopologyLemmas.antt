-- What stays true of a topology when rows are added.
use Rattle.std.proofs.Common.{◌≡◌, ℕ, ◌≤◌, ◌<◌, Bool, true, false, ◌&&◌, ◌||◌, Some, Result, List, [], ◌∷◌, ◌++◌, length, refl, ◌∙◌, arith, length-append}
use Rattle.std.specs.Prelude.{OnOk, OnErr, Ok, Err, nat_le, nat_eq, max, IsSome}
use Rattle.std.proofs.lemmas.Grind.{common_steps}
use Rattle.std.proofs.lemmas.Bool.Decides.{nat_tests}
use Rattle.std.proofs.lemmas.List.Folds.{list_any-append, list_all-append}
use Rattle.std.specs.List.{list_any, list_all}
use Rattle.dimm_topology.specs.Labels.{Bytes}
use Rattle.dimm_topology.specs.declared.row.Row.{Row}
use Rattle.dimm_topology.specs.declared.row.Row.TheVariants.{Cpu, Module, Range, Place}
use Rattle.dimm_topology.specs.declared.topology.TopologyRefused.{TopologyRefused}
use Rattle.dimm_topology.specs.Rows.{is_range_over, overlap, names_module, is_labelled, is_module_of}
use Rattle.dimm_topology.specs.Owners.{owner_of_address, socket_by_rows}
use Rattle.dimm_topology.specs.Refusals.{SharesAddress, AnswersRow, row_refusal}
use Rattle.dimm_topology.specs.Topology.{IsApart, IsTopology, is_upright}
use Rattle.dimm_topology.proofs.OwnerLemmas.{overlap_at, none_over}
use Rattle.dimm_topology.proofs.TableLemmas.{same_owner, socket_more}

-- The order of two rows doesn't matter for whether they overlap.
overlap_turned : (one other : Row) → overlap one other ≡ overlap other one
overlap_turned (Range label first last) (Range label' first' last') = grind (arith, nat_tests)
overlap_turned (Range label first last) (Cpu cpu socket) = refl
overlap_turned (Range label first last) (Module label' socket bank channel) = refl
overlap_turned (Range label first last) (Place label' node card module') = refl
overlap_turned (Cpu cpu socket) (Range label first last) = refl
overlap_turned (Cpu cpu socket) (Cpu cpu' socket') = refl
overlap_turned (Cpu cpu socket) (Module label socket' bank channel) = refl
overlap_turned (Cpu cpu socket) (Place label node card module') = refl
overlap_turned (Module label' socket bank channel) (Range label first last) = refl
overlap_turned (Module label' socket bank channel) (Cpu cpu' socket') = refl
overlap_turned (Module label' socket bank channel) (Module label socket' bank' channel') = refl
overlap_turned (Module label' socket bank channel) (Place label node card module') = refl
overlap_turned (Place label' node card module') (Range label first last) = refl
overlap_turned (Place label' node card module') (Cpu cpu' socket') = refl
overlap_turned (Place label' node card module') (Module label socket' bank' channel') = refl
overlap_turned (Place label' node card module') (Place label node' card' module'') = refl

-- A row that overlaps no other may be added.
apart_more : (rows : List Row) (row : Row) → IsApart rows → list_any (overlap row) rows ≡ false → IsApart (rows ++ row ∷ [])
apart_more [] row apart free = (refl, apart)
apart_more (other ∷ rows) row apart free =
    (grind (arith, common_steps, list_any-append (overlap other) rows (row ∷ []), overlap_turned other row, apart.0), apart_more rows row apart.1 (grind (arith, common_steps)))

-- The label of a module row stays one, however many rows are added.
named_kept : (rows more : List Row) (row : Row) → names_module rows row ≡ true → names_module (rows ++ more) row ≡ true
named_kept rows more (Cpu cpu socket) named = refl
named_kept rows more (Module label socket bank channel) named = refl
named_kept rows more (Range label first last) named = grind (arith, common_steps, list_any-append (is_module_of label) rows more)
named_kept rows more (Place label node card module') named = grind (arith, common_steps, list_any-append (is_module_of label) rows more)

all_named_kept : (rows more xs : List Row) → list_all (names_module rows) xs ≡ true → list_all (names_module (rows ++ more)) xs ≡ true
all_named_kept rows more [] named = refl
all_named_kept rows more (row ∷ xs) named = grind (arith, common_steps, named_kept rows more row, all_named_kept rows more xs)

pub topology_more : (rows : List Row) (row : Row) → IsTopology rows → names_module rows row ≡ true → list_any (overlap row) rows ≡ false → is_upright row ≡ true → is_labelled row ≡ true → length rows < 4096 → IsTopology (rows ++ row ∷ [])
topology_more rows row topology named free upright labelled small = record {
  apart = apart_more rows row topology.apart free;
  upright = grind (arith, common_steps, list_all-append is_upright rows (row ∷ []), topology.upright);
  named = grind (arith, common_steps, list_all-append (names_module (rows ++ row ∷ [])) rows (row ∷ []), all_named_kept rows (row ∷ []) rows topology.named, named_kept rows (row ∷ []) row named);
  labelled = grind (arith, common_steps, list_all-append is_labelled rows (row ∷ []), topology.labelled);
  small = grind (arith, common_steps, length-append rows (row ∷ []));
}

-- A row that isn't a range over an address doesn't change the address's owner.
pub other_row : (result : Result (Unit {0}) TopologyRefused) (old new : List Row) (row : Row) → ((address : ℕ) → is_range_over address row ≡ false)
    → OnOk result (new ≡ old ++ row ∷ []) → OnErr result (new ≡ old) → (address : ℕ) → owner_of_address new address ≡ owner_of_address old address
other_row (Ok done) old new row other ok err address = rw ok (same_owner old row address (other address))
other_row (Err refused) old new row other ok err address = rw err refl

-- A range shares an address with an earlier range that it overlaps.
pub shares : (label : Bytes) (first last : ℕ) (rows : List Row) → first ≤ last → list_all is_upright rows ≡ true
    → list_any (overlap (Range label first last)) rows ≡ true → SharesAddress rows first last
shares label first last [] upright all meets = cc
shares label first last (Cpu cpu socket ∷ rows) upright all meets = shares label first last rows upright all meets
shares label first last (Module label' socket bank channel ∷ rows) upright all meets = shares label first last rows upright all meets
shares label first last (Place label' node card module' ∷ rows) upright all meets = shares label first last rows upright all meets
shares label first last (Range label' first' last' ∷ rows) upright all meets =
    by (nat_le first last' && nat_le first' last) refl meets (shares label first last rows upright (grind (arith, common_steps)))
  where
    by : (b : Bool) → (nat_le first last' && nat_le first' last) ≡ b → (b || list_any (overlap (Range label first last)) rows) ≡ true
        → (list_any (overlap (Range label first last)) rows ≡ true → SharesAddress rows first last) → SharesAddress (Range label' first' last' ∷ rows) first last
    by true here meets later = (max first first', omega arith, grind (arith, nat_tests), grind (arith, common_steps, nat_tests))
    by false here meets later = let found = later meets in (found.0, found.1, found.2, grind (arith, common_steps, found.3))

pub overlaps_at : (label : Bytes) (first last address : ℕ) (rows : List Row) → first ≤ address → address ≤ last
    → list_any (is_range_over address) rows ≡ true → list_any (overlap (Range label first last)) rows ≡ true
overlaps_at label first last address [] low high held = cc
overlaps_at label first last address (row ∷ rows) low high held =
    let over : is_range_over address (Range label first last) ≡ true = grind (arith, nat_tests) in
    grind (arith, common_steps, overlap_at address (Range label first last) row over, overlaps_at label first last address rows low high)

-- A CPU row that is added gives the CPU its socket.
pub last_socket : (result : Result (Unit {0}) TopologyRefused) (old new : List Row) (cpu socket : ℕ) → OnOk result (new ≡ old ++ Cpu cpu socket ∷ []) → OnOk result (socket_by_rows new cpu ≡ Some socket)
last_socket (Err refused) old new cpu socket ok = tt
last_socket (Ok done) old new cpu socket ok =
    let own : nat_eq cpu cpu ≡ true = grind (arith, nat_tests) in
    rw ok (socket_more old cpu socket cpu ∙ rw own refl)

-- If an address is in a range, a row that overlaps no range doesn't contain it.
not_over : (address : ℕ) (row : Row) (rows : List Row) → list_any (overlap row) rows ≡ false → IsSome (owner_of_address rows address) → is_range_over address row ≡ false
not_over address row rows free owned = by (is_range_over address row) refl
  where
    by : (b : Bool) → is_range_over address row ≡ b → b ≡ false
    by false e = refl
    by true e = let none = rw (none_over address row rows e free) at owned in cc

-- A range that is added doesn't change the owners of other ranges' addresses.
pub range_keeps : (result : Result (Unit {0}) TopologyRefused) (old new : List Row) (row : Row) → AnswersRow result (row_refusal old row)
    → OnOk result (new ≡ old ++ row ∷ []) → OnErr result (new ≡ old) → (address : ℕ) → IsSome (owner_of_address old address) → owner_of_address new address ≡ owner_of_address old address
range_keeps (Err refused) old new row answer ok err address owned = rw err refl
range_keeps (Ok done) old new row answer ok err address owned =
    let free : list_any (overlap row) old ≡ false = grind (arith, common_steps, answer) in
    rw ok (same_owner old row address (not_over address row old free owned))
