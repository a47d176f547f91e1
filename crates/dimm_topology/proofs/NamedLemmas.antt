-- An owner is the label of a module row, and a valid label or empty.
use Rattle.std.proofs.Common.{◌≡◌, ℕ, Bool, true, Option, Some, None, List, [], ◌∷◌, refl, arith, filter}
use Rattle.std.specs.Prelude.{IsTrue, IfSome}
use Rattle.std.proofs.lemmas.Grind.{common_steps}
use Rattle.std.specs.Cmp.Lexicographic.{nat_list_eq_equiv}
use Rattle.std.specs.List.{list_all}
use Rattle.std.specs.Option.{option_and_then, option_or, option_copied}
use denote.Ref.{Bor}
use Rattle.dimm_topology.specs.Labels.{Bytes, is_label_or_none}
use Rattle.dimm_topology.specs.declared.row.Location.{Location}
use Rattle.dimm_topology.specs.declared.row.Row.{Row}
use Rattle.dimm_topology.specs.declared.row.Row.TheVariants.{Cpu, Module, Range, Place}
use Rattle.dimm_topology.specs.Rows.{labels_of_rows, names_module, is_labelled, is_module_label, is_at, is_range_over}
use Rattle.dimm_topology.specs.Owners.{the_one, owner_by_rows, owner_of_address, owner_at}
use Rattle.dimm_topology.specs.Topology.{IsTopology}

-- The labels of rows that pass a test are labels of module rows.
fits_named : (rows xs : List Row) (test : Row → Bool) → ((label : Bytes) → is_module_label xs label ≡ true → is_module_label rows label ≡ true)
    → list_all (names_module rows) xs ≡ true → list_all (is_module_label rows) (labels_of_rows (filter test xs)) ≡ true
fits_named rows [] test among named = refl
fits_named rows (Cpu cpu socket ∷ xs) test among named =
    grind (arith, common_steps, fits_named rows xs test among)
fits_named rows (Module label socket bank channel ∷ xs) test among named =
    let own : is_module_label rows label ≡ true = among label (rw (nat_list_eq_equiv.refl label) refl) in
    let rest = fits_named rows xs test (λ label' held. among label' (grind (arith, common_steps, held))) named in
    grind (arith, common_steps, own, rest)
fits_named rows (Range label first last ∷ xs) test among named = grind (arith, common_steps, fits_named rows xs test among)
fits_named rows (Place label node card module' ∷ xs) test among named = grind (arith, common_steps, fits_named rows xs test among)

-- The only label of a list passes a test that all of its labels pass.
one_passes : (test : Bytes → Bool) (labels : List Bytes) → list_all test labels ≡ true → IfSome (the_one labels) (λ label. IsTrue (test label))
one_passes test [] all = tt
one_passes test (label ∷ labels) all = grind (arith, common_steps)

-- The labels of rows are valid or empty.
fits_labelled : (xs : List Row) (test : Row → Bool) → list_all is_labelled xs ≡ true → list_all is_label_or_none (labels_of_rows (filter test xs)) ≡ true
fits_labelled [] test all = refl
fits_labelled (Cpu cpu socket ∷ xs) test all = grind (arith, common_steps, fits_labelled xs test)
fits_labelled (Module label socket bank channel ∷ xs) test all = grind (arith, common_steps, fits_labelled xs test)
fits_labelled (Range label first last ∷ xs) test all = grind (arith, common_steps, fits_labelled xs test)
fits_labelled (Place label node card module' ∷ xs) test all = grind (arith, common_steps, fits_labelled xs test)

-- An owner passes a test that the labels of all rows pass.
owner_passes : (rows : List Row) (address : Option ℕ) (location : Option Location) (passes : Bytes → Bool)
    → ((test : Row → Bool) → list_all passes (labels_of_rows (filter test rows)) ≡ true)
    → IfSome (owner_by_rows rows address location) (λ label. IsTrue (passes label))
owner_passes rows address location passes all =
    either (option_and_then (owner_of_address rows) address) (option_and_then (owner_at rows) location) (over address) (at location)
  where
    P : Bytes → Type 0
    P label = IsTrue (passes label)

    either : (one other : Option Bytes) → IfSome one P → IfSome other P → IfSome (option_or one other) P
    either None other p q = q
    either (Some label) other p q = p

    fitting : (test : Row → Bool) → IfSome (the_one (labels_of_rows (filter test rows))) P
    fitting test = one_passes passes (labels_of_rows (filter test rows)) (all test)

    over : (address : Option ℕ) → IfSome (option_and_then (owner_of_address rows) address) P
    over None = tt
    over (Some a) = fitting (is_range_over a)

    at : (location : Option Location) → IfSome (option_and_then (owner_at rows) location) P
    at None = tt
    at (Some l) = fitting (is_at l)

-- An owner is the label of a module row.
owner_named : (rows : List Row) (address : Option ℕ) (location : Option Location) → IsTopology rows
    → IfSome (owner_by_rows rows address location) (λ label. IsTrue (is_module_label rows label))
owner_named rows address location topology =
    owner_passes rows address location (is_module_label rows) (λ test. fits_named rows rows test (λ label held. held) topology.named)

-- An owner is a valid label or empty.
pub owner_labelled : (rows : List Row) (address : Option ℕ) (location : Option Location) → IsTopology rows
    → IfSome (owner_by_rows rows address location) (λ label. IsTrue (is_label_or_none label))
owner_labelled rows address location topology =
    owner_passes rows address location is_label_or_none (λ test. fits_labelled rows test topology.labelled)

-- The label after a reference.
copied : (P : Bytes → Type 0) (result : Option (Bor Bytes)) (owner : Option Bytes) → option_copied result ≡ owner → IfSome owner P → IfSome result (λ label. P label.now)
copied P None owner e p = tt
copied P (Some label) owner e p = rw (← e) at p

pub found_named : (rows : List Row) (address : Option ℕ) (location : Option Location) (result : Option (Bor Bytes)) → option_copied result ≡ owner_by_rows rows address location
    → IsTopology rows → IfSome result (λ label. IsTrue (is_module_label rows label.now))
found_named rows address location result is topology =
    copied (λ label. IsTrue (is_module_label rows label)) result _ is (owner_named rows address location topology)

pub found_labelled : (rows : List Row) (address : Option ℕ) (location : Option Location) (result : Option (Bor Bytes)) → option_copied result ≡ owner_by_rows rows address location
    → IsTopology rows → IfSome result (λ label. IsTrue (is_label_or_none label.now))
found_labelled rows address location result is topology =
    copied (λ label. IsTrue (is_label_or_none label)) result _ is (owner_labelled rows address location topology)
