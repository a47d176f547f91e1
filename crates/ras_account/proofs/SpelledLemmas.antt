-- Names as a checkpoint spells them, one after the other.
use Rattle.std.proofs.Common.{◌≡◌, ℕ, ◌+◌, ◌*◌, ◌≤◌, List, [], ◌∷◌, ◌++◌, length, take, Some, ap, sym, ◌∙◌, append-nil, arith, length-append}
use Rattle.std.specs.List.{flat_map, slice_get}
use Rattle.std.proofs.lemmas.List.{take_more, take_all, length-take-le}
use Rattle.std.proofs.lemmas.List.Concat.{flat_map-append}
use Rattle.std.proofs.lemmas.Option.{slice_get_within, get_or_from_slice_get}
use Rattle.ras_facts.specs.declared.name.Name.{Name}
use Rattle.entry_format.specs.Spelling.{name_bytes}
use Rattle.entry_format.proofs.SizeLemmas.{name_most}

-- names have at most 20 bytes each
pub names_most : (names : List Name) → length (flat_map name_bytes names) ≤ 20 * length names
names_most [] = omega arith
names_most (name ∷ names) =
    omega (arith, length-append (name_bytes name) (flat_map name_bytes names), name_most name, names_most names)

-- The first names have at most 20 bytes each too.
pub first_names_most : (n : ℕ) (names : List Name) → n ≤ length names → length (flat_map name_bytes (take n names)) ≤ 20 * n
first_names_most n names within =
    omega (arith, names_most (take n names), length-take-le n names within)

-- The rows up to the next row.
pub rows_next : {X : Type 0} (spell : X → List ℕ) (xs : List X) (i : ℕ) (x : X) → slice_get xs i ≡ Some x → flat_map spell (take (i + 1) xs) ≡ flat_map spell (take i xs) ++ spell x
rows_next spell xs i x is =
    ap (flat_map spell) (take_more xs i x (slice_get_within xs i x is) ∙ ap (λ y. take i xs ++ y ∷ []) (get_or_from_slice_get xs i x x is))
    ∙ flat_map-append spell (take i xs) (x ∷ [])
    ∙ ap (λ w. flat_map spell (take i xs) ++ w) (append-nil (spell x))

-- The rows up to the last row.
pub last_row : {X : Type 0} (spell : X → List ℕ) (xs : List X) (i : ℕ) (x : X) → i + 1 ≡ length xs → slice_get xs i ≡ Some x → flat_map spell (take i xs) ++ spell x ≡ flat_map spell xs
last_row spell xs i x last is =
    sym (rows_next spell xs i x is) ∙ ap (flat_map spell) (take_all (i + 1) xs (omega (arith, last)))
