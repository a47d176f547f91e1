-- Bytes that grow by a row.
use Rattle.std.proofs.Common.{◌≡◌, ℕ, ◌+◌, List, ◌++◌, length, take, Some, ap, sym, ◌∙◌, append_assoc, length-append}
use Rattle.std.specs.List.{flat_map, slice_get}
use Rattle.ras_account.proofs.SpelledLemmas.{rows_next}

-- The bytes of rows with one more row.
pub rows_more : {X : Type 0} (spell : X → List ℕ) (front : List ℕ) (xs : List X) (i : ℕ) (x : X) (before after : List ℕ) → slice_get xs i ≡ Some x
    → before ≡ front ++ flat_map spell (take i xs) → after ≡ before ++ spell x → after ≡ front ++ flat_map spell (take (i + 1) xs)
rows_more spell front xs i x before after is so_far pushed =
    pushed ∙ ap (λ w. w ++ spell x) so_far ∙ append_assoc front (flat_map spell (take i xs)) (spell x) ∙ ap (λ w. front ++ w) (sym (rows_next spell xs i x is))

-- The length of rows with one more row.
pub lengths_more : {X : Type 0} (spell : X → List ℕ) (xs : List X) (i : ℕ) (x : X) → slice_get xs i ≡ Some x
    → length (flat_map spell (take (i + 1) xs)) ≡ length (flat_map spell (take i xs)) + length (spell x)
lengths_more spell xs i x is = ap length (rows_next spell xs i x is) ∙ length-append (flat_map spell (take i xs)) (spell x)
