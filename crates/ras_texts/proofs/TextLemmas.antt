-- Texts and counts that grow with a list.
use Rattle.std.proofs.Common.{◌≡◌, ℕ, ◌+◌, ◌<◌, ◌≤◌, min, length, get_or, arith, Bool, cond, List, [], ◌∷◌, ◌++◌, take, Some, ap, sym, ◌∙◌, append-nil, append_assoc}
use Rattle.std.specs.Prelude.{count_by}
use Rattle.std.specs.List.{flat_map, slice_get, zip}
use Rattle.std.proofs.lemmas.List.{take_all, take_more}
use Rattle.std.proofs.lemmas.List.Sums.{sum_by-append}
use Rattle.std.proofs.lemmas.List.Concat.{flat_map-append}
use Rattle.std.proofs.lemmas.Option.{slice_get_within, slice_get-get_or, get_or_from_slice_get}
use Rattle.std.proofs.lemmas.Slice.Zip.{get_or-zip, length-zip}

-- A list's beginning with one more element.
take-next : {X : Type 0} (xs : List X) (i : ℕ) (x : X) → slice_get xs i ≡ Some x → take (i + 1) xs ≡ take i xs ++ x ∷ []
take-next xs i x is = take_more xs i x (slice_get_within xs i x is) ∙ ap (λ y. take i xs ++ y ∷ []) (get_or_from_slice_get xs i x x is)

-- The line of one more element.
pub line_more : {X : Type 0} (line : X → List ℕ) (front : List ℕ) (xs : List X) (i : ℕ) (x : X) → slice_get xs i ≡ Some x
    → (front ++ flat_map line (take i xs)) ++ line x ≡ front ++ flat_map line (take (i + 1) xs)
line_more line front xs i x is =
    append_assoc front (flat_map line (take i xs)) (line x)
    ∙ ap (λ text. front ++ text) (ap (λ text. flat_map line (take i xs) ++ text) (sym (append-nil (line x)))
    ∙ sym (flat_map-append line (take i xs) (x ∷ [])) ∙ sym (ap (flat_map line) (take-next xs i x is)))

-- An element without a line.
pub no_line_more : {X : Type 0} (line : X → List ℕ) (front : List ℕ) (xs : List X) (i : ℕ) (x : X) → slice_get xs i ≡ Some x → line x ≡ []
    → front ++ flat_map line (take i xs) ≡ front ++ flat_map line (take (i + 1) xs)
no_line_more line front xs i x is none =
    sym (append-nil (front ++ flat_map line (take i xs))) ∙ ap (λ t. (front ++ flat_map line (take i xs)) ++ t) (sym none) ∙ line_more line front xs i x is

count-append : {X : Type 0} (p : X → Bool) (xs ys : List X) → count_by p (xs ++ ys) ≡ count_by p xs + count_by p ys
count-append p xs ys = sum_by-append (λ x. cond (p x) 1 0) xs ys

-- The count of one more element.
pub count_more : {X : Type 0} (p : X → Bool) (xs : List X) (i : ℕ) (x : X) → slice_get xs i ≡ Some x
    → count_by p (take (i + 1) xs) ≡ count_by p (take i xs) + count_by p (x ∷ [])
count_more p xs i x is = ap (count_by p) (take-next xs i x is) ∙ count-append p (take i xs) (x ∷ [])

-- A line of three pieces.
pub three_pieces : (front one two three : List ℕ) → ((front ++ one) ++ two) ++ three ≡ front ++ ((one ++ two) ++ three)
three_pieces front one two three = simp append_assoc

-- The line of one more pair.
pub pair_more : {X Y : Type 0} (line : X × Y → List ℕ) (front : List ℕ) (xs : List X) (ys : List Y) (i : ℕ) (x : X) (y : Y)
    → i < length xs → i < length ys → x ≡ get_or xs i x → y ≡ get_or ys i y
    → (front ++ flat_map line (take i (zip xs ys))) ++ line (x, y) ≡ front ++ flat_map line (take (i + 1) (zip xs ys))
pair_more {X} {Y} line front xs ys i x y in-xs in-ys is-x is-y =
    let pair : X × Y = (x, y) in
    let long : i < length (zip xs ys) = omega (arith, length-zip xs ys) in
    line_more line front (zip xs ys) i pair
    (slice_get-get_or (zip xs ys) i pair long ∙ ap (λ (found : X × Y). Some found) (get_or-zip xs ys i pair in-xs in-ys ∙ (λ k. (sym is-x k, sym is-y k))))

-- All pairs.
pub all_pairs : {X Y : Type 0} (line : X × Y → List ℕ) (front : List ℕ) (xs : List X) (ys : List Y) (i : ℕ)
    → min (length xs) (length ys) ≤ i → front ++ flat_map line (take i (zip xs ys)) ≡ front ++ flat_map line (zip xs ys)
all_pairs {X} {Y} line front xs ys i all =
    ap (λ (pairs : List (X × Y)). front ++ flat_map line pairs) (take_all i (zip xs ys) (omega (arith, length-zip xs ys)))
