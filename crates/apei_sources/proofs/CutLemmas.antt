-- The first entries of bytes, from an entry on.
use Rattle.std.proofs.Common.{◌≡◌, ℕ, zero, suc, ◌+◌, ◌-◌, ◌<◌, ◌∙◌, true, false, List, [], ◌∷◌, length, get_or, refl, sym, ap, subst, arith, ◌||◌, not, Result, Ok, Err}
use Rattle.std.specs.Result.{is_ok, is_err, IsOk}
use Rattle.cper_sections.specs.Sections.{section_of}
use Rattle.std.specs.List.{list_any}
use Rattle.std.proofs.lemmas.List.Folds.{list_any_at}
use Rattle.apei_sources.specs.Entries.{has_entry, is_refused, first_of, rest_of, entry_guid, entry_data}
use Rattle.apei_sources.specs.Steps.Cut.{cut, AreInside}

cut_suc : (more left : ℕ) (bytes : List ℕ) → more ≡ suc left → cut more bytes ≡ first_of bytes ∷ cut left (rest_of bytes)
unfolding cut
cut_suc more left bytes is = rw is refl

inside_suc : (more left : ℕ) (bytes : List ℕ) → more ≡ suc left → AreInside more bytes
    → (has_entry bytes ≡ true) × AreInside left (rest_of bytes)
unfolding AreInside
inside_suc more left bytes is inside = let P : ℕ → Type 0 = λ n. AreInside n bytes in subst P is inside

pub length-cut : (count : ℕ) (bytes : List ℕ) → length (cut count bytes) ≡ count
length-cut zero bytes = unfold cut in refl
length-cut (suc count) bytes = ap (λ (xs : List (List ℕ)). length xs) (cut_suc (suc count) count bytes refl)
    ∙ ap suc (length-cut count (rest_of bytes))

-- An entry of a block can be read.
pub readable_at : (count i : ℕ) (bytes : List ℕ) → list_any is_refused (cut count bytes) ≡ false → i < count
    → is_refused (get_or (cut count bytes) i []) ≡ false
readable_at count i bytes none below =
    grind (arith, list_any_at is_refused (cut count bytes) i [] (omega (arith, length-cut count bytes)))

-- What is left of the first `count` entries after `done` of them.
module _ (count done : ℕ) (bytes rest : List ℕ) (below : done < count) where
  pub next_inside : AreInside (count - done) rest
      → (has_entry rest ≡ true) × AreInside (count - (done + 1)) (rest_of rest)
  next_inside inside = inside_suc (count - done) (count - (done + 1)) rest (omega arith) inside

  next_any : list_any is_refused (cut (count - done) rest)
      ≡ (is_refused (first_of rest) || list_any is_refused (cut (count - (done + 1)) (rest_of rest)))
  next_any = ap (list_any is_refused) (cut_suc (count - done) (count - (done + 1)) rest (omega arith))

  pub one_refused : is_refused (first_of rest) ≡ true
      → list_any is_refused (cut (count - done) rest) ≡ list_any is_refused (cut count bytes)
      → true ≡ list_any is_refused (cut count bytes)
  one_refused is left = sym (ap (λ b. b || list_any is_refused (cut (count - (done + 1)) (rest_of rest))) is)
      ∙ sym next_any ∙ left

  pub not_refused : is_refused (first_of rest) ≡ false
      → list_any is_refused (cut (count - done) rest) ≡ list_any is_refused (cut count bytes)
      → list_any is_refused (cut (count - (done + 1)) (rest_of rest)) ≡ list_any is_refused (cut count bytes)
  not_refused is left = sym (ap (λ b. b || list_any is_refused (cut (count - (done + 1)) (rest_of rest))) is)
      ∙ sym next_any ∙ left

pub none_refused : (count done : ℕ) (bytes rest : List ℕ) → count ≡ done
    → list_any is_refused (cut (count - done) rest) ≡ list_any is_refused (cut count bytes)
    → false ≡ list_any is_refused (cut count bytes)
unfolding cut
none_refused count done bytes rest all left =
    let none : 0 ≡ count - done = omega arith in
    ap (λ n. list_any is_refused (cut n rest)) none ∙ left

get_or_suc : (first : List ℕ) (xs : List (List ℕ)) (i left : ℕ) → i ≡ suc left
    → get_or (first ∷ xs) i [] ≡ get_or xs left []
get_or_suc first xs i left is = rw is refl

-- The entry at an index, after the skipped entries.
module _ (count passed i : ℕ) (bytes rest : List ℕ) (within : i < count)
    (left : get_or (cut (count - passed) rest) (i - passed) [] ≡ get_or (cut count bytes) i []) where
  pub next_left : passed < i
      → get_or (cut (count - (passed + 1)) (rest_of rest)) (i - (passed + 1)) [] ≡ get_or (cut count bytes) i []
  next_left before =
      sym (get_or_suc (first_of rest) (cut (count - (passed + 1)) (rest_of rest)) (i - passed) (i - (passed + 1))
      (omega arith))
      ∙ ap (λ (xs : List (List ℕ)). get_or xs (i - passed) [])
      (sym (cut_suc (count - passed) (count - (passed + 1)) rest (omega arith)))
      ∙ left

  pub at_last : passed ≡ i → first_of rest ≡ get_or (cut count bytes) i []
  at_last there =
      let none : 0 ≡ i - passed = omega arith in
      ap (λ n. get_or (first_of rest ∷ cut (count - (passed + 1)) (rest_of rest)) n []) none
      ∙ ap (λ (xs : List (List ℕ)). get_or xs (i - passed) [])
      (sym (cut_suc (count - passed) (count - (passed + 1)) rest (omega arith)))
      ∙ left

-- A section is refused if and only if it can't be read.
pub not_is_ok : {X Y : Type 0} (read : Result X Y) → not (is_ok read) ≡ is_err read
not_is_ok (Ok x) = refl
not_is_ok (Err y) = refl

not_err : {X Y : Type 0} (read : Result X Y) → is_err read ≡ false → is_ok read ≡ true
not_err (Ok x) is = refl
not_err (Err y) is = cc

-- The section of an entry of a block can be read.
pub section_read : (count i : ℕ) (bytes : List ℕ) → list_any is_refused (cut count bytes) ≡ false → i < count
    → IsOk (section_of (entry_guid (get_or (cut count bytes) i [])) (entry_data (get_or (cut count bytes) i [])))
unfolding is_refused
section_read count i bytes none below = not_err _ (readable_at count i bytes none below)
