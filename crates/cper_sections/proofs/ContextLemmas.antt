-- The contexts that fit, one after the other.
use Rattle.std.proofs.Common.{◌≡◌, ℕ, zero, suc, ◌+◌, ◌-◌, ◌<◌, ◌≤◌, ◌∙◌, List, [], ◌∷◌, length, take, drop, Bool, true, false, Some, subst, refl, ap, sym, arith, slice_get, sum_by}
use Rattle.std.proofs.lemmas.List.{drop_all, drop-drop, length-take, length-drop}
use Rattle.std.proofs.lemmas.List.Sums.{sum_by-cons}
use Rattle.cper_sections.specs.X64.{contexts_in, contexts_at, contexts_of, x64_validation, stated_contexts, has_context, context_of, context_length, ContextParts, bytes_taken, context_bytes}
use Rattle.ras_base.specs.LittleEndian.{number_at}

-- A context that fits comes before the others.
contexts_in_more : (stated more : ℕ) (bytes : List ℕ) → stated ≡ suc more → has_context bytes ≡ true
    → contexts_in stated bytes ≡ context_of bytes ∷ contexts_in more (drop (context_length bytes) bytes)
unfolding contexts_in
contexts_in_more stated more bytes one fits = rw one (rw fits refl)

-- The first context that doesn't fit ends the list.
pub contexts_in_end : (stated : ℕ) (bytes : List ℕ) → has_context bytes ≡ false → contexts_in stated bytes ≡ []
unfolding contexts_in
contexts_in_end zero bytes fits = refl
contexts_in_end (suc stated) bytes fits = rw fits refl

-- At most as many contexts fit as are stated.
pub most_contexts : (stated : ℕ) (bytes : List ℕ) → length (contexts_in stated bytes) ≤ stated
most_contexts zero bytes = unfold contexts_in in omega arith
most_contexts (suc stated) bytes =
    let P : Type 0 = length (contexts_in (suc stated) bytes) ≤ suc stated in
    let cases : (fits : _) → has_context bytes ≡ fits → P = λ fits. elim fits as (λ v. has_context bytes ≡ v → P) [
      | true ↦ λ is. rw (contexts_in_more (suc stated) stated bytes refl is) (omega (arith, most_contexts stated (drop (context_length bytes) bytes)))
      | false ↦ λ is. rw (contexts_in_end (suc stated) bytes is) (omega arith)
    ] in
    cases (has_context bytes) refl

-- If one fits, the others are one fewer.
pub step_length : (stated passed : ℕ) (bytes : List ℕ) → passed < stated → has_context bytes ≡ true
    → length (contexts_in (stated - passed) bytes) ≡ suc (length (contexts_in (stated - (passed + 1)) (drop (context_length bytes) bytes)))
step_length stated passed bytes below fits =
    rw (contexts_in_more (stated - passed) (stated - (passed + 1)) bytes (omega arith) fits) refl

slice_get_more : {X : Type 0} (x : X) (xs : List X) (i k : ℕ) → i ≡ suc k → slice_get (x ∷ xs) i ≡ slice_get xs k
slice_get_more x xs i k one = rw one refl

-- The later contexts keep their order.
pub step_get : (stated passed i : ℕ) (bytes : List ℕ) → passed < stated → passed < i → has_context bytes ≡ true
    → slice_get (contexts_in (stated - passed) bytes) (i - passed)
    ≡ slice_get (contexts_in (stated - (passed + 1)) (drop (context_length bytes) bytes)) (i - (passed + 1))
step_get stated passed i bytes below before fits =
    rw (contexts_in_more (stated - passed) (stated - (passed + 1)) bytes (omega arith) fits)
    (slice_get_more (context_of bytes) (contexts_in (stated - (passed + 1)) (drop (context_length bytes) bytes)) (i - passed) (i - (passed + 1)) (omega arith))

-- The first context is the one at the front.
pub first_get : (stated : ℕ) (bytes : List ℕ) → 0 < stated → has_context bytes ≡ true
    → contexts_in stated bytes ≡ context_of bytes ∷ contexts_in (stated - 1) (drop (context_length bytes) bytes)
first_get stated bytes some fits = contexts_in_more stated (stated - 1) bytes (omega arith) fits

-- A section that ends within its structures has no contexts.
pub contexts_of_short : (bytes : List ℕ) → length bytes < contexts_at bytes → contexts_of bytes ≡ []
contexts_of_short bytes short =
    rw (drop_all (contexts_at bytes) bytes (omega arith)) (contexts_in_end (stated_contexts (x64_validation bytes)) [] (grind arith))

-- A context that fits is no longer than the bytes.
fitting : (bytes : List ℕ) → has_context bytes ≡ true → context_length bytes ≤ length bytes
fitting bytes fits = grind arith

-- A context has as many bytes as its header says.
taken : (bytes : List ℕ) → has_context bytes ≡ true → bytes_taken (context_of bytes) ≡ context_length bytes
unfolding context_of
taken bytes fits =
    omega (arith, length-take (number_at 2 2 bytes) (drop 16 bytes), length-drop 16 bytes, fitting bytes fits)

-- The bytes of one more context.
taken_more : (stated : ℕ) (bytes : List ℕ) → has_context bytes ≡ true
    → sum_by bytes_taken (contexts_in (suc stated) bytes)
    ≡ context_length bytes + sum_by bytes_taken (contexts_in stated (drop (context_length bytes) bytes))
taken_more stated bytes fits =
    let rest : List ContextParts = contexts_in stated (drop (context_length bytes) bytes) in
    ap (λ contexts. sum_by bytes_taken contexts) (contexts_in_more (suc stated) stated bytes refl fits)
    ∙ sum_by-cons bytes_taken (context_of bytes) rest
    ∙ ap (λ first. first + sum_by bytes_taken rest) (taken bytes fits)

-- the contexts lie inside the bytes
pub contexts_inside : (stated : ℕ) (bytes : List ℕ) → sum_by bytes_taken (contexts_in stated bytes) ≤ length bytes
contexts_inside zero bytes = unfold contexts_in in omega arith
contexts_inside (suc stated) bytes =
    let P : Type 0 = sum_by bytes_taken (contexts_in (suc stated) bytes) ≤ length bytes in
    let cases : (fits : _) → has_context bytes ≡ fits → P = λ fits. elim fits as (λ v. has_context bytes ≡ v → P) [
      | true ↦ λ is. omega (arith, taken_more stated bytes is, fitting bytes is, contexts_inside stated (drop (context_length bytes) bytes), length-drop (context_length bytes) bytes)
      | false ↦ λ is. rw (contexts_in_end (suc stated) bytes is) (omega arith)
    ] in
    cases (has_context bytes) refl

-- If fewer fit than are stated, no context fits after them.
pub contexts_ended : (stated : ℕ) (bytes : List ℕ) → length (contexts_in stated bytes) < stated
    → has_context (drop (sum_by bytes_taken (contexts_in stated bytes)) bytes) ≡ false
contexts_ended zero bytes fewer = grind arith
contexts_ended (suc stated) bytes fewer =
    let rest : List ℕ = drop (context_length bytes) bytes in
    let P : Type 0 = has_context (drop (sum_by bytes_taken (contexts_in (suc stated) bytes)) bytes) ≡ false in
    let cases : (fits : _) → has_context bytes ≡ fits → P = λ fits. elim fits as (λ v. has_context bytes ≡ v → P) [
      | true ↦ λ is.
          let less : length (contexts_in stated rest) < stated =
          omega (arith, fewer, ap (λ (contexts : List ContextParts). length contexts) (contexts_in_more (suc stated) stated bytes refl is)) in
          let after : drop (sum_by bytes_taken (contexts_in (suc stated) bytes)) bytes ≡ drop (sum_by bytes_taken (contexts_in stated rest)) rest =
          ap (λ n. drop n bytes) (taken_more stated bytes is)
          ∙ sym (drop-drop (sum_by bytes_taken (contexts_in stated rest)) (context_length bytes) bytes) in
          ap (λ (left : List ℕ). has_context left) after ∙ contexts_ended stated rest less
      | false ↦ λ is. ap (λ (contexts : List ContextParts). has_context (drop (sum_by bytes_taken contexts) bytes)) (contexts_in_end (suc stated) bytes is) ∙ is
    ] in
    cases (has_context bytes) refl

-- Each context is at the front of the bytes after the contexts before it.
abbrev pub IsInPlace : List ContextParts → List ℕ → ℕ → Type 0
IsInPlace contexts bytes i =
    slice_get contexts i ≡ Some (context_of (drop (sum_by bytes_taken (take i contexts)) bytes))

in_place_behind : (bytes : List ℕ) (behind : List ContextParts) → has_context bytes ≡ true
    → ((i : ℕ) → i < length behind → IsInPlace behind (drop (context_length bytes) bytes) i)
    → (i : ℕ) → i < suc (length behind) → IsInPlace (context_of bytes ∷ behind) bytes i
in_place_behind bytes behind fits others zero below = refl
in_place_behind bytes behind fits others (suc i) below =
    let before : ℕ = sum_by bytes_taken (take i behind) in
    let sum : sum_by bytes_taken (context_of bytes ∷ take i behind) ≡ context_length bytes + before =
    sum_by-cons bytes_taken (context_of bytes) (take i behind) ∙ ap (λ first. first + before) (taken bytes fits) in
    others i (omega arith)
    ∙ ap (λ left. Some (context_of left)) (drop-drop before (context_length bytes) bytes ∙ ap (λ n. drop n bytes) (sym sum))

contexts_in_place : (stated : ℕ) (bytes : List ℕ) (i : ℕ) → i < length (contexts_in stated bytes)
    → IsInPlace (contexts_in stated bytes) bytes i
contexts_in_place zero bytes i below = absurd (omega (arith, most_contexts zero bytes))
contexts_in_place (suc stated) bytes i below = by (has_context bytes) refl (contexts_in_place stated rest)
  where
    rest : List ℕ
    rest = drop (context_length bytes) bytes

    by : (fits : Bool) → has_context bytes ≡ fits
        → ((i : ℕ) → i < length (contexts_in stated rest) → IsInPlace (contexts_in stated rest) rest i)
        → IsInPlace (contexts_in (suc stated) bytes) bytes i
    by true fits others =
        let more : contexts_in (suc stated) bytes ≡ context_of bytes ∷ contexts_in stated rest =
        contexts_in_more (suc stated) stated bytes refl fits in
        let P : List ContextParts → Type 0 = λ contexts. IsInPlace contexts bytes i in
        subst P (sym more) (in_place_behind bytes (contexts_in stated rest) fits others i
        (omega (arith, below, ap (λ (contexts : List ContextParts). length contexts) more)))
    by false fits others =
        absurd (omega (arith, below, ap (λ (contexts : List ContextParts). length contexts) (contexts_in_end (suc stated) bytes fits)))

-- Each context of a section is at the front of the bytes after the contexts before it.
pub context_in_place : (bytes : List ℕ) (i : ℕ) → i < length (contexts_of bytes)
    → slice_get (contexts_of bytes) i ≡ Some (context_of (context_bytes bytes i))
context_in_place bytes i below =
    contexts_in_place (stated_contexts (x64_validation bytes)) (drop (contexts_at bytes) bytes) i below
    ∙ ap (λ left. Some (context_of left)) (drop-drop (sum_by bytes_taken (take i (contexts_of bytes))) (contexts_at bytes) bytes)
