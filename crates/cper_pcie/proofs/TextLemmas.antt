-- The bits of a status, one after another.
use Rattle.std.proofs.Common.{◌≡◌, ℕ, zero, suc, ◌+◌, ◌==◌, Bool, true, false, cond, if◌then◌else◌, List, [], ◌∷◌, ◌++◌, length, filter, map, refl, sym, ap, ◌∙◌, append_assoc, append-nil, add-one, codes, true≢false, arith}
use Rattle.std.specs.List.{join_with_byte, range_with_len}
use Rattle.std.proofs.lemmas.Bool.Decides.{nat_tests}
use Rattle.std.proofs.lemmas.List.{map-append}
use Rattle.std.proofs.lemmas.List.Elements.{filter-append}
use Rattle.cper_pcie.specs.Steps.TextSteps.{next_bit_text}

range-more : (a n : ℕ) → range_with_len a (suc n) ≡ range_with_len a n ++ (a + n) ∷ []
range-more a zero = ap (λ last. last ∷ []) same
  where
    same : a ≡ a + 0
    same = omega arith
range-more a (suc n) =
    ap (λ (rest : List ℕ). a ∷ rest) (range-more (a + 1) n ∙ ap (λ last. range_with_len (a + 1) n ++ last ∷ []) next)
  where
    next : a + 1 + n ≡ a + suc n
    next = omega arith

-- the bits below a number that pass a test
abbrev pub bits_below : (ℕ → Bool) → ℕ → List ℕ
bits_below p n = filter p (range_with_len 0 n)

one : (p : ℕ → Bool) (n : ℕ) (b : Bool) → p n ≡ b → filter p (n ∷ []) ≡ cond b (n ∷ []) []
one p n true is = rw is refl
one p n false is = rw is refl

below-more : (p : ℕ → Bool) (n : ℕ) (b : Bool) → p n ≡ b → bits_below p (n + 1) ≡ bits_below p n ++ cond b (n ∷ []) []
below-more p n b is =
    ap (λ count. filter p (range_with_len 0 count)) (add-one n) ∙ ap (filter p) (range-more 0 n ∙ ap (λ last. range_with_len 0 n ++ last ∷ []) same)
    ∙ filter-append p (range_with_len 0 n) (n ∷ []) ∙ ap (λ rest. bits_below p n ++ rest) (one p n b is)
  where
    same : 0 + n ≡ n
    same = omega arith

long : {X : Type 0} (x : X) (xs : List X) → (length (x ∷ xs) == 0) ≡ false
long x xs = grind (arith, nat_tests)

join-more : (xs : List (List ℕ)) (y : List ℕ) → join_with_byte 44 (xs ++ y ∷ []) ≡ join_with_byte 44 xs ++ next_bit_text (length xs == 0) y
join-more [] y = refl
join-more (x ∷ []) y = refl
join-more (x ∷ z ∷ zs) y =
    ap (λ rest. x ++ 44 ∷ rest) (join-more (z ∷ zs) y ∙ ap (λ b. join_with_byte 44 (z ∷ zs) ++ next_bit_text b y) (long z zs))
    ∙ sym (append_assoc x (44 ∷ join_with_byte 44 (z ∷ zs)) (44 ∷ y))
    ∙ ap (λ b. (x ++ 44 ∷ join_with_byte 44 (z ∷ zs)) ++ next_bit_text b y) (sym (long x (z ∷ zs)))

-- the text of the bits so far: their names with commas between them
pub record Names (p : ℕ → Bool) (name : ℕ → List ℕ) (n : ℕ) (is_first : Bool) (old new : List ℕ) : Type 0 where
  pub first : is_first ≡ (length (bits_below p n) == 0)
  pub text : new ≡ old ++ join_with_byte 44 (map name (bits_below p n))

longer : (xs : List ℕ) (x : ℕ) → (length (xs ++ x ∷ []) == 0) ≡ false
longer [] x = refl
longer (y ∷ ys) x = long y (ys ++ x ∷ [])

mapped : (name : ℕ → List ℕ) (xs : List ℕ) → (length (map name xs) == 0) ≡ (length xs == 0)
mapped name [] = refl
mapped name (x ∷ xs) = long (name x) (map name xs) ∙ sym (long x xs)

pub names-more : (p : ℕ → Bool) (name : ℕ → List ℕ) (n : ℕ) (is_first after : Bool) (old text new : List ℕ) → p n ≡ true
    → Names p name n is_first old text → after ≡ false → new ≡ text ++ next_bit_text is_first (name n) → Names p name (n + 1) after old new
names-more p name n is_first after old text new here names after-is is =
    let more : bits_below p (n + 1) ≡ bits_below p n ++ n ∷ [] = below-more p n true here in
    let joined : join_with_byte 44 (map name (bits_below p (n + 1))) ≡ join_with_byte 44 (map name (bits_below p n)) ++ next_bit_text is_first (name n) =
    ap (λ bits. join_with_byte 44 (map name bits)) more ∙ ap (join_with_byte 44) (map-append name (bits_below p n) (n ∷ []))
    ∙ join-more (map name (bits_below p n)) (name n)
    ∙ ap (λ b. join_with_byte 44 (map name (bits_below p n)) ++ next_bit_text b (name n)) (mapped name (bits_below p n) ∙ sym names.first) in
    record {
      first = after-is ∙ sym (ap (λ (bits : List ℕ). length bits == 0) more ∙ longer (bits_below p n) n);
      text = is ∙ ap (λ t. t ++ next_bit_text is_first (name n)) names.text
          ∙ append_assoc old (join_with_byte 44 (map name (bits_below p n))) (next_bit_text is_first (name n))
          ∙ ap (λ t. old ++ t) (sym joined);
    }

pub names-same : (p : ℕ → Bool) (name : ℕ → List ℕ) (n : ℕ) (is_first after : Bool) (old text new : List ℕ) → p n ≡ false
    → Names p name n is_first old text → after ≡ is_first → new ≡ text → Names p name (n + 1) after old new
names-same p name n is_first after old text new here names after-is is =
    let same : bits_below p (n + 1) ≡ bits_below p n = below-more p n false here ∙ append-nil (bits_below p n) in
    record {
      first = after-is ∙ names.first ∙ ap (λ (bits : List ℕ). length bits == 0) (sym same);
      text = is ∙ names.text ∙ ap (λ bits. old ++ join_with_byte 44 (map name bits)) (sym same);
    }

-- the text of the bits that are set, or `-` if no bit is set
abbrev set_text : (ℕ → List ℕ) → List ℕ → List ℕ
set_text name bits = if length bits == 0 then codes "-" else join_with_byte 44 (map name bits)

none_set : (name : ℕ → List ℕ) (bits old text : List ℕ) → true ≡ (length bits == 0) → text ≡ old ++ join_with_byte 44 (map name bits)
    → text ++ codes "-" ≡ old ++ set_text name bits
none_set name [] old text none is = ap (λ t. t ++ codes "-") (is ∙ append-nil old)
none_set name (bit ∷ bits) old text none is = absurd (true≢false (none ∙ long bit bits))

pub names-none : (p : ℕ → Bool) (name : ℕ → List ℕ) (n : ℕ) (old text : List ℕ) → n ≡ 32
    → Names p name n true old text → text ++ codes "-" ≡ old ++ set_text name (bits_below p 32)
names-none p name n old text all names =
    none_set name (bits_below p n) old text names.first names.text ∙ ap (λ count. old ++ set_text name (bits_below p count)) all

pub names-some : (p : ℕ → Bool) (name : ℕ → List ℕ) (n : ℕ) (old text : List ℕ) → n ≡ 32
    → Names p name n false old text → text ≡ old ++ set_text name (bits_below p 32)
names-some p name n old text all names =
    names.text ∙ ap (λ b. old ++ (if b then codes "-" else join_with_byte 44 (map name (bits_below p n)))) names.first
    ∙ ap (λ count. old ++ set_text name (bits_below p count)) all
