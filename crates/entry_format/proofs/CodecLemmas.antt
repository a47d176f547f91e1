-- When a reader reads a spelling, and how such readers are combined.
use Rattle.std.proofs.Common.{◌≡◌, ℕ, zero, suc, ◌+◌, ◌<◌, Bool, true, false, cond, eqb, List, [], ◌∷◌, ◌++◌, length, get_or, Option, Some, None, Result, Ok, Err, refl, sym, ap, subst, ◌∙◌, append_assoc, arith, inl, inr, ◌⊎◌}
use Rattle.std.specs.List.{flat_map, AllByRecursion}
use Rattle.std.proofs.lemmas.Bool.{eqb-true}
use Rattle.std.proofs.lemmas.List.{get_or-append-add}
use Rattle.ras_base.specs.Chaining.{◌>>=◌}
use Rattle.ras_base.specs.LittleEndian.{AreBytes}
use Rattle.entry_format.specs.declared.refused.EntryRefused.{EntryRefused}
use Rattle.entry_format.specs.Reading.{Reader, both_at, some_or_bad, made_at, many_at, byte_at, by_kind}

-- The reader reads this spelling of valid values, and nothing else.
pub record Reads {A : Type 0} (read : Reader A) (spell : A → List ℕ) (Valid : A → Type 0) : Type 0 where
  pub takes : (bytes : List ℕ) (x : A) (rest : List ℕ) → AreBytes bytes → read bytes ≡ Ok (x, rest) → (bytes ≡ spell x ++ rest) × Valid x
  pub again : (x : A) (rest : List ℕ) → Valid x → read (spell x ++ rest) ≡ Ok (x, rest)

-- The value of a step that didn't fail.
pub bind_ok : {A B : Type 0} (r : Result A EntryRefused) (f : A → Result B EntryRefused) (y : B) → (r >>= f) ≡ Ok y → (x : A) × (r ≡ Ok x) × (f x ≡ Ok y)
bind_ok (Ok x) f y e = (x, refl, e)
bind_ok (Err d) f y e = absurd cc

abbrev done : {A : Type 0} → A → Result A EntryRefused
done x = Ok x

pub ok_is : {A : Type 0} (x y : A) → done x ≡ done y → x ≡ y
ok_is x y e = cc

-- A property of a value that was read is a property of every equal value.
pub read_as : {A : Type 0} (P : A → Type 0) (x y : A) → done x ≡ done y → P x → P y
read_as P x y same holds = subst P (ok_is x y same) holds

-- Bytes after others.
pub rest_fits : (bytes text rest : List ℕ) → AreBytes bytes → bytes ≡ text ++ rest → AreBytes rest
rest_fits bytes text rest fits parts i =
    let all : AreBytes (text ++ rest) = subst AreBytes parts fits in
    let there : get_or (text ++ rest) (length text + i) 0 < 256 = all (length text + i) in
    rw get_or-append-add at there

-- Two texts, one after the other.
pub joined : (bytes one two middle rest : List ℕ) → bytes ≡ one ++ middle → middle ≡ two ++ rest → bytes ≡ (one ++ two) ++ rest
joined bytes one two middle rest first second = first ∙ ap (λ (w : List ℕ). one ++ w) second ∙ sym (append_assoc one two rest)

-- ---- another spelling of the same, and other words for what is valid

pub like_read : {A : Type 0} (read : Reader A) (s t : A → List ℕ) (V W : A → Type 0) → Reads read s V → ((x : A) → V x → W x) → ((x : A) → W x → V x) → ((x : A) → s x ≡ t x) → Reads read t W
like_read read s t V W reads to back same = record {
  takes = λ bytes x rest fits e. let h = reads.takes bytes x rest fits e in (h.0 ∙ ap (λ (w : List ℕ). w ++ rest) (same x), to x h.1);
  again = λ x rest v. ap (λ (w : List ℕ). read (w ++ rest)) (sym (same x)) ∙ reads.again x rest (back x v);
}

-- ---- two fields, one after the other

both_takes : {A B : Type 0} (r : Reader A) (q : Reader B) (s : A → List ℕ) (t : B → List ℕ) (V : A → Type 0) (W : B → Type 0) → Reads r s V → Reads q t W
    → (bytes : List ℕ) (x : A × B) (rest : List ℕ) → AreBytes bytes → both_at r q bytes ≡ Ok (x, rest) → (bytes ≡ (s x.0 ++ t x.1) ++ rest) × (V x.0 × W x.1)
both_takes {A} {B} r q s t V W a b bytes x rest fits e =
    let p = bind_ok (r bytes) (λ u. q u.1 >>= λ v. Ok ((u.0, v.0), v.1)) (x, rest) e in
    let p' = bind_ok (q p.0.1) (λ v. Ok ((p.0.0, v.0), v.1)) (x, rest) p.2 in
    let t0 = a.takes bytes p.0.0 p.0.1 fits p.1 in
    let t1 = b.takes p.0.1 p'.0.0 p'.0.1 (rest_fits bytes (s p.0.0) p.0.1 fits t0.0) p'.1 in
    let parts = joined bytes (s p.0.0) (t p'.0.0) p.0.1 p'.0.1 t0.0 t1.0 in
    let made : (A × B) × List ℕ = ((p.0.0, p'.0.0), p'.0.1) in
    subst (λ (y : (A × B) × List ℕ). (bytes ≡ (s y.0.0 ++ t y.0.1) ++ y.1) × (V y.0.0 × W y.0.1)) (ok_is made (x, rest) p'.2) (parts, (t0.1, t1.1))

both_again : {A B : Type 0} (r : Reader A) (q : Reader B) (s : A → List ℕ) (t : B → List ℕ) (V : A → Type 0) (W : B → Type 0) → Reads r s V → Reads q t W
    → (x : A × B) (rest : List ℕ) → V x.0 × W x.1 → both_at r q ((s x.0 ++ t x.1) ++ rest) ≡ Ok (x, rest)
both_again r q s t V W a b x rest v =
    ap (both_at r q) (append_assoc (s x.0) (t x.1) rest) ∙ rw (a.again x.0 (t x.1 ++ rest) v.0, b.again x.1 rest v.1) refl

pub both_read : {A B : Type 0} (r : Reader A) (q : Reader B) (s : A → List ℕ) (t : B → List ℕ) (V : A → Type 0) (W : B → Type 0) → Reads r s V → Reads q t W
    → Reads (both_at r q) (λ (p : A × B). s p.0 ++ t p.1) (λ p. V p.0 × W p.1)
both_read r q s t V W a b = record { takes = both_takes r q s t V W a b; again = both_again r q s t V W a b }

-- ---- a field that is made of what is read

abbrev some : {A : Type 0} → A → Option A
some x = Some x

some_ok : {A : Type 0} (o : Option A) (x : A) → some_or_bad o ≡ Ok x → o ≡ Some x
some_ok None x e = absurd cc
some_ok (Some y) x e = ap some (ok_is y x e)

-- f makes valid values from what is read, and g converts them back.
pub record Makes {A B : Type 0} (f : A → Option B) (g : B → A) (V : A → Type 0) (W : B → Type 0) : Type 0 where
  pub made : (x : A) (y : B) → V x → f x ≡ Some y → (g y ≡ x) × W y
  pub again : (y : B) → W y → (f (g y) ≡ Some y) × V (g y)

made_takes : {A B : Type 0} (f : A → Option B) (g : B → A) (r : Reader A) (s : A → List ℕ) (V : A → Type 0) (W : B → Type 0) → Makes f g V W → Reads r s V
    → (bytes : List ℕ) (y : B) (rest : List ℕ) → AreBytes bytes → made_at f r bytes ≡ Ok (y, rest) → (bytes ≡ s (g y) ++ rest) × W y
made_takes {A} {B} f g r s V W m a bytes y rest fits e =
    let p = bind_ok (r bytes) (λ u. some_or_bad (f u.0) >>= λ z. Ok (z, u.1)) (y, rest) e in
    let p' = bind_ok (some_or_bad (f p.0.0)) (λ z. Ok (z, p.0.1)) (y, rest) p.2 in
    let t = a.takes bytes p.0.0 p.0.1 fits p.1 in
    let h = m.made p.0.0 p'.0 t.1 (some_ok (f p.0.0) p'.0 p'.1) in
    let parts : bytes ≡ s (g p'.0) ++ p.0.1 = t.0 ∙ ap (λ (x : A). s x ++ p.0.1) (sym h.0) in
    let made : B × List ℕ = (p'.0, p.0.1) in
    subst (λ (z : B × List ℕ). (bytes ≡ s (g z.0) ++ z.1) × W z.0) (ok_is made (y, rest) p'.2) (parts, h.1)

pub made_read : {A B : Type 0} (f : A → Option B) (g : B → A) (r : Reader A) (s : A → List ℕ) (V : A → Type 0) (W : B → Type 0) → Makes f g V W → Reads r s V → Reads (made_at f r) (λ y. s (g y)) W
made_read f g r s V W m a = record {
  takes = made_takes f g r s V W m a;
  again = λ y rest v. let h = m.again y v in rw (a.again (g y) rest h.1, h.0) refl;
}

-- ---- so many fields of one sort

abbrev AreMany : {A : Type 0} → (A → Type 0) → ℕ → List A → Type 0
AreMany V n xs = (length xs ≡ n) × AllByRecursion V xs

many_takes : {A : Type 0} (r : Reader A) (s : A → List ℕ) (V : A → Type 0) → Reads r s V → (n : ℕ) (bytes : List ℕ) (xs : List A) (rest : List ℕ) → AreBytes bytes → many_at r n bytes ≡ Ok (xs, rest)
    → (bytes ≡ flat_map s xs ++ rest) × AreMany V n xs
unfolding many_at
many_takes {A} r s V a zero bytes xs rest fits e =
    let none : List A × List ℕ = ([], bytes) in
    subst (λ (y : List A × List ℕ). (bytes ≡ flat_map s y.0 ++ y.1) × AreMany V zero y.0) (ok_is none (xs, rest) e) (refl, (refl, tt))
many_takes {A} r s V a (suc n) bytes xs rest fits e =
    let p = bind_ok (r bytes) (λ u. many_at r n u.1 >>= λ v. Ok (u.0 ∷ v.0, v.1)) (xs, rest) e in
    let p' = bind_ok (many_at r n p.0.1) (λ v. Ok (p.0.0 ∷ v.0, v.1)) (xs, rest) p.2 in
    let t0 = a.takes bytes p.0.0 p.0.1 fits p.1 in
    let t1 = many_takes r s V a n p.0.1 p'.0.0 p'.0.1 (rest_fits bytes (s p.0.0) p.0.1 fits t0.0) p'.1 in
    let parts = joined bytes (s p.0.0) (flat_map s p'.0.0) p.0.1 p'.0.1 t0.0 t1.0 in
    let made : List A × List ℕ = (p.0.0 ∷ p'.0.0, p'.0.1) in
    read_as (λ (y : List A × List ℕ). (bytes ≡ flat_map s y.0 ++ y.1) × AreMany V (suc n) y.0) made (xs, rest) p'.2 (parts, (ap suc t1.1.0, (t0.1, t1.1.1)))

many_again : {A : Type 0} (r : Reader A) (s : A → List ℕ) (V : A → Type 0) → Reads r s V → (n : ℕ) (xs : List A) (rest : List ℕ) → AreMany V n xs → many_at r n (flat_map s xs ++ rest) ≡ Ok (xs, rest)
unfolding many_at
many_again r s V a zero [] rest v = refl
many_again r s V a zero (x ∷ xs) rest v = let e = v.0 in absurd (omega arith)
many_again r s V a (suc n) [] rest v = let e = v.0 in absurd (omega arith)
many_again r s V a (suc n) (x ∷ xs) rest v =
    let e = v.0 in
    let len : length xs ≡ n = omega arith in
    ap (many_at r (suc n)) (append_assoc (s x) (flat_map s xs) rest)
    ∙ rw (a.again x (flat_map s xs ++ rest) v.1.0, many_again r s V a n xs rest (len, v.1.1)) refl

pub many_read : {A : Type 0} (r : Reader A) (s : A → List ℕ) (V : A → Type 0) → Reads r s V → (n : ℕ) → Reads (many_at r n) (λ xs. flat_map s xs) (AreMany V n)
many_read r s V a n = record { takes = many_takes r s V a n; again = many_again r s V a n }

-- ---- what stands after a kind

-- What is read after a kind has this kind, and what is spelled after its kind is read.
pub record ReadsKinds {A : Type 0} (read : ℕ → Reader A) (kind : A → ℕ) (body : A → List ℕ) (Valid : A → Type 0) : Type 0 where
  pub takes : (k : ℕ) (bytes : List ℕ) (x : A) (rest : List ℕ) → AreBytes bytes → read k bytes ≡ Ok (x, rest) → (k ≡ kind x) × (bytes ≡ body x ++ rest) × Valid x
  pub again : (x : A) (rest : List ℕ) → Valid x → read (kind x) (body x ++ rest) ≡ Ok (x, rest)

kinds_takes : {A : Type 0} (r : ℕ → Reader A) (kind : A → ℕ) (body : A → List ℕ) (V : A → Type 0) → ReadsKinds r kind body V
    → (bytes : List ℕ) (x : A) (rest : List ℕ) → AreBytes bytes → by_kind r bytes ≡ Ok (x, rest) → (bytes ≡ (kind x ∷ body x) ++ rest) × V x
unfolding byte_at
kinds_takes r kind body V a [] x rest fits e = absurd cc
kinds_takes r kind body V a (k ∷ bytes) x rest fits e =
    let t = a.takes k bytes x rest (rest_fits (k ∷ bytes) (k ∷ []) bytes fits refl) e in
    (ap (λ (w : List ℕ). k ∷ w) t.1 ∙ ap (λ (n : ℕ). n ∷ (body x ++ rest)) t.0, t.2)

kinds_again : {A : Type 0} (r : ℕ → Reader A) (kind : A → ℕ) (body : A → List ℕ) (V : A → Type 0) → ReadsKinds r kind body V
    → (x : A) (rest : List ℕ) → V x → by_kind r ((kind x ∷ body x) ++ rest) ≡ Ok (x, rest)
unfolding byte_at
kinds_again r kind body V a x rest v = a.again x rest v

pub kinds_read : {A : Type 0} (r : ℕ → Reader A) (kind : A → ℕ) (body : A → List ℕ) (V : A → Type 0) → ReadsKinds r kind body V → Reads (by_kind r) (λ x. kind x ∷ body x) V
kinds_read r kind body V a = record { takes = kinds_takes r kind body V a; again = kinds_again r kind body V a }

-- What is read if the kind is this one, or else by other readers.
pub either_kind : {A : Type 0} (k n : ℕ) (read others : Result A EntryRefused) (y : A) → cond (eqb k n) read others ≡ Ok y → ((k ≡ n) × (read ≡ Ok y)) ⊎ (others ≡ Ok y)
either_kind {A} k n read others y e = by (eqb k n) refl e
  where
    by : (test : Bool) → eqb k n ≡ test → cond test read others ≡ Ok y → ((k ≡ n) × (read ≡ Ok y)) ⊎ (others ≡ Ok y)
    by true is h = inl (eqb-true k n is, h)
    by false is h = inr h
