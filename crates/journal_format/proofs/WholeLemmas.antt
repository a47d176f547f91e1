-- Bytes that are read to their end.
use Rattle.std.proofs.Common.{◌≡◌, ℕ, Bool, true, false, cond, eqb, List, [], ◌∷◌, ◌++◌, length, Some, Result, Ok, Err, refl, sym, ap, subst, ◌∙◌, append-nil, arith}
use Rattle.std.proofs.lemmas.Bool.{eqb-true}
use Rattle.ras_base.specs.LittleEndian.{AreBytes}
use Rattle.entry_format.specs.declared.refused.EntryRefused.{EntryRefused}
use Rattle.entry_format.specs.declared.refused.EntryRefused.TheVariants.{Bad}
use Rattle.entry_format.specs.Reading.{Reader, whole_at}
use Rattle.entry_format.proofs.CodecLemmas.{Reads, bind_ok, ok_is}
use Rattle.journal_format.specs.PayloadReading.{found_in}

none_left : {A : Type 0} (x y : A) (rest : List ℕ) (empty : Bool) → eqb (length rest) 0 ≡ empty → cond empty (Ok x) (Err Bad) ≡ Ok y → (rest ≡ []) × (x ≡ y)
none_left x y [] true is e = (refl, ok_is x y e)
none_left x y (b ∷ rest) true is e = let none = eqb-true _ _ is in absurd (omega (arith, none))
none_left x y rest false is e = absurd cc

-- A value that was read to the end is spelled by all of the bytes.
pub whole_takes : {A : Type 0} (read : Reader A) (spell : A → List ℕ) (V : A → Type 0) → Reads read spell V
    → (bytes : List ℕ) (x : A) → AreBytes bytes → whole_at read bytes ≡ Ok x → (bytes ≡ spell x) × V x
whole_takes {A} read spell V reads bytes x fits e =
    let p = bind_ok (read bytes) (λ y. cond (eqb (length y.1) 0) (Ok y.0) (Err Bad)) x e in
    let t = reads.takes bytes p.0.0 p.0.1 fits p.1 in
    let left = none_left p.0.0 x p.0.1 (eqb (length p.0.1) 0) refl p.2 in
    let whole : bytes ≡ spell p.0.0 = t.0 ∙ ap (λ (w : List ℕ). spell p.0.0 ++ w) left.0 ∙ append-nil (spell p.0.0) in
    subst (λ (y : A). (bytes ≡ spell y) × V y) left.1 (whole, t.1)

pub whole_again : {A : Type 0} (read : Reader A) (spell : A → List ℕ) (V : A → Type 0) → Reads read spell V
    → (x : A) → V x → whole_at read (spell x) ≡ Ok x
whole_again read spell V reads x v =
    rw (ap read (sym (append-nil (spell x))) ∙ reads.again x [] v) refl

-- A value that was found was read.
pub found_is : {A : Type 0} (read : Result A EntryRefused) (x : A) → found_in read ≡ Some x → read ≡ Ok x
found_is {A} (Ok y) x e = let same : y ≡ x = cc in ap (λ (z : A). Ok z) same
found_is (Err refused) x e = absurd cc
