-- The class table reads six bits of a bank's status and one of the capabilities, and nothing else.
use Rattle.std.proofs.Common.{ℕ, ◌≡◌, Bool, true, false, Option, List, [], ◌∷◌, refl, sym, ap, ◌&&◌, ◌==◌}
use Rattle.std.specs.List.{find, list_any}
use Rattle.std.specs.Option.{option_and_then}
use Rattle.std.specs.Bool.{IsFalse}
use Rattle.mca_status.specs.Registers.{AgreeApartFrom, recovers_in_software}
use Rattle.ras_base.specs.Bits.{is_set}
use Rattle.mca_status.specs.Classes.{ClassRow, row, meets, class_in, class_rows, ClassIgnores}
use Rattle.mca_status.specs.declared.registers.Cap.{Cap}
use Rattle.mca_status.specs.declared.registers.Status.{Status}
use Rattle.mca_status.specs.declared.classes.Class.{Class}

-- Whether a row fits seven bits.
abbrev pub fits_bits : Bool → Bool → Bool → Bool → Bool → Bool → Bool → ClassRow → Bool
fits_bits v u p r s e a (row val uc pcc ser s' en ar class) =
    meets val v && meets uc u && meets pcc p && meets ser r && meets s' s && meets en e && meets ar a

-- the class by seven bits
abbrev pub class_by : Bool → Bool → Bool → Bool → Bool → Bool → Bool → Option Class
class_by v u p r s e a = option_and_then class_in (find (fits_bits v u p r s e a) class_rows)

-- Without software error recovery S, EN and AR don't matter.
class_by-no_recovery : (v u p s e a s' e' a' : Bool) → class_by v u p false s e a ≡ class_by v u p false s' e' a'
class_by-no_recovery false u p s e a s' e' a' = refl
class_by-no_recovery true false p s e a s' e' a' = refl
class_by-no_recovery true true true s e a s' e' a' = refl
class_by-no_recovery true true false s e a s' e' a' = refl

-- The class is the same for registers that have the same other bits.
class_by-same : (v v' u u' p p' r s e a s' e' a' : Bool) → v ≡ v' → u ≡ u' → p ≡ p' → r ≡ false → class_by v u p r s e a ≡ class_by v' u' p' r s' e' a'
class_by-same v v' u u' p p' r s e a s' e' a' hv hu hp hr = rw (hv, hu, hp, hr) (class_by-no_recovery v' u' p' s e a s' e' a')

-- A bit outside these positions is the same in both registers.
same_bit : (places : List ℕ) (a b : ℕ) → AgreeApartFrom places a b → (i : ℕ) → list_any (λ place. place == i) places ≡ false → is_set i b ≡ is_set i a
same_bit places a b agree i outside = ap (λ bit. bit == 1) (sym (agree i outside))

-- OVER never changes the class
pub class_of_rows-overflow : (cap : Cap) (status : Status) → ClassIgnores (62 ∷ []) cap status
class_of_rows-overflow cap status other agree =
    let same : (i : ℕ) → list_any (λ place. place == i) (62 ∷ []) ≡ false → is_set i other ≡ is_set i status.0 = same_bit (62 ∷ []) _ _ agree in
    simp (same 63 refl, same 61 refl, same 57 refl, same 56 refl, same 60 refl, same 55 refl) refl

-- S and AR don't matter without software error recovery.
pub class_of_rows-no_recovery : (cap : Cap) (status : Status) → IsFalse (recovers_in_software cap) → ClassIgnores (55 ∷ 56 ∷ []) cap status
class_of_rows-no_recovery cap status none other agree =
    let same : (i : ℕ) → list_any (λ place. place == i) (55 ∷ 56 ∷ []) ≡ false → is_set i other ≡ is_set i status.0 = same_bit (55 ∷ 56 ∷ []) _ _ agree in
    class_by-same (is_set 63 other) _ (is_set 61 other) _ (is_set 57 other) _ _ _ _ _ _ _ _ (same 63 refl) (same 61 refl) (same 57 refl) none
