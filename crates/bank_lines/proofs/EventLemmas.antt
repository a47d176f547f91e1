-- The fields of a text, without its last part.
use Rattle.std.proofs.Common.{◌≡◌, ℕ, Bool, true, false, List, [], ◌∷◌, refl, sym, ap, ◌∙◌, Option, Some}
use Rattle.ras_klog.specs.Reading.{read_then}
use Rattle.ras_script.specs.Lines.{without_last}
use Rattle.bank_lines.specs.TraceEvent.{fields_after, took}
use Rattle.bank_lines.specs.declared.event.Fields.{Fields}

differ : true ≡ false → ⊥
differ is = cc

-- a part that isn't the last one is taken
pub last_left : (fields new : Fields) (part : List ℕ) (rest parts : List (List ℕ)) (taken : Bool) (told : Option Fields)
    → parts ≡ part ∷ rest → (rest ≡ [] → taken ≡ true) → taken ≡ false → Some new ≡ took fields part
    → fields_after fields (without_last parts) ≡ told → fields_after new (without_last rest) ≡ told
last_left fields new part [] parts taken told is ends more took_is before = absurd (differ (sym (ends refl) ∙ more))
last_left fields new part (next ∷ rest) parts taken told is ends more took_is before =
    ap (λ (o : Option Fields). read_then o (λ h. fields_after h (without_last (next ∷ rest)))) took_is
    ∙ ap (λ (ps : List (List ℕ)). fields_after fields (without_last ps)) (sym is)
    ∙ before
