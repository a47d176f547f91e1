-- A text that isn't a GUID parses to nothing.
use Rattle.std.proofs.Common.{◌≡◌, ◌↔◌, ℕ, List, refl, Option, Some, None, Result, Ok, Err, IsOk}
use Rattle.uuid.specs.Text.{parsed}

not_ok : {E : Type 0} (r : Result (List ℕ) E) (why : E) → r ≡ Err why → IsOk r → ⊥
not_ok (Ok guid) why is ok = cc
not_ok (Err other) why is ok = cc

pub no_guid : {E : Type 0} (text : List ℕ) (r : Result (List ℕ) E) (why : E) → r ≡ Err why
    → (IsOk r ↔ ((guid : List ℕ) × (parsed text ≡ Some guid))) → None ≡ parsed text
no_guid text r why is both = by (parsed text) refl
  where
    by : (o : Option (List ℕ)) → parsed text ≡ o → None ≡ o
    by None same = refl
    by (Some guid) same = absurd (not_ok r why is (both.1 (guid, same)))
