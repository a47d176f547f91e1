-- A field of two files with the same beginning, and a field at its place in a file.
use Rattle.std.proofs.Common.{◌≡◌, ◌∙◌, ℕ, ◌+◌, ◌≤◌, ◌<◌, List, ◌++◌, length, take, drop, Option, None, Some, Result, Ok, Err, refl, sym, ap, arith}
use Rattle.std.specs.Prelude.{true, false, nat_le}
use Rattle.std.proofs.Common.{inl, inr}
use Rattle.std.proofs.lemmas.Bool.{cases_lt}
use Rattle.std.specs.Option.{option_and_then}
use Rattle.std.proofs.lemmas.Bool.Decides.{nat_tests}
use Rattle.std.proofs.lemmas.List.{length-take, length-append, drop-take, take-take, take_at, drop_at}
use Rattle.ras_base.specs.Chaining.{◌>>=◌}
use Rattle.ras_journal.specs.Fields.{part, some_or, field}

pub bind_ok : {A B E : Type 0} (r : Result A E) (f : A → Result B E) (y : B) → (r >>= f) ≡ Ok y → (x : A) × (r ≡ Ok x) × (f x ≡ Ok y)
bind_ok (Ok x) f y e = (x, refl, e)
bind_ok (Err d) f y e = absurd cc

pub bind_of : {A B E : Type 0} (r : Result A E) (f : A → Result B E) (x : A) → r ≡ Ok x → (r >>= f) ≡ f x
bind_of r f x e = rw e refl

pub bind_err : {A B E : Type 0} (r : Result A E) (f : A → Result B E) (why : E) → r ≡ Err why → (r >>= f) ≡ Err why
bind_err r f why e = rw e refl

pub same_ok : {A E : Type 0} (x y : A) → ◌≡◌ {A = Result A E} (Ok x) (Ok y) → x ≡ y
same_ok x y e = cc

-- A part that is within the file is read.
pub part_within : (place count : ℕ) (file : List ℕ) → place + count ≤ length file → part place count file ≡ Some (take count (drop place file))
unfolding part
part_within place count file within =
    let test : nat_le (place + count) (length file) ≡ true = grind (arith, nat_tests) in
    rw test refl

-- A part that isn't within the file isn't read.
pub part_cut : (place count : ℕ) (file : List ℕ) → length file < place + count → part place count file ≡ None
unfolding part
part_cut place count file past =
    let test : nat_le (place + count) (length file) ≡ false = grind (arith, nat_tests) in
    rw test refl

-- A file with the other file's beginning is at least as long.
pub reaches : (gate : ℕ) (one other : List ℕ) → take gate one ≡ take gate other → gate ≤ length other → gate ≤ length one
reaches gate one other front within = omega (arith, length-take gate one, length-take gate other, ap length front)

pub part_same : (gate place count : ℕ) (one other : List ℕ) → take gate one ≡ take gate other → gate ≤ length other → place + count ≤ gate → part place count one ≡ part place count other
part_same gate place count one other front within inside =
    let long : gate ≤ length one = reaches gate one other front within in
    let cut : take (place + count) one ≡ take (place + count) other =
    sym (take-take (place + count) gate one inside) ∙ ap (λ (l : List ℕ). take (place + count) l) front ∙ take-take (place + count) gate other inside in
    let same : take count (drop place one) ≡ take count (drop place other) =
    sym (drop-take place count one) ∙ ap (λ (l : List ℕ). drop place l) cut ∙ drop-take place count other in
    part_within place count one (omega arith) ∙ ap (λ (l : List ℕ). Some l) same ∙ sym (part_within place count other (omega arith))

pub field_same : {A : Type 0} (make : List ℕ → Option A) (gate place count : ℕ) (one other : List ℕ) → take gate one ≡ take gate other → gate ≤ length other → place + count ≤ gate → field make place count one ≡ field make place count other
unfolding field
field_same make gate place count one other front within inside =
    ap (λ (bytes : Option (List ℕ)). some_or place (option_and_then make bytes)) (part_same gate place count one other front within inside)

-- A field that the file's end cuts can't be read.
pub field_cut : {A : Type 0} (make : List ℕ → Option A) (place count : ℕ) (file : List ℕ) → length file < place + count → field make place count file ≡ Err place
unfolding field
field_cut make place count file past = ap (λ (found : Option (List ℕ)). some_or place (option_and_then make found)) (part_cut place count file past)

-- A field that can be read is within the file.
pub field_within : {A : Type 0} (make : List ℕ → Option A) (place count : ℕ) (file : List ℕ) (x : A) → field make place count file ≡ Ok x → place + count ≤ length file
unfolding field
field_within {A} make place count file x e = elim (cases_lt (length file) (place + count)) [
  | inl past ↦ absurd (no_field (sym (field_cut make place count file past) ∙ e))
  | inr within ↦ within
]
  where
    no_field : ◌≡◌ {A = Result A ℕ} (Err place) (Ok x) → ⊥
    no_field e = cc

-- The field of a file that consists of the bytes before, the field's bytes and the bytes after.
pub field_at : {A : Type 0} (make : List ℕ → Option A) (place count : ℕ) (file before bytes after : List ℕ) → file ≡ before ++ (bytes ++ after) → place ≡ length before → count ≡ length bytes → field make place count file ≡ some_or place (make bytes)
unfolding field
field_at make place count file before bytes after laid starts counts =
    let behind : drop place file ≡ bytes ++ after = ap (λ (l : List ℕ). drop place l) laid ∙ drop_at before (bytes ++ after) place (sym starts) in
    let here : take count (drop place file) ≡ bytes = ap (λ (l : List ℕ). take count l) behind ∙ take_at bytes after count (sym counts) in
    let long : place + count ≤ length file = omega (arith, ap length laid, length-append before (bytes ++ after), length-append bytes after) in
    ap (λ (found : Option (List ℕ)). some_or place (option_and_then make found)) (part_within place count file long ∙ ap (λ (l : List ℕ). Some l) here)

-- The value of a field is made from the field's bytes.
pub field_made : {A : Type 0} (make : List ℕ → Option A) (place count : ℕ) (file : List ℕ) (x : A) → field make place count file ≡ Ok x → make (take count (drop place file)) ≡ Some x
unfolding field
field_made {A} make place count file x e = by (make (take count (drop place file))) refl (sym (ap (λ (found : Option (List ℕ)). some_or place (option_and_then make found)) (part_within place count file (field_within make place count file x e))) ∙ e)
  where
    by : (o : Option A) → make (take count (drop place file)) ≡ o → some_or place (make (take count (drop place file))) ≡ Ok x → make (take count (drop place file)) ≡ Some x
    by None is e = absurd (no_field (sym (ap (λ (found : Option A). some_or place found) is) ∙ e))
      where
        no_field : ◌≡◌ {A = Result A ℕ} (Err place) (Ok x) → ⊥
        no_field e = cc
    by (Some y) is e = is ∙ ap (λ (z : A). Some z) (same_ok y x (sym (ap (λ (found : Option A). some_or place found) is) ∙ e))
