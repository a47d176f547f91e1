-- Reading fields of one kind one after the other, as a loop does.
use Rattle.std.proofs.Common.{◌≡◌, ℕ, suc, ◌-◌, ◌+◌, ◌≤◌, ◌<◌, List, [], ◌∷◌, ◌++◌, Result, Ok, Err, refl, sym, ap, ◌∙◌, append_assoc, append-nil, arith}
use Rattle.ras_base.specs.Chaining.{◌>>=◌}
use Rattle.entry_format.specs.declared.refused.EntryRefused.{EntryRefused}
use Rattle.entry_format.specs.declared.refused.EntryRefused.TheVariants.{Bad, NoMemory}
use Rattle.entry_format.specs.Reading.{Reader, FailsUnlessMemory, ReadsUnlessMemory, RefusesExactly, ReadsExactly, many_at}

-- The error of a function that allocates nothing, as the error of a function that may allocate.
pub is_failed : {Y : Type 0} (e : EntryRefused) (read : Result Y EntryRefused) → RefusesExactly e read → FailsUnlessMemory e read
is_failed NoMemory read refused = tt
is_failed Bad read refused = refused

pub is_given : {X Y : Type 0} (view : X → Y) (result : Result X EntryRefused) (read : Result Y EntryRefused) → ReadsExactly view result read → ReadsUnlessMemory view result read
is_given view (Ok x) read told = told
is_given view (Err e) read told = is_failed e read told

abbrev ok : {A : Type 0} → A → Result A EntryRefused
ok x = Ok x

-- the values read before, and the values read then
abbrev pub with_front : {A : Type 0} → List A → Result (List A × List ℕ) EntryRefused → Result (List A × List ℕ) EntryRefused
with_front front read = read >>= λ x. Ok (front ++ x.0, x.1)

regroup : {A : Type 0} (front : List A) (n : A) (read : Result (List A × List ℕ) EntryRefused) → with_front front (read >>= λ x. Ok (n ∷ x.0, x.1)) ≡ with_front (front ++ n ∷ []) read
regroup {A} front n (Ok x) = ap (λ (ns : List A). ok (ns, x.1)) (simp append_assoc)
regroup front n (Err f) = refl

pub goes_on : {A : Type 0} (r : Reader A) (front : List A) (count i : ℕ) (bytes : List ℕ) (n : A) (after : List ℕ) (total : Result (List A × List ℕ) EntryRefused) → i < count → r bytes ≡ Ok (n, after)
    → with_front front (many_at r (count - i) bytes) ≡ total → with_front (front ++ n ∷ []) (many_at r (count - (i + 1)) after) ≡ total
unfolding many_at
goes_on r front count i bytes n after total lt h so_far =
    let k : count - i ≡ suc (count - (i + 1)) = omega arith in
    let one : with_front front (many_at r (count - i) bytes) ≡ with_front (front ++ n ∷ []) (many_at r (count - (i + 1)) after) = rw (k, h) (regroup front n (many_at r (count - (i + 1)) after)) in
    sym one ∙ so_far

fails : {A : Type 0} (r : Reader A) (front : List A) (n : ℕ) (bytes : List ℕ) → r bytes ≡ Err Bad → with_front front (many_at r (suc n) bytes) ≡ Err Bad
unfolding many_at
fails r front n bytes h = rw h refl

pub ends : {A : Type 0} (r : Reader A) (e : EntryRefused) (front : List A) (count i : ℕ) (bytes : List ℕ) (total : Result (List A × List ℕ) EntryRefused) → i < count → FailsUnlessMemory e (r bytes)
    → with_front front (many_at r (count - i) bytes) ≡ total → FailsUnlessMemory e total
ends r NoMemory front count i bytes total lt h so_far = tt
ends r Bad front count i bytes total lt h so_far =
    let k : count - i ≡ suc (count - (i + 1)) = omega arith in
    sym so_far ∙ rw k (fails r front (count - (i + 1)) bytes h)

pub refuses : {A : Type 0} (r : Reader A) (e : EntryRefused) (front : List A) (count i : ℕ) (bytes : List ℕ) (total : Result (List A × List ℕ) EntryRefused) → i < count → RefusesExactly e (r bytes)
    → with_front front (many_at r (count - i) bytes) ≡ total → RefusesExactly e total
refuses r NoMemory front count i bytes total lt h so_far = h
refuses r Bad front count i bytes total lt h so_far = ends r Bad front count i bytes total lt h so_far

pub is_done : {A : Type 0} (r : Reader A) (front : List A) (count i : ℕ) (bytes : List ℕ) (total : Result (List A × List ℕ) EntryRefused) → count ≤ i → with_front front (many_at r (count - i) bytes) ≡ total → total ≡ Ok (front, bytes)
unfolding many_at
is_done {A} r front count i bytes total le so_far =
    let k : count - i ≡ 0 = omega arith in
    let one : with_front front (many_at r (count - i) bytes) ≡ Ok (front, bytes) = rw k (ap (λ (ns : List A). ok (ns, bytes)) (append-nil front)) in
    sym so_far ∙ one
