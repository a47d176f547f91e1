-- How single corrected errors fill a module's bucket, and when it is empty.
use Rattle.std.proofs.Common.{◌≡◌, ℕ, suc, ◌+◌, ◌<◌, ◌≤◌, Bool, true, false, ◌||◌, if◌then◌else◌, nat_le, List, [], ◌∷◌, ◌++◌, length, None, Some, refl, sym, ap, subst, ◌∙◌, append_assoc, append-nil, length-append, arith, All}
use Rattle.std.specs.List.{AllByRecursion}
use Rattle.std.proofs.lemmas.Bool.Decides.{nat_tests}
use Rattle.page_policy.specs.declared.buckets.Limit.{Limit}
use Rattle.page_policy.specs.declared.buckets.Bucket.{Bucket}
use Rattle.page_policy.specs.Buckets.{IsLimit, aged_bucket, bucket_after, trips}
use Rattle.page_policy.proofs.OrderLemmas.{unaged, aged-whole}
use Rattle.ras_account.specs.Sightings.{Sighting}
use Rattle.ras_account.specs.Modules.{bucket_met, bucket_over, bucket_with, trips_at, has_tripped, first_time, IsSingleError, AreSingleErrors, IsLate}
use Rattle.ras_account.proofs.AccountLemmas.{bucket_over-more, has_tripped-more}

-- A bucket that isn't above its capacity is empty after a whole period.
emptied : (bucket : Bucket) (s : Sighting) → IsLimit s.module_limit → bucket.count ≤ s.module_limit.capacity → IsLate bucket s
    → aged_bucket s.module_limit s.seconds bucket ≡ aged_bucket s.module_limit s.seconds (record { count = 0; stamp = s.seconds })
emptied bucket s is below late =
    aged-whole s.module_limit s.seconds bucket is below late
    ∙ sym (unaged s.module_limit s.seconds (record { count = 0; stamp = s.seconds }) is (omega (arith, is.period_from)))

pub empties-bucket : (bucket : Bucket) (s : Sighting) → IsLimit s.module_limit → bucket.count ≤ s.module_limit.capacity → IsLate bucket s
    → bucket_with (Some bucket) s ≡ bucket_with None s
empties-bucket bucket s is below late =
    ap (λ (aged : Bucket). record {
      count = if nat_le s.module_limit.capacity (aged.count + s.item.weight) then 0 else aged.count + s.item.weight;
      stamp = aged.stamp;
    }) (emptied bucket s is below late)

pub empties-trip : (bucket : Bucket) (s : Sighting) → IsLimit s.module_limit → bucket.count ≤ s.module_limit.capacity → IsLate bucket s
    → trips_at (Some bucket) s ≡ trips_at None s
empties-trip bucket s is below late =
    ap (λ (aged : Bucket). nat_le s.module_limit.capacity (aged.count + s.item.weight)) (emptied bucket s is below late)

module _ (limit : Limit) (from : ℕ) (valid : IsLimit limit) where
  -- The bucket before the next error, after single errors within a period.
  record Fills (done : List Sighting) : Type 0 where
    bucket : Bucket
    met : (s : Sighting) → (done ≡ [] → s.seconds ≡ from) → bucket_met (bucket_over done) s ≡ bucket
    stamp : bucket.stamp ≡ from
    count : length done < limit.capacity → bucket.count ≡ length done
    tripped : has_tripped done ≡ nat_le limit.capacity (length done)

  fills-none : Fills []
  fills-none = record {
    bucket = record { count = 0; stamp = from };
    met = λ s starts i. record { count = 0; stamp = starts refl i };
    stamp = refl;
    count = λ below. refl;
    tripped = grind (arith, nat_tests, valid.capacity_from);
  }

  fills-more : (done : List Sighting) (s : Sighting) → Fills done → IsSingleError limit from s → (done ≡ [] → s.seconds ≡ from) → Fills (done ++ s ∷ [])
  fills-more done s fills single starts = record {
    bucket = after;
    met = λ t begins. ap (λ o. bucket_met o t) (bucket_over-more done s ∙ ap Some stepped);
    stamp = fills.stamp;
    count = λ below. counted below;
    tripped = has_tripped-more done s ∙ (λ i. fills.tripped i || tests i) ∙ reached;
  }
    where
      b : Bucket
      b = fills.bucket

      after : Bucket
      after = record { count = if nat_le limit.capacity (b.count + 1) then 0 else b.count + 1; stamp = b.stamp }

      still : aged_bucket limit s.seconds b ≡ b
      still = unaged limit s.seconds b valid (omega (arith, single.within, fills.stamp))

      stepped : bucket_with (bucket_over done) s ≡ after
      stepped =
          (λ i. bucket_after (single.limit_is i) s.seconds (single.one i) (fills.met s starts i))
          ∙ ap (λ (aged : Bucket). record { count = if nat_le limit.capacity (aged.count + 1) then 0 else aged.count + 1; stamp = aged.stamp }) still

      tests : trips_at (bucket_over done) s ≡ nat_le limit.capacity (b.count + 1)
      tests =
          (λ i. trips (single.limit_is i) s.seconds (single.one i) (fills.met s starts i))
          ∙ ap (λ (aged : Bucket). nat_le limit.capacity (aged.count + 1)) still

      size : length (done ++ s ∷ []) ≡ length done + 1
      size = length-append done (s ∷ [])

      counted : length (done ++ s ∷ []) < limit.capacity → after.count ≡ length (done ++ s ∷ [])
      counted below =
          let here : b.count ≡ length done = fills.count (omega (arith, size)) in
          let no : nat_le limit.capacity (b.count + 1) ≡ false = grind (arith, nat_tests, size, here, below) in
          ap (λ t. if t then 0 else b.count + 1) no ∙ ap (λ n. n + 1) here ∙ sym size

      reached : (nat_le limit.capacity (length done) || nat_le limit.capacity (b.count + 1)) ≡ nat_le limit.capacity (length (done ++ s ∷ []))
      reached = by (nat_le limit.capacity (length done)) refl
        where
          by : (t : Bool) → nat_le limit.capacity (length done) ≡ t → (t || nat_le limit.capacity (b.count + 1)) ≡ nat_le limit.capacity (length (done ++ s ∷ []))
          by true full = grind (arith, nat_tests, size, full)
          by false open_still =
              let here : b.count ≡ length done = fills.count (grind (arith, nat_tests)) in
              ap (nat_le limit.capacity) (ap (λ n. n + 1) here ∙ sym size)

  not_empty : (done : List Sighting) (s : Sighting) → done ++ s ∷ [] ≡ [] → ⊥
  not_empty [] s is = cc
  not_empty (t ∷ ts) s is = cc

  fills-all : (done rest : List Sighting) → Fills done → AllByRecursion (IsSingleError limit from) rest → (done ≡ [] → first_time rest ≡ from) → Fills (done ++ rest)
  fills-all done [] fills all starts = subst Fills (sym (append-nil done)) fills
  fills-all done (s ∷ ss) fills all starts =
      subst Fills (append_assoc done (s ∷ []) ss)
      (fills-all (done ++ s ∷ []) ss (fills-more done s fills all.0 starts) all.1 (λ is. absurd (not_empty done s is)))

by_recursion : {X : Type 0} (P : X → Type 0) (xs : List X) → All P xs → AllByRecursion P xs
by_recursion P [] all = tt
by_recursion P (x ∷ xs) all = (all 0 x (omega arith), by_recursion P xs (λ k d within. all (suc k) d (omega arith)))

pub tripped-at_capacity : (errors : List Sighting) (limit : Limit) → IsLimit limit → AreSingleErrors limit errors → has_tripped errors ≡ nat_le limit.capacity (length errors)
tripped-at_capacity errors limit valid single =
    (fills-all limit (first_time errors) valid [] errors (fills-none limit (first_time errors) valid)
    (by_recursion (IsSingleError limit (first_time errors)) errors single) (λ empty. refl)).tripped
