-- The bytes that changes of the store last put under an identifier don't depend on what was there before, or are what
-- was there before.
use Rattle.std.proofs.Common.{◌≡◌, ℕ, nat_eq, Bool, true, false, if◌then◌else◌, List, [], ◌∷◌, Option, Some, refl, sym, ◌∙◌, inl, inr}
use Rattle.std.specs.Prelude.{◌⊎◌}
use Rattle.std.specs.List.{fold}
use Rattle.erst_store.specs.Store.{Stored}
use Rattle.ras_daemon.specs.Machine.{StoreChange, clears, keeps, last_changed, puts}

abbrev Found : Type 0
Found = Option (List ℕ)

abbrev Stays : (Found → Found) → Type 0
Stays f = ((a b : Found) → f a ≡ f b) ⊎ ((a : Found) → f a ≡ a)

-- if each change has this property, so have all changes together
all-stay : {X : Type 0} (f : Found → X → Found) → ((x : X) → Stays (λ a. f a x)) → (xs : List X) → Stays (λ a. fold f a xs)
all-stay f each [] = inr (λ a. refl)
all-stay {X} f each (x ∷ xs) = by (all-stay f each xs) (each x)
  where
    by : Stays (λ a. fold f a xs) → Stays (λ a. f a x) → Stays (λ a. fold f a (x ∷ xs))
    by (inl any) first = inl (λ a b. any (f a x) (f b x))
    by (inr stays) (inl any) = inl (λ a b. stays (f a x) ∙ any a b ∙ sym (stays (f b x)))
    by (inr stays) (inr same) = inr (λ a. stays (f a x) ∙ same a)

module _ (id : ℕ) where
  put-stays : (r : Stored) (b : Bool) → Stays (λ a. if b then Some r.bytes else a)
  put-stays r true = inl (λ a b. refl)
  put-stays r false = inr (λ a. refl)

  one-changed : (change : StoreChange) → Stays (λ a. last_changed id a change)
  one-changed keeps = inr (λ a. refl)
  one-changed (puts r) = put-stays r (nat_eq r.id id)
  one-changed clears = inr (λ a. refl)

  pub all-changed : (changes : List StoreChange) → Stays (λ a. fold (last_changed id) a changes)
  all-changed changes = all-stay (last_changed id) one-changed changes
