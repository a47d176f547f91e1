-- What puts and saves do to the record store.
use Rattle.std.proofs.Common.{◌≡◌, ℕ, Bool, true, false, nat_lt, if◌then◌else◌, List, length, Option, None, Some, refl, ap}
use Rattle.std.specs.Option.{option_map_or}
use Rattle.erst_store.specs.Device.{with_put}
use Rattle.erst_store.specs.Store.{Stored, is_full_for, is_reserved, most_bytes, refusal_of, with_record}
use Rattle.erst_store.specs.declared.store.PutRefused.{PutRefused}
use Rattle.erst_store.specs.declared.store.PutRefused.TheVariants.{ReservedId, StoreFull, TooLong}
use Rattle.board_core.specs.Told.{Told, after_put, device_of, unless_refused}
use Rattle.ras_events.specs.Stores.{store_with}

-- ---- a put, by the store's refusal

module _ (id : ℕ) (bytes : List ℕ) (t : Told) where
  pub put_store : (after_put id bytes (device_of t)).store ≡ store_with id bytes t.here.store
  unfolding with_put
  put_store = by (refusal_of id bytes t.here.store)
    where
      by : (r : Option PutRefused) → (unless_refused r (with_put id bytes (device_of t)) (device_of t)).store ≡ option_map_or (λ why. t.here.store) r (with_record id bytes t.here.store)
      by None = refl
      by (Some why) = refl

-- ---- a store that refuses the record

module _ (id : ℕ) (bytes : List ℕ) (store : List Stored) where
  pub refused_with : (why : PutRefused) → refusal_of id bytes store ≡ Some why → store_with id bytes store ≡ store
  refused_with why is = ap (λ (r : Option PutRefused). option_map_or (λ cause. store) r (with_record id bytes store)) is

  abbrev by_tests : Bool → Bool → Bool → Option PutRefused
  by_tests reserved long full = if reserved then Some ReservedId else (if long then Some TooLong else (if full then Some StoreFull else None))

  pub full_with : is_full_for id store ≡ true → store_with id bytes store ≡ store
  full_with = by (is_reserved id) (nat_lt most_bytes (length bytes)) (is_full_for id store)
    where
      by : (reserved long full : Bool) → full ≡ true → option_map_or (λ why. store) (by_tests reserved long full) (with_record id bytes store) ≡ store
      by true long full is = refl
      by false true full is = refl
      by false false true is = refl
      by false false false is = absurd cc
