-- The bytes of a store file.
use Rattle.std.specs.Prelude.{◌≡◌, ℕ, ◌+◌, List, ◌++◌, length, codes, Result, Ok, Err}
use Rattle.std.specs.List.{flat_map}
use Rattle.ras_base.specs.LittleEndian.{u32_bytes, u64_bytes}
use Rattle.erst_store.specs.declared.reading.StoreRefused.{StoreRefused}
use Rattle.erst_store.specs.declared.reading.StoreRefused.TheVariants.{Malformed, NoMemory}
use Rattle.erst_store.specs.Store.{Stored, IsStore}

-- a record: its identifier, its length, its bytes
abbrev pub record_bytes : Stored → List ℕ
record_bytes r = u64_bytes r.id ++ u32_bytes (length r.bytes) ++ r.bytes

-- the letters that a store file begins with, and the number of its records
abbrev pub heading : ℕ → List ℕ
heading count = codes "RASERST1" ++ u32_bytes count

-- a store: the heading, and the records in their order
abbrev pub store_bytes : List Stored → List ℕ
store_bytes records = heading (length records) ++ flat_map record_bytes records

-- Two files differ by one record: the newer counts one record less and lacks the bytes of this record. All other bytes
-- are the same, in their order.
pub record LacksRecord (r : Stored) (old new : List ℕ) : Type 0 where
  pub count : ℕ
  pub before : List ℕ
  pub after : List ℕ
  pub old_is : old ≡ heading (count + 1) ++ before ++ record_bytes r ++ after
  pub new_is : new ≡ heading count ++ before ++ after

-- Bytes aren't a store file.
abbrev pub IsNoStoreFile : List ℕ → Type 0
IsNoStoreFile bytes = (records : List Stored) → IsStore records → ¬ (bytes ≡ store_bytes records)

-- A read returns the store whose bytes these are, or reports that they aren't a store file, or runs out of memory.
abbrev pub ReadsStore : List ℕ → Result (List Stored) StoreRefused → Type 0
ReadsStore bytes (Ok records) = bytes ≡ store_bytes records
ReadsStore bytes (Err Malformed) = IsNoStoreFile bytes
ReadsStore bytes (Err NoMemory) = Unit {0}

-- A read of a store's bytes returns this store, unless memory runs out.
abbrev pub ReadsBack : List Stored → Result (List Stored) StoreRefused → Type 0
ReadsBack records (Ok found) = found ≡ records
ReadsBack records (Err Malformed) = ⊥
ReadsBack records (Err NoMemory) = Unit {0}
