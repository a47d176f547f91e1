-- A record store: records in the order in which their identifiers were first stored, each under its own identifier.
use Rattle.std.specs.Prelude.{◌≡◌, ℕ, ◌-◌, ◌^◌, ◌<◌, ◌≤◌, Bool, ◌&&◌, ◌||◌, not, nat_eq, nat_lt, List, [], ◌∷◌, ◌++◌, if◌then◌else◌, length, map, filter, Option, None, Some, Result, Ok, Err}
use Rattle.std.specs.List.{AllByRecursion, IsDistinct, list_any}
use Rattle.ras_base.specs.LittleEndian.{AreBytes}
use Rattle.erst_store.specs.declared.store.PutRefused.{PutRefused}
use Rattle.erst_store.specs.declared.store.PutRefused.TheVariants.{ReservedId, TooLong, StoreFull, NoMemory}

-- a record: its identifier and its bytes
pub record Stored : Type 0 where
  pub id : ℕ
  pub bytes : List ℕ

-- the most records of a store, and the most bytes of a record
abbrev pub most_records : ℕ
most_records = 1024

abbrev pub most_bytes : ℕ
most_bytes = 16384

-- the number whose 64 bits are all ones, which no record has as its identifier
abbrev pub all_ones : ℕ
all_ones = 2 ^ 64 - 1

-- Whether a number is 0 or all ones, which aren't identifiers.
abbrev pub is_reserved : ℕ → Bool
is_reserved id = nat_eq id 0 || nat_eq id all_ones

abbrev pub ids : List Stored → List ℕ
ids records = map (λ r. r.id) records

-- the bytes of each record, in order
abbrev pub contents : List Stored → List (List ℕ)
contents records = map (λ r. r.bytes) records

-- A store may contain this record.
pub record Fits (r : Stored) : Type 0 where
  pub above : 0 < r.id
  pub below : r.id < all_ones
  pub size : length r.bytes ≤ most_bytes
  pub bytes : AreBytes r.bytes

-- A list of records that a store can be.
pub record IsStore (records : List Stored) : Type 0 where
  pub count : length records ≤ most_records
  pub each : AllByRecursion Fits records
  pub distinct : IsDistinct nat_eq (ids records)

-- Whether the store has a record under this identifier.
abbrev pub holds : ℕ → List Stored → Bool
holds id records = list_any (nat_eq id) (ids records)

-- the bytes under an identifier, if any
abbrev pub bytes_under : ℕ → List Stored → Option (List ℕ)
bytes_under id [] = None
bytes_under id (r ∷ rs) = if nat_eq r.id id then Some r.bytes else bytes_under id rs

-- the record with these bytes if it has this identifier, else the record unchanged
abbrev pub record_after_put : ℕ → List ℕ → Stored → Stored
record_after_put id bytes r = if nat_eq r.id id then record { id = r.id; bytes = bytes } else r

-- A store after a put of a record: the record replaces the record under its identifier, or else comes after all
-- others.
abbrev pub with_record : ℕ → List ℕ → List Stored → List Stored
with_record id bytes records =
    if holds id records then map (record_after_put id bytes) records
    else records ++ record { id = id; bytes = bytes } ∷ []

-- all records except the one under this identifier, in their order
abbrev pub without : ℕ → List Stored → List Stored
without id records = filter (λ r. not (nat_eq r.id id)) records

-- Whether a store has no room for a record under this identifier.
abbrev pub is_full_for : ℕ → List Stored → Bool
is_full_for id records = nat_eq (length records) most_records && not (holds id records)

-- Why a put is refused: the first reason that applies, if any.
abbrev pub refusal_of : ℕ → List ℕ → List Stored → Option PutRefused
refusal_of id bytes records =
    if is_reserved id then Some ReservedId
    else (if nat_lt most_bytes (length bytes) then Some TooLong
    else (if is_full_for id records then Some StoreFull else None))

-- A put returns this refusal. If there is no refusal, it succeeds or memory runs out.
abbrev pub AnswersRefusal : {X : Type 0} → Result X PutRefused → Option PutRefused → Type 0
AnswersRefusal (Ok _) refusal = refusal ≡ None
AnswersRefusal (Err NoMemory) refusal = refusal ≡ None
AnswersRefusal (Err ReservedId) refusal = refusal ≡ Some ReservedId
AnswersRefusal (Err TooLong) refusal = refusal ≡ Some TooLong
AnswersRefusal (Err StoreFull) refusal = refusal ≡ Some StoreFull

-- Two stores agree except for the record under one identifier: all other records have the same bytes and the same
-- order.
abbrev pub SameBut : ℕ → List Stored → List Stored → Type 0
SameBut id old new = without id new ≡ without id old
