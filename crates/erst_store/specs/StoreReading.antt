-- Reading a store file from left to right.
use Rattle.std.specs.Prelude.{◌≡◌, ℕ, zero, suc, Bool, ◌&&◌, not, nat_eq, nat_lt, List, [], ◌∷◌, ◌++◌, if◌then◌else◌, length, take, drop, codes, Result, Ok, Err}
use Rattle.std.specs.Option.{is_none}
use Rattle.std.specs.Result.{result_unwrap_or}
use Rattle.std.specs.Cmp.Lexicographic.{pointwise}
use Rattle.ras_base.specs.Chaining.{◌>>=◌}
use Rattle.ras_base.specs.LittleEndian.{number_at}
use Rattle.erst_store.specs.declared.reading.StoreRefused.{StoreRefused}
use Rattle.erst_store.specs.declared.reading.StoreRefused.TheVariants.{Malformed, NoMemory}
use Rattle.erst_store.specs.Store.{Stored, holds, refusal_of}

-- The error of a function is the error of reading, unless memory ran out.
abbrev pub FailsStore : {Y : Type 0} → StoreRefused → Result Y StoreRefused → Type 0
FailsStore Malformed read = read ≡ Err Malformed
FailsStore NoMemory read = Unit {0}

-- A function returns this view of what reading gives, unless memory runs out.
abbrev pub GivesStore : {X Y : Type 0} → (X → Y) → Result X StoreRefused → Result Y StoreRefused → Type 0
GivesStore view (Ok x) read = read ≡ Ok (view x)
GivesStore view (Err e) read = FailsStore e read

-- a number of n bytes and the bytes after it
abbrev pub front_number : ℕ → List ℕ → Result (ℕ × List ℕ) StoreRefused
front_number width bytes =
    if nat_lt (length bytes) width then Err Malformed else Ok (number_at 0 width bytes, drop width bytes)

-- a record and the bytes after it
unfoldable pub front_record : List ℕ → Result (Stored × List ℕ) StoreRefused
front_record bytes = do
  id ← front_number 8 bytes
  n ← front_number 4 id.1
  if nat_lt (length n.1) n.0 then Err Malformed else Ok (record { id = id.0; bytes = take n.0 n.1 }, drop n.0 n.1)

-- Whether a record may come after these.
abbrev pub may_follow : Stored → List Stored → Bool
may_follow r before = not (holds r.id before) && is_none (refusal_of r.id r.bytes before)

-- records with one more after them
abbrev pub with_next : Stored → List Stored → Result (List Stored) StoreRefused
with_next r before = if may_follow r before then Ok (before ++ r ∷ []) else Err Malformed

-- n records and nothing after them, after the records that were read before
unfoldable pub records_at : ℕ → List Stored → List ℕ → Result (List Stored) StoreRefused
records_at zero before bytes = if nat_eq (length bytes) 0 then Ok before else Err Malformed
records_at (suc count) before bytes = do
  r ← front_record bytes
  all ← with_next r.0 before
  records_at count all r.1

-- the number of records that a file states, and the bytes after it
unfoldable pub count_at : List ℕ → Result (ℕ × List ℕ) StoreRefused
count_at bytes = if pointwise nat_eq (take 8 bytes) (codes "RASERST1") then front_number 4 (drop 8 bytes) else Err Malformed

-- the store whose file these bytes are
unfoldable pub file_at : List ℕ → Result (List Stored) StoreRefused
file_at bytes = do
  n ← count_at bytes
  records_at n.0 [] n.1

-- the store whose file these bytes are, or the empty store if they aren't a store file
abbrev pub store_at : List ℕ → List Stored
store_at bytes = result_unwrap_or (file_at bytes) []
