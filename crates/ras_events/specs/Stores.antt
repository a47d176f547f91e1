-- What events do to the record store, and which of its records are readable.
use Rattle.std.specs.Prelude.{ℕ, zero, suc, Bool, not, List, [], ◌∷◌, filter, Result, if◌then◌else◌}
use Rattle.std.specs.Option.{option_map_or}
use Rattle.std.specs.Result.{is_ok}
use Rattle.cper_records.specs.Readable.{filled, read_under}
use Rattle.cper_records.specs.declared.refusals.Unreadable.{Unreadable}
use Rattle.erst_store.specs.Store.{Stored, refusal_of, with_record}

-- the record in the bytes that a store returns for a stored record, or why they aren't one
abbrev pub read_stored : Stored → Result (List ℕ) Unreadable
read_stored r = read_under r.id (filled r.bytes)

abbrev pub is_readable : Stored → Bool
is_readable r = is_ok (read_stored r)

-- the readable records of a store, which a poll counts, and the other records, which a poll leaves
abbrev pub readable : List Stored → List Stored
readable store = filter is_readable store

abbrev pub unreadable : List Stored → List Stored
unreadable store = filter (λ r. not (is_readable r)) store

-- A store after a put of a record. A put that the store refuses changes nothing.
abbrev pub store_with : ℕ → List ℕ → List Stored → List Stored
store_with id bytes store =
    option_map_or (λ why. store) (refusal_of id bytes store) (with_record id bytes store)

-- a store without the first n of its readable records
abbrev pub without_first : ℕ → List Stored → List Stored
without_first zero store = store
without_first (suc n) [] = []
without_first (suc n) (r ∷ rs) =
    if is_readable r then without_first n rs else r ∷ without_first (suc n) rs
