-- The fields of a journal file: how the bytes of each are read. Each number begins with its low byte.
use Rattle.std.specs.Prelude.{ℕ, ◌+◌, Bool, true, false, nat_eq, nat_le, ◌&&◌, not, if◌then◌else◌, List, [], ◌∷◌, length, take, drop, codes, slice_index, Option, None, Some, Result, Ok, Err}
use Rattle.std.specs.Cmp.Lexicographic.{pointwise}
use Rattle.std.specs.Option.{option_map_or, option_and_then}
use Rattle.ras_base.specs.LittleEndian.{number_at}
use Rattle.ras_facts.specs.declared.entry.Entry.{Entry}
use Rattle.ras_account.specs.Account.{State}
use Rattle.ras_account.specs.Continued.{account_after}
use Rattle.ras_account.specs.Numbers.{numbers_of, are_past}
use Rattle.entry_format.specs.declared.version.Version.{Version}
use Rattle.entry_format.specs.declared.version.Version.TheVariants.{One, Two}
use Rattle.journal_format.specs.PayloadReading.{payload_of}
use Rattle.ras_journal.specs.declared.limits.TheConstants.{LAST_GENERATION, OPEN_GATE}

-- n bytes of a file from an offset on, unless the file's end cuts them
unfoldable pub part : ℕ → ℕ → List ℕ → Option (List ℕ)
part place count file =
    if nat_le (place + count) (length file) then Some (take count (drop place file)) else None

-- the value, or this error if it is missing
abbrev pub some_or : {A E : Type 0} → E → Option A → Result A E
some_or why None = Err why
some_or why (Some x) = Ok x

-- The field of n bytes at an offset. If the file's end cuts it, or its bytes can't be read, the file is damaged at that
-- offset.
unfoldable pub field : {A : Type 0} → (List ℕ → Option A) → ℕ → ℕ → List ℕ → Result A ℕ
field make place count file = some_or place (option_and_then make (part place count file))

-- ---- how a field's bytes are read

-- the version that a magic names
abbrev pub version_of : List ℕ → Option Version
version_of bytes =
    if pointwise nat_eq bytes (codes "RASJRNL1") then Some One
    else if pointwise nat_eq bytes (codes "RASJRNL2") then Some Two
    else None

-- a number of n bytes
abbrev pub number_of : ℕ → List ℕ → Option ℕ
number_of width bytes = Some (number_at 0 width bytes)

-- whether the other file has this generation
abbrev pub is_taken : Option ℕ → ℕ → Bool
is_taken taken generation = option_map_or (λ other. nat_eq other generation) taken false

-- whether a number is a generation that the other file doesn't have
abbrev pub is_generation : Option ℕ → ℕ → Bool
is_generation taken n = nat_le 1 n && nat_le n LAST_GENERATION && not (is_taken taken n)

-- the generation in these bytes, if it is one that the other file doesn't have
abbrev pub generation_of : Option ℕ → List ℕ → Option ℕ
generation_of taken bytes =
    if is_generation taken (number_at 0 8 bytes) then Some (number_at 0 8 bytes) else None

-- Whether a gate is open: every byte but one closes it.
abbrev pub is_open_of : List ℕ → Option Bool
is_open_of bytes = Some (nat_eq (slice_index bytes 0) OPEN_GATE)

-- Whether an account, continued by entries in order, stays within its limits after each.
abbrev pub stays_within : State → List Entry → Bool
stays_within account [] = true
stays_within account (entry ∷ entries) =
    not (are_past (numbers_of (account_after account entry))) && stays_within (account_after account entry) entries

-- the entries of a payload that can continue an account
abbrev pub entries_by : Version → State → List ℕ → Option (List Entry)
entries_by version account bytes =
    option_and_then (λ entries. if stays_within account entries then Some entries else None) (payload_of version bytes)
