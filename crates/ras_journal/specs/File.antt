-- What one journal file contains. Its fields are read in order, each at its offset in the whole file. If a field can't
-- be read, the file is damaged at that field's offset, and what was read before doesn't count.
--
--   offset 0       gate (1 byte)                          whether the file is valid
--         1        magic (8)                              it is the magic of a version
--         9        generation (8)                         from 1 to 2^63 - 1, and not file 0's
--        17        number of the checkpoint's bytes (8)
--        25        checkpoint                             it is a checkpoint, all of it
--   and then, until a gate is closed:
--         p        gate (1)                               open or closed
--         p + 1    number of the payload's bytes (4)      only after an open gate
--         p + 5    payload                                it is a payload, and the account can take it
use Rattle.std.specs.Prelude.{◌≡◌, ℕ, zero, suc, ◌+◌, ◌≤◌, Bool, nat_lt, nat_eq, ◌&&◌, if◌then◌else◌, List, length, slice_index, Option, None, Some, Result, Ok, Err}
use Rattle.ras_base.specs.Chaining.{◌>>=◌}
use Rattle.ras_account.specs.Account.{State}
use Rattle.ras_account.specs.Continued.{account_after_all, account_after_mark}
use Rattle.ras_facts.specs.declared.entry.Entry.{Entry}
use Rattle.entry_format.specs.declared.version.Version.{Version}
use Rattle.entry_format.specs.declared.version.Version.TheVariants.{One, Two}
use Rattle.journal_format.specs.CheckpointReading.{checkpoint_of}
use Rattle.ras_journal.specs.declared.limits.TheConstants.{OPEN_GATE}
use Rattle.ras_journal.specs.Fields.{field, version_of, number_of, generation_of, is_open_of, entries_by}

-- A file is valid if it is longer than 1 byte and its byte 0 is an open gate.
abbrev pub has_open_gate : List ℕ → Bool
has_open_gate file = nat_lt 1 (length file) && nat_eq (slice_index file 0) OPEN_GATE

-- What was read of a file up to a gate: the gate's offset, the number of links before it, and the account of the
-- checkpoint continued by their entries.
pub record FileFront : Type 0 where
  pub version : Version
  pub generation : ℕ
  pub gate : ℕ
  pub links : ℕ
  pub account : State

-- the front up to the first gate of the chain, given the generation of the other file, if that is valid
unfoldable pub first_front : Option ℕ → List ℕ → Result FileFront ℕ
first_front taken file = do
  version ← field version_of 1 8 file
  generation ← field (generation_of taken) 9 8 file
  count ← field (number_of 8) 17 8 file
  account ← field (checkpoint_of version) 25 count file
  Ok (record { version = version; generation = generation; gate = 25 + count; links = 0; account = account })

-- a front with one more link, whose payload has this length
abbrev pub with_link : FileFront → ℕ → List Entry → FileFront
with_link front count entries = record front {
  gate = front.gate + 5 + count;
  links = front.links + 1;
  account = account_after_all front.account entries;
}

-- the front up to the next gate, after the link of an open gate
abbrev pub front_behind_link : FileFront → List ℕ → Result FileFront ℕ
front_behind_link front file = do
  count ← field (number_of 4) (front.gate + 1) 4 file
  entries ← field (entries_by front.version front.account) (front.gate + 5) count file
  Ok (with_link front count entries)

-- The front up to the next gate if this gate is open, and None if it is closed.
unfoldable pub next_front : FileFront → List ℕ → Result (Option FileFront) ℕ
next_front front file = do
  is_open ← field is_open_of front.gate 1 file
  if is_open then (front_behind_link front file >>= λ next. Ok (Some next)) else Ok None

-- The front up to the closed gate, over at most n links. A file has fewer links than bytes.
unfoldable pub whole_front : ℕ → FileFront → List ℕ → Result FileFront ℕ
whole_front zero front file = Err front.gate
whole_front (suc most) front file = do
  next ← next_front front file
  elim next [ None ↦ Ok front | Some longer ↦ whole_front most longer file ]

-- All that decides the account of a file, or None if the file isn't valid; or else the offset at which the file is
-- damaged.
unfoldable pub front_of : Option ℕ → List ℕ → Result (Option FileFront) ℕ
front_of taken file =
    if has_open_gate file then (do
      first ← first_front taken file
      whole ← whole_front (length file) first file
      Ok (Some whole))
    else Ok None

-- The account of a file. An account of version 1 gets an upgrade marker.
abbrev pub account_by : Version → State → State
account_by One account = account_after_mark account
account_by Two account = account

-- A valid file has at most 256 links, whatever generation the other file has.
abbrev pub AreLinksFew : List ℕ → Type 0
AreLinksFew file =
    (taken : Option ℕ) (front : FileFront) → front_of taken file ≡ Ok (Some front) → front.links ≤ 256
