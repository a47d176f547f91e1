-- Terms of the laws of journal files.
use Rattle.std.specs.Prelude.{◌≡◌, ℕ, ◌+◌, ◌<◌, ◌≤◌, ◌^◌, false, List, ◌∷◌, ◌++◌, length, take, codes, Option, Some, Ok, Err}
use Rattle.ras_base.specs.LittleEndian.{u64_bytes}
use Rattle.ras_facts.specs.declared.entry.Entry.{Entry}
use Rattle.ras_account.specs.Account.{State}
use Rattle.ras_account.specs.Continued.{account_after_all}
use Rattle.ras_account.specs.Numbers.{StaysWithin}
use Rattle.entry_format.specs.declared.version.Version.{Version}
use Rattle.entry_format.specs.declared.version.Version.TheVariants.{One, Two}
use Rattle.journal_format.specs.Links.{payload_bytes, link_bytes, CanLink}
use Rattle.journal_format.specs.Checkpoints.{IsCheckpoint}
use Rattle.ras_journal.specs.declared.limits.TheConstants.{OPEN_GATE, LAST_GENERATION, LONGEST_FILE}
use Rattle.ras_journal.specs.Fields.{is_taken}
use Rattle.ras_journal.specs.File.{FileFront, front_of, with_link}

-- the magic of a version
abbrev pub magic : Version → List ℕ
magic One = codes "RASJRNL1"
magic Two = codes "RASJRNL2"

-- A file is read up to this front, given the generation of the other file, if that is valid.
abbrev pub IsRead : Option ℕ → List ℕ → FileFront → Type 0
IsRead taken file front = front_of taken file ≡ Ok (Some front)

-- A file is damaged at this offset, given the generation of the other file, if that is valid.
abbrev pub IsDamaged : Option ℕ → List ℕ → ℕ → Type 0
IsDamaged taken file place = front_of taken file ≡ Err place

-- A file isn't too long.
abbrev pub IsShort : List ℕ → Type 0
IsShort file = length file ≤ LONGEST_FILE

-- a file up to its first gate: an open gate, the magic, the generation, the number of the
-- checkpoint's bytes, and the checkpoint
abbrev pub begun : Version → ℕ → List ℕ → List ℕ
begun version generation checkpoint =
    OPEN_GATE ∷ (magic version ++ (u64_bytes generation ++ (u64_bytes (length checkpoint) ++ checkpoint)))

-- A file up to its first gate can be read: its generation isn't the other file's, and its checkpoint is a checkpoint
-- of this account.
pub record CanBegin (taken : Option ℕ) (version : Version) (generation : ℕ) (checkpoint : List ℕ) (account : State) : Type 0 where
  pub first : 1 ≤ generation
  pub last : generation ≤ LAST_GENERATION
  pub free : is_taken taken generation ≡ false
  pub size : length checkpoint < 2 ^ 64
  pub is : IsCheckpoint version account checkpoint

-- the front of a file up to its first gate
abbrev pub begun_front : Version → ℕ → List ℕ → State → FileFront
begun_front version generation checkpoint account = record {
  version = version;
  generation = generation;
  gate = 25 + length checkpoint;
  links = 0;
  account = account;
}

-- A link of these entries can follow a front: the entries can continue its account.
pub record CanFollow (front : FileFront) (entries : List Entry) : Type 0 where
  pub link : CanLink front.version entries
  pub within : StaysWithin front.account entries

-- a front with a link of these entries after it
abbrev pub followed : FileFront → List Entry → FileFront
followed front entries = with_link front (length (payload_bytes entries)) entries

-- a file up to the gate of a front, then an open gate, and these bytes
abbrev pub opened_with : List ℕ → FileFront → List ℕ → List ℕ
opened_with file front bytes = take front.gate file ++ (OPEN_GATE ∷ bytes)

-- The bytes begin with a whole link whose entries are all counted, and maybe more links follow.
pub record FollowsWhole (front : FileFront) (bytes : List ℕ) (longer : FileFront) : Type 0 where
  pub entries : List Entry
  pub more : List Entry
  pub can : CanFollow front entries
  pub rest : List ℕ
  pub begins : bytes ≡ link_bytes entries ++ rest
  pub account : longer.account ≡ account_after_all front.account (entries ++ more)
