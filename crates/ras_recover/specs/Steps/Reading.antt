-- What reading a journal file returns.
use Rattle.std.specs.Prelude.{◌≡◌, ℕ, Result, Ok, Err}
use Rattle.ras_account.specs.Account.{State}
use Rattle.ras_journal.specs.File.{FileFront}
use Rattle.ras_recover.specs.declared.place.Place.{Place}
use Rattle.ras_recover.specs.declared.place.ReadRefused.{ReadRefused}
use Rattle.ras_recover.specs.declared.place.ReadRefused.TheVariants.{Disk, Damaged, NoMemory}

-- A field can't be read, because the file is damaged at this offset.
abbrev pub IsDamage : {A : Type 0} → ReadRefused → Result A ℕ → Type 0
IsDamage Disk read = ⊥
IsDamage (Damaged place) read = read ≡ Err place
IsDamage NoMemory read = ⊥

-- The value in the file is returned, or the offset of the damage.
abbrev pub AnswersField : {A : Type 0} → Result A ReadRefused → Result A ℕ → Type 0
AnswersField (Ok x) read = read ≡ Ok x
AnswersField (Err why) read = IsDamage why read

-- Why more of a file can't be read without a disk call: damage or lack of memory.
abbrev pub IsUnread : {A : Type 0} → ReadRefused → Result A ℕ → Type 0
IsUnread Disk read = ⊥
IsUnread (Damaged place) read = read ≡ Err place
IsUnread NoMemory read = Unit {0}

-- This view of what the file contains is returned, or the offset of the damage, unless memory runs out. No disk call
-- is made.
abbrev pub AnswersFront : {T A : Type 0} → (T → A) → Result T ReadRefused → Result A ℕ → Type 0
AnswersFront view (Ok x) read = read ≡ Ok (view x)
AnswersFront view (Err why) read = IsUnread why read

-- the front of a file up to a place, with this account
abbrev pub front_at : Place → State → FileFront
front_at place account = record {
  version = place.version;
  generation = place.generation;
  gate = place.gate;
  links = place.links;
  account = account;
}
