-- Which entries bytes spell.
use Rattle.std.specs.Prelude.{◌≡◌, ℕ, List, All}
use Rattle.ras_facts.specs.declared.entry.Entry.{Entry}
use Rattle.ras_facts.specs.declared.entry.Entry.TheVariants as entry
use Rattle.ras_facts.specs.Entries.{IsValidEntry}
use Rattle.entry_format.specs.declared.version.Version.{Version}
use Rattle.entry_format.specs.declared.version.Version.TheVariants.{One, Two}
use Rattle.entry_format.specs.Spelling.{entries_bytes}

-- A file of version 1 can have every entry except a limit of modules, a file of version 2 every entry.
abbrev pub CanHold : Version → Entry → Type 0
CanHold One (entry.Fact fact) = Unit {0}
CanHold One (entry.Limit limit) = Unit {0}
CanHold One (entry.Retire boot) = Unit {0}
CanHold One (entry.ModuleLimit limit) = ⊥
CanHold Two entry = Unit {0}

-- A valid entry that a file of this version can have.
pub record IsEntryOf (version : Version) (entry : Entry) : Type 0 where
  pub valid : IsValidEntry entry
  pub held : CanHold version entry

-- The bytes are the spelling of these entries, which a file of this version can have.
pub record AreEntriesOf (version : Version) (entries : List Entry) (bytes : List ℕ) : Type 0 where
  pub each : All (IsEntryOf version) entries
  pub spelled : bytes ≡ entries_bytes entries
