-- What each kind of line asks for. Numbers are decimal unless they are called hexadecimal.
use Rattle.std.specs.Prelude.{ℕ, ◌==◌, List, [], ◌∷◌, length, Result, Ok, Err, if◌then◌else◌, nat_le}
use Rattle.dimm_topology.specs.declared.row.Row.TheVariants.{Cpu, Module, Range, Place}
use Rattle.ras_base.specs.Chaining.{◌>>=◌}
use Rattle.ras_facts.specs.declared.entry.Entry.TheVariants.{Limit, ModuleLimit, Retire}
use Rattle.ras_script.specs.declared.fields.TheConstants.{BANK_WORDS}
use Rattle.ras_script.specs.declared.kinds.TheConstants.{LAST_CHANNEL}
use Rattle.ras_script.specs.declared.line.Line.{Line}
use Rattle.ras_script.specs.declared.line.Line.TheVariants as asks
use Rattle.ras_script.specs.declared.line.LineRefused.{LineRefused}
use Rattle.ras_script.specs.declared.line.LineRefused.TheVariants.{Words, Number}
use Rattle.ras_script.specs.declared.line.ErrorReport.TheVariants.{Bank, Block, Boot}
use Rattle.ras_script.specs.declared.line.Table.TheVariants.{Hest, Erst}
use Rattle.ras_script.specs.Fields.{hex_bytes_of, hex_u64_of, read_label, read_limit, read_number, read_report, u16_of, u64_of, u8_of}

-- what the words after a kind's name ask for
abbrev pub Reading : Type 0
Reading = List (List ℕ) → Result Line LineRefused

-- the snapshot of a machine-check bank
abbrev pub bank_asks : Reading
bank_asks words = do
  report ← read_report words
  Ok (asks.Report (Bank report))

-- a CPU and its socket
abbrev pub cpu_asks : Reading
cpu_asks (cpu ∷ socket ∷ []) = do
  cpu ← u16_of cpu
  socket ← u8_of socket
  Ok (asks.Row (Cpu cpu socket))
cpu_asks words = Err Words

-- a memory module: its label, and the socket, the bank and the memory channel that report it
abbrev pub module_asks : Reading
module_asks (label ∷ socket ∷ bank ∷ channel ∷ []) = do
  label ← read_label label
  socket ← u8_of socket
  bank ← u8_of bank
  channel ← read_number LAST_CHANNEL channel
  Ok (asks.Row (Module label socket bank channel))
module_asks words = Err Words

-- A range of physical addresses: the label of its module, and its first and last address in
-- hexadecimal. The first is not above the last.
abbrev pub range_asks : Reading
range_asks (label ∷ first ∷ last ∷ []) = do
  label ← read_label label
  first ← hex_u64_of first
  last ← hex_u64_of last
  (if nat_le first last then Ok (asks.Row (Range label first last)) else Err Number)
range_asks words = Err Words

-- where firmware finds a module: its label, and its node, its card and its module number
abbrev pub place_asks : Reading
place_asks (label ∷ node ∷ card ∷ number ∷ []) = do
  label ← read_label label
  node ← u16_of node
  card ← u16_of card
  number ← u16_of number
  Ok (asks.Row (Place label node card number))
place_asks words = Err Words

-- a limit for pages, and a limit for modules
abbrev pub limit_asks : Reading
limit_asks words = do
  limit ← read_limit words
  Ok (asks.Entry (Limit limit))

abbrev pub module_limit_asks : Reading
module_limit_asks words = do
  limit ← read_limit words
  Ok (asks.Entry (ModuleLimit limit))

-- the bytes of a hardware error source table, and of an error record serialization table
abbrev pub hest_asks : Reading
hest_asks (bytes ∷ []) = do
  bytes ← hex_bytes_of bytes
  Ok (asks.Table (Hest bytes))
hest_asks words = Err Words

abbrev pub erst_asks : Reading
erst_asks (bytes ∷ []) = do
  bytes ← hex_bytes_of bytes
  Ok (asks.Table (Erst bytes))
erst_asks words = Err Words

-- a boot error region: boot, seconds, the bytes of the boot error record table, and the bytes of the region
abbrev pub bert_asks : Reading
bert_asks (boot ∷ seconds ∷ table ∷ region ∷ []) = do
  boot ← u64_of boot
  seconds ← u64_of seconds
  table ← hex_bytes_of table
  region ← hex_bytes_of region
  Ok (asks.Report (Boot boot seconds table region))
bert_asks words = Err Words

-- a generic error status block: boot, seconds, the identifier of its source, its number, its bytes
abbrev pub ghes_asks : Reading
ghes_asks (boot ∷ seconds ∷ source ∷ number ∷ bytes ∷ []) = do
  boot ← u64_of boot
  seconds ← u64_of seconds
  source ← u16_of source
  number ← u64_of number
  bytes ← hex_bytes_of bytes
  Ok (asks.Report (Block boot seconds source number bytes))
ghes_asks words = Err Words

-- a record for the store: its identifier in hexadecimal, and its bytes
abbrev pub put_asks : Reading
put_asks (id ∷ bytes ∷ []) = do
  id ← hex_u64_of id
  bytes ← hex_bytes_of bytes
  Ok (asks.Put id bytes)
put_asks words = Err Words

-- the seconds at which the records of the store are counted
abbrev pub poll_asks : Reading
poll_asks (seconds ∷ []) = do
  seconds ← u64_of seconds
  Ok (asks.Poll seconds)
poll_asks words = Err Words

-- the boot below which boots are retired
abbrev pub retire_asks : Reading
retire_asks (boot ∷ []) = do
  boot ← u64_of boot
  Ok (asks.Entry (Retire boot))
retire_asks words = Err Words

-- an identifier for the store, in hexadecimal, and the snapshot of a machine-check bank
abbrev pub panic_asks : Reading
panic_asks [] = Err Words
panic_asks (id ∷ words) = if length words == BANK_WORDS then (do
  id ← hex_u64_of id
  bank ← read_report words
  Ok (asks.Panic id bank)) else Err Words

-- A line `restart`, which has no other word, asks for the account to be recovered from its files again.
abbrev pub restart_asks : Reading
restart_asks [] = Ok asks.Restart
restart_asks words = Err Words
