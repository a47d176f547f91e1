-- Terms of the laws of lines: a line's words in their ranges, and a line as text.
use Rattle.std.specs.Prelude.{ℕ, ◌^◌, ◌<◌, ◌≤◌, IsTrue, List, [], ◌∷◌, length, codes, ⊤, false}
use Rattle.std.specs.Fmt.{decimal, digits}
use Rattle.std.specs.List.{AllByRecursion, join_with_byte}
use Rattle.dimm_topology.specs.Labels.{is_label}
use Rattle.dimm_topology.specs.declared.row.Row.{Row}
use Rattle.dimm_topology.specs.declared.row.Row.TheVariants.{Cpu, Module, Range, Place}
use Rattle.hex.specs.Hex.{encode_lower}
use Rattle.page_policy.specs.declared.buckets.Limit.{Limit as LimitOf}
use Rattle.ras_facts.specs.Entries.{IsValidEntry}
use Rattle.ras_facts.specs.declared.bank.BankReport.{BankReport}
use Rattle.ras_facts.specs.declared.entry.Entry.{Entry}
use Rattle.ras_facts.specs.declared.entry.Entry.TheVariants.{Fact, Limit, ModuleLimit, Retire}
use Rattle.ras_script.specs.declared.kinds.TheConstants.{LAST_CHANNEL}
use Rattle.ras_script.specs.declared.line.Line.{Line}
use Rattle.ras_script.specs.declared.line.Line.TheVariants as asks
use Rattle.ras_script.specs.declared.line.ErrorReport.{ErrorReport}
use Rattle.ras_script.specs.declared.line.ErrorReport.TheVariants.{Bank, Block, Boot}
use Rattle.ras_script.specs.declared.line.Table.{Table}
use Rattle.ras_script.specs.declared.line.Table.TheVariants.{Hest, Erst}
use Rattle.ras_script.specs.Bytes.{AreBytes}

-- The numbers of a bank's snapshot fit their fields.
abbrev pub IsBankInRange : BankReport → Type 0
IsBankInRange bank =
    AllByRecursion (λ n. n < 2 ^ 64) (
    bank.boot ∷ bank.seconds ∷ bank.tsc ∷ bank.cap ∷ bank.mcg ∷ bank.status ∷ bank.addr
    ∷ bank.misc ∷ [])
    × (bank.cpu < 2 ^ 16) × (bank.bank < 2 ^ 8)

abbrev pub IsRowInRange : Row → Type 0
IsRowInRange (Cpu cpu socket) = (cpu < 2 ^ 16) × (socket < 2 ^ 8)
IsRowInRange (Module label socket bank channel) =
    IsTrue (is_label label) × (socket < 2 ^ 8) × (bank < 2 ^ 8) × (channel ≤ LAST_CHANNEL)
IsRowInRange (Range label first last) = IsTrue (is_label label) × (first ≤ last) × (last < 2 ^ 64)
IsRowInRange (Place label node card number) =
    IsTrue (is_label label) × (node < 2 ^ 16) × (card < 2 ^ 16) × (number < 2 ^ 16)

abbrev pub IsTableInRange : Table → Type 0
IsTableInRange (Hest bytes) = AreBytes bytes
IsTableInRange (Erst bytes) = AreBytes bytes

abbrev pub IsReportInRange : ErrorReport → Type 0
IsReportInRange (Bank bank) = IsBankInRange bank
IsReportInRange (Block boot seconds source number bytes) =
    (boot < 2 ^ 64) × (seconds < 2 ^ 64) × (source < 2 ^ 16) × (number < 2 ^ 64) × AreBytes bytes
IsReportInRange (Boot boot seconds table region) =
    (boot < 2 ^ 64) × (seconds < 2 ^ 64) × AreBytes table × AreBytes region

-- An entry is in its ranges. No line asks for a fact as an entry, because only reports give facts.
abbrev pub IsEntryInRange : Entry → Type 0
IsEntryInRange (Fact fact) = ⊥
IsEntryInRange entry = IsValidEntry entry

-- The numbers of a line are in their ranges, its label is a label, and its bytes are below 256.
abbrev pub IsInRange : Line → Type 0
IsInRange asks.Nothing = ⊤
IsInRange (asks.Row row) = IsRowInRange row
IsInRange (asks.Table table) = IsTableInRange table
IsInRange (asks.Report report) = IsReportInRange report
IsInRange (asks.Entry entry) = IsEntryInRange entry
IsInRange (asks.Put id bytes) = (id < 2 ^ 64) × AreBytes bytes
IsInRange (asks.Panic id bank) = (id < 2 ^ 64) × IsBankInRange bank
IsInRange (asks.Poll seconds) = seconds < 2 ^ 64
IsInRange asks.Restart = ⊤

-- A report has at most this many bytes, in its block or in its region.
abbrev pub HasFewBytes : ℕ → Line → Type 0
HasFewBytes most (asks.Report (Block boot seconds source number bytes)) = length bytes ≤ most
HasFewBytes most (asks.Report (Boot boot seconds table region)) = length region ≤ most
HasFewBytes most line = ⊤

-- hexadecimal digits, in small letters and without leading zeros
abbrev pub hexadecimal : ℕ → List ℕ
hexadecimal n = digits 16 false n

-- the ten words of a bank's snapshot
abbrev pub bank_words : BankReport → List (List ℕ)
bank_words bank =
    decimal bank.boot ∷ decimal bank.seconds ∷ decimal bank.cpu ∷ decimal bank.bank
    ∷ decimal bank.tsc ∷ hexadecimal bank.cap ∷ hexadecimal bank.mcg ∷ hexadecimal bank.status
    ∷ hexadecimal bank.addr ∷ hexadecimal bank.misc ∷ []

abbrev pub row_words : Row → List (List ℕ)
row_words (Cpu cpu socket) = codes "cpu" ∷ decimal cpu ∷ decimal socket ∷ []
row_words (Module label socket bank channel) =
    codes "module" ∷ label ∷ decimal socket ∷ decimal bank ∷ decimal channel ∷ []
row_words (Range label first last) =
    codes "range" ∷ label ∷ hexadecimal first ∷ hexadecimal last ∷ []
row_words (Place label node card number) =
    codes "place" ∷ label ∷ decimal node ∷ decimal card ∷ decimal number ∷ []

abbrev pub table_words : Table → List (List ℕ)
table_words (Hest bytes) = codes "hest" ∷ encode_lower bytes ∷ []
table_words (Erst bytes) = codes "erst" ∷ encode_lower bytes ∷ []

abbrev pub report_words : ErrorReport → List (List ℕ)
report_words (Bank bank) = codes "bank" ∷ bank_words bank
report_words (Block boot seconds source number bytes) =
    codes "ghes" ∷ decimal boot ∷ decimal seconds ∷ decimal source ∷ decimal number
    ∷ encode_lower bytes ∷ []
report_words (Boot boot seconds table region) =
    codes "bert" ∷ decimal boot ∷ decimal seconds ∷ encode_lower table ∷ encode_lower region ∷ []

abbrev pub limit_words : LimitOf → List (List ℕ)
limit_words limit = decimal limit.capacity ∷ decimal limit.period ∷ []

abbrev pub entry_words : Entry → List (List ℕ)
entry_words (Fact fact) = []
entry_words (Limit limit) = codes "limit" ∷ limit_words limit
entry_words (ModuleLimit limit) = codes "module-limit" ∷ limit_words limit
entry_words (Retire boot) = codes "retire" ∷ decimal boot ∷ []

-- the words of a line, with no leading zeros and small hexadecimal letters
abbrev pub line_words : Line → List (List ℕ)
line_words asks.Nothing = []
line_words (asks.Row row) = row_words row
line_words (asks.Table table) = table_words table
line_words (asks.Report report) = report_words report
line_words (asks.Entry entry) = entry_words entry
line_words (asks.Put id bytes) = codes "put" ∷ hexadecimal id ∷ encode_lower bytes ∷ []
line_words (asks.Panic id bank) = codes "panic" ∷ hexadecimal id ∷ bank_words bank
line_words (asks.Poll seconds) = codes "poll" ∷ decimal seconds ∷ []
line_words asks.Restart = codes "restart" ∷ []

-- a line as text: its words, with single spaces between them
abbrev pub line_text : Line → List ℕ
line_text line = join_with_byte 32 (line_words line)
