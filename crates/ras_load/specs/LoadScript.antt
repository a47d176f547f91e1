-- The script made up from a number n, as lines: one CPU and the four memory modules of its first controller, and then
-- n reports of a machine-check bank. Every tenth of these repeats the one before it. The others differ by the numbers
-- of a linear congruential generator.
use Rattle.std.specs.Prelude.{ℕ, ◌+◌, ◌*◌, ◌/◌, ◌%◌, ◌^◌, ◌==◌, ◌-◌, zero, suc, List, [], ◌∷◌, ◌++◌, codes, map, if◌then◌else◌}
use Rattle.dimm_topology.specs.declared.row.Row.TheVariants.{Cpu, Module}
use Rattle.ras_facts.specs.declared.bank.BankReport.{BankReport}
use Rattle.ras_script.specs.LineLaws.{line_text}
use Rattle.ras_script.specs.SplittingLaws.{script_of}
use Rattle.ras_script.specs.declared.line.Line.{Line}
use Rattle.ras_script.specs.declared.line.Line.TheVariants.{Row, Report}
use Rattle.ras_script.specs.declared.line.ErrorReport.TheVariants.{Bank}

-- the next number of the generator, of 64 bits
abbrev pub next_number : ℕ → ℕ
next_number x = (x * 6364136223846793005 + 1442695040888963407) % 2 ^ 64

-- the number of the generator at this index, which is 1 at index 0
unfoldable pub generated : ℕ → ℕ
generated zero = 1
generated (suc i) = next_number (generated i)

-- A corrected read error (90h) of the memory controller in bank 7, on one of its channels 0 to 3,
-- in one of 1,000 pages. Channel and page are chosen by the upper bits of a number.
abbrev pub load_bank : ℕ → ℕ → BankReport
load_bank i number = record {
  boot = 1;
  seconds = 1000 + i;
  cpu = 0;
  bank = 7;
  tsc = i;
  cap = 0x1000c14;
  mcg = 0;
  status = 0x8c00004000010090 + number / 2 ^ 33 / 1000 % 4;
  addr = (number / 2 ^ 33 % 1000 + 1) * 4096;
  misc = 0x86;
}

-- the number of the report that a line asks for: for every tenth line the one before it, for the others their own
abbrev pub bank_number : ℕ → ℕ
bank_number i = if i % 10 == 0 then i - 1 else i

abbrev pub bank_line : ℕ → Line
bank_line i = Report (Bank (load_bank (bank_number i) (generated (bank_number i))))

-- the lines of the first n numbers from 1, in order
unfoldable pub bank_lines : ℕ → List Line
bank_lines zero = []
bank_lines (suc n) = bank_lines n ++ bank_line (n + 1) ∷ []

-- the lines of the machine description
abbrev pub machine_lines : List Line
machine_lines =
    Row (Cpu 0 0) ∷ Row (Module (codes "M0") 0 7 0) ∷ Row (Module (codes "M1") 0 7 1)
    ∷ Row (Module (codes "M2") 0 7 2) ∷ Row (Module (codes "M3") 0 7 3) ∷ []

abbrev pub load_lines : ℕ → List Line
load_lines n = machine_lines ++ bank_lines n

-- the script: each line as text, with a line feed
abbrev pub load_script : ℕ → List ℕ
load_script n = script_of (map line_text (load_lines n))
