-- What a word of a line means, and what several words mean together.
use Rattle.std.specs.Prelude.{ℕ, ◌-◌, ◌^◌, ◌==◌, List, [], ◌∷◌, Result, Ok, Err, if◌then◌else◌}
use Rattle.std.specs.Option.{ok_or}
use Rattle.dimm_topology.specs.Labels.{is_label}
use Rattle.page_policy.specs.declared.buckets.Limit.{Limit}
use Rattle.page_policy.specs.declared.buckets.TheConstants.{MOST_CAPACITY, MOST_PERIOD}
use Rattle.ras_base.specs.Chaining.{◌>>=◌}
use Rattle.ras_facts.specs.declared.bank.BankReport.{BankReport}
use Rattle.ras_script.specs.declared.line.LineRefused.{LineRefused}
use Rattle.ras_script.specs.declared.line.LineRefused.TheVariants.{Words, Number, Hex, Label as NoLabel}
use Rattle.ras_script.specs.Bytes.{bytes_of}
use Rattle.ras_script.specs.Number.{decimal_of, hexadecimal_of}

-- a decimal number in its range
abbrev pub read_number : ℕ → List ℕ → Result ℕ LineRefused
read_number most word = ok_or (decimal_of most word) Number

-- a decimal number of 64, of 16 and of 8 bits
abbrev pub u64_of : List ℕ → Result ℕ LineRefused
u64_of word = read_number (2 ^ 64 - 1) word

abbrev pub u16_of : List ℕ → Result ℕ LineRefused
u16_of word = read_number 65535 word

abbrev pub u8_of : List ℕ → Result ℕ LineRefused
u8_of word = read_number 255 word

-- a decimal number from 1 on
abbrev pub positive_of : ℕ → List ℕ → Result ℕ LineRefused
positive_of most word = read_number most word >>= λ n. if n == 0 then Err Number else Ok n

-- a hexadecimal number
abbrev pub hex_u64_of : List ℕ → Result ℕ LineRefused
hex_u64_of word = ok_or (hexadecimal_of word) Number

-- bytes, as a word in hexadecimal writes them
abbrev pub hex_bytes_of : List ℕ → Result (List ℕ) LineRefused
hex_bytes_of word = ok_or (bytes_of word) Hex

-- a label, which is its own word
abbrev pub read_label : List ℕ → Result (List ℕ) LineRefused
read_label word = if is_label word then Ok word else Err NoLabel

-- a limit: how many corrected errors within how many seconds are too many, in decimal and from 1 on
abbrev pub read_limit : List (List ℕ) → Result Limit LineRefused
read_limit (capacity ∷ period ∷ []) = do
  capacity ← positive_of MOST_CAPACITY capacity
  period ← positive_of MOST_PERIOD period
  Ok (record { capacity = capacity; period = period })
read_limit words = Err Words

-- The snapshot of a machine-check bank: boot, seconds, cpu, bank and time-stamp counter in decimal,
-- then IA32_MCG_CAP, IA32_MCG_STATUS and the bank's IA32_MCi_STATUS, ADDR and MISC in hexadecimal.
abbrev pub read_report : List (List ℕ) → Result BankReport LineRefused
read_report (boot ∷ seconds ∷ cpu ∷ bank ∷ tsc ∷ cap ∷ mcg ∷ status ∷ addr ∷ misc ∷ []) = do
  boot ← u64_of boot
  seconds ← u64_of seconds
  cpu ← u16_of cpu
  bank ← u8_of bank
  tsc ← u64_of tsc
  cap ← hex_u64_of cap
  mcg ← hex_u64_of mcg
  status ← hex_u64_of status
  addr ← hex_u64_of addr
  misc ← hex_u64_of misc
  Ok (record {
    boot = boot;
    seconds = seconds;
    cpu = cpu;
    bank = bank;
    tsc = tsc;
    cap = cap;
    mcg = mcg;
    status = status;
    addr = addr;
    misc = misc;
  })
read_report words = Err Words
