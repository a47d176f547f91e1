-- The names of errors without a counter. A name is made of an error's key, which its own numbers give, and of how
-- many errors with this key the same printer printed before.
use Rattle.std.specs.Prelude.{◌≡◌, ℕ, ◌+◌, ◌*◌, ◌/◌, ◌%◌, ◌^◌, ◌==◌, ◌⊎◌, ⊤, List, [], ◌∷◌, filter, map, nat_lt, if◌then◌else◌}
use Rattle.ras_facts.specs.declared.bank.BankReport.{BankReport}
use Rattle.ras_facts.specs.declared.name.Name.{Name}
use Rattle.ras_facts.specs.declared.name.Name.TheVariants.{Bank}
use Rattle.ras_script.specs.LineLaws.{IsBankInRange}
use Rattle.bank_lines.specs.declared.naming.TheConstants.{CHECKS, MOST_ALIKE}

-- ---- the key of an error

-- the lowest 32 bits of a report's seconds
abbrev pub second_of : BankReport → ℕ
second_of report = report.seconds % 2 ^ 32

-- the check of a number followed by one more register
abbrev pub check_with : ℕ → ℕ → ℕ
check_with number register = (number * 2 ^ 64 + register) % CHECKS

-- the check of a report's registers: status, address and MISC as one number
abbrev pub register_check : BankReport → ℕ
register_check report = check_with (report.status * 2 ^ 64 + report.addr) report.misc

-- An error's key: its CPU, bank, second and check. Errors with one key are alike.
abbrev pub key_of : BankReport → ℕ
key_of report = ((report.cpu * 2 ^ 8 + report.bank) * 2 ^ 32 + second_of report) * 2 ^ 20 + register_check report

-- ---- the counter of an error

-- The second, the check and the number, in 32, 20 and 12 bits of one word. In hexadecimal each has its own digits.
abbrev pub polled_counter : ℕ → ℕ → ℕ → ℕ
polled_counter second check k = second * 2 ^ 32 + check * 2 ^ 12 + k

-- the number of an error after `k` errors with its key
abbrev pub capped : ℕ → ℕ
capped k = if nat_lt k MOST_ALIKE then k else MOST_ALIKE

-- the report, with the counter of an error after `k` errors with its key
abbrev pub numbered : ℕ → BankReport → BankReport
numbered k report = record report { tsc = polled_counter (second_of report) (register_check report) (capped k) }

-- the report, with the counter of its key's first error if it has none
abbrev pub named_first : BankReport → BankReport
named_first report = if report.tsc == 0 then numbered 0 report else report

-- the name in a boot of an error with this key, after this many errors with it
abbrev pub name_at : ℕ → ℕ × ℕ → Name
name_at boot name =
    Bank boot (name.0 / 2 ^ 60) (name.0 / 2 ^ 52 % 2 ^ 8) (name.0 % 2 ^ 52 * 2 ^ 12 + capped name.1)

-- ---- the names that a printer gives

-- how many of these keys are `key`
abbrev pub count_of : ℕ → List ℕ → ℕ
count_of key [] = 0
count_of key (k ∷ keys) = if k == key then 1 + count_of key keys else count_of key keys

-- the names of a printer's errors, in order, after errors with the keys `before`, of which the last comes first
abbrev pub names_after : List ℕ → List ℕ → List (ℕ × ℕ)
names_after before [] = []
names_after before (k ∷ keys) = (k, count_of k before) ∷ names_after (k ∷ before) keys

abbrev pub names_of : List ℕ → List (ℕ × ℕ)
names_of keys = names_after [] keys

-- how many different keys these are, not counting those in `before`
abbrev pub kinds_after : List ℕ → List ℕ → ℕ
kinds_after before [] = 0
kinds_after before (k ∷ keys) = (if count_of k before == 0 then 1 else 0) + kinds_after (k ∷ before) keys

abbrev pub kinds_of : List ℕ → ℕ
kinds_of keys = kinds_after [] keys

-- a report of this boot that has no counter, and whose numbers fit their types
abbrev pub IsPolledIn : ℕ → BankReport → Type 0
IsPolledIn boot report = (report.boot ≡ boot) × (report.tsc ≡ 0) × IsBankInRange report

-- the keys of the reports that have no counter, in order
abbrev pub keys_of : List BankReport → List ℕ
keys_of reports = map key_of (filter (λ (report : BankReport). report.tsc == 0) reports)

-- whether the names contain a key with a number
abbrev pub IsNamed : ℕ → ℕ → List (ℕ × ℕ) → Type 0
IsNamed key k [] = ⊥
IsNamed key k (name ∷ names) = ((name.0 ≡ key) × (name.1 ≡ k)) ⊎ IsNamed key k names

-- no name comes twice
abbrev pub AreDistinct : List (ℕ × ℕ) → Type 0
AreDistinct [] = ⊤
AreDistinct (name ∷ names) = (¬ (IsNamed name.0 name.1 names)) × AreDistinct names

-- ---- two printers

-- The third list merges the other two, each in its order, as a pipe merges the calls of two writers if it cuts none.
abbrev pub Mixes : List (ℕ × ℕ) → List (ℕ × ℕ) → List (ℕ × ℕ) → Type 0
Mixes one other [] = (one ≡ []) × (other ≡ [])
Mixes one other (name ∷ given) =
    ((rest : List (ℕ × ℕ)) × ((one ≡ name ∷ rest) × Mixes rest other given))
    ⊎ ((rest : List (ℕ × ℕ)) × ((other ≡ name ∷ rest) × Mixes one rest given))
