-- What the words of a line give is in its range.
use Rattle.std.proofs.Common.{◌≡◌, ℕ, ◌-◌, ◌^◌, ◌≤◌, ◌==◌, ◌&&◌, Bool, true, false, cond, nat_le, List, [], ◌∷◌, refl, arith, Option, Result, Ok, Err, None, Some, IfOk}
use Rattle.std.proofs.lemmas.Bool.Decides.{nat_tests}
use Rattle.std.specs.Option.{ok_or}
use Rattle.std.specs.Prelude.{IfSome, IsTrue}
use Rattle.std.specs.Str.Parse.{digits_value}
use Rattle.dimm_topology.specs.Labels.{is_label}
use Rattle.page_policy.specs.Buckets.{IsLimit}
use Rattle.ras_base.specs.Chaining.{◌>>=◌}
use Rattle.ras_script.specs.declared.line.LineRefused.{LineRefused}
use Rattle.ras_script.specs.Bytes.{AreBytes, bytes_of}
use Rattle.ras_script.specs.Fields.{hex_bytes_of, hex_u64_of, read_label, read_limit, read_number, positive_of, read_report, u16_of, u64_of, u8_of}
use Rattle.ras_script.specs.LineLaws.{IsBankInRange}
use Rattle.ras_script.specs.Number.{is_numeral}
use Rattle.ras_script.proofs.ByteLemmas.{bytes_read}

-- One reading, and then another.
pub then_within : {A B : Type 0} (P : A → Type 0) (Q : B → Type 0) (read : Result A LineRefused) (next : A → Result B LineRefused) → IfOk read P → ((x : A) → P x → IfOk (next x) Q) → IfOk (read >>= next) Q
then_within P Q (Ok x) next h step = step x h
then_within P Q (Err e) next h step = tt

number_within : (most value : ℕ) (numeral small : Bool) → nat_le value most ≡ small → IfOk (ok_or (cond (numeral && small) (Some value) None) LineRefused.Number) (λ n. n ≤ most)
number_within most value true true h = grind (arith, nat_tests, h)
number_within most value true false h = tt
number_within most value false small h = tt

pub number_in : (most : ℕ) (word : List ℕ) → IfOk (read_number most word) (λ n. n ≤ most)
number_in most word =
    number_within most (digits_value 10 word) (is_numeral 10 20 word) (nat_le (digits_value 10 word) most) refl

pub hexadecimal_in : (word : List ℕ) → IfOk (hex_u64_of word) (λ n. n ≤ 2 ^ 64 - 1)
hexadecimal_in word =
    number_within (2 ^ 64 - 1) (digits_value 16 word) (is_numeral 16 16 word) (nat_le (digits_value 16 word) (2 ^ 64 - 1)) refl

some_within : (P : List ℕ → Type 0) (read : Option (List ℕ)) → IfSome read P → IfOk (ok_or read LineRefused.Hex) P
some_within P None h = tt
some_within P (Some bytes) h = h

pub bytes_in : (word : List ℕ) → IfOk (hex_bytes_of word) AreBytes
bytes_in word = some_within AreBytes (bytes_of word) (bytes_read word)

pub label_in : (word : List ℕ) → IfOk (read_label word) (λ label. IsTrue (is_label label))
label_in word = by (is_label word) refl
  where
    by : (b : Bool) → is_label word ≡ b → IfOk (read_label word) (λ label. IsTrue (is_label label))
    by true is = rw is is
    by false is = rw is tt

positive_in : (most : ℕ) (word : List ℕ) → IfOk (positive_of most word) (λ n. (1 ≤ n) × (n ≤ most))
positive_in most word =
    then_within (λ n. n ≤ most) (λ n. (1 ≤ n) × (n ≤ most)) (read_number most word) _ (number_in most word) (λ n small. by n small (n == 0) refl)
  where
    by : (n : ℕ) → n ≤ most → (b : Bool) → (n == 0) ≡ b → IfOk (cond b (Err LineRefused.Number) (Ok n)) (λ n. (1 ≤ n) × (n ≤ most))
    by n small true zero = tt
    by n small false more = (grind (arith, nat_tests, more), small)

pub limit_in : (words : List (List ℕ)) → IfOk (read_limit words) IsLimit
limit_in (capacity ∷ period ∷ []) =
    then_within (λ n. (1 ≤ n) × (n ≤ 1000000)) IsLimit (positive_of 1000000 capacity) _ (positive_in 1000000 capacity) (λ capacity capacity_is.
    then_within (λ n. (1 ≤ n) × (n ≤ 10000000)) IsLimit (positive_of 10000000 period) _ (positive_in 10000000 period) (λ period period_is.
    record { capacity_from = capacity_is.0; capacity_to = capacity_is.1; period_from = period_is.0; period_to = period_is.1 }))
limit_in words = tt

-- the words of a bank
pub report_in : (words : List (List ℕ)) → IfOk (read_report words) IsBankInRange
report_in (boot ∷ seconds ∷ cpu ∷ bank ∷ tsc ∷ cap ∷ mcg ∷ status ∷ addr ∷ misc ∷ []) =
    then_within (λ n. n ≤ 2 ^ 64 - 1) IsBankInRange (u64_of boot) _ (number_in (2 ^ 64 - 1) boot) (λ boot boot_is.
    then_within (λ n. n ≤ 2 ^ 64 - 1) IsBankInRange (u64_of seconds) _ (number_in (2 ^ 64 - 1) seconds) (λ seconds seconds_are.
    then_within (λ n. n ≤ 65535) IsBankInRange (u16_of cpu) _ (number_in 65535 cpu) (λ cpu cpu_is.
    then_within (λ n. n ≤ 255) IsBankInRange (u8_of bank) _ (number_in 255 bank) (λ bank bank_is.
    then_within (λ n. n ≤ 2 ^ 64 - 1) IsBankInRange (u64_of tsc) _ (number_in (2 ^ 64 - 1) tsc) (λ tsc tsc_is.
    then_within (λ n. n ≤ 2 ^ 64 - 1) IsBankInRange (hex_u64_of cap) _ (hexadecimal_in cap) (λ cap cap_is.
    then_within (λ n. n ≤ 2 ^ 64 - 1) IsBankInRange (hex_u64_of mcg) _ (hexadecimal_in mcg) (λ mcg mcg_is.
    then_within (λ n. n ≤ 2 ^ 64 - 1) IsBankInRange (hex_u64_of status) _ (hexadecimal_in status) (λ status status_is.
    then_within (λ n. n ≤ 2 ^ 64 - 1) IsBankInRange (hex_u64_of addr) _ (hexadecimal_in addr) (λ addr addr_is.
    then_within (λ n. n ≤ 2 ^ 64 - 1) IsBankInRange (hex_u64_of misc) _ (hexadecimal_in misc) (λ misc misc_is.
    ((omega arith, (omega arith, (omega arith, (omega arith, (omega arith, (omega arith, (omega arith, (omega arith, tt)))))))), omega arith, omega arith)))))))))))
report_in words = tt
