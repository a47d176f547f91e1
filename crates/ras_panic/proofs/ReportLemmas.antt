-- The report is read back from its section, and a report that was read is written again as its section.
use Rattle.std.proofs.Common.{◌≡◌, ◌∙◌, ℕ, ◌+◌, ◌==◌, ◌&&◌, Bool, true, false, List, [], ◌∷◌, ◌++◌, length, take, drop, replicate, get_or, refl, sym, ap, arith, eqb-true}
use Rattle.std.specs.List.{list_all}
use Rattle.std.proofs.lemmas.List.{take-append-drop, drop-drop, drop_more, length-drop}
use Rattle.ras_base.specs.LittleEndian.{AreBytes, u16_bytes, u64_bytes, number_at}
use Rattle.ras_base.specs.Steps.LittleEndianLemmas.{number_at-lt, number_at-u16_bytes, number_at-u64_bytes, u16_bytes-number_at, u64_bytes-number_at}
use Rattle.mca_status.specs.Registers.{valid}
use Rattle.ras_facts.specs.declared.bank.BankReport.{BankReport}
use Rattle.ras_facts.specs.Facts.{status_in}
use Rattle.ras_panic.specs.Runs.{with_run}
use Rattle.ras_panic.specs.Panics.{report_bytes}
use Rattle.ras_panic.specs.Reading.{report_in, is_report}
use Rattle.ras_panic.specs.Reports.{FitsFields}

-- The report in a report's section.
pub report_back : (bank : BankReport) → FitsFields bank → report_in (report_bytes bank) ≡ bank
unfolding number_at u16_bytes u64_bytes with_run report_bytes
report_back bank fits = λ k. record {
  boot = number_at-u64_bytes bank.boot [] fits.boot k;
  seconds = number_at-u64_bytes bank.seconds [] fits.seconds k;
  cpu = number_at-u16_bytes bank.cpu [] fits.cpu k;
  bank = bank.bank;
  tsc = number_at-u64_bytes bank.tsc [] fits.tsc k;
  cap = number_at-u64_bytes bank.cap [] fits.cap k;
  mcg = number_at-u64_bytes bank.mcg [] fits.mcg k;
  status = number_at-u64_bytes bank.status [] fits.status k;
  addr = number_at-u64_bytes bank.addr [] fits.addr k;
  misc = number_at-u64_bytes bank.misc [] fits.misc k;
}

-- A report's section passes the tests.
section_tests : (bank : BankReport) → is_report (report_bytes bank) ≡ valid (status_in (report_in (report_bytes bank)))
unfolding number_at u16_bytes u64_bytes with_run report_bytes
section_tests bank = refl

pub section_passes : (bank : BankReport) → FitsFields bank → valid (status_in bank) ≡ true → is_report (report_bytes bank) ≡ true
section_passes bank fits held =
    section_tests bank ∙ ap (λ (back : BankReport). valid (status_in back)) (report_back bank fits) ∙ held

-- The section's runs, one after the other.
section_runs : (bank : BankReport)
    → report_bytes bank
    ≡ u64_bytes bank.boot ++ (u64_bytes bank.seconds ++ (u64_bytes bank.tsc ++ (u64_bytes bank.cap ++ (u64_bytes bank.mcg
    ++ (u64_bytes bank.status ++ (u64_bytes bank.addr ++ (u64_bytes bank.misc ++ (u16_bytes bank.cpu
    ++ (bank.bank ∷ replicate 5 0)))))))))
unfolding u16_bytes u64_bytes with_run report_bytes
section_runs bank = refl

-- Bytes that are all 0 are a list of zeros.
all_zeros : (bytes : List ℕ) → list_all (λ byte. byte == 0) bytes ≡ true → bytes ≡ replicate (length bytes) 0
all_zeros [] zeros = refl
all_zeros (byte ∷ bytes) zeros = by (byte == 0) (list_all (λ byte. byte == 0) bytes) refl refl zeros (all_zeros bytes)
  where
    by : (here rest : Bool) → (byte == 0) ≡ here → list_all (λ byte. byte == 0) bytes ≡ rest → (here && rest) ≡ true
        → (list_all (λ byte. byte == 0) bytes ≡ true → bytes ≡ replicate (length bytes) 0)
        → byte ∷ bytes ≡ replicate (length (byte ∷ bytes)) 0
    by true true is-here is-rest both all = λ k. eqb-true byte 0 is-here k ∷ all is-rest k
    by true false is-here is-rest both all = cc
    by false rest is-here is-rest both all = cc

-- The bytes from an offset on are these n bytes and the bytes after them.
cut_there : (n place next : ℕ) (bytes : List ℕ) → place + n ≡ next → take n (drop place bytes) ++ drop next bytes ≡ drop place bytes
cut_there n place next bytes is =
    ap (λ (rest : List ℕ). take n (drop place bytes) ++ rest) (ap (λ i. drop i bytes) (sym is) ∙ sym (drop-drop n place bytes))
    ∙ take-append-drop n (drop place bytes)

-- The bank's number and the zeros after it.
end_back : (bytes : List ℕ) → length bytes ≡ 72 → list_all (λ byte. byte == 0) (drop 67 bytes) ≡ true
    → get_or bytes 66 0 ∷ replicate 5 0 ≡ drop 66 bytes
end_back bytes long zeros =
    let five : length (drop 67 bytes) ≡ 5 = omega (arith, length-drop 67 bytes) in
    let same : drop 67 bytes ≡ replicate 5 0 = all_zeros (drop 67 bytes) zeros ∙ ap (λ n. replicate n 0) five in
    ap (λ (rest : List ℕ). get_or bytes 66 0 ∷ rest) (sym same) ∙ sym (drop_more bytes 66 0 (omega arith))

-- The section of the report in bytes is these bytes.
pub section_back : (bytes : List ℕ) → AreBytes bytes → length bytes ≡ 72 → list_all (λ byte. byte == 0) (drop 67 bytes) ≡ true
    → report_bytes (report_in bytes) ≡ bytes
section_back bytes fits long zeros =
    let whole : take 8 (drop 0 bytes) ++ drop 8 bytes ≡ drop 0 bytes = cut_there 8 0 8 bytes refl in
    section_runs (report_in bytes)
    ∙ front (u64_bytes-number_at 0 bytes fits (omega arith))
    (front (u64_bytes-number_at 8 bytes fits (omega arith))
    (front (u64_bytes-number_at 16 bytes fits (omega arith))
    (front (u64_bytes-number_at 24 bytes fits (omega arith))
    (front (u64_bytes-number_at 32 bytes fits (omega arith))
    (front (u64_bytes-number_at 40 bytes fits (omega arith))
    (front (u64_bytes-number_at 48 bytes fits (omega arith))
    (front (u64_bytes-number_at 56 bytes fits (omega arith))
    (front (u16_bytes-number_at 64 bytes fits (omega arith)) (end_back bytes long zeros) (cut_there 2 64 66 bytes refl))
    (cut_there 8 56 64 bytes refl))
    (cut_there 8 48 56 bytes refl))
    (cut_there 8 40 48 bytes refl))
    (cut_there 8 32 40 bytes refl))
    (cut_there 8 24 32 bytes refl))
    (cut_there 8 16 24 bytes refl))
    (cut_there 8 8 16 bytes refl))
    whole
  where
    front : {one cut rest rest' all : List ℕ} → one ≡ cut → rest ≡ rest' → cut ++ rest' ≡ all → one ++ rest ≡ all
    front same more is = (λ k. same k ++ more k) ∙ is

-- The report's numbers fit their fields.
pub report_fits : (bytes : List ℕ) → AreBytes bytes → FitsFields (report_in bytes)
report_fits bytes fits = record {
  boot = number_at-lt 0 8 bytes fits;
  seconds = number_at-lt 8 8 bytes fits;
  cpu = number_at-lt 64 2 bytes fits;
  bank = fits 66;
  tsc = number_at-lt 16 8 bytes fits;
  cap = number_at-lt 24 8 bytes fits;
  mcg = number_at-lt 32 8 bytes fits;
  status = number_at-lt 40 8 bytes fits;
  addr = number_at-lt 48 8 bytes fits;
  misc = number_at-lt 56 8 bytes fits;
}
