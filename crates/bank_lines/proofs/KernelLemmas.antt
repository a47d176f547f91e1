-- The text that kernels print of an event is read.
use Rattle.std.proofs.Common.{◌≡◌, ℕ, zero, suc, ◌+◌, ◌-◌, ◌^◌, ◌<◌, ◌≤◌, ◌==◌, ◌&&◌, Bool, true, false, cond, nat_lt, nat_le, nat_eq, List, [], ◌∷◌, ◌++◌, codes, decimal, take, drop, length, refl, ap, ◌∙◌, arith, length-append, Option, Some, None, lit<}
use Rattle.std.specs.Prelude.{replicate}
use Rattle.std.proofs.Math.Seq.{take-append_seam}
use Rattle.std.proofs.lemmas.Bool.Decides.{nat_tests}
use Rattle.std.proofs.lemmas.List.{drop_at, length-replicate}
use Rattle.std.specs.Char.{digit_value, is_digit}
use Rattle.std.specs.List.{AllByRecursion, join_with_byte, list_all, position_or_len}
use Rattle.std.specs.Str.Parse.{digits_value}
use Rattle.ras_klog.specs.Reading.{read_then}
use Rattle.ras_script.proofs.LineAndWordLemmas.{split_between, split_lacking}
use Rattle.ras_script.proofs.WrittenNumberLemmas.{decimal_read, hexadecimal_read}
use Rattle.ras_script.specs.LineLaws.{hexadecimal}
use Rattle.ras_script.specs.Number.{decimal_of, hexadecimal_of}
use Rattle.ras_script.specs.SplittingLaws.{Lacks}
use Rattle.bank_lines.specs.TraceEvent.{bank_named, global_of, processor_vendor, registers_of}
use Rattle.bank_lines.specs.Kernel.{padded, register}
use Rattle.bank_lines.specs.Parts.{cut_at, value_after}
use Rattle.bank_lines.proofs.NumeralLemmas.{decimal_lacks, hexadecimal_lacks, lack_both}

-- ---- parts

-- fields that are joined by commas are split into these fields
pub fields_split : (fields : List (List ℕ)) → 0 < length fields → AllByRecursion (Lacks 44) fields → cut_at 44 (join_with_byte 44 fields) ≡ fields
fields_split [] some all = absurd (omega arith)
fields_split (field ∷ []) some all = split_lacking 44 field all.0
fields_split (field ∷ next ∷ fields) some all =
    split_between 44 field (join_with_byte 44 (next ∷ fields))
    ∙ ap (λ (parts : List (List ℕ)). parts ++ cut_at 44 (join_with_byte 44 (next ∷ fields))) (split_lacking 44 field all.0)
    ∙ ap (λ (parts : List (List ℕ)). field ∷ parts) (fields_split (next ∷ fields) (omega arith) all.1)

two_split : (byte : ℕ) (a b : List ℕ) → Lacks byte a → Lacks byte b → cut_at byte (a ++ byte ∷ b) ≡ a ∷ b ∷ []
two_split byte a b one other =
    split_between byte a b
    ∙ ap (λ (parts : List (List ℕ)). parts ++ cut_at byte b) (split_lacking byte a one)
    ∙ ap (λ (parts : List (List ℕ)). a ∷ parts) (split_lacking byte b other)

three_split : (byte : ℕ) (a b c : List ℕ) → Lacks byte a → Lacks byte b → Lacks byte c → cut_at byte (a ++ byte ∷ (b ++ byte ∷ c)) ≡ a ∷ b ∷ c ∷ []
three_split byte a b c one other last =
    split_between byte a (b ++ byte ∷ c)
    ∙ ap (λ (parts : List (List ℕ)). parts ++ cut_at byte (b ++ byte ∷ c)) (split_lacking byte a one)
    ∙ ap (λ (parts : List (List ℕ)). a ∷ parts) (two_split byte b c other last)

-- ---- registers, with zeros before them

zeros_value : (k : ℕ) (word : List ℕ) → digits_value 16 (replicate k 48 ++ word) ≡ digits_value 16 word
zeros_value zero word = refl
zeros_value (suc k) word = zeros_value k word

zeros_digits : (k : ℕ) (word : List ℕ) → list_all (λ c. is_digit c 16) (replicate k 48 ++ word) ≡ list_all (λ c. is_digit c 16) word
zeros_digits zero word = refl
zeros_digits (suc k) word = zeros_digits k word

zeros_lack : (byte k : ℕ) → ¬ (48 ≡ byte) → Lacks byte (replicate k 48)
zeros_lack byte zero other = tt
zeros_lack byte (suc k) other = (other, zeros_lack byte k other)

read_parts : (some short all within : Bool) (value n : ℕ) → cond ((some && (short && all)) && within) (Some value) None ≡ Some n
    → (some ≡ true) × (short ≡ true) × (all ≡ true) × (within ≡ true) × (value ≡ n)
read_parts true true true true value n is = (refl, refl, refl, refl, cc)
read_parts true true true false value n is = absurd cc
read_parts true true false within value n is = absurd cc
read_parts true false all within value n is = absurd cc
read_parts false short all within value n is = absurd cc

read_joined : (some short all within : Bool) (value n : ℕ) → some ≡ true → short ≡ true → all ≡ true → within ≡ true → value ≡ n
    → cond ((some && (short && all)) && within) (Some value) None ≡ Some n
read_joined some short all within value n s l a w is = rw (s, l, a, w) (ap Some is)

pub padded_read : (width n : ℕ) → width ≤ 16 → n < 2 ^ 64 → hexadecimal_of (padded width n) ≡ Some n
padded_read width n few small =
    let word : List ℕ = hexadecimal n in
    let zeros : ℕ = width - length word in
    let most : ℕ = 2 ^ 64 - 1 in
    let p = read_parts (nat_lt 0 (length word)) (nat_le (length word) 16) (list_all (λ c. is_digit c 16) word) (nat_le (digits_value 16 word) most) (digits_value 16 word) n (hexadecimal_read false n small) in
    let some : 0 < length word = grind (arith, nat_tests, p.0) in
    let short : length word ≤ 16 = grind (arith, nat_tests, p.1) in
    let size : length (padded width n) ≡ zeros + length word = omega (arith, length-append (replicate zeros 48) word, length-replicate {A = ℕ} zeros 48) in
    let at_least : 0 < length (padded width n) = omega (arith, size, some) in
    let at_most : length (padded width n) ≤ 16 = omega (arith, size, short, few) in
    let full : nat_lt 0 (length (padded width n)) ≡ true = grind (arith, nat_tests, at_least) in
    let fits : nat_le (length (padded width n)) 16 ≡ true = grind (arith, nat_tests, at_most) in
    read_joined (nat_lt 0 (length (padded width n))) (nat_le (length (padded width n)) 16) (list_all (λ c. is_digit c 16) (padded width n)) (nat_le (digits_value 16 (padded width n)) most) (digits_value 16 (padded width n)) n
    full fits (zeros_digits zeros word ∙ p.2) (ap (λ (v : ℕ). nat_le v most) (zeros_value zeros word) ∙ p.3) (zeros_value zeros word ∙ p.4)

pub register_read : (n : ℕ) → n < 2 ^ 64 → hexadecimal_of (register n) ≡ Some n
register_read n small = padded_read 16 n (omega arith) small

pub padded_lacks : (byte width n : ℕ) → 16 ≤ digit_value byte → ¬ (48 ≡ byte) → n < 2 ^ 64 → Lacks byte (padded width n)
padded_lacks byte width n high other small =
    lack_both byte (replicate (width - length (hexadecimal n)) 48) (hexadecimal n) (zeros_lack byte (width - length (hexadecimal n)) other) (hexadecimal_lacks byte n high small)

-- ---- the values of fields

pub global_read : (cap mcg : ℕ) → cap < 2 ^ 64 → mcg < 2 ^ 64 → global_of (cut_at 47 (hexadecimal cap ++ 47 ∷ hexadecimal mcg)) ≡ Some (record { cap = cap; mcg = mcg })
global_read cap mcg small few =
    ap global_of (two_split 47 (hexadecimal cap) (hexadecimal mcg) (hexadecimal_lacks 47 cap (omega arith) small) (hexadecimal_lacks 47 mcg (omega arith) few))
    ∙ ap (λ (o : Option ℕ). read_then o (λ c. read_then (hexadecimal_of (hexadecimal mcg)) (λ m. Some (record { cap = c; mcg = m })))) (hexadecimal_read false cap small)
    ∙ ap (λ (o : Option ℕ). read_then o (λ m. Some (record { cap = cap; mcg = m }))) (hexadecimal_read false mcg few)

pub registers_read : (addr misc synd : ℕ) → addr < 2 ^ 64 → misc < 2 ^ 64 → synd < 2 ^ 64
    → registers_of (cut_at 47 (register addr ++ 47 ∷ (register misc ++ 47 ∷ register synd))) ≡ Some (record { addr = addr; misc = misc })
registers_read addr misc synd small few less =
    let other : ¬ (48 ≡ 47) = λ (e : ◌≡◌ {A = ℕ} 48 47). omega (arith, e) in
    ap registers_of (three_split 47 (register addr) (register misc) (register synd) (padded_lacks 47 16 addr (omega arith) other small) (padded_lacks 47 16 misc (omega arith) other few) (padded_lacks 47 16 synd (omega arith) other less))
    ∙ ap (λ (o : Option ℕ). read_then o (λ a. read_then (hexadecimal_of (register misc)) (λ m. Some (record { addr = a; misc = m })))) (register_read addr small)
    ∙ ap (λ (o : Option ℕ). read_then o (λ m. Some (record { addr = addr; misc = m }))) (register_read misc few)

pub processor_read : (vendor cpuid : ℕ) → vendor < 2 ^ 64 → cpuid < 2 ^ 64 → processor_vendor (cut_at 58 (decimal vendor ++ 58 ∷ hexadecimal cpuid)) ≡ Some vendor
processor_read vendor cpuid small few =
    ap processor_vendor (two_split 58 (decimal vendor) (hexadecimal cpuid) (decimal_lacks 58 vendor (omega arith) small) (hexadecimal_lacks 58 cpuid (omega arith) few))
    ∙ decimal_read (2 ^ 64 - 1) vendor (omega arith) (lit< tt)

-- ---- the bank's field

first_colon : (word rest : List ℕ) → Lacks 58 word → position_or_len (λ b. b == 58) (word ++ 58 ∷ rest) ≡ length word
first_colon [] rest lacks = refl
first_colon (b ∷ word) rest lacks =
    let other : (b == 58) ≡ false = grind (arith, nat_tests, lacks.0) in
    let one : 1 + length word ≡ suc (length word) = omega arith in
    rw other (ap (λ (n : ℕ). 1 + n) (first_colon word rest lacks.1) ∙ one)

-- a text that goes on after `MC` without a `G` isn't the field `MCGc/s`
pub no_global : (word rest : List ℕ) → 0 < length word → Lacks 71 word → value_after (codes "MCGc/s: ") (77 ∷ 67 ∷ (word ++ rest)) ≡ None
no_global [] rest some lacks = absurd (omega arith)
no_global (d ∷ word) rest some lacks =
    let other : nat_eq d 71 ≡ false = grind (arith, nat_tests, lacks.0) in
    rw other refl

pub bank_is_named : (word value : List ℕ) (bank : ℕ) → Lacks 58 word → decimal_of 255 word ≡ Some bank → bank_named (77 ∷ 67 ∷ (word ++ 58 ∷ 32 ∷ value)) ≡ Some (bank, value)
bank_is_named word value bank lacks reads =
    let rest : List ℕ = 58 ∷ 32 ∷ value in
    let colon : position_or_len (λ b. b == 58) (word ++ rest) ≡ length word = first_colon word (32 ∷ value) lacks in
    let front : take (length word) (word ++ rest) ≡ word = take-append_seam word rest in
    let behind : drop (length word) (word ++ rest) ≡ rest = drop_at word rest (length word) refl in
    rw colon (rw (front, behind, reads) refl)
