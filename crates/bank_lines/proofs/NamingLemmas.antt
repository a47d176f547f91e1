-- Which names a printer gives.
use Rattle.std.proofs.Common.{◌≡◌, ℕ, ◌+◌, ◌*◌, ◌/◌, ◌%◌, ◌==◌, ◌≤◌, ◌<◌, Bool, true, false, nat_lt, List, [], ◌∷◌, ◌++◌, map, refl, ap, subst, ◌∙◌, arith, if◌then◌else◌, ◌⊎◌, inl, inr, sym}
use Rattle.std.specs.Prelude.{filter}
use Rattle.std.proofs.lemmas.Bool.Decides.{nat_tests}
use Rattle.std.proofs.lemmas.List.{map-append}
use Rattle.std.proofs.lemmas.List.Elements.{filter-append}
use Rattle.ras_facts.specs.declared.bank.BankReport.{BankReport}
use Rattle.ras_facts.specs.declared.name.Name.{Name}
use Rattle.ras_facts.specs.declared.name.Name.TheVariants.{Bank}
use Rattle.bank_lines.specs.Naming.{AreDistinct, IsNamed, Mixes, capped, register_check, check_with, count_of, key_of, keys_of, name_at, names_after, names_of, second_of}

-- a key counts itself, and no other key
counts_itself : (key : ℕ) (keys : List ℕ) → count_of key (key ∷ keys) ≡ 1 + count_of key keys
counts_itself key keys =
    let same : (key == key) ≡ true = grind (arith, nat_tests) in
    rw same refl

counts_no_other : (k key : ℕ) (keys : List ℕ) → ¬ (k ≡ key) → count_of key (k ∷ keys) ≡ count_of key keys
counts_no_other k key keys differ =
    let other : (k == key) ≡ false = grind (arith, nat_tests, differ) in
    rw other refl

counts_more : (k key : ℕ) (keys : List ℕ) → count_of key keys ≤ count_of key (k ∷ keys)
counts_more k key keys = by (k == key)
  where
    by : (is : Bool) → count_of key keys ≤ (if is then 1 + count_of key keys else count_of key keys)
    by true = omega arith
    by false = omega arith

-- A later name's number is at least how often its key came before.
pub at_least : (before keys : List ℕ) (key n : ℕ) → IsNamed key n (names_after before keys) → count_of key before ≤ n
at_least before [] key n named = elim named [ ]
at_least before (k ∷ keys) key n (inl is) =
    let here : count_of k before ≡ count_of key before = ap (λ (x : ℕ). count_of x before) is.0 in
    omega (arith, here, is.1)
at_least before (k ∷ keys) key n (inr later) =
    omega (arith, at_least (k ∷ before) keys key n later, counts_more k key before)

pub are_distinct : (before keys : List ℕ) → AreDistinct (names_after before keys)
are_distinct before [] = tt
are_distinct before (k ∷ keys) =
    ((λ named. omega (arith, at_least (k ∷ before) keys k (count_of k before) named, counts_itself k before)), are_distinct (k ∷ before) keys)

-- how often a key comes in all doesn't change when the next key is taken
counts_on : (k key : ℕ) (before keys : List ℕ)
    → count_of key (k ∷ before) + count_of key keys ≡ count_of key before + count_of key (k ∷ keys)
counts_on k key before keys = by (k == key)
  where
    by : (is : Bool) → (if is then 1 + count_of key before else count_of key before) + count_of key keys
        ≡ count_of key before + (if is then 1 + count_of key keys else count_of key keys)
    by true = omega arith
    by false = omega arith

-- A key that comes more often than a number gets a name with this number.
pub is_given : (before keys : List ℕ) (key n : ℕ) → count_of key before ≤ n
    → n < count_of key before + count_of key keys → IsNamed key n (names_after before keys)
is_given before [] key n low high = let none : ⊥ = omega (arith, low, high) in elim none [ ]
is_given before (k ∷ keys) key n low high =
    by (λ on. inr (is_given (k ∷ before) keys key n on (omega (arith, high, counts_on k key before keys)))) (k == key) refl (n == count_of key before) refl
  where
    by : (count_of key (k ∷ before) ≤ n → IsNamed key n (names_after before (k ∷ keys))) → (is : Bool) → (k == key) ≡ is → (now : Bool) → (n == count_of key before) ≡ now → IsNamed key n (names_after before (k ∷ keys))
    by later true same true here =
        let it : k ≡ key = grind (arith, nat_tests, same) in
        let first : n ≡ count_of key before = grind (arith, nat_tests, here) in
        inl (it, ap (λ (x : ℕ). count_of x before) it ∙ sym first)
    by later true same false here =
        let it : k ≡ key = grind (arith, nat_tests, same) in
        let other : ¬ (n ≡ count_of key before) = grind (arith, nat_tests, here) in
        let counted : count_of k (k ∷ before) ≡ 1 + count_of k before = counts_itself k before in
        let moved : count_of key (k ∷ before) ≡ 1 + count_of key before = subst (λ (x : ℕ). count_of x (k ∷ before) ≡ 1 + count_of x before) it counted in
        later (omega (arith, low, other, moved))
    by later false not_it now here =
        let other : ¬ (k ≡ key) = grind (arith, nat_tests, not_it) in
        later (omega (arith, low, counts_no_other k key before other))

pub is_few : (before keys : List ℕ) (key n : ℕ) → IsNamed key n (names_after before keys)
    → n < count_of key before + count_of key keys
is_few before [] key n named = elim named [ ]
is_few before (k ∷ keys) key n (inl is) =
    let here : count_of k before ≡ count_of key before = ap (λ (x : ℕ). count_of x before) is.0 in
    let more : count_of key (k ∷ keys) ≡ 1 + count_of key keys = subst (λ (x : ℕ). count_of x (k ∷ keys) ≡ 1 + count_of x keys) is.0 (counts_itself k keys) in
    omega (arith, here, more, is.1)
is_few before (k ∷ keys) key n (inr later) =
    omega (arith, is_few (k ∷ before) keys key n later, counts_on k key before keys)

-- how often a key comes in two lists together
pub counts_both : (key : ℕ) (before after : List ℕ) → count_of key (before ++ after) ≡ count_of key before + count_of key after
counts_both key [] after = omega arith
counts_both key (k ∷ before) after = by (k == key) (counts_both key before after)
  where
    by : (is : Bool) → count_of key (before ++ after) ≡ count_of key before + count_of key after
        → (if is then 1 + count_of key (before ++ after) else count_of key (before ++ after))
        ≡ (if is then 1 + count_of key before else count_of key before) + count_of key after
    by true on = omega (arith, on)
    by false on = on

-- a name in a merged list is in one of the two lists
pub of_either : (one other given : List (ℕ × ℕ)) (key n : ℕ) → Mixes one other given → IsNamed key n given
    → IsNamed key n one ⊎ IsNamed key n other
of_either one other [] key n mixed named = elim named [ ]
of_either one other (name ∷ given) key n (inl from) (inl is) =
    inl (subst (λ (l : List (ℕ × ℕ)). IsNamed key n l) (sym from.1.0) (inl is))
of_either one other (name ∷ given) key n (inl from) (inr later) =
    by (of_either from.0 other given key n from.1.1 later)
  where
    by : IsNamed key n from.0 ⊎ IsNamed key n other → IsNamed key n one ⊎ IsNamed key n other
    by (inl there) = inl (subst (λ (l : List (ℕ × ℕ)). IsNamed key n l) (sym from.1.0) (inr there))
    by (inr there) = inr there
of_either one other (name ∷ given) key n (inr from) (inl is) =
    inr (subst (λ (l : List (ℕ × ℕ)). IsNamed key n l) (sym from.1.0) (inl is))
of_either one other (name ∷ given) key n (inr from) (inr later) =
    by (of_either one from.0 given key n from.1.1 later)
  where
    by : IsNamed key n one ⊎ IsNamed key n from.0 → IsNamed key n one ⊎ IsNamed key n other
    by (inl there) = inl there
    by (inr there) = inr (subst (λ (l : List (ℕ × ℕ)). IsNamed key n l) (sym from.1.0) (inr there))

pub from_one : (one other given : List (ℕ × ℕ)) (key n : ℕ) → Mixes one other given → IsNamed key n one → IsNamed key n given
from_one one other [] key n mixed named = subst (λ (l : List (ℕ × ℕ)). IsNamed key n l) mixed.0 named
from_one one other (name ∷ given) key n (inl from) named =
    by (subst (λ (l : List (ℕ × ℕ)). IsNamed key n l) from.1.0 named) (from_one from.0 other given key n from.1.1)
  where
    by : IsNamed key n (name ∷ from.0) → (IsNamed key n from.0 → IsNamed key n given) → IsNamed key n (name ∷ given)
    by (inl is) on = inl is
    by (inr there) on = inr (on there)
from_one one other (name ∷ given) key n (inr from) named = inr (from_one one from.0 given key n from.1.1 named)

pub from_other : (one other given : List (ℕ × ℕ)) (key n : ℕ) → Mixes one other given → IsNamed key n other → IsNamed key n given
from_other one other [] key n mixed named = subst (λ (l : List (ℕ × ℕ)). IsNamed key n l) mixed.1 named
from_other one other (name ∷ given) key n (inr from) named =
    by (subst (λ (l : List (ℕ × ℕ)). IsNamed key n l) from.1.0 named) (from_other one from.0 given key n from.1.1)
  where
    by : IsNamed key n (name ∷ from.0) → (IsNamed key n from.0 → IsNamed key n given) → IsNamed key n (name ∷ given)
    by (inl is) on = inl is
    by (inr there) on = inr (on there)
from_other one other (name ∷ given) key n (inl from) named = inr (from_other from.0 other given key n from.1.1 named)

pub mixed_all : (log trace : List ℕ) (given : List (ℕ × ℕ)) (key k : ℕ) → Mixes (names_of log) (names_of trace) given
    → (k < count_of key log) ⊎ (k < count_of key trace) → IsNamed key k given
mixed_all log trace given key k mixed (inl less) =
    from_one (names_of log) (names_of trace) given key k mixed (is_given [] log key k (omega arith) (omega (arith, less)))
mixed_all log trace given key k mixed (inr less) =
    from_other (names_of log) (names_of trace) given key k mixed (is_given [] trace key k (omega arith) (omega (arith, less)))

pub mixed_no_more : (log trace : List ℕ) (given : List (ℕ × ℕ)) (key k : ℕ) → Mixes (names_of log) (names_of trace) given
    → IsNamed key k given → (k < count_of key log) ⊎ (k < count_of key trace)
mixed_no_more log trace given key k mixed named = by (of_either (names_of log) (names_of trace) given key k mixed named)
  where
    by : IsNamed key k (names_of log) ⊎ IsNamed key k (names_of trace) → (k < count_of key log) ⊎ (k < count_of key trace)
    by (inl there) = inl (omega (arith, is_few [] log key k there))
    by (inr there) = inr (omega (arith, is_few [] trace key k there))

-- ---- reports

pub keys_both : (before after : List BankReport) → keys_of (before ++ after) ≡ keys_of before ++ keys_of after
keys_both before after =
    ap (map key_of) (filter-append (λ (report : BankReport). report.tsc == 0) before after)
    ∙ map-append key_of (filter (λ (report : BankReport). report.tsc == 0) before) (filter (λ (report : BankReport). report.tsc == 0) after)

-- the check can be made one register at a time
rest_goes : (n m : ℕ) → (n % 1048573 * 18446744073709551616 + m) % 1048573 ≡ (n * 18446744073709551616 + m) % 1048573
rest_goes n m = omega arith

nothing_before : (n : ℕ) → (0 * 18446744073709551616 + n) % 1048573 ≡ n % 1048573
nothing_before n = omega arith

pub check_by_words : (status addr misc first second third : ℕ)
    → first ≡ check_with 0 status → second ≡ check_with first addr → third ≡ check_with second misc
    → third ≡ check_with (status * 18446744073709551616 + addr) misc
check_by_words status addr misc first second third one two three =
    let first_is : first ≡ status % 1048573 = one ∙ nothing_before status in
    let second_is : second ≡ (status * 18446744073709551616 + addr) % 1048573 =
    two ∙ ap (λ (n : ℕ). (n * 18446744073709551616 + addr) % 1048573) first_is ∙ rest_goes status addr in
    three
    ∙ ap (λ (n : ℕ). (n * 18446744073709551616 + misc) % 1048573) second_is
    ∙ rest_goes (status * 18446744073709551616 + addr) misc

-- ---- the numbers of a name

pub capped_small : (k : ℕ) → capped k < 4096
capped_small k = by (nat_lt k 4095) refl
  where
    by : (less : Bool) → nat_lt k 4095 ≡ less → (if less then k else 4095) < 4096
    by true is = let small : k < 4095 = grind (arith, nat_tests, is) in omega (arith, small)
    by false is = omega arith

pub capped_is : (k : ℕ) → k < 4096 → capped k ≡ k
capped_is k small = by (nat_lt k 4095) refl
  where
    by : (less : Bool) → nat_lt k 4095 ≡ less → (if less then k else 4095) ≡ k
    by true is = refl
    by false is =
        let most : ¬ (k < 4095) = grind (arith, nat_tests, is) in
        omega (arith, small, most)

abbrev name_cpu : Name → ℕ
name_cpu (Bank boot cpu bank tsc) = cpu
name_cpu name = 0

abbrev name_bank : Name → ℕ
name_bank (Bank boot cpu bank tsc) = bank
name_bank name = 0

abbrev name_counter : Name → ℕ
name_counter (Bank boot cpu bank tsc) = tsc
name_counter name = 0

same_parts : (key other k n : ℕ) → k < 4096 → n < 4096
    → key / 1152921504606846976 ≡ other / 1152921504606846976
    → key / 4503599627370496 % 256 ≡ other / 4503599627370496 % 256
    → key % 4503599627370496 * 4096 + k ≡ other % 4503599627370496 * 4096 + n
    → (key ≡ other) × (k ≡ n)
same_parts key other k n small less cpus banks counters =
    (omega (arith, small, less, cpus, banks, counters), omega (arith, small, less, counters))

pub same_names : (boot key k other n : ℕ) → k < 4096 → n < 4096 → name_at boot (key, k) ≡ name_at boot (other, n) → (key ≡ other) × (k ≡ n)
same_names boot key k other n small less same =
    let one : capped k ≡ k = capped_is k small in
    let two : capped n ≡ n = capped_is n less in
    same_parts key other k n small less (ap name_cpu same) (ap name_bank same)
    (ap (λ (c : ℕ). key % 4503599627370496 * 4096 + c) (sym one) ∙ ap name_counter same ∙ ap (λ (c : ℕ). other % 4503599627370496 * 4096 + c) two)

-- two equal keys have equal parts
key_parts : (cpu bank second check other_cpu other_bank other_second other_check : ℕ)
    → bank < 256 → other_bank < 256 → second < 4294967296 → other_second < 4294967296 → check < 1048573 → other_check < 1048573
    → ((cpu * 256 + bank) * 4294967296 + second) * 1048576 + check ≡ ((other_cpu * 256 + other_bank) * 4294967296 + other_second) * 1048576 + other_check
    → (cpu ≡ other_cpu) × (bank ≡ other_bank)
key_parts cpu bank second check other_cpu other_bank other_second other_check b ob s os c oc same =
    (omega (arith, b, ob, s, os, c, oc, same), omega (arith, b, ob, s, os, c, oc, same))

pub second_small : (report : BankReport) → second_of report < 4294967296
second_small report = omega arith

pub check_small : (report : BankReport) → register_check report < 1048573
check_small report = omega arith

pub same_keys : (one other : BankReport) → one.bank < 256 → other.bank < 256 → key_of one ≡ key_of other → (one.cpu ≡ other.cpu) × (one.bank ≡ other.bank)
same_keys one other b ob same =
    key_parts one.cpu one.bank (second_of one) (register_check one) other.cpu other.bank (second_of other) (register_check other) b ob
    (second_small one) (second_small other) (check_small one) (check_small other) same
