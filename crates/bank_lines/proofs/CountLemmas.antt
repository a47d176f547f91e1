-- How errors without a counter are counted and named.
use Rattle.std.proofs.Common.{◌≡◌, ℕ, zero, suc, ◌+◌, ◌*◌, ◌/◌, ◌%◌, ◌==◌, ◌≤◌, ◌<◌, Bool, true, false, cond, nat_eq, nat_lt, List, [], ◌∷◌, ◌++◌, length, map, refl, ap, subst, ◌∙◌, arith, if◌then◌else◌, sym, Option, None, Some, unwrap_or}
use Rattle.std.specs.Prelude.{filter}
use Rattle.std.specs.List.{AllByRecursion}
use Rattle.std.specs.Map.{lookup}
use Rattle.std.specs.Option.{option_map_or}
use Rattle.std.proofs.lemmas.Bool.Decides.{nat_tests}
use Rattle.indexmap.specs.IndexMap.{insert_entry}
use Rattle.ras_facts.specs.Facts.{bank_name}
use Rattle.ras_facts.specs.declared.bank.BankReport.{BankReport}
use Rattle.ras_facts.specs.declared.name.Name.{Name}
use Rattle.ras_facts.specs.declared.name.Name.TheVariants.{Bank}
use Rattle.ras_script.specs.LineLaws.{IsBankInRange}
use Rattle.bank_lines.specs.Counts.{KeyCounts, counted, counted_with, counts_after, named_after, named_found, named_report, number_after, number_by, number_in, whole_by}
use Rattle.bank_lines.specs.Finding.{IsInTypes, report_in}
use Rattle.bank_lines.specs.Naming.{IsPolledIn, capped, register_check, count_of, key_of, keys_of, kinds_after, name_at, names_after, numbered, polled_counter, second_of}
use Rattle.bank_lines.specs.declared.found.Finding.{Finding}
use Rattle.bank_lines.specs.declared.found.Finding.TheVariants.{Nothing, Whole, Torn, Full, Partial, Foreign, Firmware, Unread}
use Rattle.bank_lines.proofs.NamingLemmas.{capped_is, capped_small, check_small, second_small}

-- ---- ranges

counter_small : (second check k : ℕ) → second < 4294967296 → check < 1048573 → k < 4096 → second * 4294967296 + check * 4096 + k < 18446744073709551616
counter_small second check k s c small = omega (arith, s, c, small)

pub numbered_in : (k : ℕ) (report : BankReport) → IsBankInRange report → IsBankInRange (numbered k report)
numbered_in k report h =
    let n = h.0 in
    ((n.0, (n.1.0, (counter_small (second_of report) (register_check report) (capped k) (second_small report) (check_small report) (capped_small k), n.1.1.1))), h.1, h.2)

report_named_in : (counts : KeyCounts) (report : BankReport) → IsBankInRange report → IsBankInRange (named_report counts report)
report_named_in counts report h = by (report.tsc == 0)
  where
    by : (none : Bool) → IsBankInRange (if none then numbered (unwrap_or (number_in counts (key_of report)) 0) report else report)
    by true = numbered_in (unwrap_or (number_in counts (key_of report)) 0) report h
    by false = h

-- a finding fits its types, also after it is named
pub named_in : (counts : KeyCounts) (found : Finding) → IsInTypes found → IsInTypes (named_found counts found)
named_in counts (Whole report) h = by (report.tsc == 0) (number_in counts (key_of report))
  where
    by : (none : Bool) (number : Option ℕ) → IsInTypes (if none then whole_by report number else Whole report)
    by true None = numbered_in 0 report h
    by true (Some n) = numbered_in n report h
    by false number = h
named_in counts (Torn report) h = report_named_in counts report h
named_in counts Nothing h = h
named_in counts (Full report) h = h
named_in counts (Partial cpu bank) h = h
named_in counts (Foreign vendor cpu bank) h = h
named_in counts (Firmware cpu) h = h
named_in counts Unread h = h

-- ---- the reports of what is found

-- No finding is `Full` before it is named.
abbrev pub is_full : Finding → Bool
is_full (Full report) = true
is_full found = false

-- the reports of one more line, and of the lines after it
pub names_on : (counts : KeyCounts) (found : Finding) (more : List BankReport) → is_full found ≡ false
    → report_in (named_found counts found) ++ named_after (counts_after counts found) more ≡ named_after counts (report_in found ++ more)
names_on counts (Whole report) more none = by (report.tsc == 0) (number_in counts (key_of report))
  where
    by : (none : Bool) (number : Option ℕ)
        → report_in (if none then whole_by report number else Whole report) ++ named_after (counted_with counts report) more
        ≡ (if none then numbered (unwrap_or number 0) report else report) ∷ named_after (counted_with counts report) more
    by true None = refl
    by true (Some n) = refl
    by false number = refl
names_on counts (Torn report) more none = refl
names_on counts (Full report) more none = absurd cc
names_on counts Nothing more none = refl
names_on counts (Partial cpu bank) more none = refl
names_on counts (Foreign vendor cpu bank) more none = refl
names_on counts (Firmware cpu) more none = refl
names_on counts Unread more none = refl

-- ---- entries

-- the number of a key, after one key was inserted
lookup_insert : (entries : KeyCounts) (key k v : ℕ)
    → lookup (nat_eq k) (insert_entry nat_eq entries key v) ≡ (if k == key then Some v else lookup (nat_eq k) entries)
lookup_insert [] key k v = by (nat_eq k key)
  where
    by : (same : Bool) → cond same (Some v) None ≡ (if same then Some v else None)
    by true = refl
    by false = refl
lookup_insert ((q, n) ∷ entries) key k v = by (nat_eq key q) refl (nat_eq k key) refl (nat_eq k q) refl (lookup_insert entries key k v)
  where
    by : (first : Bool) → nat_eq key q ≡ first → (here : Bool) → nat_eq k key ≡ here → (there : Bool) → nat_eq k q ≡ there
        → lookup (nat_eq k) (insert_entry nat_eq entries key v) ≡ (if nat_eq k key then Some v else lookup (nat_eq k) entries)
        → lookup (nat_eq k) (if nat_eq key q then (q, v) ∷ entries else (q, n) ∷ insert_entry nat_eq entries key v)
        ≡ (if nat_eq k key then Some v else cond (nat_eq k q) (Some n) (lookup (nat_eq k) entries))
    by true f true h true t on = rw (f, h, t) refl
    by true f true h false t on =
        let none : ⊥ = grind (arith, nat_tests, f, h, t) in elim none [ ]
    by true f false h true t on =
        let none : ⊥ = grind (arith, nat_tests, f, h, t) in elim none [ ]
    by true f false h false t on = rw (f, h, t) refl
    by false f true h true t on =
        let none : ⊥ = grind (arith, nat_tests, f, h, t) in elim none [ ]
    by false f true h false t on = rw (f, t) on
    by false f false h true t on = rw (f, h, t) refl
    by false f false h false t on = rw (f, t) on

-- how many keys there are after one was inserted
length_insert : (entries : KeyCounts) (key v : ℕ)
    → length (insert_entry nat_eq entries key v) ≡ length entries + option_map_or (λ (n : ℕ). 0) (lookup (nat_eq key) entries) 1
length_insert [] key v = refl
length_insert ((q, n) ∷ entries) key v = by (nat_eq key q) (length_insert entries key v)
  where
    by : (first : Bool)
        → length (insert_entry nat_eq entries key v) ≡ length entries + option_map_or (λ (n : ℕ). 0) (lookup (nat_eq key) entries) 1
        → length (if first then (q, v) ∷ entries else (q, n) ∷ insert_entry nat_eq entries key v)
        ≡ suc (length entries) + option_map_or (λ (n : ℕ). 0) (cond first (Some n) (lookup (nat_eq key) entries)) 1
    by true on = omega arith
    by false on = omega (arith, on)

-- ---- the entries of these keys

-- the number counted for a key that came this often
abbrev by_count : ℕ → Option ℕ
by_count zero = None
by_count (suc n) = Some (capped (suc n))

-- the counts say how often each of these keys came
abbrev Counting : KeyCounts → List ℕ → Type 0
Counting counts before = (key : ℕ) → lookup (nat_eq key) counts ≡ by_count (count_of key before)

next_is : (n : ℕ) → number_after (capped n) ≡ capped (suc n)
next_is n = by (nat_lt n 4095) refl (nat_lt (suc n) 4095) refl
  where
    by : (less : Bool) → nat_lt n 4095 ≡ less → (more : Bool) → nat_lt (suc n) 4095 ≡ more
        → (if nat_lt (if nat_lt n 4095 then n else 4095) 4095 then (if nat_lt n 4095 then n else 4095) + 1 else (if nat_lt n 4095 then n else 4095))
        ≡ (if nat_lt (suc n) 4095 then suc n else 4095)
    by true l true m = rw (l, l, m) omega arith
    by true l false m =
        let small : n < 4095 = grind (arith, nat_tests, l) in
        let most : ¬ (suc n < 4095) = grind (arith, nat_tests, m) in
        rw (l, l, m) omega (arith, small, most)
    by false l true m =
        let small : ¬ (n < 4095) = grind (arith, nat_tests, l) in
        let most : suc n < 4095 = grind (arith, nat_tests, m) in
        absurd omega (arith, small, most)
    by false l false m = rw (l, m) refl

-- the number of a key's next error
number_is : (counts : KeyCounts) (before : List ℕ) (key : ℕ) → Counting counts before
    → (count_of key before ≡ 0 → length counts < 200000) → number_in counts key ≡ Some (capped (count_of key before))
number_is counts before key counting room = ap (number_by counts) (counting key) ∙ by (count_of key before) room
  where
    by : (n : ℕ) → (n ≡ 0 → length counts < 200000) → number_by counts (by_count n) ≡ Some (capped n)
    by zero room =
        let less : nat_lt (length counts) 200000 ≡ true = grind (arith, nat_tests, room refl) in
        ap (λ (l : Bool). if l then Some 0 else None) less
    by (suc n) room = refl

counted_is : (counts : KeyCounts) (before : List ℕ) (key : ℕ) → Counting counts before
    → (count_of key before ≡ 0 → length counts < 200000)
    → counted counts key ≡ insert_entry nat_eq counts key (capped (suc (count_of key before)))
counted_is counts before key counting room =
    ap (λ (number : Option ℕ). option_map_or (λ number. insert_entry nat_eq counts key (number_after number)) number counts) (number_is counts before key counting room)
    ∙ ap (insert_entry nat_eq counts key) (next_is (count_of key before))

counting_on : (counts : KeyCounts) (before : List ℕ) (key : ℕ) → Counting counts before
    → (count_of key before ≡ 0 → length counts < 200000) → Counting (counted counts key) (key ∷ before)
counting_on counts before key counting room q =
    ap (λ (entries : KeyCounts). lookup (nat_eq q) entries) (counted_is counts before key counting room)
    ∙ lookup_insert counts key q (capped (suc (count_of key before)))
    ∙ by (q == key) refl (key == q) refl
  where
    by : (here : Bool) → (q == key) ≡ here → (there : Bool) → (key == q) ≡ there
        → (if here then Some (capped (suc (count_of key before))) else lookup (nat_eq q) counts)
        ≡ by_count (if there then 1 + count_of q before else count_of q before)
    by true h true t =
        let same : q ≡ key = grind (arith, nat_tests, h) in
        let more : suc (count_of q before) ≡ 1 + count_of q before = omega arith in
        ap (λ (k : ℕ). by_count (suc (count_of k before))) (sym same) ∙ ap by_count more
    by true h false t =
        let none : ⊥ = grind (arith, nat_tests, h, t) in elim none [ ]
    by false h true t =
        let none : ⊥ = grind (arith, nat_tests, h, t) in elim none [ ]
    by false h false t = counting q

length_on : (counts : KeyCounts) (before : List ℕ) (key : ℕ) → Counting counts before
    → (count_of key before ≡ 0 → length counts < 200000)
    → length (counted counts key) ≡ length counts + (if count_of key before == 0 then 1 else 0)
length_on counts before key counting room =
    ap length (counted_is counts before key counting room)
    ∙ length_insert counts key (capped (suc (count_of key before)))
    ∙ ap (λ (o : Option ℕ). length counts + option_map_or (λ (n : ℕ). 0) o 1) (counting key)
    ∙ by (count_of key before)
  where
    by : (n : ℕ) → length counts + option_map_or (λ (n : ℕ). 0) (by_count n) 1 ≡ length counts + (if n == 0 then 1 else 0)
    by zero = refl
    by (suc n) =
        let some : (suc n == 0) ≡ false = grind (arith, nat_tests) in
        ap (λ (none : Bool). length counts + (if none then 1 else 0)) (sym some)

-- ---- names

same_bank : (boot cpu bank tsc boot' cpu' bank' tsc' : ℕ) → boot ≡ boot' → cpu ≡ cpu' → bank ≡ bank' → tsc ≡ tsc' → Bank boot cpu bank tsc ≡ Bank boot' cpu' bank' tsc'
same_bank boot cpu bank tsc boot' cpu' bank' tsc' one two three four = cc

cpu_of : (cpu bank second check : ℕ) → bank < 256 → second < 4294967296 → check < 1048573
    → cpu ≡ (((cpu * 256 + bank) * 4294967296 + second) * 1048576 + check) / 1152921504606846976
cpu_of cpu bank second check b s c = omega (arith, b, s, c)

bank_of : (cpu bank second check : ℕ) → bank < 256 → second < 4294967296 → check < 1048573
    → bank ≡ (((cpu * 256 + bank) * 4294967296 + second) * 1048576 + check) / 4503599627370496 % 256
bank_of cpu bank second check b s c = omega (arith, b, s, c)

counter_of : (cpu bank second check k n : ℕ) → bank < 256 → second < 4294967296 → check < 1048573 → k ≡ n
    → second * 4294967296 + check * 4096 + k
    ≡ (((cpu * 256 + bank) * 4294967296 + second) * 1048576 + check) % 4503599627370496 * 4096 + n
counter_of cpu bank second check k n b s c same = omega (arith, b, s, c, same)

name_is : (boot n : ℕ) (report : BankReport) → IsPolledIn boot report → bank_name (numbered (capped n) report) ≡ name_at boot (key_of report, n)
name_is boot n report h =
    let b : report.bank < 256 = h.2.2 in
    let s : second_of report < 4294967296 = second_small report in
    let c : register_check report < 1048573 = check_small report in
    same_bank report.boot report.cpu report.bank (polled_counter (second_of report) (register_check report) (capped (capped n))) boot (key_of report / 1152921504606846976) (key_of report / 4503599627370496 % 256) (key_of report % 4503599627370496 * 4096 + capped n)
    h.0 (cpu_of report.cpu report.bank (second_of report) (register_check report) b s c) (bank_of report.cpu report.bank (second_of report) (register_check report) b s c)
    (counter_of report.cpu report.bank (second_of report) (register_check report) (capped (capped n)) (capped n) b s c (capped_is (capped n) (capped_small n)))

-- A new key counts as one more of the different keys.
has_room : (counts : KeyCounts) (before keys : List ℕ) (key : ℕ) → length counts + kinds_after before (key ∷ keys) ≤ 200000
    → count_of key before ≡ 0 → length counts < 200000
has_room counts before keys key few new =
    let is : (count_of key before == 0) ≡ true = grind (arith, nat_tests, new) in
    let one : length counts + (1 + kinds_after (key ∷ before) keys) ≤ 200000 =
    subst (λ (first : Bool). length counts + ((if first then 1 else 0) + kinds_after (key ∷ before) keys) ≤ 200000) is few in
    omega (arith, one)

pub names_are : (boot : ℕ) (counts : KeyCounts) (before : List ℕ) (reports : List BankReport) → AllByRecursion (IsPolledIn boot) reports
    → Counting counts before → length counts + kinds_after before (keys_of reports) ≤ 200000
    → map bank_name (named_after counts reports) ≡ map (name_at boot) (names_after before (keys_of reports))
names_are boot counts before [] all counting few = refl
names_are boot counts before (report ∷ reports) all counting few =
    let key : ℕ = key_of report in
    let keys : List ℕ = keys_of reports in
    let is : (report.tsc == 0) ≡ true = ap (λ (n : ℕ). n == 0) all.0.1 in
    let keys_is : keys_of (report ∷ reports) ≡ key ∷ keys =
    ap (λ (polled : Bool). map key_of (if polled then report ∷ filter (λ (r : BankReport). r.tsc == 0) reports else filter (λ (r : BankReport). r.tsc == 0) reports)) is in
    let less : length counts + kinds_after before (key ∷ keys) ≤ 200000 = subst (λ (ks : List ℕ). length counts + kinds_after before ks ≤ 200000) keys_is few in
    let room : count_of key before ≡ 0 → length counts < 200000 = has_room counts before keys key less in
    let longer = length_on counts before key counting room in
    let rest : length (counted counts key) + kinds_after (key ∷ before) keys ≤ 200000 = omega (arith, longer, less) in
    ap (λ (polled : Bool). map bank_name ((if polled then numbered (unwrap_or (number_in counts key) 0) report else report) ∷ named_after (if polled then counted counts key else counts) reports)) is
    ∙ ap (λ (number : Option ℕ). bank_name (numbered (unwrap_or number 0) report) ∷ map bank_name (named_after (counted counts key) reports)) (number_is counts before key counting room)
    ∙ ap (λ (name : Name). name ∷ map bank_name (named_after (counted counts key) reports)) (name_is boot (count_of key before) report all.0)
    ∙ ap (λ (names : List Name). name_at boot (key, count_of key before) ∷ names) (names_are boot (counted counts key) (key ∷ before) reports all.1 (counting_on counts before key counting room) rest)
    ∙ ap (λ (ks : List ℕ). map (name_at boot) (names_after before ks)) (sym keys_is)

-- the counts before the first report are empty
none_counted : Counting [] []
none_counted key = refl

pub all_names : (boot : ℕ) (reports : List BankReport) → AllByRecursion (IsPolledIn boot) reports → kinds_after [] (keys_of reports) ≤ 200000
    → map bank_name (named_after [] reports) ≡ map (name_at boot) (names_after [] (keys_of reports))
all_names boot reports all few = names_are boot [] [] reports all none_counted (omega (arith, few))
