-- What the account of a made-up script counts: each report except every tenth is new and is one corrected error;
-- every tenth repeats the report before it.
use Rattle.std.proofs.Common.{◌≡◌, ℕ, ◌+◌, ◌-◌, ◌/◌, ◌%◌, ◌^◌, ◌<◌, ◌≤◌, ◌==◌, suc, zero, cond, Bool, true, false, List, [], ◌∷◌, ◌++◌, length, map, Option, Some, refl, sym, ap, subst, ◌∙◌, arith, length-append}
use Rattle.std.specs.Prelude.{if◌then◌else◌, slice_index, slice_set}
use Rattle.std.specs.List.{AllByRecursion}
use Rattle.std.proofs.lemmas.Bool.Decides.{nat_tests}
use Rattle.std.proofs.lemmas.List.Elements.{recursion_from_All}
use Rattle.std.proofs.lemmas.List.Folds.{list_any-append}
use Rattle.std.proofs.lemmas.List.Sums.{sum_by-cons}
use Rattle.std.proofs.lemmas.Nat.{mod_below}
use Rattle.mca_status.specs.Address.{usable_page_of}
use Rattle.mca_status.specs.Classes.{class_of_rows}
use Rattle.mca_status.specs.Weight.{weight_of}
use Rattle.mca_status.specs.declared.classes.Class.{Class}
use Rattle.mca_status.specs.declared.classes.Class.TheVariants.{Ce as ce_of_bank}
use Rattle.mca_status.specs.declared.classes.ItemClass.TheVariants.{Ce}
use Rattle.dimm_topology.specs.Labels.{Bytes, same_label}
use Rattle.page_policy.specs.declared.buckets.Limit.{Limit}
use Rattle.ras_facts.specs.declared.bank.BankReport.{BankReport}
use Rattle.ras_facts.specs.declared.entry.Entry.{Entry}
use Rattle.ras_facts.specs.declared.items.Item.{Item}
use Rattle.ras_facts.specs.declared.name.Name.{Name}
use Rattle.ras_facts.specs.declared.name.Name.TheVariants as names
use Rattle.ras_facts.specs.Facts.{bank_item, bank_label, cap_in, misc_in, status_in}
use Rattle.ras_facts.specs.Names.{same_name}
use Rattle.ras_account.specs.Account.{State, account_of}
use Rattle.ras_account.specs.Accounts.{IsModuleRow}
use Rattle.ras_account.specs.Continued.{account_after, account_after_all, account_after_fresh, account_with_count, is_fresh_in, modules_after}
use Rattle.ras_account.specs.Fresh.{is_among}
use Rattle.ras_account.specs.History.{empty}
use Rattle.ras_account.specs.Modules.{Module}
use Rattle.ras_account.specs.Sightings.{Sighting}
use Rattle.ras_script.specs.declared.line.Line.TheVariants.{Report}
use Rattle.ras_script.specs.declared.line.ErrorReport.TheVariants.{Bank}
use Rattle.ras_events.specs.Making.{entries_in}
use Rattle.ras_events.specs.Described.{NumberedLine}
use Rattle.ras_run.specs.Sites.{Site, first_site}
use Rattle.ras_run.specs.Places.{entries_at, site_after, site_at}
use Rattle.ras_daemon.specs.Script.{reads_in}
use Rattle.ras_load.specs.LoadScript.{bank_line, bank_lines, bank_number, generated, load_bank, load_lines}
use Rattle.ras_load.specs.Summary.{class_total, weight_of_class}
use Rattle.ras_load.specs.declared.script.TheConstants.{MOST_LINES}
use Rattle.ras_load.proofs.FeedLemmas.{lines_whole}
use Rattle.ras_run.proofs.PlaceLemmas.{site-snoc}
use Rattle.ras_script.specs.Lines.{Lines}
use Rattle.ras_daemon.specs.Loading.{load_account}
use Rattle.ras_daemon.specs.RunStatus.{empty_start}
use Rattle.ras_daemon.proofs.LoadRoomLemmas.{entry_of_one, module_with}
use Rattle.ras_daemon.proofs.LoadTakenLemmas.{AreTaken, asked, banks_more, made_by, nothing_opened, numbered, numbered-snoc, reads_are}

-- ---- the weight of corrected errors

abbrev item_of : Bytes → Option ℕ → ℕ → Item
item_of label page weight = record { class = Ce; label = label; page = page; weight = weight }

first_set : (sums : List ℕ) (weight : ℕ) → length sums ≡ 10 → slice_index (slice_set sums 0 (slice_index sums 0 + weight)) 0 ≡ slice_index sums 0 + weight
first_set [] weight ten = absurd (omega (arith, ten))
first_set (x ∷ xs) weight ten = refl

abbrev seen_as : Bytes → Option ℕ → ℕ → ℕ → Limit → Limit → Sighting
seen_as label page weight seconds limit module_limit = record { item = item_of label page weight; seconds = seconds; limit = limit; module_limit = module_limit }

corrected_grows : (rows : List (Bytes × Module)) (label : Bytes) (page : Option ℕ) (weight seconds : ℕ) (limit module_limit : Limit) → AllByRecursion IsModuleRow rows
    → class_total Ce (modules_after rows (seen_as label page weight seconds limit module_limit)) ≡ class_total Ce rows + weight
corrected_grows [] label page weight seconds limit module_limit all = omega arith
corrected_grows (row ∷ rows) label page weight seconds limit module_limit all =
    by (seen_as label page weight seconds limit module_limit) (same_label label row.0) (first_set row.1.sums weight all.0.ten) (corrected_grows rows label page weight seconds limit module_limit all.1)
  where
    by : (s : Sighting) (same : Bool) → weight_of_class Ce (module_with row s) ≡ weight_of_class Ce row + weight → class_total Ce (modules_after rows s) ≡ class_total Ce rows + weight
        → class_total Ce (if same then module_with row s ∷ rows else row ∷ modules_after rows s) ≡ class_total Ce (row ∷ rows) + weight
    by s true own rest = omega (arith, sum_by-cons (weight_of_class Ce) (module_with row s) rows, sum_by-cons (weight_of_class Ce) row rows, own)
    by s false own rest = omega (arith, sum_by-cons (weight_of_class Ce) row (modules_after rows s), sum_by-cons (weight_of_class Ce) row rows, rest)

-- ---- the names

abbrev name_of : ℕ → Name
name_of i = names.Bank 1 0 7 i

same_own : (i : ℕ) → same_name (name_of i) (name_of i) ≡ true
same_own i = grind (arith, nat_tests)

same_other : (i j : ℕ) → i < j → same_name (name_of j) (name_of i) ≡ false
same_other i j below = grind (arith, nat_tests, below)

-- what was counted of the first n reports
record IsCounted (n : ℕ) (a : State) : Type 0 where
  pub floor : a.floor ≡ 0
  pub later : (j : ℕ) → n < j → is_among a.names (name_of j) ≡ false
  pub last : ¬ (n % 10 ≡ 0) → is_among a.names (name_of n) ≡ true
  pub names : length a.names + n / 10 ≡ n
  pub corrected : class_total Ce a.modules + n / 10 ≡ n

module _ (n : ℕ) (a : State) (seconds : ℕ) (label : Bytes) (page : Option ℕ) (is : IsCounted n a) where
  abbrev entry : ℕ → Entry
  entry i = entry_of_one (name_of i) seconds (item_of label page 1)

  abbrev after : ℕ → Bool → State
  after i fresh = if fresh then account_after_fresh (account_with_count a) (entry i) else a

  fresh_is : is_fresh_in a (entry (n + 1)) ≡ true
  fresh_is =
      let among : is_among a.names (name_of (n + 1)) ≡ false = is.later (n + 1) (omega arith) in
      rw (among, is.floor) refl

  stale_is : (n + 1) % 10 ≡ 0 → is_fresh_in a (entry n) ≡ false
  stale_is tenth =
      let among : is_among a.names (name_of n) ≡ true = is.last (λ e. omega (arith, e, tenth)) in
      rw among refl

  one_fresh : AllByRecursion IsModuleRow a.modules → ¬ ((n + 1) % 10 ≡ 0) → IsCounted (n + 1) (account_after a (entry (n + 1)))
  one_fresh rows other = subst (λ fresh. IsCounted (n + 1) (after (n + 1) fresh)) (sym fresh_is) (record {
    floor = is.floor;
    later = λ j below.
        let own : same_name (name_of j) (name_of (n + 1)) ≡ false = same_other (n + 1) j below in
        let earlier : is_among a.names (name_of j) ≡ false = is.later j (omega arith) in
        list_any-append (same_name (name_of j)) a.names (name_of (n + 1) ∷ []) ∙ rw (earlier, own) refl;
    last = λ _.
        let own : same_name (name_of (n + 1)) (name_of (n + 1)) ≡ true = same_own (n + 1) in
        let earlier : is_among a.names (name_of (n + 1)) ≡ false = is.later (n + 1) (omega arith) in
        list_any-append (same_name (name_of (n + 1))) a.names (name_of (n + 1) ∷ []) ∙ rw (earlier, own) refl;
    names = omega (arith, is.names, other, length-append a.names (name_of (n + 1) ∷ []));
    corrected = omega (arith, is.corrected, other, corrected_grows a.modules label page 1 seconds a.limit a.module_limit rows);
  })

  one_stale : (n + 1) % 10 ≡ 0 → IsCounted (n + 1) (account_after a (entry n))
  one_stale tenth = subst (λ fresh. IsCounted (n + 1) (after n fresh)) (sym (stale_is tenth)) (record {
    floor = is.floor;
    later = λ j below. is.later j (omega arith);
    last = λ isnt. absurd (isnt tenth);
    names = omega (arith, is.names, tenth);
    corrected = omega (arith, is.corrected, tenth);
  })

  one_more : (tenth : Bool) → AllByRecursion IsModuleRow a.modules → ((n + 1) % 10 == 0) ≡ tenth → IsCounted (n + 1) (account_after a (entry (cond tenth (n + 1 - 1) (n + 1))))
  one_more true rows is_tenth =
      let before : n + 1 - 1 ≡ n = omega arith in
      subst (λ i. IsCounted (n + 1) (account_after a (entry i))) (sym before) (one_stale (grind (arith, nat_tests, is_tenth)))
  one_more false rows is_tenth = one_fresh rows (λ e. grind (arith, nat_tests, is_tenth, e))

-- ---- what a report is

abbrev status_of : ℕ → ℕ
status_of channel = 0x8c00004000010090 + channel

corrected_is : (channel : ℕ) → channel < 4 → class_of_rows (record { 0 = 0x1000c14 }) (record { 0 = status_of channel }) ≡ Some ce_of_bank
corrected_is zero below = refl
corrected_is (suc zero) below = refl
corrected_is (suc (suc zero)) below = refl
corrected_is (suc (suc (suc zero))) below = refl
corrected_is (suc (suc (suc (suc channel)))) below = absurd (omega arith)

weight_is : (channel : ℕ) → channel < 4 → weight_of (record { 0 = 0x1000c14 }) (record { 0 = status_of channel }) ≡ 1
weight_is zero below = refl
weight_is (suc zero) below = refl
weight_is (suc (suc zero)) below = refl
weight_is (suc (suc (suc zero))) below = refl
weight_is (suc (suc (suc (suc channel)))) below = absurd (omega arith)

-- the channel of a number
channel_of : ℕ → ℕ
channel_of number = number / 2 ^ 33 / 1000 % 4

module _ (site : Site) (place i number : ℕ) where
  abbrev bank : BankReport
  bank = load_bank i number

  label : Bytes
  label = bank_label bank site.settings.topology

  page : Option ℕ
  page = usable_page_of (cap_in bank) (status_in bank) bank.addr (misc_in bank)

  -- the report makes one entry, which is one corrected error
  entries_are : entries_at (site, (place, asked (Report (Bank bank)))) ≡ entry_of_one (name_of i) (1000 + i) (item_of label page 1) ∷ []
  unfolding channel_of label page
  entries_are =
      let below : channel_of number < 4 = mod_below (number / 2 ^ 33 / 1000) 4 (omega arith) in
      ap (λ (class : Option Class). entries_in (made_by bank (bank_item bank site.settings.topology) class)) (corrected_is (channel_of number) below)
      ∙ ap (λ weight. entry_of_one (name_of i) (1000 + i) (item_of label page weight) ∷ []) (weight_is (channel_of number) below)

  account_is : (site_after site (place, asked (Report (Bank bank)))).account ≡ account_after site.account (entry_of_one (name_of i) (1000 + i) (item_of label page 1))
  account_is = ap (λ (entries : List Entry). account_after_all site.account entries) entries_are

nothing_counted : IsCounted 0 (account_of empty)
nothing_counted = record {
  floor = refl;
  later = λ j below. refl;
  last = λ isnt. absurd (isnt (omega arith));
  names = omega arith;
  corrected = omega arith;
}

abbrev bank_site : ℕ → Site
bank_site n = site_at empty_start (numbered (load_lines n))

banks_counted : (n : ℕ) → n ≤ MOST_LINES → IsCounted n (bank_site n).account
unfolding bank_lines
banks_counted zero few = nothing_counted
banks_counted (suc n) few =
    let i : ℕ = bank_number (n + 1) in
    let before : Site = bank_site n in
    let place : ℕ = 1 + length (map asked (load_lines n)) in
    let taken : AreTaken empty_start n (numbered (load_lines n)) = banks_more empty_start n nothing_opened (omega (arith, few)) in
    let rows : AllByRecursion IsModuleRow before.account.modules = recursion_from_All IsModuleRow before.account.modules taken.has.place.account.modules in
    let more : IsCounted (n + 1) (account_after before.account (entry_of_one (name_of i) (1000 + i) (item_of (label before place i (generated i)) (page before place i (generated i)) 1))) =
    one_more n before.account (1000 + i) (label before place i (generated i)) (page before place i (generated i)) (banks_counted n (omega (arith, few))) ((n + 1) % 10 == 0) rows refl in
    let after : site_at empty_start (numbered (load_lines n ++ bank_line (n + 1) ∷ [])) ≡ site_after before (place, asked (bank_line (n + 1))) =
    ap (site_at empty_start) (numbered-snoc (load_lines n) (bank_line (n + 1))) ∙ site-snoc (first_site empty_start) (numbered (load_lines n)) (place, asked (bank_line (n + 1))) in
    let count : n + 1 ≡ suc n = omega arith in
    subst (λ k. IsCounted k (site_at empty_start (numbered (load_lines n ++ bank_line (n + 1) ∷ []))).account) count
    (subst (IsCounted (n + 1)) (sym (ap (λ (site : Site). site.account) after ∙ account_is before place i (generated i))) more)

-- ---- the whole script

load_account_is : (n : ℕ) → n ≤ MOST_LINES → load_account n ≡ (bank_site n).account
load_account_is n few =
    ap (λ (lines : Lines). (site_at empty_start (reads_in lines.whole)).account) (lines_whole n few)
    ∙ ap (λ (reads : List NumberedLine). (site_at empty_start reads).account) (reads_are n few)

whole_counted : (n : ℕ) → n ≤ MOST_LINES → IsCounted n (load_account n)
whole_counted n few = subst (IsCounted n) (sym (load_account_is n few)) (banks_counted n few)

difference : (count n : ℕ) → count + n / 10 ≡ n → count ≡ n - n / 10
difference count n is = omega (arith, is)

pub names_counted : (n : ℕ) → n ≤ MOST_LINES → length (load_account n).names ≡ n - n / 10
names_counted n few = difference (length (load_account n).names) n (whole_counted n few).names

pub corrected_counted : (n : ℕ) → n ≤ MOST_LINES → class_total Ce (load_account n).modules ≡ n - n / 10
corrected_counted n few = difference (class_total Ce (load_account n).modules) n (whole_counted n few).corrected
