-- A line written as text is read back.
use Rattle.std.proofs.Common.{◌≡◌, ℕ, ◌-◌, ◌^◌, ◌<◌, ◌≤◌, ◌==◌, ◌&&◌, not, nat_le, Bool, true, false, List, [], ◌∷◌, length, refl, ap, subst, ◌∙◌, arith, Result, Ok, Err, codes, lit<, if◌then◌else◌}
use Rattle.std.proofs.lemmas.Bool.Decides.{nat_tests}
use Rattle.std.proofs.lemmas.Fmt.{digits_is_IsNumeral, decimal_is_IsNumeral}
use Rattle.std.proofs.lemmas.List.Sums.{list_all-from_AllPass}
use Rattle.std.specs.Prelude.{IsTrue}
use Rattle.std.specs.Char.{digit_value}
use Rattle.std.specs.Fmt.{decimal}
use Rattle.std.specs.List.{AllByRecursion, list_all}
use Rattle.std.specs.Option.{ok_or}
use Rattle.std.specs.Str.Parse.{AllDigits}
use Rattle.dimm_topology.specs.Labels.{is_label, is_label_byte, same_label}
use Rattle.dimm_topology.specs.declared.row.Row.{Row}
use Rattle.dimm_topology.specs.declared.row.Row.TheVariants.{Cpu, Module, Range, Place}
use Rattle.hex.specs.Hex.{encode_lower, is_hex_digit}
use Rattle.page_policy.specs.Buckets.{IsLimit}
use Rattle.page_policy.specs.declared.buckets.Limit.{Limit as LimitOf}
use Rattle.ras_base.specs.Chaining.{◌>>=◌}
use Rattle.ras_facts.specs.declared.bank.BankReport.{BankReport}
use Rattle.ras_facts.specs.declared.entry.Entry.{Entry}
use Rattle.ras_facts.specs.declared.entry.Entry.TheVariants.{Fact, Limit, ModuleLimit, Retire}
use Rattle.ras_script.specs.declared.line.Line.{Line}
use Rattle.ras_script.specs.declared.line.Line.TheVariants as asks
use Rattle.ras_script.specs.declared.line.LineRefused.{LineRefused}
use Rattle.ras_script.specs.declared.line.ErrorReport.{ErrorReport}
use Rattle.ras_script.specs.declared.line.ErrorReport.TheVariants.{Bank, Block, Boot}
use Rattle.ras_script.specs.declared.line.Table.{Table}
use Rattle.ras_script.specs.declared.line.Table.TheVariants.{Hest, Erst}
use Rattle.ras_script.specs.Bytes.{AreBytes, bytes_of}
use Rattle.ras_script.specs.Fields.{read_label, read_limit, read_report}
use Rattle.ras_script.specs.Kinds.{range_asks}
use Rattle.ras_script.specs.Line.{line_of_words, line_of}
use Rattle.ras_script.specs.LineLaws.{IsInRange, IsBankInRange, IsEntryInRange, IsReportInRange, IsRowInRange, IsTableInRange, hexadecimal, bank_words, entry_words, limit_words, line_text, line_words, report_words, row_words, table_words}
use Rattle.ras_script.specs.Number.{decimal_of, hexadecimal_of}
use Rattle.ras_script.specs.SplittingLaws.{Lacks, IsWord}
use Rattle.ras_script.proofs.ByteLemmas.{bytes_digits, lower_read}
use Rattle.ras_script.proofs.LineAndWordLemmas.{words_joined}
use Rattle.ras_script.proofs.WrittenNumberLemmas.{decimal_read, hexadecimal_read}

-- A numeral has no space.
digits_lack : (radix : ℕ) (word : List ℕ) → radix ≤ 16 → AllDigits radix word → Lacks 32 word
digits_lack radix [] small all = tt
digits_lack radix (c ∷ cs) small all =
    ((λ same. let digit : digit_value 32 < radix = subst (λ b. digit_value b < radix) same all.0 in omega arith), digits_lack radix cs small all.1)

decimal_word : (n : ℕ) → n < 2 ^ 64 → IsWord (decimal n)
decimal_word n small =
    let numeral = decimal_is_IsNumeral n small in
    (numeral.0.0, digits_lack 10 (decimal n) (lit< tt) numeral.0.1)

hexadecimal_word : (n : ℕ) → n < 2 ^ 64 → IsWord (hexadecimal n)
hexadecimal_word n small =
    let fits : n < 16 ^ 64 = omega arith in
    let numeral = digits_is_IsNumeral 16 false (lit< tt) (lit< tt) n fits in
    (numeral.0.0, digits_lack 16 (hexadecimal n) (lit< tt) numeral.0.1)

-- A label is a word.
both : (a b : Bool) → (a && b) ≡ true → (a ≡ true) × (b ≡ true)
both true true is = (refl, refl)
both true false is = absurd cc
both false b is = absurd cc

label_lacks : (label : List ℕ) → list_all is_label_byte label ≡ true → Lacks 32 label
label_lacks [] all = tt
label_lacks (b ∷ bs) all =
    let parts = both (is_label_byte b) (list_all is_label_byte bs) all in
    let low = both (nat_le 0x21 b) (nat_le b 0x7e) parts.0 in
    ((λ same. grind (arith, nat_tests, low.0, same)), label_lacks bs parts.1)

label_word : (label : List ℕ) → IsTrue (is_label label) → IsWord label
label_word label is =
    let long = nat_le 1 (length label) in
    let short = nat_le (length label) 32 in
    let bytes = list_all is_label_byte label in
    let first = both (long && short && bytes) (not (same_label label (codes "-"))) is in
    let second = both (long && short) bytes first.0 in
    let third = both long short second.0 in
    (grind (arith, nat_tests, third.0), label_lacks label second.1)

kind_word : (kind : List ℕ) → IsTrue (is_label kind) → IsWord kind
kind_word = label_word

-- Bytes in hexadecimal are a word.
space_digit : (b : ℕ) → b ≡ 32 → is_hex_digit b ≡ false
space_digit b same = rw same refl

hex_lacks : (word : List ℕ) → list_all is_hex_digit word ≡ true → Lacks 32 word
hex_lacks [] all = tt
hex_lacks (b ∷ bs) all =
    let parts = both (is_hex_digit b) (list_all is_hex_digit bs) all in
    ((λ same. cc (parts.0, space_digit b same)), hex_lacks bs parts.1)

bytes_word : (bytes : List ℕ) → AreBytes bytes → IsWord (encode_lower bytes)
bytes_word bytes are =
    let is = (bytes_digits (encode_lower bytes)).0 (rw (lower_read bytes are) refl) in
    (is.0, hex_lacks (encode_lower bytes) (list_all-from_AllPass is_hex_digit (encode_lower bytes) is.2))

-- One reading, and then another.
then_is : {A B : Type 0} {read : Result A LineRefused} {y : Result B LineRefused} (x : A) (next : A → Result B LineRefused) → read ≡ Ok x → next x ≡ y → (read >>= next) ≡ y
then_is x next is rest = ap (λ r. r >>= next) is ∙ rest

number_is : {read : Result ℕ LineRefused} (most n : ℕ) → n ≤ most → most < 2 ^ 64 → read ≡ ok_or (decimal_of most (decimal n)) LineRefused.Number → read ≡ Ok n
number_is most n small fits is = is ∙ ap (λ o. ok_or o LineRefused.Number) (decimal_read most n small fits)

hexadecimal_is : {read : Result ℕ LineRefused} (n : ℕ) → n < 2 ^ 64 → read ≡ ok_or (hexadecimal_of (hexadecimal n)) LineRefused.Number → read ≡ Ok n
hexadecimal_is n small is = is ∙ ap (λ o. ok_or o LineRefused.Number) (hexadecimal_read false n small)

bytes_is : {read : Result (List ℕ) LineRefused} (bytes : List ℕ) → AreBytes bytes → read ≡ ok_or (bytes_of (encode_lower bytes)) LineRefused.Hex → read ≡ Ok bytes
bytes_is bytes are is = is ∙ ap (λ o. ok_or o LineRefused.Hex) (lower_read bytes are)

label_is : (label : List ℕ) → IsTrue (is_label label) → read_label label ≡ Ok label
label_is label is = rw is refl

-- a number from 1 on
not_zero : (n : ℕ) → 1 ≤ n → (n == 0) ≡ false
not_zero n more = grind (arith, nat_tests, more)

positive_is : {read : Result ℕ LineRefused} (n : ℕ) → 1 ≤ n → read ≡ Ok n → (read >>= λ n. if n == 0 then Err LineRefused.Number else Ok n) ≡ Ok n
positive_is n more is =
    let zero : (n == 0) ≡ false = not_zero n more in
    then_is n (λ n. if n == 0 then Err LineRefused.Number else Ok n) is (rw zero refl)

limit_is : (limit : LimitOf) → IsLimit limit → read_limit (limit_words limit) ≡ Ok limit
limit_is limit within =
    let low = within.capacity_from in
    let high = within.capacity_to in
    let from = within.period_from in
    let to = within.period_to in
    then_is limit.capacity _ (positive_is limit.capacity low (number_is 1000000 limit.capacity high (omega arith) refl)) (
    then_is limit.period _ (positive_is limit.period from (number_is 10000000 limit.period to (omega arith) refl)) refl)

bank_is : (bank : BankReport) → IsBankInRange bank → read_report (bank_words bank) ≡ Ok bank
bank_is bank within =
    then_is bank.boot _ (number_is (2 ^ 64 - 1) bank.boot (omega arith) (omega arith) refl) (
    then_is bank.seconds _ (number_is (2 ^ 64 - 1) bank.seconds (omega arith) (omega arith) refl) (
    then_is bank.cpu _ (number_is 65535 bank.cpu (omega arith) (omega arith) refl) (
    then_is bank.bank _ (number_is 255 bank.bank (omega arith) (omega arith) refl) (
    then_is bank.tsc _ (number_is (2 ^ 64 - 1) bank.tsc (omega arith) (omega arith) refl) (
    then_is bank.cap _ (hexadecimal_is bank.cap (omega arith) refl) (
    then_is bank.mcg _ (hexadecimal_is bank.mcg (omega arith) refl) (
    then_is bank.status _ (hexadecimal_is bank.status (omega arith) refl) (
    then_is bank.addr _ (hexadecimal_is bank.addr (omega arith) refl) (
    then_is bank.misc _ (hexadecimal_is bank.misc (omega arith) refl) refl)))))))))

-- Each line's words are words.
bank_each : (bank : BankReport) → IsBankInRange bank → AllByRecursion IsWord (bank_words bank)
bank_each bank within = (decimal_word bank.boot (omega arith), (decimal_word bank.seconds (omega arith), (decimal_word bank.cpu (omega arith), (decimal_word bank.bank (omega arith), (decimal_word bank.tsc (omega arith), (hexadecimal_word bank.cap (omega arith), (hexadecimal_word bank.mcg (omega arith), (hexadecimal_word bank.status (omega arith), (hexadecimal_word bank.addr (omega arith), (hexadecimal_word bank.misc (omega arith), tt))))))))))

limit_each : (limit : LimitOf) → IsLimit limit → AllByRecursion IsWord (limit_words limit)
limit_each limit within =
    let high = within.capacity_to in
    let to = within.period_to in
    (decimal_word limit.capacity (omega arith), (decimal_word limit.period (omega arith), tt))

row_each : (row : Row) → IsRowInRange row → AllByRecursion IsWord (row_words row)
row_each (Cpu cpu socket) within = (kind_word (codes "cpu") refl, (decimal_word cpu (omega arith), (decimal_word socket (omega arith), tt)))
row_each (Module label socket bank channel) within =
    (kind_word (codes "module") refl, (label_word label within.0, (decimal_word socket (omega arith), (decimal_word bank (omega arith), (decimal_word channel (omega arith), tt)))))
row_each (Range label first last) within =
    (kind_word (codes "range") refl, (label_word label within.0, (hexadecimal_word first (omega arith), (hexadecimal_word last (omega arith), tt))))
row_each (Place label node card number) within =
    (kind_word (codes "place") refl, (label_word label within.0, (decimal_word node (omega arith), (decimal_word card (omega arith), (decimal_word number (omega arith), tt)))))

report_each : (report : ErrorReport) → IsReportInRange report → AllByRecursion IsWord (report_words report)
report_each (Bank bank) within = (kind_word (codes "bank") refl, bank_each bank within)
report_each (Block boot seconds source number bytes) within =
    (kind_word (codes "ghes") refl, (decimal_word boot (omega arith), (decimal_word seconds (omega arith), (decimal_word source (omega arith), (decimal_word number (omega arith), (bytes_word bytes within.4, tt))))))
report_each (Boot boot seconds table region) within =
    (kind_word (codes "bert") refl, (decimal_word boot (omega arith), (decimal_word seconds (omega arith), (bytes_word table within.2, (bytes_word region within.3, tt)))))

entry_each : (entry : Entry) → IsEntryInRange entry → AllByRecursion IsWord (entry_words entry)
entry_each (Fact fact) within = absurd within
entry_each (Limit limit) within = (kind_word (codes "limit") refl, limit_each limit within)
entry_each (ModuleLimit limit) within = (kind_word (codes "module-limit") refl, limit_each limit within)
entry_each (Retire boot) within = (kind_word (codes "retire") refl, (decimal_word boot (omega arith), tt))

table_each : (table : Table) → IsTableInRange table → AllByRecursion IsWord (table_words table)
table_each (Hest bytes) within = (kind_word (codes "hest") refl, (bytes_word bytes within, tt))
table_each (Erst bytes) within = (kind_word (codes "erst") refl, (bytes_word bytes within, tt))

line_each : (line : Line) → IsInRange line → AllByRecursion IsWord (line_words line)
line_each asks.Nothing within = tt
line_each (asks.Row row) within = row_each row within
line_each (asks.Table table) within = table_each table within
line_each (asks.Report report) within = report_each report within
line_each (asks.Entry entry) within = entry_each entry within
line_each (asks.Put id bytes) within = (kind_word (codes "put") refl, (hexadecimal_word id (omega arith), (bytes_word bytes within.1, tt)))
line_each (asks.Panic id bank) within = (kind_word (codes "panic") refl, (hexadecimal_word id (omega arith), bank_each bank within.1))
line_each (asks.Poll seconds) within = (kind_word (codes "poll") refl, (decimal_word seconds (omega arith), tt))
line_each asks.Restart within = (kind_word (codes "restart") refl, tt)

-- These words are read as the line.
range_is : (label : List ℕ) (first last : ℕ) → IsRowInRange (Range label first last) → range_asks (label ∷ hexadecimal first ∷ hexadecimal last ∷ []) ≡ Ok (asks.Row (Range label first last))
range_is label first last within =
    let upright : nat_le first last ≡ true = grind (arith, nat_tests, within.1) in
    then_is label _ (label_is label within.0) (
    then_is first _ (hexadecimal_is first (omega arith) refl) (
    then_is last _ (hexadecimal_is last (omega arith) refl) (rw upright refl)))

row_is : (row : Row) → IsRowInRange row → line_of_words (row_words row) ≡ Ok (asks.Row row)
row_is (Cpu cpu socket) within =
    then_is cpu _ (number_is 65535 cpu (omega arith) (omega arith) refl) (
    then_is socket _ (number_is 255 socket (omega arith) (omega arith) refl) refl)
row_is (Module label socket bank channel) within =
    then_is label _ (label_is label within.0) (
    then_is socket _ (number_is 255 socket (omega arith) (omega arith) refl) (
    then_is bank _ (number_is 255 bank (omega arith) (omega arith) refl) (
    then_is channel _ (number_is 14 channel (omega arith) (omega arith) refl) refl)))
row_is (Range label first last) within = range_is label first last within
row_is (Place label node card number) within =
    then_is label _ (label_is label within.0) (
    then_is node _ (number_is 65535 node (omega arith) (omega arith) refl) (
    then_is card _ (number_is 65535 card (omega arith) (omega arith) refl) (
    then_is number _ (number_is 65535 number (omega arith) (omega arith) refl) refl)))

report_is : (report : ErrorReport) → IsReportInRange report → line_of_words (report_words report) ≡ Ok (asks.Report report)
report_is (Bank bank) within = then_is bank _ (bank_is bank within) refl
report_is (Block boot seconds source number bytes) within =
    then_is boot _ (number_is (2 ^ 64 - 1) boot (omega arith) (omega arith) refl) (
    then_is seconds _ (number_is (2 ^ 64 - 1) seconds (omega arith) (omega arith) refl) (
    then_is source _ (number_is 65535 source (omega arith) (omega arith) refl) (
    then_is number _ (number_is (2 ^ 64 - 1) number (omega arith) (omega arith) refl) (
    then_is bytes _ (bytes_is bytes within.4 refl) refl))))
report_is (Boot boot seconds table region) within =
    then_is boot _ (number_is (2 ^ 64 - 1) boot (omega arith) (omega arith) refl) (
    then_is seconds _ (number_is (2 ^ 64 - 1) seconds (omega arith) (omega arith) refl) (
    then_is table _ (bytes_is table within.2 refl) (
    then_is region _ (bytes_is region within.3 refl) refl)))

entry_is : (entry : Entry) → IsEntryInRange entry → line_of_words (entry_words entry) ≡ Ok (asks.Entry entry)
entry_is (Fact fact) within = absurd within
entry_is (Limit limit) within = then_is limit _ (limit_is limit within) refl
entry_is (ModuleLimit limit) within = then_is limit _ (limit_is limit within) refl
entry_is (Retire boot) within = then_is boot _ (number_is (2 ^ 64 - 1) boot (omega arith) (omega arith) refl) refl

table_is : (table : Table) → IsTableInRange table → line_of_words (table_words table) ≡ Ok (asks.Table table)
table_is (Hest bytes) within = then_is bytes _ (bytes_is bytes within refl) refl
table_is (Erst bytes) within = then_is bytes _ (bytes_is bytes within refl) refl

line_is : (line : Line) → IsInRange line → line_of_words (line_words line) ≡ Ok line
line_is asks.Nothing within = refl
line_is (asks.Row row) within = row_is row within
line_is (asks.Table table) within = table_is table within
line_is (asks.Report report) within = report_is report within
line_is (asks.Entry entry) within = entry_is entry within
line_is (asks.Put id bytes) within =
    then_is id _ (hexadecimal_is id (omega arith) refl) (
    then_is bytes _ (bytes_is bytes within.1 refl) refl)
line_is (asks.Panic id bank) within =
    then_is id _ (hexadecimal_is id (omega arith) refl) (
    then_is bank _ (bank_is bank within.1) refl)
line_is (asks.Poll seconds) within = then_is seconds _ (number_is (2 ^ 64 - 1) seconds (omega arith) (omega arith) refl) refl
line_is asks.Restart within = refl

-- The words of a line joined by spaces are read back.
pub text_read : (line : Line) → IsInRange line → line_of (line_text line) ≡ Ok line
text_read line within = ap line_of_words (words_joined (line_words line) (line_each line within)) ∙ line_is line within
