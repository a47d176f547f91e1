-- No piece of a printed line has a line feed.
use Rattle.std.proofs.Common.{◌≡◌, ℕ, ◌==◌, if◌then◌else◌, Bool, true, false, List, [], ◌∷◌, ◌++◌, codes, decimal, drop, length, Option, None, Some, refl, IsTrue, w64}
use Rattle.std.specs.Int.{to_be_bytes}
use Rattle.std.specs.List.{list_all}
use Rattle.hex.specs.Hex.{encode_lower}
use Rattle.cper_sections.specs.declared.memory.MemSection.{MemSection}
use Rattle.cper_sections.specs.declared.processor.ProcSection.{ProcSection}
use Rattle.cper_sections.specs.declared.x64.X64Section.{X64Section}
use Rattle.mca_codes.specs.declared.codes.Code.{Code}
use Rattle.mca_codes.specs.declared.codes.Code.TheVariants.{NoError, Unclassified, MicrocodeRom, External, Frc, InternalParity, InternalTimer, InternalUnclassified, GenericIo, Other, GenericCache, Tlb, Memory, Cache, Bus}
use Rattle.mca_codes.specs.declared.marks.Mark.{Mark}
use Rattle.mca_codes.specs.declared.marks.Mark.TheVariants as marks
use Rattle.mca_codes.specs.Texts.{code_text_of, word_at, with_colons, compound_text, channel_word, filter_ending, level_words, transaction_words, request_words, participation_words, timeout_words, target_words, memory_words}
use Rattle.mca_status.specs.declared.classes.ItemClass.{ItemClass}
use Rattle.mca_status.specs.declared.classes.ItemClass.TheVariants as classes
use Rattle.mca_status.specs.declared.registers.Cap.{Cap}
use Rattle.mca_status.specs.declared.registers.GlobalStatus.{GlobalStatus}
use Rattle.mca_status.specs.declared.registers.Status.{Status}
use Rattle.mca_status.specs.declared.thresholds.Threshold.{Threshold}
use Rattle.mca_status.specs.declared.thresholds.Threshold.TheVariants.{Untold, NoTracking, Green, Yellow, Reserved}
use Rattle.dimm_topology.specs.Labels.{Bytes, is_label_or_none}
use Rattle.ras_facts.specs.declared.bank.BankReport.{BankReport}
use Rattle.ras_facts.specs.declared.name.Name.{Name}
use Rattle.ras_facts.specs.declared.name.Name.TheVariants as names
use Rattle.ras_texts.specs.Text.{name_text, class_text, address_text, page_text, label_text}
use Rattle.ras_texts.specs.Detail.{threshold_text, mark_text, bit_text, code_detail, error_detail, flags_detail, bank_detail}
use Rattle.ras_texts.specs.Sections.{memory_types, type_text, digits_text, told_text, memory_text, processor_text, x64_text, other_text}
use Rattle.ras_events.proofs.ByteLemmas.{is_unbroken, first_of, second_of, unbroken_both, unbroken-append, decimal_unbroken, hexadecimal_unbroken, guid_unbroken, drop_unbroken, table_unbroken, label_unbroken}

-- ---- names, classes, pages and labels

pub name_unbroken : (name : Name) → is_unbroken (name_text name) ≡ true
name_unbroken (names.Bank boot cpu bank tsc) = simp (unbroken-append, decimal_unbroken)
name_unbroken (names.Record id) = hexadecimal_unbroken (to_be_bytes w64 id)
name_unbroken (names.Block boot source number) = simp (unbroken-append, decimal_unbroken)
name_unbroken (names.Boot boot) = decimal_unbroken boot

pub class_unbroken : (class : ItemClass) → is_unbroken (class_text class) ≡ true
class_unbroken classes.Ce = refl
class_unbroken classes.Ucna = refl
class_unbroken classes.Srao = refl
class_unbroken classes.Srar = refl
class_unbroken classes.Uc = refl
class_unbroken classes.Odd = refl
class_unbroken classes.Corrected = refl
class_unbroken classes.Recoverable = refl
class_unbroken classes.Fatal = refl
class_unbroken classes.Informational = refl

pub address_unbroken : (page : ℕ) → is_unbroken (address_text page) ≡ true
address_unbroken page =
    unbroken_both (drop 3 (encode_lower (to_be_bytes w64 page))) (codes "000")
    (drop_unbroken 3 (encode_lower (to_be_bytes w64 page)) (hexadecimal_unbroken (to_be_bytes w64 page))) refl

pub page_unbroken : (page : Option ℕ) → is_unbroken (page_text page) ≡ true
page_unbroken None = refl
page_unbroken (Some page) = address_unbroken page

either : (t : Bool) (xs ys : List ℕ) → is_unbroken xs ≡ true → is_unbroken ys ≡ true → is_unbroken (if t then xs else ys) ≡ true
either true xs ys one other = one
either false xs ys one other = other

pub label_text_unbroken : (label : Bytes) → IsTrue (is_label_or_none label) → is_unbroken (label_text label) ≡ true
label_text_unbroken label is = either (length label == 0) (codes "-") label refl (label_unbroken label is)

-- ---- error codes

colons_unbroken : (words : List (List ℕ)) → list_all is_unbroken words ≡ true → is_unbroken (with_colons words) ≡ true
colons_unbroken [] all = refl
colons_unbroken (word ∷ words) all =
    unbroken_both word (with_colons words) (first_of (is_unbroken word) (list_all is_unbroken words) all)
    (colons_unbroken words (second_of (is_unbroken word) (list_all is_unbroken words) all))

ending_unbroken : (filter : Bool) → is_unbroken (filter_ending filter) ≡ true
ending_unbroken true = refl
ending_unbroken false = refl

compound_unbroken : (kind : List ℕ) (words : List (List ℕ)) (filter : Bool) → is_unbroken kind ≡ true → list_all is_unbroken words ≡ true → is_unbroken (compound_text kind words filter) ≡ true
compound_unbroken kind words filter one all =
    unbroken_both (kind ++ with_colons words) (filter_ending filter) (unbroken_both kind (with_colons words) one (colons_unbroken words all)) (ending_unbroken filter)

level_unbroken : (value : ℕ) → is_unbroken (word_at level_words value) ≡ true
level_unbroken value = table_unbroken level_words value (codes "RES") refl refl

transaction_unbroken : (value : ℕ) → is_unbroken (word_at transaction_words value) ≡ true
transaction_unbroken value = table_unbroken transaction_words value (codes "RES") refl refl

request_unbroken : (value : ℕ) → is_unbroken (word_at request_words value) ≡ true
request_unbroken value = table_unbroken request_words value (codes "RES") refl refl

participation_unbroken : (value : ℕ) → is_unbroken (word_at participation_words value) ≡ true
participation_unbroken value = table_unbroken participation_words value (codes "RES") refl refl

timeout_unbroken : (value : ℕ) → is_unbroken (word_at timeout_words value) ≡ true
timeout_unbroken value = table_unbroken timeout_words value (codes "RES") refl refl

target_unbroken : (value : ℕ) → is_unbroken (word_at target_words value) ≡ true
target_unbroken value = table_unbroken target_words value (codes "RES") refl refl

memory_unbroken : (value : ℕ) → is_unbroken (word_at memory_words value) ≡ true
memory_unbroken value = table_unbroken memory_words value (codes "RES") refl refl

channel_unbroken : (channel : ℕ) → is_unbroken (channel_word channel) ≡ true
channel_unbroken channel = either (channel == 15) (codes "-") (decimal channel) refl (decimal_unbroken channel)

code_unbroken : (code : Code) → is_unbroken (code_text_of code) ≡ true
code_unbroken NoError = refl
code_unbroken Unclassified = refl
code_unbroken MicrocodeRom = refl
code_unbroken External = refl
code_unbroken Frc = refl
code_unbroken InternalParity = refl
code_unbroken InternalTimer = refl
code_unbroken InternalUnclassified = refl
code_unbroken GenericIo = refl
code_unbroken Other = refl
code_unbroken (GenericCache ll filter) =
    compound_unbroken (codes "gencache") (word_at level_words ll ∷ []) filter refl (rw (level_unbroken ll) refl)
code_unbroken (Tlb tt' ll filter) =
    compound_unbroken (codes "tlb") (word_at transaction_words tt' ∷ word_at level_words ll ∷ []) filter refl (rw (transaction_unbroken tt', level_unbroken ll) refl)
code_unbroken (Memory mmm channel filter) =
    compound_unbroken (codes "memory") (word_at memory_words mmm ∷ channel_word channel ∷ []) filter refl (rw (memory_unbroken mmm, channel_unbroken channel) refl)
code_unbroken (Cache rrrr tt' ll filter) =
    compound_unbroken (codes "cache") (word_at transaction_words tt' ∷ word_at level_words ll ∷ word_at request_words rrrr ∷ []) filter refl
    (rw (transaction_unbroken tt', level_unbroken ll, request_unbroken rrrr) refl)
code_unbroken (Bus pp t rrrr ii ll filter) =
    compound_unbroken (codes "bus")
    (word_at level_words ll ∷ word_at participation_words pp ∷ word_at request_words rrrr ∷ word_at target_words ii ∷ word_at timeout_words t ∷ []) filter refl
    (rw (level_unbroken ll, participation_unbroken pp, request_unbroken rrrr, target_unbroken ii, timeout_unbroken t) refl)

-- ---- the texts of a bank

threshold_unbroken : (threshold : Threshold) → is_unbroken (threshold_text threshold) ≡ true
threshold_unbroken Untold = refl
threshold_unbroken NoTracking = refl
threshold_unbroken Green = refl
threshold_unbroken Yellow = refl
threshold_unbroken Reserved = refl

mark_unbroken : (mark : Mark) → is_unbroken (mark_text mark) ≡ true
mark_unbroken marks.Neither = refl
mark_unbroken marks.Srao = refl
mark_unbroken marks.Srar = refl

bit_unbroken : (bit : Bool) → is_unbroken (bit_text bit) ≡ true
bit_unbroken true = refl
bit_unbroken false = refl

error_unbroken : (cap : Cap) (status : Status) → is_unbroken (error_detail cap status) ≡ true
unfolding error_detail code_detail
error_unbroken known status = simp (unbroken-append, code_unbroken, threshold_unbroken, bit_unbroken, mark_unbroken)

flags_unbroken : (global : GlobalStatus) → is_unbroken (flags_detail global) ≡ true
unfolding flags_detail
flags_unbroken global = simp (unbroken-append, bit_unbroken)

pub bank_unbroken : (bank : BankReport) → is_unbroken (bank_detail bank) ≡ true
bank_unbroken bank = simp (unbroken-append, error_unbroken, flags_unbroken)

-- ---- the texts of sections

told_unbroken : (text : ℕ → List ℕ) → ((value : ℕ) → is_unbroken (text value) ≡ true) → (value : Option ℕ) → is_unbroken (told_text text value) ≡ true
told_unbroken text all None = refl
told_unbroken text all (Some value) = all value

type_unbroken : (kind : ℕ) → is_unbroken (type_text kind) ≡ true
unfolding type_text
type_unbroken kind = table_unbroken memory_types kind (codes "type-" ++ decimal kind) refl (decimal_unbroken kind)

digits_unbroken : (number : ℕ) → is_unbroken (digits_text number) ≡ true
digits_unbroken number = hexadecimal_unbroken (to_be_bytes w64 number)

told_types : (kind : Option ℕ) → is_unbroken (told_text type_text kind) ≡ true
told_types = told_unbroken type_text type_unbroken

told_numbers : (number : Option ℕ) → is_unbroken (told_text decimal number) ≡ true
told_numbers = told_unbroken decimal decimal_unbroken

told_digits : (number : Option ℕ) → is_unbroken (told_text digits_text number) ≡ true
told_digits = told_unbroken digits_text digits_unbroken

pub section_unbroken : (section : MemSection) → is_unbroken (memory_text section) ≡ true
unfolding memory_text
section_unbroken section = simp (unbroken-append, told_types, told_numbers, told_digits)

pub processor_unbroken : (section : ProcSection) → is_unbroken (processor_text section) ≡ true
unfolding processor_text
processor_unbroken section = simp (unbroken-append, decimal_unbroken)

pub x64_unbroken : (section : X64Section) → is_unbroken (x64_text section) ≡ true
unfolding x64_text
x64_unbroken section = simp (unbroken-append, told_digits, decimal_unbroken)

pub other_unbroken : (guid : List ℕ) → is_unbroken (other_text guid) ≡ true
unfolding other_text
other_unbroken guid = guid_unbroken guid
