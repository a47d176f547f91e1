-- Each sample of an account can be printed as a line, whatever the labels of its modules are.
use Rattle.std.proofs.Common.{◌≡◌, ℕ, ◌<◌, ◌≤◌, ◌^◌, Bool, true, false, ◌&&◌, not, nat_eq, nat_le, List, [], ◌∷◌, ◌++◌, map, length, codes, Option, Some, None, IfSome, refl, ap, sym, ◌∙◌, append-nil, append_assoc, eqb-true, leb-true, arith, ◌==◌, IsTrue, sum}
use Rattle.std.specs.List.{AllByRecursion, flat_map, list_all, list_any, zip}
use Rattle.std.specs.Map.{keys_of}
use Rattle.std.proofs.lemmas.List.Elements.{recursion_from_All}
use Rattle.std.proofs.lemmas.List.Sums.{count_by-le-length, sum_by-cons}
use Rattle.std.proofs.lemmas.Map.Entries.{length-keys_of}
use Rattle.std.proofs.lemmas.Map.Steps.{length-le_from_distinct_below}
use Rattle.mca_status.specs.declared.classes.ItemClass.{ItemClass}
use Rattle.mca_status.specs.declared.classes.ItemClass.TheVariants.{Ce, Ucna, Srao, Srar, Uc, Odd, Corrected, Recoverable, Fatal, Informational}
use Rattle.mca_status.specs.Classes.{classes}
use Rattle.dimm_topology.specs.Labels.{Bytes, is_label, is_label_byte, is_label_or_none, same_label}
use Rattle.dimm_topology.specs.declared.label.TheConstants.{MOST_LABEL_BYTES}
use Rattle.page_policy.specs.declared.buckets.Bucket.{Bucket}
use Rattle.page_policy.specs.declared.rows.PageRow.{PageRow}
use Rattle.page_policy.specs.declared.rows.PageState.{PageState}
use Rattle.page_policy.specs.declared.rows.PageState.TheVariants.{Kept, Soft, Hard}
use Rattle.ras_account.specs.Account.{State, weight_in}
use Rattle.ras_account.specs.Accounts.{IsAccount, IsBucket, IsModuleRow, IsPageRow}
use Rattle.ras_account.specs.Modules.{Module}
use Rattle.ras_texts.specs.Text.{class_text, label_text, state_text}
use Rattle.listing_texts.specs.declared.metrics.Metric.{Metric}
use Rattle.listing_texts.specs.declared.metrics.Metric.TheVariants.{ErrorsTotal, Pages, ModuleReplace, ModuleBucket, ModuleBucketLimit, Names, NamesLimit, EntriesTotal, BootFloor, BuildInfo}
use Rattle.listing_texts.specs.Metrics.{Sample, all_samples, bucket_samples, error_sample, error_samples, family_text, head_text, is_page_in, metrics, metrics_text, page_sample, replace_sample, replace_samples, sample_text, samples_of}
use Rattle.listing_texts.specs.MetricsReader.{IsSample, begin, is_in_line, is_name, read_samples, samples_at}
use Rattle.listing_texts.proofs.ReaderLemmas.{after, at, sample_read, then_reads}

-- ---- lists of samples

all_more : {X : Type 0} (P : X → Type 0) (xs ys : List X) → AllByRecursion P xs → AllByRecursion P ys → AllByRecursion P (xs ++ ys)
all_more P [] ys one other = other
all_more P (x ∷ xs) ys one other = (one.0, all_more P xs ys one.1 other)

pub samples_read : (done samples : List Sample) → AllByRecursion IsSample samples → after (at done begin) (flat_map sample_text samples) ≡ at (done ++ samples) begin
samples_read done [] are = ap (λ (all : List Sample). at all begin) (sym (append-nil done))
samples_read done (sample ∷ samples) are =
    then_reads _ (at (done ++ sample ∷ []) begin) _ (sample_text sample) (flat_map sample_text samples) (sample_read done sample are.0) (samples_read (done ++ sample ∷ []) samples are.1)
    ∙ ap (λ (all : List Sample). at all begin) (append_assoc done (sample ∷ []) samples)

-- ---- labels

both : (a b : Bool) → (a && b) ≡ true → (a ≡ true) × (b ≡ true)
both true b is = (refl, is)
both false b is = absurd cc

not_feed : (s : ℕ) → is_label_byte s ≡ true → not (s == 10) ≡ true
not_feed s is = by (s == 10) refl
  where
    by : (b : Bool) → (s == 10) ≡ b → not (s == 10) ≡ true
    by false e = rw e refl
    by true e = absurd (omega (arith, eqb-true s 10 e, leb-true 0x21 s (both (nat_le 0x21 s) (nat_le s 0x7e) is).0))

bytes_in_line : (label : Bytes) → list_all is_label_byte label ≡ true → is_in_line label ≡ true
bytes_in_line [] are = refl
bytes_in_line (s ∷ label) are =
    let parts = both (is_label_byte s) (list_all is_label_byte label) are in
    rw (not_feed s parts.0) (bytes_in_line label parts.1)

third : (a b c d : Bool) → (a && b && c && d) ≡ true → c ≡ true
third true true true d is = refl
third true true false d is = absurd cc
third true false c d is = absurd cc
third false b c d is = absurd cc

label_in_line : (label : Bytes) → IsTrue (is_label_or_none label) → is_in_line (label_text label) ≡ true
label_in_line label is = by (length label == 0) refl
  where
    by : (b : Bool) → (length label == 0) ≡ b → is_in_line (label_text label) ≡ true
    by true e = rw e refl
    by false e =
        let told : is_label label ≡ true = rw e at is in
        rw e (bytes_in_line label (third (nat_le 1 (length label)) (nat_le (length label) MOST_LABEL_BYTES) (list_all is_label_byte label) (not (same_label label (codes "-"))) told))

-- ---- the samples of a module

class_in_line : (class : ItemClass) → is_in_line (class_text class) ≡ true
class_in_line Ce = refl
class_in_line Ucna = refl
class_in_line Srao = refl
class_in_line Srar = refl
class_in_line Uc = refl
class_in_line Odd = refl
class_in_line Corrected = refl
class_in_line Recoverable = refl
class_in_line Fatal = refl
class_in_line Informational = refl

error_is : (label : Bytes) (class : ItemClass) (sum : ℕ) → is_in_line (label_text label) ≡ true → sum < 2 ^ 64 → IsSample (error_sample label (class, sum))
error_is label class sum told small = record { name = refl; labels = rw (told, class_in_line class) refl; number = small }

errors_are : (label : Bytes) (cs : List ItemClass) (sums : List ℕ) → is_in_line (label_text label) ≡ true → sum sums < 2 ^ 64 → AllByRecursion IsSample (map (error_sample label) (zip cs sums))
errors_are label [] sums told small = tt
errors_are label (class ∷ cs) [] told small = tt
errors_are label (class ∷ cs) (n ∷ sums) told small =
    let more = sum_by-cons (λ (k : ℕ). k) n sums in
    (error_is label class n told (omega (arith, more, small)), errors_are label cs sums told (omega (arith, more, small)))

replaces_are : (row : Bytes × Module) → is_in_line (label_text row.0) ≡ true → AllByRecursion IsSample (replace_samples row)
replaces_are row told = by row.1.bucket refl
  where
    one : (replace : Bool) → IsSample (replace_sample row.0 replace)
    one true = record { name = refl; labels = rw told refl; number = omega arith }
    one false = record { name = refl; labels = rw told refl; number = omega arith }

    by : (bucket : Option Bucket) → row.1.bucket ≡ bucket → AllByRecursion IsSample (replace_samples row)
    by None e = rw e tt
    by (Some bucket) e = rw e (one row.1.replace, tt)

buckets_are : (row : Bytes × Module) → is_in_line (label_text row.0) ≡ true → IfSome row.1.bucket IsBucket → AllByRecursion IsSample (bucket_samples row)
buckets_are row told within = by row.1.bucket refl
  where
    by : (bucket : Option Bucket) → row.1.bucket ≡ bucket → AllByRecursion IsSample (bucket_samples row)
    by None e = rw e tt
    by (Some bucket) e =
        let is : IsBucket bucket = rw e at within in
        rw e (record { name = refl; labels = rw told refl; number = omega (arith, is.count) }, tt)

-- ---- those of all modules

rows_are : (f : Bytes × Module → List Sample) (modules : List (Bytes × Module)) → ((row : Bytes × Module) → IsModuleRow row → sum row.1.sums < 2 ^ 64 → AllByRecursion IsSample (f row))
    → AllByRecursion IsModuleRow modules → weight_in modules < 2 ^ 64 → AllByRecursion IsSample (flat_map f modules)
rows_are f [] each rows small = tt
rows_are f (row ∷ modules) each rows small =
    let more = sum_by-cons (λ (r : Bytes × Module). sum r.1.sums) row modules in
    all_more IsSample (f row) (flat_map f modules) (each row rows.0 (omega (arith, more, small))) (rows_are f modules each rows.1 (omega (arith, more, small)))

-- ---- pages

below : (pages : List (ℕ × PageRow)) → AllByRecursion IsPageRow pages → (q : ℕ) → list_any (nat_eq q) (keys_of pages) ≡ true → q < 2 ^ 63
below [] rows q is = absurd cc
below (page ∷ pages) rows q is = by (nat_eq q page.0) refl (below pages rows.1 q)
  where
    by : (b : Bool) → nat_eq q page.0 ≡ b → (list_any (nat_eq q) (keys_of pages) ≡ true → q < 2 ^ 63) → q < 2 ^ 63
    by true e later = omega (arith, eqb-true q page.0 e, rows.0.page)
    by false e later = later (rw e at is)

few_pages : (a : State) → IsAccount a → length a.pages ≤ 2 ^ 63
few_pages a is =
    let few = length-le_from_distinct_below (keys_of a.pages) (2 ^ 63) is.pages_once (below a.pages (recursion_from_All IsPageRow a.pages is.pages)) in
    omega (arith, few, length-keys_of a.pages)

state_is : (state : PageState) → IsTrue (list_all (λ (pair : Bytes × Bytes). is_name pair.0 && is_in_line pair.1) ((codes "state", state_text state) ∷ []))
state_is Kept = refl
state_is Soft = refl
state_is Hard = refl

page_is : (pages : List (ℕ × PageRow)) (state : PageState) → length pages ≤ 2 ^ 63 → IsSample (page_sample pages state)
page_is pages state few = record { name = refl; labels = state_is state; number = omega (arith, count_by-le-length (is_page_in state) pages, few) }

-- ---- all samples

pub are_samples : (metric : Metric) (a : State) → IsAccount a → AllByRecursion IsSample (samples_of metric a)
are_samples ErrorsTotal a is =
    rows_are error_samples a.modules (λ row ok small. errors_are row.0 classes row.1.sums (label_in_line row.0 ok.label) small)
    (recursion_from_All IsModuleRow a.modules is.modules) (omega (arith, is.total, is.within.total))
are_samples Pages a is =
    let few = few_pages a is in
    (page_is a.pages Soft few, (page_is a.pages Hard few, (page_is a.pages Kept few, tt)))
are_samples ModuleReplace a is =
    rows_are replace_samples a.modules (λ row ok small. replaces_are row (label_in_line row.0 ok.label))
    (recursion_from_All IsModuleRow a.modules is.modules) (omega (arith, is.total, is.within.total))
are_samples ModuleBucket a is =
    rows_are bucket_samples a.modules (λ row ok small. buckets_are row (label_in_line row.0 ok.label) ok.bucket)
    (recursion_from_All IsModuleRow a.modules is.modules) (omega (arith, is.total, is.within.total))
are_samples ModuleBucketLimit a is = (record { name = refl; labels = refl; number = omega (arith, is.module_limit.capacity_to) }, tt)
are_samples Names a is = (record { name = refl; labels = refl; number = omega (arith, is.within.names) }, tt)
are_samples NamesLimit a is = (record { name = refl; labels = refl; number = omega arith }, tt)
are_samples EntriesTotal a is = (record { name = refl; labels = refl; number = omega (arith, is.within.entries) }, tt)
are_samples BootFloor a is = (record { name = refl; labels = refl; number = is.floor }, tt)
are_samples BuildInfo a is = (record { name = refl; labels = refl; number = omega arith }, tt)

-- ---- the text

pub head_read : (metric : Metric) (done : List Sample) → after (at done begin) (head_text metric) ≡ at done begin
head_read ErrorsTotal done = refl
head_read Pages done = refl
head_read ModuleReplace done = refl
head_read ModuleBucket done = refl
head_read ModuleBucketLimit done = refl
head_read Names done = refl
head_read NamesLimit done = refl
head_read EntriesTotal done = refl
head_read BootFloor done = refl
head_read BuildInfo done = refl

pub families_read : (a : State) → IsAccount a → (done : List Sample) (ms : List Metric) → after (at done begin) (flat_map (family_text a) ms) ≡ at (done ++ flat_map (λ metric. samples_of metric a) ms) begin
families_read a is done [] = ap (λ (all : List Sample). at all begin) (sym (append-nil done))
families_read a is done (metric ∷ ms) =
    let these = samples_of metric a in
    let all = flat_map (λ m. samples_of m a) ms in
    then_reads (at done begin) (at (done ++ these) begin) (at ((done ++ these) ++ all) begin) (family_text a metric) (flat_map (family_text a) ms)
    (then_reads (at done begin) (at done begin) (at (done ++ these) begin) (head_text metric) (flat_map sample_text these) (head_read metric done) (samples_read done these (are_samples metric a is)))
    (families_read a is (done ++ these) ms)
    ∙ ap (λ (told : List Sample). at told begin) (append_assoc done these all)

pub text_read : (a : State) → IsAccount a → read_samples (metrics_text a) ≡ Some (all_samples a)
text_read a is = ap samples_at (families_read a is [] metrics)
