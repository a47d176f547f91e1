-- The metrics of an account, in the text format of Prometheus, version 0.0.4: a family of samples for each metric and,
-- before them, a line that says what it is and a line that says how it changes.
use Rattle.std.specs.Prelude.{◌≡◌, ℕ, ◌==◌, ◌||◌, Bool, IsTrue, nat_eq, List, [], ◌∷◌, ◌++◌, codes, count_by, decimal, length, map, if◌then◌else◌}
use Rattle.std.specs.List.{flat_map, join_with_byte, zip}
use Rattle.std.specs.Option.{option_map_or}
use Rattle.ras_base.specs.Text.{line_with}
use Rattle.mca_status.specs.declared.classes.ItemClass.{ItemClass}
use Rattle.mca_status.specs.Classes.{classes}
use Rattle.dimm_topology.specs.Labels.{Bytes}
use Rattle.page_policy.specs.declared.buckets.Bucket.{Bucket}
use Rattle.page_policy.specs.declared.rows.PageRow.{PageRow}
use Rattle.page_policy.specs.declared.rows.PageState.{PageState}
use Rattle.page_policy.specs.declared.rows.PageState.TheVariants.{Kept, Soft, Hard}
use Rattle.page_policy.specs.Rows.{height}
use Rattle.ras_account.specs.declared.limits.TheConstants.{MOST_NAMES}
use Rattle.ras_account.specs.Account.{State, is_seen, module_count}
use Rattle.ras_account.specs.History.{History}
use Rattle.ras_account.specs.Modules.{Module}
use Rattle.listing_texts.specs.declared.metrics.Metric.{Metric}
use Rattle.listing_texts.specs.declared.metrics.Metric.TheVariants.{ErrorsTotal, Pages, ModuleReplace, ModuleBucket, ModuleBucketLimit, Names, NamesLimit, EntriesTotal, BootFloor, BuildInfo}
use Rattle.ras_texts.specs.declared.version.TheConstants.{VERSION}
use Rattle.ras_texts.specs.Text.{class_text, label_text, state_text}

-- A sample: its metric's name, its labels with their values, and its number.
pub record Sample : Type 0 where
  pub name : Bytes
  pub labels : List (Bytes × Bytes)
  pub number : ℕ

-- ---- the text of samples

-- In the value of a label a backslash (92) comes before each backslash and each quotation mark (34).
abbrev pub escape : ℕ → List ℕ
escape sign = if sign == 34 || sign == 92 then 92 ∷ sign ∷ [] else sign ∷ []

-- a label with its value in quotation marks
abbrev pub pair_text : Bytes × Bytes → List ℕ
pair_text pair = pair.0 ++ codes "=" ++ 34 ∷ flat_map escape pair.1 ++ 34 ∷ []

-- All labels in braces, with commas (44) between them; no text if there are no labels.
abbrev pub labels_text : List (Bytes × Bytes) → List ℕ
labels_text [] = []
labels_text (pair ∷ pairs) =
    codes "{" ++ join_with_byte 44 (map pair_text (pair ∷ pairs)) ++ codes "}"

abbrev pub sample_text : Sample → List ℕ
sample_text sample =
    line_with (sample.name ++ labels_text sample.labels ++ codes " " ++ decimal sample.number)

-- ---- the metrics

abbrev pub name_of : Metric → Bytes
name_of ErrorsTotal = codes "rasd_errors_total"
name_of Pages = codes "rasd_pages"
name_of ModuleReplace = codes "rasd_module_replace"
name_of ModuleBucket = codes "rasd_module_bucket_errors"
name_of ModuleBucketLimit = codes "rasd_module_bucket_limit"
name_of Names = codes "rasd_names"
name_of NamesLimit = codes "rasd_names_limit"
name_of EntriesTotal = codes "rasd_entries_total"
name_of BootFloor = codes "rasd_boot_floor"
name_of BuildInfo = codes "rasd_build_info"

-- how a metric changes: a counter only rises, and a gauge goes up and down
abbrev pub kind_text : Metric → Bytes
kind_text ErrorsTotal = codes "counter"
kind_text EntriesTotal = codes "counter"
kind_text other = codes "gauge"

abbrev pub help_of : Metric → Bytes
help_of ErrorsTotal = codes "Errors by their module and class, each by its weight."
help_of Pages = codes "Pages with errors by their state: soft and hard are ordered out of use."
help_of ModuleReplace = codes "1 if the module is to be replaced."
help_of ModuleBucket = codes "Corrected errors in the bucket of the module."
help_of ModuleBucketLimit = codes "Corrected errors in a bucket at which its module is to be replaced."
help_of Names = codes "Names of errors that are known."
help_of NamesLimit = codes "The most names that can be known."
help_of EntriesTotal = codes "Entries of the account: new errors, limits and retired boots."
help_of BootFloor = codes "The boot below which all boots are retired."
help_of BuildInfo = codes "1, with the version of the program."

-- the lines before the samples of a metric
abbrev pub head_text : Metric → List ℕ
head_text metric =
    line_with (codes "# HELP " ++ name_of metric ++ codes " " ++ help_of metric)
    ++ line_with (codes "# TYPE " ++ name_of metric ++ codes " " ++ kind_text metric)

-- ---- what is measured

abbrev pub sample_of : Metric → List (Bytes × Bytes) → ℕ → Sample
sample_of metric labels number = record { name = name_of metric; labels = labels; number = number }

abbrev pub label_pair : Bytes → Bytes × Bytes
label_pair label = (codes "label", label_text label)

abbrev pub class_pair : ItemClass → Bytes × Bytes
class_pair class = (codes "class", class_text class)

-- the weights of a module's errors of a class, and of all classes
abbrev pub error_sample : Bytes → ItemClass × ℕ → Sample
error_sample label sum =
    sample_of ErrorsTotal (label_pair label ∷ class_pair sum.0 ∷ []) sum.1

abbrev pub error_samples : Bytes × Module → List Sample
error_samples row = map (error_sample row.0) (zip classes row.1.sums)

-- how many pages are in a state
abbrev pub is_page_in : PageState → ℕ × PageRow → Bool
is_page_in state row = nat_eq (height state) (height row.1.state)

abbrev pub page_sample : List (ℕ × PageRow) → PageState → Sample
page_sample pages state =
    sample_of Pages ((codes "state", state_text state) ∷ []) (count_by (is_page_in state) pages)

-- whether a module is to be replaced, and how many errors its bucket has, if any
abbrev pub replace_sample : Bytes → Bool → Sample
replace_sample label replace =
    sample_of ModuleReplace (label_pair label ∷ []) (if replace then 1 else 0)

abbrev pub replace_samples : Bytes × Module → List Sample
replace_samples row =
    option_map_or (λ bucket. replace_sample row.0 row.1.replace ∷ []) row.1.bucket []

abbrev pub bucket_sample : Bytes → Bucket → Sample
bucket_sample label bucket = sample_of ModuleBucket (label_pair label ∷ []) bucket.count

abbrev pub bucket_samples : Bytes × Module → List Sample
bucket_samples row = option_map_or (λ bucket. bucket_sample row.0 bucket ∷ []) row.1.bucket []

-- the samples of a metric
abbrev pub samples_of : Metric → State → List Sample
samples_of ErrorsTotal account = flat_map error_samples account.modules
samples_of Pages account = map (page_sample account.pages) (Soft ∷ Hard ∷ Kept ∷ [])
samples_of ModuleReplace account = flat_map replace_samples account.modules
samples_of ModuleBucket account = flat_map bucket_samples account.modules
samples_of ModuleBucketLimit account = sample_of ModuleBucketLimit [] account.module_limit.capacity ∷ []
samples_of Names account = sample_of Names [] (length account.names) ∷ []
samples_of NamesLimit account = sample_of NamesLimit [] MOST_NAMES ∷ []
samples_of EntriesTotal account = sample_of EntriesTotal [] account.entries ∷ []
samples_of BootFloor account = sample_of BootFloor [] account.floor ∷ []
samples_of BuildInfo account = sample_of BuildInfo ((codes "version", VERSION.now) ∷ []) 1 ∷ []

-- ---- all of them

abbrev pub metrics : List Metric
metrics =
    ErrorsTotal ∷ Pages ∷ ModuleReplace ∷ ModuleBucket ∷ ModuleBucketLimit ∷ Names ∷ NamesLimit ∷ EntriesTotal
    ∷ BootFloor ∷ BuildInfo ∷ []

abbrev pub family_text : State → Metric → List ℕ
family_text account metric = head_text metric ++ flat_map sample_text (samples_of metric account)

abbrev pub metrics_text : State → List ℕ
metrics_text account = flat_map (family_text account) metrics

-- the samples of all metrics
abbrev pub all_samples : State → List Sample
all_samples account = flat_map (λ metric. samples_of metric account) metrics

-- A history gives this sample: the count of a module in it, for a class.
pub record IsErrorSample (history : History) (sample : Sample) : Type 0 where
  pub label : Bytes
  pub class : ItemClass
  pub seen : IsTrue (is_seen history label)
  pub is : sample ≡ error_sample label (class, module_count history label class)
