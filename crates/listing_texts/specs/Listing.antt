-- The lines of a listing: of each module's counts, of each page, of the names, or of the metrics.
use Rattle.std.specs.Prelude.{ℕ, Bool, List, [], ◌++◌, codes, decimal, if◌then◌else◌}
use Rattle.std.specs.List.{flat_map, zip}
use Rattle.std.specs.Option.{option_map_or}
use Rattle.ras_base.specs.Text.{line_with}
use Rattle.mca_status.specs.declared.classes.ItemClass.{ItemClass}
use Rattle.mca_status.specs.Classes.{classes}
use Rattle.dimm_topology.specs.Labels.{Bytes}
use Rattle.page_policy.specs.declared.buckets.Bucket.{Bucket}
use Rattle.page_policy.specs.declared.rows.PageRow.{PageRow}
use Rattle.ras_facts.specs.declared.name.Name.{Name}
use Rattle.ras_account.specs.Account.{State}
use Rattle.ras_account.specs.Modules.{Module}
use Rattle.listing_texts.specs.declared.listing.Listing.{Listing}
use Rattle.listing_texts.specs.declared.listing.Listing.TheVariants.{Counts, Pages, Names, Modules, Metrics}
use Rattle.listing_texts.specs.Metrics.{metrics_text}
use Rattle.ras_texts.specs.Text.{address_text, class_text, label_text, name_text, state_text}

-- the weight of a class, and the weights of all classes in the order of their numbers
abbrev pub class_count : ItemClass × ℕ → List ℕ
class_count row = codes " " ++ class_text row.0 ++ codes "=" ++ decimal row.1

abbrev pub class_counts : List ℕ → List ℕ
class_counts sums = flat_map class_count (zip classes sums)

-- how many errors a bucket has, and its time
abbrev pub bucket_text : Bucket → List ℕ
bucket_text bucket = codes " count=" ++ decimal bucket.count ++ codes " stamp=" ++ decimal bucket.stamp

abbrev pub replace_text : Bool → List ℕ
replace_text replace = if replace then codes "replace" else codes "kept"

-- the line of a module with its weights
abbrev pub counts_line : Bytes × Module → List ℕ
counts_line row = line_with (codes "counts label=" ++ label_text row.0 ++ class_counts row.1.sums)

-- the line of a page with its bucket
abbrev pub page_row_line : ℕ × PageRow → List ℕ
page_row_line row = line_with (
    codes "page=" ++ address_text row.0 ++ codes " state=" ++ state_text row.1.state ++ bucket_text row.1.bucket)

-- the line of a module with its bucket
abbrev pub bucket_line : Bytes × Module → Bucket → List ℕ
bucket_line row bucket = line_with (
    codes "module label=" ++ label_text row.0 ++ codes " state=" ++ replace_text row.1.replace ++ bucket_text bucket)

-- The line of a module's bucket. A module without a bucket has no line.
abbrev pub module_row_line : Bytes × Module → List ℕ
module_row_line row = option_map_or (bucket_line row) row.1.bucket []

abbrev pub listed_name : Name → List ℕ
listed_name name = line_with (name_text name)

-- the lines of a listing of an account: its rows in the order in which they were first seen
abbrev pub listing_lines : Listing → State → List ℕ
listing_lines Counts account = flat_map counts_line account.modules
listing_lines Pages account = flat_map page_row_line account.pages
listing_lines Names account = flat_map listed_name account.names
listing_lines Modules account = flat_map module_row_line account.modules
listing_lines Metrics account = metrics_text account
