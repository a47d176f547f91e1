-- The row of a memory module: the sums of its items by class, and a leaky bucket of its corrected errors. The first
-- time that the bucket trips, the module is to be replaced.
use Rattle.std.specs.Prelude.{ℕ, ◌≡◌, ◌+◌, ◌<◌, ◌≤◌, Bool, ◌&&◌, not, nat_eq, Option, None, Some, List, [], ◌∷◌, map, filter, fold, unwrap_or, All}
use Rattle.std.specs.List.{sum_by, list_any}
use Rattle.mca_status.specs.declared.classes.ItemClass.{ItemClass}
use Rattle.mca_status.specs.Classes.{class_number, classes}
use Rattle.ras_base.specs.Places.{places}
use Rattle.dimm_topology.specs.Labels.{Bytes, same_label}
use Rattle.page_policy.specs.declared.buckets.Bucket.{Bucket}
use Rattle.page_policy.specs.declared.buckets.Limit.{Limit}
use Rattle.page_policy.specs.Buckets.{trips, bucket_after}
use Rattle.page_policy.specs.Rows.{is_corrected}
use Rattle.ras_account.specs.Sightings.{Sighting, label_of, sighting_weight}

-- the row of a module
pub record Module : Type 0 where
  -- the weights of its items by class, in the order of the class numbers
  pub sums : List ℕ
  -- the bucket of its corrected errors since the last upgrade marker, if it has any
  pub bucket : Option Bucket
  -- whether it is to be replaced: the bucket has tripped since the last upgrade marker
  pub replace : Bool

-- the sum of the weights of the items of a class
abbrev pub class_weight : List Sighting → ItemClass → ℕ
class_weight ss class = sum_by sighting_weight (filter (λ s. nat_eq (class_number class) (class_number s.item.class)) ss)

-- Whether an item has a label.
abbrev pub is_labeled : Bytes → Sighting → Bool
is_labeled label s = same_label label (label_of s)

-- Whether an item fills its module's bucket: a corrected error with a label.
abbrev pub fills_bucket : Sighting → Bool
fills_bucket s = is_corrected s.item.class && not (is_labeled [] s)

-- The items of a list that fill the bucket of a label, in order. Items without a label fill no bucket.
abbrev pub errors_of : Bytes → List Sighting → List Sighting
errors_of label ss = filter (λ s. fills_bucket s && is_labeled label s) ss

-- The bucket before an error; if there is no bucket yet, it begins at the error.
abbrev pub bucket_met : Option Bucket → Sighting → Bucket
bucket_met bucket s = unwrap_or bucket (record { count = 0; stamp = s.seconds })

-- the bucket after an error, and whether the error makes it trip
abbrev pub bucket_with : Option Bucket → Sighting → Bucket
bucket_with bucket s = bucket_after s.module_limit s.seconds s.item.weight (bucket_met bucket s)

abbrev pub trips_at : Option Bucket → Sighting → Bool
trips_at bucket s = trips s.module_limit s.seconds s.item.weight (bucket_met bucket s)

-- The bucket after a list of errors; before the first error there is no bucket.
abbrev pub bucket_over : List Sighting → Option Bucket
bucket_over errors = fold (λ bucket s. Some (bucket_with bucket s)) None errors

-- Whether one of the errors made the bucket trip.
abbrev pub has_tripped : List Sighting → Bool
has_tripped errors = list_any (λ p. trips_at (bucket_over p.0) p.1) (places errors)

-- the row of a label, by all items and by the items since the last upgrade marker
abbrev pub module_by_items : List Sighting → List Sighting → Bytes → Module
module_by_items all since_mark label = record {
  sums = map (class_weight (filter (is_labeled label) all)) classes;
  bucket = bucket_over (errors_of label since_mark);
  replace = has_tripped (errors_of label since_mark);
}

-- An error has weight 1, this limit for modules, and a time within the period from this time on.
pub record IsSingleError (limit : Limit) (from : ℕ) (s : Sighting) : Type 0 where
  pub one : s.item.weight ≡ 1
  pub limit_is : s.module_limit ≡ limit
  pub within : s.seconds < from + limit.period

-- the time of the first error of a list
abbrev pub first_time : List Sighting → ℕ
first_time [] = 0
first_time (s ∷ ss) = s.seconds

-- Errors have weight 1 each, this limit for modules, and times within a period of the first error.
abbrev pub AreSingleErrors : Limit → List Sighting → Type 0
AreSingleErrors limit errors = All (IsSingleError limit (first_time errors)) errors

-- An error is a whole period later than a bucket's stamp, or more.
abbrev pub IsLate : Bucket → Sighting → Type 0
IsLate bucket s = bucket.stamp + s.module_limit.period ≤ s.seconds
