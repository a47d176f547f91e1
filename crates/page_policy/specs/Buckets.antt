-- The leaky bucket of a page's corrected errors, as in mcelog's page error limits.
use Rattle.std.specs.Prelude.{ℕ, ◌+◌, ◌-◌, ◌*◌, ◌/◌, ◌≤◌, ◌<◌, Bool, nat_le, ◌&&◌, if◌then◌else◌, Option, Some, None}
use Rattle.page_policy.specs.declared.buckets.TheConstants.{MOST_CAPACITY, MOST_PERIOD, MOST_COUNT}
use Rattle.page_policy.specs.declared.buckets.Limit.{Limit}
use Rattle.page_policy.specs.declared.buckets.Bucket.{Bucket}

-- A limit is in its ranges.
pub record IsLimit (limit : Limit) : Type 0 where
  pub capacity_from : 1 ≤ limit.capacity
  pub capacity_to : limit.capacity ≤ MOST_CAPACITY
  pub period_from : 1 ≤ limit.period
  pub period_to : limit.period ≤ MOST_PERIOD

-- the limit of two numbers, if both are in their ranges
abbrev pub limit_of : ℕ → ℕ → Option Limit
limit_of capacity period =
    if (nat_le 1 capacity && nat_le capacity MOST_CAPACITY) && (nat_le 1 period && nat_le period MOST_PERIOD)
    then Some (record { capacity = capacity; period = period })
    else None

-- the most errors in a bucket: one fewer than the greatest capacity
abbrev pub most_count : ℕ
most_count = MOST_COUNT

-- how many errors leak out in this time, in whole errors
abbrev pub leak : Limit → ℕ → ℕ
leak limit seconds = seconds * limit.capacity / limit.period

-- A bucket after it has leaked until now. Nothing leaks before a whole period has passed since the stamp.
abbrev pub aged_bucket : Limit → ℕ → Bucket → Bucket
aged_bucket limit now bucket =
    if nat_le limit.period (now - bucket.stamp)
    then record { count = bucket.count - leak limit (now - bucket.stamp); stamp = now }
    else bucket

-- A time is within a period of a bucket's stamp, or before the stamp.
abbrev pub IsEarly : Limit → ℕ → Bucket → Type 0
IsEarly limit now bucket = now < bucket.stamp + limit.period

-- a bucket with this many more errors
abbrev pub filled_bucket : ℕ → Bucket → Bucket
filled_bucket weight bucket = record bucket { count = bucket.count + weight }

-- A bucket has reached the limit's capacity.
abbrev pub IsFull : Limit → Bucket → Type 0
IsFull limit bucket = limit.capacity ≤ bucket.count

-- the errors in a bucket with those of a report of this weight
abbrev pub count_with : Limit → ℕ → ℕ → Bucket → ℕ
count_with limit now weight bucket = (aged_bucket limit now bucket).count + weight

-- Whether a report makes the bucket trip: its capacity is reached.
abbrev pub trips : Limit → ℕ → ℕ → Bucket → Bool
trips limit now weight bucket = nat_le limit.capacity (count_with limit now weight bucket)

-- The bucket after the report. A bucket that trips is emptied.
abbrev pub bucket_after : Limit → ℕ → ℕ → Bucket → Bucket
bucket_after limit now weight bucket = record {
  count = if trips limit now weight bucket then 0 else count_with limit now weight bucket;
  stamp = (aged_bucket limit now bucket).stamp;
}
