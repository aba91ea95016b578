-- How many of some times fall in each bucket, and in which bucket a share of them ends. Buckets are powers of
-- two in eight steps each: a time of sixteen nanoseconds and more has its four highest binary digits told.
use Rattle.std.specs.Prelude.{◌≡◌, ℕ, ◌+◌, ◌-◌, ◌*◌, ◌/◌, ◌%◌, ◌^◌, ◌<◌, min, Bool, ◌==◌, leb, ltb}
use Rattle.std.specs.Prelude.{if◌then◌else◌, List, [], ◌∷◌, length, count_by, slice_index}
use Rattle.std.specs.Int.{leading_zeros, w64}
use Rattle.std.specs.Io.Iter.{u64_saturate}
use Rattle.ecat_list.specs.declared.histogram.TheConstants.{BUCKETS}

-- how often a time is halved until it is below sixteen
abbrev pub halvings_of : ℕ → ℕ
halvings_of time = 60 - leading_zeros w64 time

-- the bucket of a time; the last one has all times from 2^40 nanoseconds on, 18 minutes, too
unfoldable pub bucket_of : ℕ → ℕ
bucket_of time = min (8 * halvings_of time + time / 2 ^ halvings_of time) (BUCKETS - 1)

-- is a time in this bucket
abbrev pub is_in : ℕ → ℕ → Bool
is_in bucket time = bucket_of time == bucket

-- each bucket has as many as fall in it
pub record IsHistogram (all : List ℕ) (counts : List ℕ) : Type 0 where
  pub size : length counts ≡ BUCKETS
  pub counted : (bucket : ℕ) → bucket < BUCKETS
      → slice_index counts bucket ≡ u64_saturate (count_by (is_in bucket) all)

-- the greatest time of a bucket but the last
unfoldable pub upper_of : ℕ → ℕ
upper_of bucket =
    if ltb bucket 16 then bucket else ((bucket % 8 + 9) * 2 ^ (bucket / 8 - 1) - 1)

-- the first bucket behind which no more times are left than may be, of so many that are left in all
abbrev pub last_of : ℕ → ℕ → List ℕ → ℕ
last_of may left [] = 0
last_of may left (count ∷ counts) =
    if leb (left - count) may then 0 else (1 + last_of may (left - count) counts)
