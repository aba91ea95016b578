-- What is told of spans of time: how many, the least, the greatest, and in which time a share of them is.
use Rattle.std.specs.Prelude.{◌≡◌, ℕ, ◌-◌, ◌/◌, min, ltb, if◌then◌else◌, List, length}
use Rattle.std.specs.Io.Iter.{u64_saturate}
use Rattle.ecat_frames.specs.Notes.{greatest_of, least_of}
use Rattle.ecat_list.specs.Histogram.{IsHistogram, last_of, upper_of}
use Rattle.ecat_list.specs.declared.group.Spans.{Spans}
use Rattle.ecat_list.specs.declared.group.TheConstants.{LONGEST}
use Rattle.ecat_list.specs.declared.histogram.TheConstants.{BUCKETS}

-- all of some spans
pub record AreSpans (all : List ℕ) (spans : Spans) : Type 0 where
  pub count : spans.count ≡ u64_saturate (length all)
  pub least : spans.least ≡ least_of LONGEST all
  pub greatest : spans.greatest ≡ greatest_of 0 all
  pub histogram : IsHistogram all spans.histogram.counts

-- the upper bound of a bucket, and at most the greatest span; of the last one that alone
abbrev pub within : ℕ → ℕ → ℕ
within greatest bucket =
    if ltb bucket (BUCKETS - 1) then min (upper_of bucket) greatest else greatest

-- the upper bound of the first bucket behind which there is at most one span in so many
abbrev pub bound_of : ℕ → ℕ → ℕ → List ℕ → ℕ
bound_of count greatest many counts = within greatest (last_of (count / many) count counts)
