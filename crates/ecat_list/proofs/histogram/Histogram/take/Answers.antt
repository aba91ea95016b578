use Rattle.std.proofs.Common.{◌++◌, [], ◌∷◌, ◌<◌, get_or, set, subst, sym, ◌+◌}
use Rattle.std.specs.Io.Iter.{u64_saturate}
use Rattle.ecat_list.specs.Histogram.{IsHistogram, bucket_of}
use Rattle.ecat_list.specs.declared.histogram.TheConstants.{BUCKETS}
use Rattle.ecat_list.proofs.HistogramLemmas.{histogram_more}
use Rattle.ecat_list.proofs.histogram.Histogram.take.Goals as goal

pub returns : goal.returns
returns c = λ all h.
    let counts = c.args.self.now.counts in
    let time = c.args.time in
    let within : bucket_of time < BUCKETS =
    subst (λ b. b < BUCKETS) c.bucket_of-bucket.ensures.value c.bucket_of-bucket.ensures.within in
    subst (λ n. IsHistogram (all ++ time ∷ []) (set counts c.bucket_of-bucket.result n))
    (sym c.saturating_add.ensures)
    (subst (λ b. IsHistogram (all ++ time ∷ []) (set counts b (u64_saturate (get_or counts b 0 + 1))))
    (sym c.bucket_of-bucket.ensures.value) (histogram_more all counts time h within))
