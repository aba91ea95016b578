-- How many of some times fall in each bucket, and of one time more.
use Rattle.std.proofs.Common.{◌≡◌, ℕ, ◌+◌, ◌<◌, Bool, true, false, cond, eqb, List, [], ◌∷◌, ◌++◌, length, drop, leb, ◌-◌}
use Rattle.std.proofs.Common.{set, get_or, replicate, count_by, refl, sym, ap, subst, ◌∙◌, arith}
use Rattle.std.specs.Io.Iter.{u64_saturate}
use Rattle.std.proofs.lemmas.Bool.Decides.{nat_tests}
use Rattle.std.proofs.lemmas.List.{get_or-replicate, get_or-set_other, get_or-set_same, length-replicate, length-set, drop_more}
use Rattle.ecat_list.specs.Histogram.{IsHistogram, bucket_of, is_in, last_of}
use Rattle.ecat_list.specs.declared.histogram.TheConstants.{BUCKETS}
use Rattle.ecat_list.proofs.TallyLemmas.{count_push, saturated_more}

-- no time falls anywhere
pub histogram_of_none : IsHistogram [] (replicate BUCKETS 0)
histogram_of_none = record {
  size = length-replicate {A = ℕ} BUCKETS 0;
  counted = λ bucket inside. get_or-replicate BUCKETS bucket 0 0 inside;
}

-- a bucket has one more, if the time falls in it
counted_more : (all counts : List ℕ) (time bucket : ℕ) (falls : Bool) → IsHistogram all counts
    → bucket < BUCKETS → bucket_of time < BUCKETS → eqb (bucket_of time) bucket ≡ falls
    → get_or (set counts (bucket_of time) (u64_saturate (get_or counts (bucket_of time) 0 + 1))) bucket 0
    ≡ u64_saturate (count_by (is_in bucket) (all ++ time ∷ []))
counted_more all counts time bucket true h inside known falls =
    let here : bucket ≡ bucket_of time = grind (arith, nat_tests, falls) in
    let more : count_by (is_in bucket) (all ++ time ∷ []) ≡ count_by (is_in bucket) all + 1 =
    count_push (is_in bucket) all time ∙ ap (λ b. count_by (is_in bucket) all + cond b 1 0) falls in
    let written : get_or (set counts (bucket_of time) (u64_saturate (get_or counts (bucket_of time) 0 + 1)))
    bucket 0 ≡ u64_saturate (get_or counts bucket 0 + 1) =
    subst (λ k. get_or (set counts k (u64_saturate (get_or counts k 0 + 1))) bucket 0
    ≡ u64_saturate (get_or counts bucket 0 + 1)) here
    (get_or-set_same counts bucket _ 0 (subst (λ n. bucket < n) (sym h.size) inside)) in
    written ∙ ap (λ n. u64_saturate (n + 1)) (h.counted bucket inside)
    ∙ saturated_more (count_by (is_in bucket) all) ∙ ap u64_saturate (sym more)
counted_more all counts time bucket false h inside known falls =
    let none : count_by (is_in bucket) (all ++ time ∷ []) ≡ count_by (is_in bucket) all + 0 =
    count_push (is_in bucket) all time ∙ ap (λ b. count_by (is_in bucket) all + cond b 1 0) falls in
    let same : count_by (is_in bucket) (all ++ time ∷ []) ≡ count_by (is_in bucket) all = none ∙ omega arith in
    get_or-set_other counts (bucket_of time) bucket _ 0 (grind (arith, nat_tests, falls))
    ∙ h.counted bucket inside ∙ ap u64_saturate (sym same)

-- a time more is counted
pub histogram_more : (all counts : List ℕ) (time : ℕ) → IsHistogram all counts → bucket_of time < BUCKETS
    → IsHistogram (all ++ time ∷ [])
    (set counts (bucket_of time) (u64_saturate (get_or counts (bucket_of time) 0 + 1)))
histogram_more all counts time h known = record {
  size = length-set counts (bucket_of time) _ ∙ h.size;
  counted = λ bucket inside. counted_more all counts time bucket _ h inside known refl;
}

-- ---- the bucket in which a share ends

-- it is the first of those that are left where no more times than may be are left behind that
pub last_here : (may left count : ℕ) (counts : List ℕ) (k : ℕ) → k < length counts
    → count ≡ left - get_or counts k 0 → leb count may ≡ true → last_of may left (drop k counts) ≡ 0
last_here may left count counts k inside known ends =
    ap (last_of may left) (drop_more counts k 0 inside)
    ∙ ap (λ b. cond b 0 (1 + last_of may (left - get_or counts k 0) (drop (k + 1) counts)))
    (subst (λ n. leb n may ≡ true) known ends)

-- and else it is among those behind
pub last_behind : (may left count : ℕ) (counts : List ℕ) (k : ℕ) → k < length counts
    → count ≡ left - get_or counts k 0 → leb count may ≡ false
    → last_of may left (drop k counts) ≡ 1 + last_of may count (drop (k + 1) counts)
last_behind may left count counts k inside known goes_on =
    ap (last_of may left) (drop_more counts k 0 inside)
    ∙ ap (λ b. cond b 0 (1 + last_of may (left - get_or counts k 0) (drop (k + 1) counts)))
    (subst (λ n. leb n may ≡ false) known goes_on)
    ∙ ap (λ n. 1 + last_of may n (drop (k + 1) counts)) (sym known)
