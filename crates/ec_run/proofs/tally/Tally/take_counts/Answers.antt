use Rattle.std.proofs.Common.{◌≡◌, ◌≤◌, ◌+◌, ◌%◌, ◌++◌, ◌∙◌, arith, ap, sym, refl, ℕ, List, [], ◌∷◌, length, take}
use Rattle.std.proofs.lemmas.List.{append_assoc}
use Rattle.ec_master.specs.declared.work.TheConstants.{MAX_ITEMS}
use Rattle.ec_run.specs.Tally.{TallyRecord, first_of, moved, moved_in_both}
use Rattle.ec_run.proofs.TallyLemmas.{first-more, first-none, take-whole}
use Rattle.ec_run.proofs.tally.Tally.take_counts.Goals as goal

pub loop-k-init : goal.loop-k-init
loop-k-init c =
    let old : List ℕ = c.args.self.now.counts in
    let kept : length old ≤ MAX_ITEMS =
    omega (
      arith,
      ap (λ (h : TallyRecord). length h.counts) c.self.view_is,
      c.len-kept.ensures.value,
      c.len-kept.ensures.fits,
    ) in
    record {
      counts = sym
          (ap (λ (l : List ℕ). take MAX_ITEMS (old ++ l))
          (first-none (moved_in_both c.args.sent.now c.args.came.now))
          ∙ take-whole MAX_ITEMS old kept);
      rest = refl;
    }

pub loop-k-preserved : goal.loop-k-preserved
loop-k-preserved c =
    let number : ℕ → ℕ = moved_in_both c.args.sent.now c.args.came.now in
    let old : List ℕ = c.args.self.now.counts in
    let k : ℕ = c.loop-k.k in
    let v : ℕ = (c.moved.result + c.moved-in-loop-k.result) % 65536 in
    let value : v ≡ number k =
    ap (λ (n : ℕ). (n + c.moved-in-loop-k.result) % 65536) c.moved.ensures
    ∙ ap (λ (n : ℕ). (moved c.args.sent.now c.args.came.now.a k + n) % 65536) c.moved-in-loop-k.ensures in
    let more : (old ++ first_of number k) ++ v ∷ [] ≡ old ++ first_of number (k + 1) =
    append_assoc old (first_of number k) (v ∷ [])
    ∙ ap (λ (n : ℕ). old ++ (first_of number k ++ n ∷ [])) value
    ∙ ap (λ (l : List ℕ). old ++ l) (sym (first-more number k)) in
    record {
      counts = c.keep.ensures.counts (old ++ first_of number k) c.loop-k.invariant.counts
          ∙ ap (λ (l : List ℕ). take MAX_ITEMS l) more;
      rest = c.keep.ensures.rest ∙ c.loop-k.invariant.rest;
    }
