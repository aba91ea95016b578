use Rattle.std.proofs.Common.{◌≡◌, ◌<◌, ◌≤◌, ◌+◌, ◌%◌, ◌++◌, ◌∙◌, arith, ap, sym, refl, add-one, ℕ, List, [], ◌∷◌, length}
use Rattle.std.proofs.Common.{take, get_or}
use Rattle.std.proofs.Math.Seq.{take-suc}
use Rattle.std.proofs.lemmas.List.{append_assoc}
use Rattle.ec_master.specs.Ports.{came_or}
use Rattle.ec_master.specs.Report.{ReportRecord, counts_of, moved_in}
use Rattle.ec_master.specs.declared.work.TheConstants.{MAX_ITEMS}
use Rattle.ec_master.proofs.ReportLemmas.{take-whole, take-all, count_at, length-counts}
use Rattle.ec_master.proofs.report.Report.take_counts.Goals as goal

pub loop-k-init : goal.loop-k-init
loop-k-init c =
    let kept : length c.args.self.now.counts ≤ MAX_ITEMS =
    omega (
      arith,
      ap (λ (r : ReportRecord). length r.counts) c.self.view_is,
      c.len-kept.ensures.value,
      c.len-kept.ensures.fits,
    ) in
    (sym (take-whole MAX_ITEMS c.args.self.now.counts kept), refl)

pub loop-k-preserved : goal.loop-k-preserved
loop-k-preserved c =
    let cs : List ℕ = counts_of c.args.sent.now c.args.came.now in
    let old : List ℕ = c.args.self.now.counts in
    let k : ℕ = c.loop-k.k in
    let v : ℕ = (c.moved.result + c.moved-in-loop-k.result) % 65536 in
    let there : k < length c.args.sent.now = omega (arith, c.loop-k-test.true, c.count-k-end.ensures.count) in
    let inside : k < length cs = omega (arith, there, length-counts c.args.sent.now c.args.came.now) in
    let value : v ≡ get_or cs k 0 =
    ap (λ (n : ℕ). (n + c.moved-in-loop-k.result) % 65536) c.moved.ensures
    ∙ ap (λ (n : ℕ). (get_or (moved_in c.args.sent.now (came_or c.args.came.now.a c.args.sent.now)) k 0 + n)
    % 65536) c.moved-in-loop-k.ensures
    ∙ sym (count_at c.args.sent.now c.args.came.now k there) in
    let more : (old ++ take k cs) ++ v ∷ [] ≡ old ++ take (k + 1) cs =
    append_assoc old (take k cs) (v ∷ [])
    ∙ ap (λ (n : ℕ). old ++ (take k cs ++ n ∷ [])) value
    ∙ ap (λ (l : List ℕ). old ++ l) (sym (take-suc cs k 0 inside))
    ∙ ap (λ (n : ℕ). old ++ take n cs) (sym (add-one k)) in (
      c.keep.ensures.counts (old ++ take k cs) c.loop-k.invariant.0
          ∙ ap (λ (l : List ℕ). take MAX_ITEMS l) more,
      c.keep.ensures.copies ∙ c.loop-k.invariant.1,
    )

pub returns-clause-counts : goal.returns-clause-counts
returns-clause-counts c =
    let cs : List ℕ = counts_of c.args.sent.now c.args.came.now in
    let all : length cs ≤ c.loop-k.k =
    omega (
      arith,
      c.loop-k-test.false,
      c.count-k-end.ensures.count,
      length-counts c.args.sent.now c.args.came.now,
    ) in
    c.loop-k.invariant.0
    ∙ ap (λ (l : List ℕ). take MAX_ITEMS (c.args.self.now.counts ++ l)) (take-all c.loop-k.k cs all)
