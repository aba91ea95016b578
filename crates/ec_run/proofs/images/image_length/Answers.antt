use Rattle.std.proofs.Common.{◌≡◌, ◌<◌, ◌≤◌, ◌+◌, ◌∙◌, ℕ, List, ap, arith, drop, get_or, length}
use Rattle.std.proofs.lemmas.Option.{get_or_from_slice_get}
use Rattle.ec_map.specs.Item.{ItemRecord}
use Rattle.ec_master.specs.Work.{no_item}
use Rattle.ec_run.specs.Outputs.{image_length, taken_by}
use Rattle.ec_run.proofs.StepLemmas.{left_is, left_none}
use Rattle.ec_run.proofs.images.image_length.Goals as goal

pub loop-k-preserved : goal.loop-k-preserved
loop-k-preserved c =
    let k : ℕ = c.loop-k.k in
    let work : List ItemRecord = c.args.work.now in
    let r : ItemRecord = c.item.result.now in
    let inside : k < length work = omega (arith, c.loop-k-test.true, c.len-k-end.ensures.count) in
    let here : get_or work k no_item ≡ r = get_or_from_slice_get work k _ no_item c.item.ensures in
    let left : image_length (drop k work) ≡ taken_by r + image_length (drop (k + 1) work) =
    ap (λ (rs : List ItemRecord). image_length rs) (left_is work k no_item inside)
    ∙ ap (λ (x : ItemRecord). taken_by x + image_length (drop (k + 1) work)) here in
    record {
      bound = omega (arith, c.loop-k.invariant.bound, c.taken_by-length.ensures.bound);
      rest = omega (arith, c.loop-k.invariant.rest, left, c.taken_by-length.ensures.value);
    }

pub returns : goal.returns
returns c =
    let past : length c.args.work.now ≤ c.loop-k.k =
    omega (arith, c.loop-k-test.false, c.len-k-end.ensures.count) in
    let none : image_length (drop c.loop-k.k c.args.work.now) ≡ 0 =
    ap (λ (rs : List ItemRecord). image_length rs) (left_none c.args.work.now c.loop-k.k past) in
    omega (arith, c.loop-k.invariant.rest, none)
