use Rattle.std.proofs.Common.{◌≡◌, ◌<◌, ◌≤◌, ◌∙◌, ◌+◌, ℕ, ◌++◌, ◌∷◌, [], ap, sym, arith, List, length, drop, take}
use Rattle.std.proofs.Common.{get_or, set, length-set, refl}
use Rattle.std.proofs.lemmas.Option.{get_or_from_slice_get}
use Rattle.ec_map.specs.Item.{ItemRecord}
use Rattle.ec_master.specs.Work.{no_item}
use Rattle.ec_run.specs.Outputs.{filled, filled_item, left_by}
use Rattle.ec_run.proofs.OutputLemmas.{fills_on, fills_all, get-others, take-made, drop-made, take-past}
use Rattle.ec_run.proofs.outputs.fill_all.Goals as goal

pub loop-k-init : goal.loop-k-init
loop-k-init c = record {
  size = refl;
  others = refl;
  goes_on = refl;
}

pub item_mut-requires : goal.item_mut-requires
item_mut-requires c =
    omega (arith, c.loop-k-test.true, c.len-k-end.ensures.count, c.loop-k.invariant.size)

pub loop-k-preserved : goal.loop-k-preserved
loop-k-preserved c =
    let k : ℕ = c.loop-k.k in
    let old : List ItemRecord = c.args.work.now in
    let work : List ItemRecord = c.loop-k.work in
    let bytes : List ℕ = c.loop-k.rest.now in
    let r : ItemRecord = get_or old k no_item in
    let inside : k < length old = omega (arith, c.loop-k-test.true, c.len-k-end.ensures.count) in
    let within : k < length work = omega (arith, inside, c.loop-k.invariant.size) in
    let same : get_or work k no_item ≡ r = get-others k work old no_item within inside c.loop-k.invariant.others in
    let here : c.item.result.now ≡ r = sym (get_or_from_slice_get work k _ no_item c.item.ensures) ∙ same in
    let there : c.item_mut.result.now ≡ r
    = sym (get_or_from_slice_get work k _ no_item c.item_mut.ensures.value) ∙ same in
    let made : c.fill_item.new.item ≡ filled_item bytes r
    = c.fill_item.ensures ∙ ap (λ (x : ItemRecord). filled_item bytes x) there in
    let rest : c.left_by-behind.result.now ≡ left_by bytes r
    = c.left_by-behind.ensures ∙ ap (λ (x : ItemRecord). left_by bytes x) here in
    let later : take (k + 1) (set work k c.fill_item.new.item) ≡ take k work ++ filled_item bytes r ∷ []
    = take-made k work c.fill_item.new.item within ∙ ap (λ (x : ItemRecord). take k work ++ x ∷ []) made in
    record {
      size = length-set work k c.fill_item.new.item ∙ c.loop-k.invariant.size;
      others = drop-made k work old c.fill_item.new.item within inside c.loop-k.invariant.others;
      goes_on = ap (λ (bs : List ℕ). take (k + 1) (set work k c.fill_item.new.item) ++ filled bs (drop (k + 1) old))
          rest
          ∙ fills_on c.args.image.now bytes old (take k work) (take (k + 1) (set work k c.fill_item.new.item)) k
          no_item inside
          c.loop-k.invariant.goes_on later;
    }

pub returns : goal.returns
returns c =
    let past : length c.args.work.now ≤ c.loop-k.k =
    omega (arith, c.loop-k-test.false, c.len-k-end.ensures.count) in
    sym (take-past c.loop-k.k c.loop-k.work (omega (arith, past, c.loop-k.invariant.size)))
    ∙ fills_all c.args.image.now c.loop-k.rest.now c.args.work.now (take c.loop-k.k c.loop-k.work) c.loop-k.k
    past c.loop-k.invariant.goes_on
