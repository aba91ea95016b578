use Rattle.std.proofs.Common.{◌≡◌, ◌<◌, ℕ, ◌∙◌, arith, ap, sym, add-one, List, length, get_or}
use Rattle.std.proofs.lemmas.Option.{get_or_from_slice_get}
use Rattle.ec_map.specs.Item.{ItemRecord}
use Rattle.ec_master.specs.Work.{no_item}
use Rattle.ec_master.proofs.WorkLemmas.{set-taken, length-taken, taken-all}
use Rattle.ec_master.proofs.work.Work.fill.Goals as goal

pub item_mut-requires : goal.item_mut-requires
item_mut-requires c =
    omega (
      arith,
      c.loop-k-test.true,
      c.len-k-end.ensures.count,
      ap length c.loop-k.invariant,
      length-taken c.loop-k.k c.args.self.now c.args.other.now c.requires,
    )

pub loop-k-preserved : goal.loop-k-preserved
loop-k-preserved c =
    let k : ℕ = c.loop-k.k in
    let old : List ItemRecord = c.args.self.now in
    let other : List ItemRecord = c.args.other.now in
    let inside : k < length other = omega (arith, c.loop-k-test.true, c.len-k-end.ensures.count) in
    let item : c.assign.new.self ≡ get_or other k no_item
    = c.assign.ensures ∙ sym (get_or_from_slice_get other k _ no_item c.item.ensures) in
    rw (c.loop-k.invariant, item, add-one k) (set-taken k old other no_item inside c.requires)

pub returns : goal.returns
returns c =
    c.loop-k.invariant
    ∙ taken-all c.loop-k.k c.args.self.now c.args.other.now c.requires
    (omega (arith, c.loop-k-test.false, c.len-k-end.ensures.count))
