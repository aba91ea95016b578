use Rattle.std.proofs.Common.{◌≡◌, ◌<◌, ◌∙◌, ℕ, ap, sym, arith, add-one, List, length, get_or}
use Rattle.std.proofs.lemmas.Option.{get_or_from_slice_get}
use Rattle.ec_map.specs.Item.{ItemRecord}
use Rattle.ec_master.specs.Work.{no_item}
use Rattle.ec_master.proofs.Laws.{set-changed, get-changed, length-changed}
use Rattle.ec_run.specs.Outputs.{numbered}
use Rattle.ec_run.proofs.outputs.number_all.Goals as goal

pub item_mut-requires : goal.item_mut-requires
item_mut-requires c =
    omega (
      arith,
      c.loop-k-test.true,
      c.len-k-end.ensures.count,
      ap length c.loop-k.invariant,
      length-changed (numbered c.args.number) c.loop-k.k c.args.work.now,
    )

pub loop-k-preserved : goal.loop-k-preserved
loop-k-preserved c =
    let k : ℕ = c.loop-k.k in
    let old : List ItemRecord = c.args.work.now in
    let f : ItemRecord → ItemRecord = numbered c.args.number in
    let same : c.item_mut.result.now ≡ get_or old k no_item
    = sym (get_or_from_slice_get c.loop-k.work k _ no_item c.item_mut.ensures.value)
    ∙ ap (λ (xs : List ItemRecord). get_or xs k no_item) c.loop-k.invariant
    ∙ get-changed f k old no_item in
    let inside : k < length old = omega (arith, c.loop-k-test.true, c.len-k-end.ensures.count) in
    let item : c.number_item.new.item ≡ f (get_or old k no_item) = c.number_item.ensures ∙ ap f same in
    rw (c.loop-k.invariant, item, add-one k) (set-changed f k old no_item inside)
