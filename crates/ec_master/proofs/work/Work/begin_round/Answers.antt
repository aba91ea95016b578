use Rattle.std.proofs.Common.{◌≡◌, ◌<◌, ℕ, ◌∙◌, arith, ap, sym, add-one, List, length, get_or}
use Rattle.std.proofs.lemmas.Option.{get_or_from_slice_get}
use Rattle.ec_map.specs.Item.{ItemRecord, with_adp}
use Rattle.ec_master.specs.Rounds.{begun}
use Rattle.ec_master.specs.Work.{no_item}
use Rattle.ec_master.proofs.WorkLemmas.{set-changed, get-changed, length-changed}
use Rattle.ec_master.proofs.work.Work.begin_round.Goals as goal

pub item_mut-requires : goal.item_mut-requires
item_mut-requires c =
    omega (
      arith,
      c.loop-k-test.true,
      c.len-k-end.ensures.count,
      ap length c.loop-k.invariant,
      length-changed (begun c.args.round) c.loop-k.k c.args.self.now,
    )

pub loop-k-preserved : goal.loop-k-preserved
loop-k-preserved c =
    let k : ℕ = c.loop-k.k in
    let old : List ItemRecord = c.args.self.now in
    let f : ItemRecord → ItemRecord = begun c.args.round in
    let same : c.item_mut.result.now ≡ get_or old k no_item
    = sym (get_or_from_slice_get c.loop-k.self k _ no_item c.item_mut.ensures.value)
    ∙ ap (λ (xs : List ItemRecord). get_or xs k no_item) c.loop-k.invariant
    ∙ get-changed f k old no_item in
    let inside : k < length old = omega (arith, c.loop-k-test.true, c.len-k-end.ensures.count) in
    let item : c.begin_item.new.item ≡ f (get_or old k no_item)
    = c.begin_item.ensures
    ∙ ap (λ (n : ℕ). with_adp (record c.item_mut.result.now { counter = n }) 0) c.round_counter-counter.ensures
    ∙ ap f same in
    rw (c.loop-k.invariant, item, add-one k) (set-changed f k old no_item inside)
