use Rattle.std.proofs.Common.{◌≡◌, ◌<◌, ℕ, sym, subst, arith, List, [], ◌∷◌, length, take, get_or}
use Rattle.std.specs.List.{AllByRecursion}
use Rattle.std.proofs.lemmas.Option.{get_or_from_slice_get}
use Rattle.ec_regs.proofs.Laws.{each-append}
use Rattle.ec_check.specs.Line.{controllers}
use Rattle.ec_map.specs.Item.{ItemRecord}
use Rattle.ec_map.specs.Place.{IsPlaced}
use Rattle.ec_master.specs.Work.{no_item}
use Rattle.ec_master.proofs.WorkLemmas.{take-one_more}
use Rattle.ec_master.proofs.acceptance.place_items.Goals as goal

pub loop-k-preserved : goal.loop-k-preserved
loop-k-preserved c =
    let k : ℕ = c.loop-k.k in
    let items : List ItemRecord = c.args.work.now in
    let P : ItemRecord → Type 0 = λ r. IsPlaced (controllers c.args.line.now) r in
    let item : c.item.result.now ≡ get_or items k no_item =
    sym (get_or_from_slice_get items k _ no_item c.item.ensures) in
    let inside : k < length items = omega (arith, c.loop-k-test.true, c.len-k-end.ensures.count) in
    subst (λ (rs : List ItemRecord). AllByRecursion P rs) (take-one_more k items no_item inside)
    (each-append P (take k items) (get_or items k no_item ∷ []) c.loop-k.invariant
    (subst P item c.in-Ok.ensures.accepted, tt))
