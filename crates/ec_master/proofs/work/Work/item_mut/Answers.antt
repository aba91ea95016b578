use Rattle.std.proofs.Common.{◌≤◌, ◌<◌, ◌∙◌, arith, ap, sym, refl, length, set, List}
use Rattle.std.specs.List.{slice_get}
use Rattle.std.proofs.Math.Seq.{take-set-lt}
use Rattle.std.proofs.lemmas.List.{length-take-le}
use Rattle.ec_map.specs.Item.{ItemRecord}
use Rattle.ec_master.proofs.WorkLemmas.{front-get}
use Rattle.ec_master.proofs.work.Work.item_mut.Goals as goal

pub offset_bounds-self-inside-k : goal.offset_bounds-self-inside-k
offset_bounds-self-inside-k c =
    omega (arith, c.requires, c.len-count.ensures.count, c.len-count.ensures.limit, ap length c.self.view_is)

pub returns : goal.returns
returns c =
    let items = c.self.inside.items in
    let count = c.self.inside.count in
    let k = c.args.k in
    let room : count ≤ length items = omega (arith, c.self.invariant.0, c.self.invariant.1) in
    let below : k < count =
    omega (arith, c.requires, ap length c.self.view_is, length-take-le count items room) in (
      (
        refl,
        λ w. take-set-lt count items k w below
            ∙ ap (λ (xs : List ItemRecord). set xs k w) c.self.view_is,
      ),
      record {
        writes_back = tt;
        value = ap (λ (xs : List ItemRecord). slice_get xs k) (sym c.self.view_is)
            ∙ front-get count items k _ room below;
      },
    )
