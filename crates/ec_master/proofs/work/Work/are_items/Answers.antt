use Rattle.std.proofs.Common.{arith, sym, subst, below_more}
use Rattle.std.proofs.lemmas.List.Elements.{All-from_get_or, recursion_from_All}
use Rattle.std.proofs.lemmas.Option.{get_or_from_slice_get}
use Rattle.ec_map.specs.Item.{IsItem}
use Rattle.ec_master.specs.Work.{no_item}
use Rattle.ec_master.proofs.work.Work.are_items.Goals as goal

pub loop-k-preserved : goal.loop-k-preserved
loop-k-preserved c =
    below_more _ _ c.loop-k.invariant
    (subst IsItem (sym (get_or_from_slice_get c.args.self.now c.loop-k.k _ no_item c.item.ensures))
    c.len-length.ensures.item)

pub returns-clause-items : goal.returns-clause-items
returns-clause-items c =
    recursion_from_All IsItem c.args.self.now (All-from_get_or IsItem c.args.self.now no_item
    (λ i inside. c.loop-k.invariant i
    (omega (arith, inside, c.loop-k-test.false, c.len-k-end.ensures.count))))
