use Rattle.ec_map.specs.Item.{items_by}
use Rattle.ec_map.proofs.CoveredLemmas.{IsLowest-run}
use Rattle.ec_map.proofs.covered.lowest_gap.Goals as goal

pub returns : goal.returns
returns g c =
    IsLowest-run c.args.fmmu.now c.args.way (items_by g.I.Asking.item c.args.items.now) c.lowest_unasked.result
    (rw (← c.first_logical-from.ensures.value, ← c.mapped_bits.ensures.value, ← c.from.ensures)
    c.lowest_unasked.ensures)
