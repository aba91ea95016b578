use Rattle.ec_check.proofs.RunLemmas.{IsLowest-physical}
use Rattle.ec_check.proofs.runs.lowest_shared_physical.Goals as goal

pub returns : goal.returns
returns c =
    IsLowest-physical c.args.first.now c.args.second.now c.lowest_shared.result
    (rw (
      ← c.first_physical.ensures.value,
      ← c.first_physical-2.ensures.value,
      ←
          c.mapped_bits.ensures.value,
      ← c.mapped_bits-2.ensures.value,
      ← c.from.ensures,
      ← c.from-2.ensures,
    )
    c.lowest_shared.ensures)
