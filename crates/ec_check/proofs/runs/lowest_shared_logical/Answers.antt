use Rattle.std.proofs.Common.{◌+◌, ◌<◌, ◌≤◌, arith}
use Rattle.ec_regs.specs.Pairs.{first_logical, pair_count}
use Rattle.ec_check.proofs.RunLemmas.{IsInRun-MapsLogical, IsLowest-logical}
use Rattle.ec_check.proofs.runs.lowest_shared_logical.Goals as goal

pub returns-then-other_from-from : goal.returns-then-other_from-from
returns-then-other_from-from c = λ l both.
    let f = c.args.first.now.record in
    let inside = IsInRun-MapsLogical f l both.0 in
    let to : l < first_logical f + pair_count f = inside.to in
    let other = IsInRun-MapsLogical c.args.second.now l both.1 in
    let from : first_logical c.args.second.now ≤ l = other.from in
    omega arith

pub returns : goal.returns
returns c =
    IsLowest-logical c.args.first.now.record c.args.second.now c.lowest_shared.result
    (rw (
      ← c.first_logical-from.ensures.value,
      ← c.first_logical-other_from.ensures.value,
      ← c.requires,
      ←
          c.mapped_bits.ensures.value,
    ) c.lowest_shared.ensures)
