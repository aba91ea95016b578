use Rattle.std.proofs.Common.{◌+◌, Some, sym, ap, ◌∙◌, arith}
use Rattle.ec_regs.specs.Pairs.{first_logical, first_physical, pair_count}
use Rattle.ec_regs.proofs.PairLemmas.{partner_before, partner_inside, partner_behind}
use Rattle.ec_regs.proofs.fmmu.Fmmu.logical_of.Goals as goal
use Rattle.ec_regs.proofs.fmmu.Fmmu.logical_of.Goals.{then-physical-first-via-then-physical-first}
use Rattle.ec_regs.proofs.fmmu.Fmmu.logical_of.Goals.{then-physical-first-via-else-physical-first+then-physical-first-2}

pub returns-then-physical-first-clause-value : goal.returns-then-physical-first-clause-value
returns-then-physical-first-clause-value c =
    let f = c.args.self.now in
    elim c.then-physical-first.branch [
      | then-physical-first-via-then-physical-first w ↦
          sym (partner_before (first_physical f) (first_logical f) (pair_count f) c.args.physical
          (omega arith))
      | then-physical-first-via-else-physical-first+then-physical-first-2 w ↦
          sym (partner_behind (first_physical f) (first_logical f) (pair_count f) c.args.physical
          (omega arith))
    ]

pub returns-clause-value : goal.returns-clause-value
returns-clause-value c =
    let f = c.args.self.now in
    let place = c.from.result in
    ap (λ first. Some (first + place)) c.first_logical.ensures.value
    ∙ sym (partner_inside (first_physical f) (first_logical f) (pair_count f) c.args.physical place
    (omega arith) (omega arith))
