use Rattle.std.proofs.Common.{◌+◌, ◌-◌, Some, sym, ap, ◌∙◌, arith}
use Rattle.ec_regs.specs.Pairs.{first_logical, first_physical, pair_count}
use Rattle.ec_regs.proofs.PairLemmas.{partner_before, partner_inside, partner_behind}
use Rattle.ec_regs.proofs.fmmu.Fmmu.physical_of.Goals as goal
use Rattle.ec_regs.proofs.fmmu.Fmmu.physical_of.Goals.{then-logical-first-via-then-logical-first}
use Rattle.ec_regs.proofs.fmmu.Fmmu.physical_of.Goals.{then-logical-first-via-else-logical-first+then-logical-first-2}

pub returns-then-logical-first-clause-value : goal.returns-then-logical-first-clause-value
returns-then-logical-first-clause-value c =
    let f = c.args.self.now in
    elim c.then-logical-first.branch [
      | then-logical-first-via-then-logical-first w ↦
          sym (partner_before (first_logical f) (first_physical f) (pair_count f) c.args.logical
          (omega arith))
      | then-logical-first-via-else-logical-first+then-logical-first-2 w ↦
          sym (partner_behind (first_logical f) (first_physical f) (pair_count f) c.args.logical
          (omega arith))
    ]

pub returns-clause-value : goal.returns-clause-value
returns-clause-value c =
    let f = c.args.self.now in
    let place = c.args.logical - c.first_logical-first.result in
    ap (λ first. Some (first + place)) c.first_physical.ensures.value
    ∙ sym (partner_inside (first_logical f) (first_physical f) (pair_count f) c.args.logical place
    (omega arith) (omega arith))
