use Rattle.std.proofs.Common.{◌<◌, ◌/◌, ◌^◌, ◌-◌, ◌↔◌, ◌∙◌, sym, ap, subst, arith}
use Rattle.std.specs.Prelude.{bit_and}
use Rattle.std.proofs.lemmas.Int.{ints}
use Rattle.ec_regs.specs.Pairs.{pair_count, IsPair}
use Rattle.ec_regs.specs.declared.plan.Plan.{Plan}
use Rattle.ec_regs.specs.Plan.{Pairs, mask_from}
use Rattle.ec_regs.proofs.PlanLemmas.{Maps-pair_count, mask_from_is, mask_to_is, distance_is}
use Rattle.ec_regs.proofs.PlanLemmas.{mapped_plan_is, no_plan_is, Pairs-plan_of, taken_at_one}
use Rattle.ec_regs.proofs.PlanLemmas.{taken_elsewhere}
use Rattle.ec_regs.proofs.fmmu.Fmmu.plan.Goals as goal
use Rattle.ec_regs.proofs.fmmu.Fmmu.plan.Goals.{then-is_one_byte, else-is_one_byte, then-is_one_byte-2}
use Rattle.ec_regs.proofs.fmmu.Fmmu.plan.Goals.{else-is_one_byte-2}

pub returns-then-mapped_bits-eq0-clause-value : goal.returns-then-mapped_bits-eq0-clause-value
returns-then-mapped_bits-eq0-clause-value c = no_plan_is c.args.self.now
    (sym c.mapped_bits.ensures.value ∙ c.if-mapped_bits-eq0.true)

pub overflow_shl-first : goal.overflow_shl-first
overflow_shl-first c = (Maps-pair_count c.args.self.now (omega arith)).start

pub overflow_sub-last : goal.overflow_sub-last
overflow_sub-last c = omega (arith, (Maps-pair_count c.args.self.now (omega arith)).stop)

pub overflow_cast-result : goal.overflow_cast-result
overflow_cast-result c = omega (arith, ints, (Maps-pair_count c.args.self.now (omega arith)).bit)

pub overflow_cast-result-2 : goal.overflow_cast-result-2
overflow_cast-result-2 c = omega (arith, ints, (Maps-pair_count c.args.self.now (omega arith)).start)

pub overflow_sub-result : goal.overflow_sub-result
overflow_sub-result c =
    let maps = Maps-pair_count c.args.self.now (omega arith) in omega (arith, ints, maps.bit, maps.start)

pub returns-clause-value : goal.returns-clause-value
returns-clause-value c =
    let f = c.args.self.now in
    let some : 0 < pair_count f = omega arith in
    let maps = Maps-pair_count f some in
    let from = mask_from_is f.start maps.start in
    let to = mask_to_is f.stop maps.stop in
    let both = ap (λ m. bit_and m (255 / 2 ^ (7 - f.stop))) from ∙ ap (bit_and (mask_from f.start)) to in
    mapped_plan_is f c.if-is_one_byte.result c.if-is_one_byte-2.result _ some
    (elim c.if-is_one_byte.branch [
      | then-is_one_byte w ↦ w.result-is ∙ both ∙ taken_at_one f.length _ _ w.if-is_one_byte.true
      | else-is_one_byte w ↦ w.result-is ∙ from ∙ taken_elsewhere f.length _ _ w.if-is_one_byte.false
    ])
    (elim c.if-is_one_byte-2.branch [
      | then-is_one_byte-2 w ↦ w.result-is ∙ both ∙ taken_at_one f.length _ _ w.if-is_one_byte-2.true
      | else-is_one_byte-2 w ↦ w.result-is ∙ to ∙ taken_elsewhere f.length _ _ w.if-is_one_byte-2.false
    ])
    (distance_is f.bit f.start maps.bit maps.start)

pub returns-clause-pairs : goal.returns-clause-pairs
returns-clause-pairs c = λ l p.
    let P : Plan → Type 0 = λ plan. Pairs plan l p ↔ IsPair c.args.self.now l p in
    subst P (sym (returns-clause-value c)) (Pairs-plan_of c.args.self.now l p)
