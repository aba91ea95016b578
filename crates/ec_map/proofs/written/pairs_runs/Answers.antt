use Rattle.std.proofs.Common.{◌≡◌, ◌<◌, true, false, below_more, refl, arith}
use Rattle.std.proofs.lemmas.Bool.{both_ways}
use Rattle.ec_regs.specs.declared.registers.TheConstants.{FMMU_COUNT}
use Rattle.ec_check.proofs.Laws.{length-controllers_by}
use Rattle.ec_map.proofs.written.pairs_runs.Goals as goal

pub loop-number-preserved : goal.loop-number-preserved
loop-number-preserved g c =
    below_more _ _ c.loop-number.invariant
    (λ has. both_ways c.pairs_through.result c.if-pairs_through.false
    (c.pairs_through.ensures.1 (rw c.fmmu_of.ensures has)))

pub returns-then-pairs_through : goal.returns-then-pairs_through
returns-then-pairs_through g c = (
  λ _. record {
    fmmu = c.loop-number.number;
    there = record {
      slave_there = omega (arith, length-controllers_by g.S.Mapped.controller c.args.line.now);
      number_there = omega arith;
    };
    through = rw (← c.fmmu_of.ensures) (c.pairs_through.ensures.0 c.if-pairs_through.true);
  },
  λ _. refl,
)

pub returns : goal.returns
returns g c = (
  λ (never : false ≡ true). absurd (cc),
  λ has. let below : has.fmmu < FMMU_COUNT = has.there.number_there in
      absurd (c.loop-number.invariant has.fmmu (omega arith) has.through),
)
