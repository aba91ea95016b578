use Rattle.std.proofs.Common.{◌≡◌, ◌<◌, true, false, below_more, refl, arith}
use Rattle.std.proofs.lemmas.Bool.{both_ways}
use Rattle.ec_regs.specs.declared.registers.TheConstants.{FMMU_COUNT}
use Rattle.ec_check.proofs.Laws.{length-controllers_by}
use Rattle.ec_map.proofs.written.maps_some.Goals as goal

pub loop-number-preserved : goal.loop-number-preserved
loop-number-preserved g c =
    below_more _ _ c.loop-number.invariant
    (λ has. both_ways c.maps_run.result c.if-maps_run.false
    (c.maps_run.ensures.1 (rw c.fmmu_of.ensures has)))

pub returns-then-maps_run : goal.returns-then-maps_run
returns-then-maps_run g c = (
  λ _. record {
    fmmu = c.loop-number.number;
    there = record {
      slave_there = omega (arith, length-controllers_by g.S.Mapped.controller c.args.line.now);
      number_there = omega arith;
    };
    through = rw (← c.fmmu_of.ensures, ← c.bits_of-physical.ensures) (c.maps_run.ensures.0 c.if-maps_run.true);
  },
  λ _. refl,
)

pub returns : goal.returns
returns g c = (
  λ (never : false ≡ true). absurd (cc),
  λ has. let below : has.fmmu < FMMU_COUNT = has.there.number_there in
      absurd (c.loop-number.invariant has.fmmu (omega arith) (rw c.bits_of-physical.ensures has.through)),
)
