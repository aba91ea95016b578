use Rattle.std.proofs.Common.{◌+◌, arith, drop}
use Rattle.ec_run.specs.declared.step.Step.TheVariants.{Station}
use Rattle.ec_run.proofs.StepLemmas.{left_is, left_none, does_on, does_fault, does_all}
use Rattle.ec_run.proofs.phase.bring_slave.Goals as goal

pub returns-in-Err-clause-done : goal.returns-in-Err-clause-done
returns-in-Err-clause-done g c =
    does_fault g.P.Ports.trips c.args.ports.now c.loop-step.ports c.try_step.new.ports c.args.place
    c.args.wanted.now c.args.steps.now (drop c.loop-step.step-index c.args.steps.now)
    (drop (c.loop-step.step-index + 1) c.args.steps.now) _ c.in-Err.fault c.loop-step.invariant.does_on
    (left_is c.args.steps.now c.loop-step.step-index Station (omega (arith, c.loop-step-test.true)))
    c.in-Err.ensures.tried

pub loop-step-preserved : goal.loop-step-preserved
loop-step-preserved g c = record {
  counted = omega (arith, c.loop-step.invariant.counted, c.try_step.ensures.never_lower);
  does_on = does_on g.P.Ports.trips c.args.ports.now c.loop-step.ports c.try_step.new.ports c.args.place
      c.args.wanted.now c.args.steps.now (drop c.loop-step.step-index c.args.steps.now)
      (drop (c.loop-step.step-index + 1) c.args.steps.now) _ c.loop-step.invariant.does_on
      (left_is c.args.steps.now c.loop-step.step-index Station (omega (arith, c.loop-step-test.true)))
      c.in-Ok.ensures.tried;
}

pub returns-clause-done : goal.returns-clause-done
returns-clause-done g c =
    does_all g.P.Ports.trips c.args.ports.now c.loop-step.ports c.args.place c.args.wanted.now
    c.args.steps.now (drop c.loop-step.step-index c.args.steps.now) c.loop-step.invariant.does_on
    (left_none c.args.steps.now c.loop-step.step-index (omega (arith, c.loop-step-test.false)))
