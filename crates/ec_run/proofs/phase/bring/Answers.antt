use Rattle.std.proofs.Common.{◌+◌, arith, drop}
use Rattle.std.proofs.lemmas.Result.{err_from_is_err_and}
use Rattle.ec_run.proofs.StepLemmas.{left_is, left_none, brings_on, brings_fault, brings_all}
use Rattle.ec_run.proofs.phase.bring.Goals as goal

pub returns-in_err-bring_slave-clause-brings : goal.returns-in_err-bring_slave-clause-brings
returns-in_err-bring_slave-clause-brings g c =
    let p = err_from_is_err_and c.from_residual.result c.from_residual.ensures.1 in
    rw (p.1, p.2)
    (brings_fault g.P.Ports.trips c.args.ports.now c.loop-wanted.ports c.bring_slave.new.ports c.args.first
    c.loop-wanted.place c.args.line.now (drop c.loop-wanted.wanted-index c.args.line.now)
    (drop (c.loop-wanted.wanted-index + 1) c.args.line.now) c.args.steps.now _
    c.in_err-bring_slave.field-0.0 c.loop-wanted.invariant.brings_on
    (left_is c.args.line.now c.loop-wanted.wanted-index _ (omega (arith, c.loop-wanted-test.true)))
    c.in_err-bring_slave.ensures.done)

pub loop-wanted-preserved : goal.loop-wanted-preserved
loop-wanted-preserved g c = record {
  place = omega (arith, c.loop-wanted.invariant.place);
  counted = omega (arith, c.loop-wanted.invariant.counted, c.bring_slave.ensures.never_lower);
  brings_on = brings_on g.P.Ports.trips c.args.ports.now c.loop-wanted.ports c.bring_slave.new.ports
      c.args.first c.loop-wanted.place c.args.line.now (drop c.loop-wanted.wanted-index c.args.line.now)
      (drop (c.loop-wanted.wanted-index + 1) c.args.line.now) c.args.steps.now _
      c.loop-wanted.invariant.brings_on
      (left_is c.args.line.now c.loop-wanted.wanted-index _ (omega (arith, c.loop-wanted-test.true)))
      c.in_ok-bring_slave.ensures.done;
}

pub returns-clause-brings : goal.returns-clause-brings
returns-clause-brings g c =
    brings_all g.P.Ports.trips c.args.ports.now c.loop-wanted.ports c.args.first c.loop-wanted.place
    c.args.line.now (drop c.loop-wanted.wanted-index c.args.line.now) c.args.steps.now
    c.loop-wanted.invariant.brings_on
    (left_none c.args.line.now c.loop-wanted.wanted-index (omega (arith, c.loop-wanted-test.false)))
