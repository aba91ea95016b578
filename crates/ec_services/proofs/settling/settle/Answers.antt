use Rattle.std.proofs.Common.{◌≡◌, ◌-◌, arith}
use Rattle.std.proofs.lemmas.Result.{err_from_is_err_and}
use Rattle.ec_services.specs.Settling.{settling}
use Rattle.ec_services.specs.declared.settling.Mailboxes.TheVariants.{Unknown}
use Rattle.ec_services.proofs.CourseLemmas.{keeps_on, tells, faults, ends}
use Rattle.ec_services.proofs.settling.settle.Goals as goal

pub returns-in_err-settle_step-clause-service : goal.returns-in_err-settle_step-clause-service
returns-in_err-settle_step-clause-service g c =
    let p = err_from_is_err_and c.from_residual.result c.from_residual.ensures.1 in
    rw (p.1, p.2) (
      c.settle_step.new.known,
      faults g.P.Ports.trips (settling c.args.peer.now) c.args.ports.now
          c.loop-trip.ports c.settle_step.new.ports Unknown c.loop-trip.known c.settle_step.new.known c.args.limit
          c.loop-trip._trip c.in_err-settle_step.field-0.0 c.loop-trip.invariant.keeps_on c.loop-trip-test.true
          c.in_err-settle_step.ensures.step,
    )

pub returns-in-Some-clause-service : goal.returns-in-Some-clause-service
returns-in-Some-clause-service g c = (
  c.settle_step.new.known,
  tells g.P.Ports.trips (settling c.args.peer.now) c.args.ports.now
      c.loop-trip.ports c.settle_step.new.ports Unknown c.loop-trip.known c.settle_step.new.known c.args.limit
      c.loop-trip._trip tt c.loop-trip.invariant.keeps_on c.loop-trip-test.true
      (rw (← c.in-Some.is) c.in_ok-settle_step.ensures.step),
)

pub loop-trip-preserved : goal.loop-trip-preserved
loop-trip-preserved g c = record {
  counted = omega (arith, c.loop-trip.invariant.counted, c.settle_step.ensures.never_lower);
  keeps_on = keeps_on g.P.Ports.trips (settling c.args.peer.now) c.args.ports.now c.loop-trip.ports
      c.settle_step.new.ports Unknown c.loop-trip.known c.settle_step.new.known c.args.limit c.loop-trip._trip
      c.loop-trip.invariant.keeps_on c.loop-trip-test.true
      (rw (← c.in-None.is) c.in_ok-settle_step.ensures.step);
}

pub returns-clause-service : goal.returns-clause-service
returns-clause-service g c = (
  c.loop-trip.known,
  ends g.P.Ports.trips (settling c.args.peer.now) c.args.ports.now c.loop-trip.ports
      Unknown c.loop-trip.known c.args.limit (c.args.limit - c.loop-trip._trip)
      c.loop-trip.invariant.keeps_on
      (let e : c.args.limit - c.loop-trip._trip ≡ 0 = omega (arith, c.loop-trip-test.false) in e),
)
