use Rattle.std.proofs.Common.{◌≡◌, ◌-◌, arith}
use Rattle.std.proofs.lemmas.Result.{err_from_is_err_and}
use Rattle.ec_services.specs.Surely.{asking}
use Rattle.ec_services.proofs.CourseLemmas.{keeps_on, tells, faults, ends}
use Rattle.ec_services.proofs.surely.run.Goals as goal

pub returns-in_err-mail-clause-runs : goal.returns-in_err-mail-clause-runs
returns-in_err-mail-clause-runs g c =
    let p = err_from_is_err_and c.from_residual.result c.from_residual.ensures.1 in
    rw (p.1, p.2)
    (faults g.P.Ports.trips (asking c.args.asked.now) c.args.ports.now
    c.loop-trip.ports c.trip.new.ports c.args.progress.now c.loop-trip.progress
    c.trip.new.progress c.args.trips
    c.loop-trip._trip c.in_err-mail.field-0.0 c.loop-trip.invariant.keeps_on c.loop-trip-test.true
    c.in_err-mail.ensures.step)

pub returns-in-Some-clause-runs : goal.returns-in-Some-clause-runs
returns-in-Some-clause-runs g c =
    tells g.P.Ports.trips (asking c.args.asked.now) c.args.ports.now
    c.loop-trip.ports c.trip.new.ports c.args.progress.now c.loop-trip.progress
    c.trip.new.progress c.args.trips
    c.loop-trip._trip c.in-Some.mail c.loop-trip.invariant.keeps_on c.loop-trip-test.true
    (rw (← c.in-Some.is) c.in_ok-mail.ensures.step)

pub loop-trip-preserved : goal.loop-trip-preserved
loop-trip-preserved g c = record {
  peer = c.trip.ensures.peer;
  counted = omega (arith, c.loop-trip.invariant.counted, c.trip.ensures.never_lower);
  keeps_on = keeps_on g.P.Ports.trips (asking c.args.asked.now) c.args.ports.now c.loop-trip.ports
      c.trip.new.ports c.args.progress.now c.loop-trip.progress c.trip.new.progress
      c.args.trips c.loop-trip._trip
      c.loop-trip.invariant.keeps_on c.loop-trip-test.true
      (rw (← c.in-None.is) c.in_ok-mail.ensures.step);
}

pub returns-clause-runs : goal.returns-clause-runs
returns-clause-runs g c =
    ends g.P.Ports.trips (asking c.args.asked.now) c.args.ports.now c.loop-trip.ports
    c.args.progress.now c.loop-trip.progress c.args.trips (c.args.trips - c.loop-trip._trip)
    c.loop-trip.invariant.keeps_on
    (let e : c.args.trips - c.loop-trip._trip ≡ 0 = omega (arith, c.loop-trip-test.false) in e)
