-- The copies are those of the trip, each at the port of its reach.
use Rattle.std.proofs.Common.{ap, sym, ◌∙◌, List, length}
use Rattle.ec_esc.specs.State.{ControllerState}
use Rattle.ec_ring.specs.Arrivals.{copies_of}
use Rattle.ec_ring.specs.Ring.{controllers}
use Rattle.ec_ring.proofs.ArrivalLemmas.{copies-arrivals_of, arrivals_of-at_a, arrivals_of-at_b}
use Rattle.ec_ring.proofs.RingLemmas.{length-controllers}
use Rattle.ec_ring.proofs.ring.Ring.arrivals.Goals as goal

pub returns-clause-came : goal.returns-clause-came
returns-clause-came c =
    ap copies_of c.both.ensures.arrivals
    ∙ copies-arrivals_of c.args.weather.now c.args.sent.now (controllers c.args.self.now.slaves)

pub returns-clause-at_a : goal.returns-clause-at_a
returns-clause-at_a c x is =
    let line : List ControllerState = controllers c.args.self.now.slaves in
    let there = rw c.both.ensures.arrivals at is in
    rw (length-controllers c.args.self.now.slaves)
    at (arrivals_of-at_a c.args.weather.now c.args.sent.now line x there)

pub returns-clause-at_b : goal.returns-clause-at_b
returns-clause-at_b c x is =
    let line : List ControllerState = controllers c.args.self.now.slaves in
    let there = rw c.both.ensures.arrivals at is in
    rw (length-controllers c.args.self.now.slaves)
    at (arrivals_of-at_b c.args.weather.now c.args.sent.now line x there)
