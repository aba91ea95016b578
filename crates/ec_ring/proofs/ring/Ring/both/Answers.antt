-- The second copy finds the controllers that the first one left.
use Rattle.std.proofs.Common.{List, sym, refl}
use Rattle.ec_esc.specs.State.{ControllerState}
use Rattle.ec_ring.specs.Arrivals.{arrivals_of}
use Rattle.ec_ring.specs.Ring.{controllers}
use Rattle.ec_ring.specs.Travel.{travelled}
use Rattle.ec_ring.specs.Walk.{Walked, walked_from_a, walked_from_b}
use Rattle.ec_ring.proofs.TravelLemmas.{length-walked_from_a, length-walked_from_b}
use Rattle.ec_ring.proofs.TravelLemmas.{line-between, with_line-between}
use Rattle.ec_ring.proofs.ring.Ring.both.Goals as goal

pub returns-then-weather-clause-arrivals : goal.returns-then-weather-clause-arrivals
unfolding travelled arrivals_of
returns-then-weather-clause-arrivals c =
    let line : List ControllerState = controllers c.args.self.now.slaves in
    let b : Walked = walked_from_b c.args.weather.now.b c.args.sent.now line in
    let between = line-between c.args.self.now c.send_heard-b.new.self b.line c.send_heard-b.ensures.ring
    (length-walked_from_b c.args.weather.now.b c.args.sent.now line) in
    rw (c.if-weather.true, c.send_heard-a.ensures.arrived, c.send_heard-b.ensures.arrived, between) refl

pub returns-then-weather-clause-ring : goal.returns-then-weather-clause-ring
unfolding travelled arrivals_of
returns-then-weather-clause-ring c =
    let line : List ControllerState = controllers c.args.self.now.slaves in
    let b : Walked = walked_from_b c.args.weather.now.b c.args.sent.now line in
    let between = line-between c.args.self.now c.send_heard-b.new.self b.line c.send_heard-b.ensures.ring
    (length-walked_from_b c.args.weather.now.b c.args.sent.now line) in
    let a : Walked = walked_from_a c.args.weather.now.a c.args.sent.now b.line in
    let over = with_line-between c.args.self.now c.send_heard-b.new.self b.line a.line
    c.send_heard-b.ensures.ring
    (sym (length-walked_from_a c.args.weather.now.a c.args.sent.now b.line)) in
    rw (c.if-weather.true, c.send_heard-a.ensures.ring, between) over

pub returns-else-weather-clause-arrivals : goal.returns-else-weather-clause-arrivals
unfolding travelled arrivals_of
returns-else-weather-clause-arrivals c =
    let line : List ControllerState = controllers c.args.self.now.slaves in
    let a : Walked = walked_from_a c.args.weather.now.a c.args.sent.now line in
    let between = line-between c.args.self.now c.send_heard-a-else-weather.new.self a.line
    c.send_heard-a-else-weather.ensures.ring
    (length-walked_from_a c.args.weather.now.a c.args.sent.now line) in
    rw (c.if-weather.false, c.send_heard-a-else-weather.ensures.arrived)
    (rw (c.send_heard-b-else-weather.ensures.arrived, between) refl)

pub returns-else-weather-clause-ring : goal.returns-else-weather-clause-ring
unfolding travelled arrivals_of
returns-else-weather-clause-ring c =
    let line : List ControllerState = controllers c.args.self.now.slaves in
    let a : Walked = walked_from_a c.args.weather.now.a c.args.sent.now line in
    let between = line-between c.args.self.now c.send_heard-a-else-weather.new.self a.line
    c.send_heard-a-else-weather.ensures.ring
    (length-walked_from_a c.args.weather.now.a c.args.sent.now line) in
    let b : Walked = walked_from_b c.args.weather.now.b c.args.sent.now a.line in
    let over = with_line-between c.args.self.now c.send_heard-a-else-weather.new.self a.line b.line
    c.send_heard-a-else-weather.ensures.ring
    (sym (length-walked_from_b c.args.weather.now.b c.args.sent.now a.line)) in
    rw (c.if-weather.false, c.send_heard-b-else-weather.ensures.ring, between) over
