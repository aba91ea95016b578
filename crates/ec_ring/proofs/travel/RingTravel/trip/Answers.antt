-- The second copy finds the controllers that the first one left.
use Rattle.std.proofs.Common.{List, sym, refl}
use Rattle.ec_esc.specs.State.{ControllerState}
use Rattle.ec_ring.specs.Ring.{controllers}
use Rattle.ec_ring.specs.Travel.{travelled}
use Rattle.ec_ring.specs.Walk.{Walked, walked_from_a, walked_from_b}
use Rattle.ec_ring.proofs.TravelLemmas.{length-walked_from_a, length-walked_from_b}
use Rattle.ec_ring.proofs.TravelLemmas.{line-between, with_line-between}
use Rattle.ec_ring.proofs.travel.RingTravel.trip.Goals as goal

pub returns-then-weather-clause-came : goal.returns-then-weather-clause-came
unfolding travelled
returns-then-weather-clause-came c =
    let line : List ControllerState = controllers c.args.self.now.slaves in
    let b : Walked = walked_from_b c.args.weather.now.b c.args.sent.now line in
    let between = line-between c.args.self.now c.send-b.new.self b.line c.send-b.ensures.ring
    (length-walked_from_b c.args.weather.now.b c.args.sent.now line) in
    rw (c.if-weather.true, c.send-a.ensures.came, c.send-b.ensures.came, between) refl

pub returns-then-weather-clause-ring : goal.returns-then-weather-clause-ring
unfolding travelled
returns-then-weather-clause-ring c =
    let line : List ControllerState = controllers c.args.self.now.slaves in
    let b : Walked = walked_from_b c.args.weather.now.b c.args.sent.now line in
    let between = line-between c.args.self.now c.send-b.new.self b.line c.send-b.ensures.ring
    (length-walked_from_b c.args.weather.now.b c.args.sent.now line) in
    let a : Walked = walked_from_a c.args.weather.now.a c.args.sent.now b.line in
    let over = with_line-between c.args.self.now c.send-b.new.self b.line a.line c.send-b.ensures.ring
    (sym (length-walked_from_a c.args.weather.now.a c.args.sent.now b.line)) in
    rw (c.if-weather.true, c.send-a.ensures.ring, between) over

pub returns-else-weather-clause-came : goal.returns-else-weather-clause-came
unfolding travelled
returns-else-weather-clause-came c =
    let line : List ControllerState = controllers c.args.self.now.slaves in
    let a : Walked = walked_from_a c.args.weather.now.a c.args.sent.now line in
    let between = line-between c.args.self.now c.send-a-else-weather.new.self a.line
    c.send-a-else-weather.ensures.ring
    (length-walked_from_a c.args.weather.now.a c.args.sent.now line) in
    rw (c.if-weather.false, c.send-a-else-weather.ensures.came)
    (rw (c.send-b-else-weather.ensures.came, between) refl)

pub returns-else-weather-clause-ring : goal.returns-else-weather-clause-ring
unfolding travelled
returns-else-weather-clause-ring c =
    let line : List ControllerState = controllers c.args.self.now.slaves in
    let a : Walked = walked_from_a c.args.weather.now.a c.args.sent.now line in
    let between = line-between c.args.self.now c.send-a-else-weather.new.self a.line
    c.send-a-else-weather.ensures.ring
    (length-walked_from_a c.args.weather.now.a c.args.sent.now line) in
    let b : Walked = walked_from_b c.args.weather.now.b c.args.sent.now a.line in
    let over = with_line-between c.args.self.now c.send-a-else-weather.new.self a.line b.line
    c.send-a-else-weather.ensures.ring
    (sym (length-walked_from_b c.args.weather.now.b c.args.sent.now a.line)) in
    rw (c.if-weather.false, c.send-b-else-weather.ensures.ring, between) over
