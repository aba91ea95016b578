-- Both copies are joined, and they are those of the trip.
use Rattle.std.proofs.Common.{◌∙◌, ℕ, ap}
use Rattle.ec_merge.proofs.Laws.{own_no_fault}
use Rattle.ec_line.specs.Trip.{joined_of, passed}
use Rattle.ec_ring.specs.Ring.{RingState, line_of}
use Rattle.ec_ring.specs.Travel.{trip_of}
use Rattle.ec_ring.specs.declared.weather.Weather.{Weather}
use Rattle.ec_ring.specs.declared.weather.Came.{Came}
use Rattle.ec_ring.proofs.Laws.{length-controllers}
use Rattle.ec_master.proofs.CarryLemmas.{carried, ring_carried}
use Rattle.ec_master.proofs.ring.carry.Goals as goal

pub returns-in-Ok-clause-joined : goal.returns-in-Ok-clause-joined
returns-in-Ok-clause-joined g c es frame =
    let r : RingState = g.T.Travel.ring c.args.ring.now in
    let sent = c.args.sent.now in
    let w : Weather = c.args.weather.now in
    let is_a = c.as_ref.ensures.value ∙ ap (λ (x : Came). x.a) c.trip-came.ensures.came in
    let is_b = c.as_ref-2.ensures.value ∙ ap (λ (x : Came). x.b) c.trip-came.ensures.came in
    let by = carried w es sent (line_of r) _ _ frame is_a is_b in
    c.in-Ok.ensures.joined ∙ by.joined
    ∙ ap (λ (n : ℕ). joined_of (trip_of w es n) (passed (trip_of w es n) (line_of r)))
    (length-controllers r.slaves)

pub returns-in-Ok-clause-ring : goal.returns-in-Ok-clause-ring
returns-in-Ok-clause-ring g c es frame =
    c.trip-came.ensures.ring
    ∙ ring_carried (g.T.Travel.ring c.args.ring.now) c.args.weather.now es c.args.sent.now frame

pub returns-in-Err-clause-joined : goal.returns-in-Err-clause-joined
returns-in-Err-clause-joined g c es frame =
    let r : RingState = g.T.Travel.ring c.args.ring.now in
    let sent = c.args.sent.now in
    let w : Weather = c.args.weather.now in
    let is_a = c.as_ref.ensures.value ∙ ap (λ (x : Came). x.a) c.trip-came.ensures.came in
    let is_b = c.as_ref-2.ensures.value ∙ ap (λ (x : Came). x.b) c.trip-came.ensures.came in
    let by = carried w es sent (line_of r) _ _ frame is_a is_b in
    absurd (own_no_fault sent _ _ by.own_a by.own_b _ c.in-Err.ensures.fault)

pub returns-in-Err-clause-ring : goal.returns-in-Err-clause-ring
returns-in-Err-clause-ring g c es frame =
    c.trip-came.ensures.ring
    ∙ ring_carried (g.T.Travel.ring c.args.ring.now) c.args.weather.now es c.args.sent.now frame
