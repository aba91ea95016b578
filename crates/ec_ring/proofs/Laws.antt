-- The laws that crates above cite: on the controllers of a ring, the links that a copy passes, and trips.
use Rattle.std.specs.Prelude.{◌≡◌, ℕ, List, length, ◌+◌, ◌≤◌, ◌<◌, true, false, None, Some}
use Rattle.std.proofs.Common.{arith}
use Rattle.ec_wire.specs.Datagram.{DatagramRecord}
use Rattle.ec_esc.specs.State.{ControllerState}
use Rattle.ec_line.specs.Trip.{front_pass, back_pass, passed}
use Rattle.ec_line.specs.After.{Entry}
use Rattle.ec_line.specs.Answered.{sent_of}
use Rattle.ec_app.specs.State.{SlaveState}
use Rattle.ec_ring.specs.Ring.{controllers, with_controllers, RingState, with_line}
use Rattle.ec_ring.specs.Links.{is_up, AreUp, IsOnlyDown, first_down, last_down}
use Rattle.ec_ring.specs.Reach.{front, back, arrival_a, arrival_b}
use Rattle.ec_ring.specs.declared.links.Links.{Links}
use Rattle.ec_ring.specs.Travel.{travelled, trip_of, as_trip}
use Rattle.ec_ring.specs.declared.weather.Weather.{Weather}
use Rattle.ec_ring.specs.Walk.{is_circulating, walked_from_a, walked_from_b}
use Rattle.ec_ring.proofs.LinkLemmas as cables
use Rattle.ec_ring.proofs.LinkLemmas.{IsFirst, IsLast}
use Rattle.ec_ring.proofs.RingLemmas as rings
use Rattle.ec_ring.proofs.PassLemmas as passes
use Rattle.ec_ring.proofs.ReachLemmas as reach
use Rattle.ec_ring.proofs.TravelLemmas as travels
use Rattle.ec_ring.proofs.TripLemmas as trips

-- ---- controllers

-- a ring has as many controllers as slaves
pub length-controllers : (ss : List SlaveState) → length (controllers ss) ≡ length ss
length-controllers = rings.length-controllers

-- slaves with other controllers are as many as they were
pub length-with_controllers : (ss : List SlaveState) (cs : List ControllerState)
    → length (with_controllers ss cs) ≡ length ss
length-with_controllers = rings.length-with_controllers

-- slaves with their own controllers are what they are
pub with_controllers-controllers : (ss : List SlaveState) → with_controllers ss (controllers ss) ≡ ss
with_controllers-controllers = passes.with_controllers-controllers

-- ---- links

-- under the same links no slave is passed by both copies
pub front-le-back : (links : Links) (n : ℕ) → front links n ≤ back links n
front-le-back = reach.front-le-back

-- where at most one link is down each slave is passed by one copy
pub front-is-back : (links : Links) (n k : ℕ) → IsOnlyDown links n k → front links n ≡ back links n
front-is-back = reach.front-is-back

-- a copy A that cannot start over its first link is processed by nobody
pub lost-front : (links : Links) (n : ℕ) → arrival_a links n ≡ None → front links n ≡ 0
lost-front = reach.lost-front

-- a copy B that cannot start over its first link is processed by nobody
pub lost-back : (links : Links) (n : ℕ) → arrival_b links n ≡ None → back links n ≡ n
lost-back = reach.lost-back

-- where no first link is found down all links of the line are up
pub no-first_down : (links : Links) (n : ℕ) → first_down links (n + 1) ≡ None → AreUp links 0 n
no-first_down links n none = λ k from to. cables.first_down-none links (n + 1) none k (omega (arith, to))

-- where no last link is found down all links of the line are up
pub no-last_down : (links : Links) (n : ℕ) → last_down links (n + 1) ≡ None → AreUp links 0 n
no-last_down links n none = λ k from to. cables.last_down-none links (n + 1) none k (omega (arith, to))

-- the first link that is found down is one of the line, it is down, and those before it are up
pub is-first_down : (links : Links) (n k : ℕ) → first_down links (n + 1) ≡ Some k
    → (k ≤ n) × (is_up links k ≡ false) × ((j : ℕ) → j < k → is_up links j ≡ true)
is-first_down links n k found =
    let first : IsFirst links (n + 1) k = cables.first_down-some links (n + 1) k found in
    (omega (arith, first.below), first.down, first.up)

-- the last link that is found down is one of the line, it is down, and those behind it are up
pub is-last_down : (links : Links) (n k : ℕ) → last_down links (n + 1) ≡ Some k
    → (k ≤ n) × (is_up links k ≡ false) × ((j : ℕ) → k < j → j ≤ n → is_up links j ≡ true)
is-last_down links n k found =
    let last : IsLast links (n + 1) k = cables.last_down-some links (n + 1) k found in
    (omega (arith, last.below), last.down, λ j after to. last.up j after (omega (arith, to)))

-- ---- trips

-- a copy that passes the first slaves leaves as many controllers as there were
pub length-front_pass : (n : ℕ) (line : List ControllerState) (f : List DatagramRecord)
    → length (front_pass n line f).line ≡ length line
length-front_pass = travels.length-front_pass

-- a copy that passes the last slaves leaves as many controllers as there were
pub length-back_pass : (n : ℕ) (line : List ControllerState) (f : List DatagramRecord)
    → length (back_pass n line f).line ≡ length line
length-back_pass = travels.length-back_pass

-- the way of copy A leaves as many controllers as there were
pub length-walked_from_a : (links : Links) (f : List DatagramRecord) (line : List ControllerState)
    → length (walked_from_a links f line).line ≡ length line
length-walked_from_a = travels.length-walked_from_a

-- the way of copy B leaves as many controllers as there were
pub length-walked_from_b : (links : Links) (f : List DatagramRecord) (line : List ControllerState)
    → length (walked_from_b links f line).line ≡ length line
length-walked_from_b = travels.length-walked_from_b

-- the controllers that the first copy leaves are the line that the second one passes
pub line-between : (r s : RingState) (line : List ControllerState) → s ≡ with_line r line
    → length line ≡ length (controllers r.slaves)
    → controllers s.slaves ≡ line
line-between = travels.line-between

-- the controllers that the second copy leaves stand in the place of those of the first
pub with_line-between : (r s : RingState) (line later : List ControllerState) → s ≡ with_line r line
    → length line ≡ length later
    → with_line s later ≡ with_line r later
with_line-between = travels.with_line-between

-- a trip of a frame whose first circulating bit is not set is one over pieces of the line
pub travelled-trip : (w : Weather) (es : List Entry) (line : List ControllerState)
    → is_circulating (sent_of es) ≡ false → let t = trip_of w es (length line)
    in travelled w (sent_of es) line ≡ as_trip t (passed t line)
travelled-trip = trips.travelled-trip
