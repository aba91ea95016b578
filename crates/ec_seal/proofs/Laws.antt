-- The laws that crates above cite: that what is taken on a trip is its own.
use Rattle.std.specs.Prelude.{◌≡◌, ℕ, false, List, IfSome}
use Rattle.std.specs.List.{AllByRecursion}
use Rattle.ec_wire.specs.Datagram.{DatagramRecord}
use Rattle.ec_wire.specs.Spelling.{IsFrameValue}
use Rattle.ec_esc.specs.State.{ControllerState, IsController}
use Rattle.ec_line.specs.Moving.{Visit, copy_a, copy_b}
use Rattle.ec_line.specs.Trip.{Trip}
use Rattle.ec_ring.specs.Travel.{travelled}
use Rattle.ec_ring.specs.declared.weather.Came.{Came}
use Rattle.ec_ring.specs.declared.weather.Weather.{Weather}
use Rattle.ec_number.specs.Number.{opened}
use Rattle.ec_seal.specs.Moving.{MeetsMoving}
use Rattle.ec_seal.specs.Taken.{Made, IsMade, Meets, losing}
use Rattle.ec_seal.specs.Trips.{CountersFit, numbered_trip, both_opened}
use Rattle.ec_seal.proofs.CarryLemmas as carry
use Rattle.ec_seal.proofs.MovingLemmas as moving
use Rattle.ec_seal.proofs.TakenLemmas as taking
use Rattle.ec_seal.proofs.WalkLemmas as walks

-- the counters of every frame have 16 bits
pub frame_counters : (ds : List DatagramRecord) → IsFrameValue ds → CountersFit ds
frame_counters ds is = carry.fit_counters ds is.fits

-- a trip with a number leaves controllers
pub numbered_is : (n : ℕ) (w : Weather) (ds : List DatagramRecord) (line : List ControllerState)
    → AllByRecursion IsController line
    → AllByRecursion IsController (numbered_trip n w ds line).line
numbered_is = walks.numbered_is

-- what is taken, opened, is what a trip of the frame brings that loses what was not taken
pub brings_own : (m : Made) (taken : Came) → Meets m taken
    → both_opened taken ≡ (travelled (losing taken m.weather) m.frame m.line).came
brings_own = taking.brings_own

-- that trip leaves the line as the numbered one has left it
pub line_behind : (m : Made) (taken : Came) → IsMade m
    → (travelled (losing taken m.weather) m.frame m.line).line
    ≡ (numbered_trip m.number m.weather m.frame m.line).line
line_behind = taking.line_behind

-- copy A that is taken over a line that moves is the trip's own
pub taken_moving_a : (n : ℕ) (t : Trip) (vs : List Visit) (taken : Came) → MeetsMoving n t vs taken
    → IfSome taken.a (λ (copy : List DatagramRecord).
    (t.lost_a ≡ false) × (opened copy ≡ (copy_a t vs).frame))
taken_moving_a = moving.taken_moving_a

-- and copy B
pub taken_moving_b : (n : ℕ) (t : Trip) (vs : List Visit) (taken : Came) → MeetsMoving n t vs taken
    → IfSome taken.b (λ (copy : List DatagramRecord).
    (t.lost_b ≡ false) × (opened copy ≡ (copy_b t vs).frame))
taken_moving_b = moving.taken_moving_b
