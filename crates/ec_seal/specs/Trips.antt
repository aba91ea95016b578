-- A trip whose two copies go out each under a number of its own (IEC 61158-4-12, the datagram structure and
-- NOP), and walks and trips with the numbers taken off again.
use Rattle.std.specs.Prelude.{◌<◌, ℕ, if◌then◌else◌, List}
use Rattle.std.specs.List.{AllByRecursion}
use Rattle.std.specs.Option.{option_map}
use Rattle.ec_wire.specs.Datagram.{DatagramRecord}
use Rattle.ec_esc.specs.State.{ControllerState}
use Rattle.ec_ring.specs.Travel.{Travelled, came_of}
use Rattle.ec_ring.specs.Walk.{Walked, walked_from_a, walked_from_b}
use Rattle.ec_ring.specs.declared.port.Port.{Port}
use Rattle.ec_ring.specs.declared.weather.Came.{Came}
use Rattle.ec_ring.specs.declared.weather.Weather.{Weather}
use Rattle.ec_number.specs.Number.{numbered, opened, number_a, number_b}

-- each counter has 16 bits, as those of every frame have
abbrev pub CountersFit : List DatagramRecord → Type 0
CountersFit ds = AllByRecursion (λ (d : DatagramRecord). d.counter < 65536) ds

-- ---- two frames in place of one

-- a trip on which copy A is one frame and copy B another
abbrev pub two_a_first : Weather → List DatagramRecord → List DatagramRecord → List ControllerState
    → Travelled
two_a_first w sent_a sent_b line =
    let a = walked_from_a w.a sent_a line in
    let b = walked_from_b w.b sent_b a.line
    in record { came = record { a = came_of w.lost_a a; b = came_of w.lost_b b }; line = b.line }

abbrev pub two_b_first : Weather → List DatagramRecord → List DatagramRecord → List ControllerState
    → Travelled
two_b_first w sent_a sent_b line =
    let b = walked_from_b w.b sent_b line in
    let a = walked_from_a w.a sent_a b.line
    in record { came = record { a = came_of w.lost_a a; b = came_of w.lost_b b }; line = a.line }

unfoldable pub two_travelled : Weather → List DatagramRecord → List DatagramRecord → List ControllerState
    → Travelled
two_travelled w sent_a sent_b line =
    if w.b_first then two_b_first w sent_a sent_b line else two_a_first w sent_a sent_b line

-- the trip with a number of a frame, whose copies go out under its two numbers
abbrev pub numbered_trip : ℕ → Weather → List DatagramRecord → List ControllerState → Travelled
numbered_trip trip w sent line =
    two_travelled w (numbered (number_a trip) sent) (numbered (number_b trip) sent) line

-- ---- with the numbers taken off

-- a copy opened where it arrived
abbrev pub opened_arrival : List DatagramRecord × Port → List DatagramRecord × Port
opened_arrival x = (opened x.0, x.1)

abbrev pub opened_walk : Walked → Walked
opened_walk w = record { arrived = option_map opened_arrival w.arrived; line = w.line }

-- both copies
abbrev pub both_opened : Came → Came
both_opened came = record { a = option_map opened came.a; b = option_map opened came.b }

abbrev pub opened_trip : Travelled → Travelled
opened_trip t = record { came = both_opened t.came; line = t.line }
