-- What is taken on a trip over a network that gives copies whenever and as often as it will, of this trip, of
-- others, of earlier runs and of other masters. It is asked only that what bears a number of this trip is one
-- of its two copies; whatever bears another number, or none, may come.
use Rattle.std.specs.Prelude.{◌≡◌, ◌⊎◌, ℕ, ◌^◌, ◌<◌, false, List, Some, IfSome, is_none}
use Rattle.std.specs.List.{AllByRecursion}
use Rattle.ec_wire.specs.Datagram.{DatagramRecord}
use Rattle.ec_esc.specs.State.{ControllerState, IsController}
use Rattle.ec_ring.specs.declared.weather.Came.{Came}
use Rattle.ec_ring.specs.declared.weather.Weather.{Weather}
use Rattle.ec_number.specs.Number.{Bears, CameUnder, number_a, number_b}
use Rattle.ec_seal.specs.Trips.{CountersFit, numbered_trip}

-- a trip that was made: its number, the frame, what befell its copies, and the line that they met
pub record Made : Type 0 where
  pub number : ℕ
  pub frame : List DatagramRecord
  pub weather : Weather
  pub line : List ControllerState

-- its number has 63 bits, its frame is one, and its line is of controllers
pub record IsMade (m : Made) : Type 0 where
  pub number : m.number < 2 ^ 63
  pub counters : CountersFit m.frame
  pub line : AllByRecursion IsController m.line

-- a weather in which no copy is lost on its last hop
abbrev pub none_lost : Weather → Weather
none_lost w = record w { lost_a = false; lost_b = false }

-- the two copies of a trip on their last hop, on which one may be lost, held back, or doubled
abbrev pub going_back : Made → Came
going_back m = (numbered_trip m.number (none_lost m.weather) m.frame m.line).came

-- a copy is one of a trip
abbrev pub GoesBack : Made → List DatagramRecord → Type 0
GoesBack m copy = ((going_back m).a ≡ Some copy) ⊎ ((going_back m).b ≡ Some copy)

-- it bears one of a trip's numbers
abbrev pub BearsOneOf : ℕ → List DatagramRecord → Type 0
BearsOneOf trip copy = Bears (number_a trip) copy ⊎ Bears (number_b trip) copy

-- what was taken on a trip: each came of what was sent, and if it bears a number of this trip it is one of
-- its two copies
pub record Meets (m : Made) (taken : Came) : Type 0 where
  pub made : IsMade m
  pub a : IfSome taken.a (λ (copy : List DatagramRecord).
      (BearsOneOf m.number copy → GoesBack m copy) × CameUnder (number_a m.number) m.frame copy)
  pub b : IfSome taken.b (λ (copy : List DatagramRecord).
      (BearsOneOf m.number copy → GoesBack m copy) × CameUnder (number_b m.number) m.frame copy)

-- a weather in which those copies are lost that were not taken
abbrev pub losing : Came → Weather → Weather
losing taken w = record w { lost_a = is_none taken.a; lost_b = is_none taken.b }
