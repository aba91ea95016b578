-- What came back of the frames of a cycle, and the copies of a trip that give it.
use Rattle.std.specs.Prelude.{◌≡◌, ◌⊎◌, List, ◌∷◌, Result, Ok, Err}
use Rattle.ec_line.specs.Trip.{Trip, Passed}
use Rattle.ec_ring.specs.Travel.{as_trip}
use Rattle.ec_ring.specs.declared.port.PortFault.{PortFault}
use Rattle.ec_ring.specs.declared.weather.Came.{Came}
use Rattle.ec_master.specs.Ports.{Trips}

-- what came back of each frame that went out, one after the other
abbrev pub AllThatCame : Type 0
AllThatCame = List (Result Came PortFault)

-- the trips of no port at all: each gives what is next of all that came
abbrev pub in_turn : Trips AllThatCame
in_turn before sent came later = before ≡ came ∷ later

-- the copies in the other places
abbrev pub exchanged : Came → Came
exchanged came = record { a = came.b; b = came.a }

-- a trip whose copies became these gives what came, in either place
abbrev pub Gives : Trip → Passed → Result Came PortFault → Type 0
Gives t p (Err failed) = ⊥
Gives t p (Ok came) = let gives = (as_trip t p).came in (came ≡ gives) ⊎ (came ≡ exchanged gives)
