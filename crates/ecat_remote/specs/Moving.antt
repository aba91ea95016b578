-- A network that gives packets whenever and as often as it will, of a line that moves while the frames
-- travel.
use Rattle.std.specs.Prelude.{ℕ, ◌+◌, ◌%◌, ◌^◌, List, [], ◌∷◌, IfSome}
use Rattle.std.specs.List.{AllByRecursion}
use Rattle.ec_wire.specs.Datagram.{DatagramRecord}
use Rattle.ec_esc.specs.State.{IsController}
use Rattle.ec_line.specs.After.{Entry}
use Rattle.ec_line.specs.Moving.{Visit, when_a, when_b}
use Rattle.ec_line.specs.Trip.{Trip}
use Rattle.ec_ring.specs.Travel.{trip_of}
use Rattle.ec_ring.specs.declared.weather.Came.{Came}
use Rattle.ec_ring.specs.declared.weather.Weather.{Weather}
use Rattle.ec_seal.specs.Moving.{GoesBackMoving}
use Rattle.ec_seal.specs.Taken.{BearsOneOf, losing}
use Rattle.ecat_remote.specs.Network.{by_number}
use Rattle.ecat_remote.specs.declared.enough.Both.{Both}

-- what was taken on a trip over such a line: what bears a number of this trip is one of its two copies, and
-- whom these met were controllers
pub record GaveMoving (n : ℕ) (t : Trip) (vs : List Visit) (taken : Came) : Type 0 where
  pub at_a : AllByRecursion IsController (when_a vs)
  pub at_b : AllByRecursion IsController (when_b vs)
  pub a : IfSome taken.a (λ (copy : List DatagramRecord). BearsOneOf n copy → GoesBackMoving n t vs copy)
  pub b : IfSome taken.b (λ (copy : List DatagramRecord). BearsOneOf n copy → GoesBackMoving n t vs copy)

-- frames go out over a line of so many slaves one after the other, each on the next trip under its weather,
-- while the slaves move so; and on each trip the network gave what was taken. The last ones may not have gone
-- out
abbrev pub NetworkGaveMoving : ℕ → ℕ → List (List Entry) → List Weather → List (List Visit) → List Both
    → Type 0
NetworkGaveMoving n size fs ws runs [] = Unit {0}
NetworkGaveMoving n size (f ∷ fs) (w ∷ ws) (vs ∷ runs) (both ∷ taken) =
    GaveMoving n (trip_of w f size) vs (by_number both)
    × NetworkGaveMoving ((n + 1) % 2 ^ 63) size fs ws runs taken
NetworkGaveMoving n size _ _ _ _ = ⊥

-- the weathers, in which those copies are lost that were not taken
abbrev pub losing_each : List Both → List Weather → List Weather
losing_each [] ws = ws
losing_each (both ∷ taken) [] = []
losing_each (both ∷ taken) (w ∷ ws) = losing (by_number both) w ∷ losing_each taken ws
