-- A ring of simulated slaves as the ports of a master: each frame travels over it under its own weather, and
-- past the list of weathers under the ring's own links. No slave takes a step.
use Rattle.std.specs.Prelude.{◌≡◌, List, [], ◌∷◌, Result, Ok}
use Rattle.ec_wire.specs.Datagram.{DatagramRecord}
use Rattle.ec_ring.specs.Ring.{RingState, line_of, with_line}
use Rattle.ec_ring.specs.Travel.{travelled}
use Rattle.ec_ring.specs.Weather.{calm}
use Rattle.ec_ring.specs.declared.links.Links.{Links}
use Rattle.ec_ring.specs.declared.port.PortFault.{PortFault}
use Rattle.ec_ring.specs.declared.weather.Came.{Came}
use Rattle.ec_ring.specs.declared.weather.Weather.{Weather}

-- the ring, and the weathers of the frames that have not gone out
pub record InWeather : Type 0 where
  pub ring : RingState
  pub ahead : List Weather

-- the weather of the next frame, and those of the frames behind it
abbrev pub next_weather : List Weather → Links → Weather
next_weather [] links = calm links
next_weather (w ∷ ws) links = w

abbrev pub behind_next : List Weather → List Weather
behind_next [] = []
behind_next (w ∷ ws) = ws

pub record WeatherTrips (before : InWeather) (sent : List DatagramRecord) (came : Result Came PortFault)
    (later : InWeather) : Type 0 where
  pub came_back : came
      ≡ Ok (travelled (next_weather before.ahead before.ring.links) sent (line_of before.ring)).came
  pub ring : later.ring ≡ with_line before.ring
      (travelled (next_weather before.ahead before.ring.links) sent (line_of before.ring)).line
  pub ahead : later.ahead ≡ behind_next before.ahead
