-- A ring of simulated slaves as the ports of a service: each frame travels over it under a weather of its
-- own, past the list of weathers under the ring's own links, and then every slave takes its step.
use Rattle.std.specs.Prelude.{◌≡◌, ◌+◌, ◌-◌, ◌^◌, ℕ, List, Result, Ok, min}
use Rattle.ec_wire.specs.Datagram.{DatagramRecord}
use Rattle.ec_ring.specs.Ring.{RingState, line_of, stepped, with_line}
use Rattle.ec_ring.specs.Travel.{travelled}
use Rattle.ec_ring.specs.declared.port.PortFault.{PortFault}
use Rattle.ec_ring.specs.declared.weather.Came.{Came}
use Rattle.ec_ring.specs.declared.weather.Weather.{Weather}
use Rattle.ec_master.specs.WeatherTrips.{behind_next, next_weather}

-- the ring, the weathers of the frames that have not gone out, and how many trips were made
pub record Stepping : Type 0 where
  pub ring : RingState
  pub ahead : List Weather
  pub made : ℕ

-- one trip; from 2^32 - 1 on trips are counted no more
pub record SteppingTrips (before : Stepping) (sent : List DatagramRecord) (came : Result Came PortFault)
    (later : Stepping) : Type 0 where
  pub came_back : came
      ≡ Ok (travelled (next_weather before.ahead before.ring.links) sent (line_of before.ring)).came
  pub ring : later.ring ≡ stepped (with_line before.ring
      (travelled (next_weather before.ahead before.ring.links) sent (line_of before.ring)).line)
  pub ahead : later.ahead ≡ behind_next before.ahead
  pub made : later.made ≡ min (before.made + 1) (2 ^ 32 - 1)
