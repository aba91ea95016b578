-- What befalls the two copies of a frame on their trip.
use Rattle.std.specs.Prelude.{false}
use Rattle.ec_ring.specs.declared.links.Links.{Links}
use Rattle.ec_ring.specs.declared.weather.Weather.{Weather}

-- both copies under the same links, copy A first, none lost on its last hop
abbrev pub calm : Links → Weather
calm links = record { a = links; b = links; lost_a = false; lost_b = false; b_first = false }
