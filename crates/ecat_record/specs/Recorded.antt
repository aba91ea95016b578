-- A ring that is recorded, and the weathers of the frames that have not gone out.
use Rattle.std.specs.Prelude.{List}
use Rattle.ec_ring.specs.Ring.{RingState}
use Rattle.ec_ring.specs.declared.weather.Weather.{Weather}
use Rattle.ec_master.specs.WeatherTrips.{InWeather}

-- as the ports of a ring that is not recorded are seen
abbrev pub in_weather : RingState → List Weather → InWeather
in_weather ring weathers = record { ring = ring; ahead = weathers }
