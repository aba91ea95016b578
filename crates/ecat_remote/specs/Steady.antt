-- Which of a master's two ports fail.
use Rattle.std.specs.Prelude.{Bool}
use Rattle.ec_ring.specs.declared.port.Port.{Port}
use Rattle.ec_ring.specs.declared.port.Port.TheVariants.{A, B}
use Rattle.ecat_remote.specs.declared.steady.Failing.{Failing}

-- does a port fail?
abbrev pub fails_at : Port → Failing → Bool
fails_at A failing = failing.a
fails_at B failing = failing.b
