-- How the slaves of a line act behind each packet, as `ecat_serve` has them: each takes its step, then each
-- application acts, and then each EEPROM answers.
use Rattle.std.specs.Prelude.{All}
use Rattle.ec_regs.specs.Bits.{AreBytes}
use Rattle.ec_ring.specs.Ring.{RingState, line_of, stepped}
use Rattle.ec_applications.specs.Behind.{line_behind}
use Rattle.ec_applications.specs.State.{ApplicationsState}
use Rattle.ec_applications.specs.declared.eeproms.PlacedEeprom.{PlacedEeprom}
use Rattle.ecat_served.specs.History.{AreControllers}

-- the line once they have
abbrev pub once_acted : ApplicationsState → RingState → RingState
once_acted s r = line_behind s (stepped r)

-- they are controllers before their steps and behind them, and EEPROMs are bytes, as those of every ring
-- and of all applications are
pub record StaysSound (s : ApplicationsState) (r : RingState) : Type 0 where
  pub before : AreControllers (line_of r)
  pub stepped_is : AreControllers (line_of (stepped r))
  pub eeproms : All (λ (one : PlacedEeprom). AreBytes one.eeprom) s.eeproms
