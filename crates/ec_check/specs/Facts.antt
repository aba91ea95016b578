-- What a fit line gives: each active FMMU is good and lies in one area of its kind. (What follows for a cycle
-- is said in ec_line, as the facts of a fit line.)
use Rattle.std.specs.Prelude.{ℕ, List}
use Rattle.ec_regs.specs.declared.fmmu.Fmmu.{Fmmu}
use Rattle.ec_esc.specs.State.{ControllerState}
use Rattle.ec_check.specs.Rules.{Area, HoldsAllOf, IsAreaFor, IsGoodFmmu}

-- an FMMU of a slave is good and lies in an area of its kind
pub record IsWellPlaced (line : List ControllerState) (slave : ℕ) (f : Fmmu) : Type 0 where
  pub good : IsGoodFmmu f
  pub area : Area
  pub suitable : IsAreaFor line slave f area
  pub holds : HoldsAllOf area f
