-- Twins, number by number.
use Rattle.std.proofs.Common.{ℕ, ◌<◌, ◌≤◌, List, [], ◌∷◌, length, refl, arith}
use Rattle.ec_esc.specs.State.{ControllerState}
use Rattle.ec_check.specs.declared.fault.MapFault.{MapFault}
use Rattle.ec_check.specs.declared.fault.MapFault.TheVariants.{TwinStation}
use Rattle.ec_check.specs.Order.{BeginsWith}
use Rattle.ec_check.specs.Rules.{IsTwinStation}
use Rattle.ec_check.specs.Fit.{Breaks, numbers, twin_station_rule}
use Rattle.ec_check.specs.Search.{HasNone}
use Rattle.ec_check.proofs.SearchLemmas.{GoesOnBelow}

-- the fault goes on with a slave
pub twins_go_on : (line : List ControllerState) (bound : ℕ) → length line ≤ bound
    → GoesOnBelow (twin_station_rule ∷ []) line bound
twins_go_on line bound end (TwinStation i j) broken begins = (
  i,
  let order : i < j = broken.order in let there : j < length line = broken.there in omega arith,
  (refl, (refl, tt)),
)
twins_go_on line bound end fault broken begins = absurd (omega (arith, begins.0))

-- and then with another
pub twins_of_go_on : (line : List ControllerState) (slave bound : ℕ) → length line ≤ bound
    → GoesOnBelow (twin_station_rule ∷ slave ∷ []) line bound
twins_of_go_on line slave bound end (TwinStation i j) broken begins =
    (j, let there : j < length line = broken.there in omega arith, (refl, (begins.1.0, (refl, tt))))
twins_of_go_on line slave bound end fault broken begins = absurd (omega (arith, begins.0))

-- there is no fault of these two if they are no twins
no_twins_at : (line : List ControllerState) (slave later_slave : ℕ) → ¬ IsTwinStation line slave later_slave
    → (fault : MapFault) → Breaks line fault
    → BeginsWith (twin_station_rule ∷ slave ∷ later_slave ∷ []) (numbers fault) → ⊥
no_twins_at line slave later_slave none (TwinStation i j) broken begins =
    none (rw (begins.1.0, begins.1.1.0) broken)
no_twins_at line slave later_slave none fault broken begins = absurd (omega (arith, begins.0))

pub HasNone-twins : (line : List ControllerState) (slave later_slave : ℕ)
    → ¬ IsTwinStation line slave later_slave
    → HasNone (twin_station_rule ∷ slave ∷ later_slave ∷ []) line
HasNone-twins line slave later_slave none = record { none = no_twins_at line slave later_slave none }
