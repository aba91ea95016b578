-- Areas that meet, number by number.
use Rattle.std.proofs.Common.{ℕ, ◌<◌, ◌≤◌, List, [], ◌∷◌, length, refl, arith}
use Rattle.ec_regs.specs.declared.registers.TheConstants.{SYNC_MANAGER_COUNT}
use Rattle.ec_esc.specs.State.{ControllerState}
use Rattle.ec_check.specs.declared.fault.MapFault.{MapFault}
use Rattle.ec_check.specs.declared.fault.MapFault.TheVariants.{AreasMeet}
use Rattle.ec_check.specs.Order.{BeginsWith}
use Rattle.ec_check.specs.Rules.{IsMeetingOfAreas}
use Rattle.ec_check.specs.Fit.{Breaks, numbers, areas_meet_rule}
use Rattle.ec_check.specs.Search.{HasNone, IsFirstOf}
use Rattle.ec_check.proofs.SearchLemmas.{GoesOnBelow, IsFirstOf-itself, IsFirstOf-shorter}

-- the fault goes on with a slave
pub meeting_go_on : (line : List ControllerState) (bound : ℕ) → length line ≤ bound
    → GoesOnBelow (areas_meet_rule ∷ []) line bound
meeting_go_on line bound end (AreasMeet i k m b) broken begins =
    (i, let there : i < length line = broken.slave_there in omega arith, (refl, (refl, tt)))
meeting_go_on line bound end fault broken begins = absurd (omega (arith, begins.0))

-- then with a sync manager
pub meeting_of_go_on : (line : List ControllerState) (slave bound : ℕ) → SYNC_MANAGER_COUNT ≤ bound
    → GoesOnBelow (areas_meet_rule ∷ slave ∷ []) line bound
meeting_of_go_on line slave bound end (AreasMeet i k m b) broken begins = (
  k,
  let order : k < m = broken.order in let there : m < SYNC_MANAGER_COUNT = broken.number_there in omega arith,
  (refl, (begins.1.0, (refl, tt))),
)
meeting_of_go_on line slave bound end fault broken begins = absurd (omega (arith, begins.0))

-- and then with another
pub meeting_with_go_on : (line : List ControllerState) (slave number bound : ℕ) → SYNC_MANAGER_COUNT ≤ bound
    → GoesOnBelow (areas_meet_rule ∷ slave ∷ number ∷ []) line bound
meeting_with_go_on line slave number bound end (AreasMeet i k m b) broken begins = (
  m,
  let there : m < SYNC_MANAGER_COUNT = broken.number_there in omega arith,
  (refl, (begins.1.0, (begins.1.1.0, (refl, tt)))),
)
meeting_with_go_on line slave number bound end fault broken begins = absurd (omega (arith, begins.0))

-- there is no fault of two sync managers if their areas share no byte
none_of_two : (line : List ControllerState) (slave number later_number : ℕ)
    → ((address : ℕ) → ¬ IsMeetingOfAreas line slave number later_number address)
    → (fault : MapFault) → Breaks line fault
    → BeginsWith (areas_meet_rule ∷ slave ∷ number ∷ later_number ∷ []) (numbers fault) → ⊥
none_of_two line slave number later_number none (AreasMeet i k m b) broken begins =
    none b (rw (begins.1.0, begins.1.1.0, begins.1.1.1.0) broken)
none_of_two line slave number later_number none fault broken begins = absurd (omega (arith, begins.0))

pub HasNone-meeting : (line : List ControllerState) (slave number later_number : ℕ)
    → ((address : ℕ) → ¬ IsMeetingOfAreas line slave number later_number address)
    → HasNone (areas_meet_rule ∷ slave ∷ number ∷ later_number ∷ []) line
HasNone-meeting line slave number later_number none =
    record { none = none_of_two line slave number later_number none }

-- nor of one address if they do not share that one
none_at : (line : List ControllerState) (slave number later_number address : ℕ)
    → ¬ IsMeetingOfAreas line slave number later_number address
    → (fault : MapFault) → Breaks line fault
    → BeginsWith (areas_meet_rule ∷ slave ∷ number ∷ later_number ∷ address ∷ []) (numbers fault) → ⊥
none_at line slave number later_number address none (AreasMeet i k m b) broken begins =
    none (rw (begins.1.0, begins.1.1.0, begins.1.1.1.0, begins.1.1.1.1.0) broken)
none_at line slave number later_number address none fault broken begins = absurd (omega (arith, begins.0))

-- the lowest address that both share is that of the first fault of the two
pub IsFirstOf-meeting : (line : List ControllerState) (slave number later_number address : ℕ)
    → IsMeetingOfAreas line slave number later_number address
    → ((n : ℕ) → IsMeetingOfAreas line slave number later_number n → address ≤ n)
    → IsFirstOf (areas_meet_rule ∷ slave ∷ number ∷ later_number ∷ []) line
    (AreasMeet slave number later_number address)
IsFirstOf-meeting line slave number later_number address broken lowest =
    IsFirstOf-shorter (areas_meet_rule ∷ slave ∷ number ∷ later_number ∷ []) line address
    (AreasMeet slave number later_number address)
    (λ n below. record {
      none = none_at line slave number later_number n
          (λ meeting. let least : address ≤ n = lowest n meeting in absurd (omega arith));
    })
    (IsFirstOf-itself line (AreasMeet slave number later_number address) broken)
