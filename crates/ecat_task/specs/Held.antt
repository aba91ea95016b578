-- The outputs that a control task holds, and by which packets they become others.
use Rattle.std.specs.Prelude.{◌≡◌, ◌⊎◌, ℕ, Bool, true, false, List, Option, None, Some, Result, Ok, Err}
use Rattle.ec_io.specs.Order.{IsOrder}
use Rattle.ecat_task.specs.declared.held.Refused.{Refused}

-- the packet is an order of these outputs
pub record IsOrderOf (packet outputs : List ℕ) : Type 0 where
  pub seen : Option ℕ
  pub order : IsOrder packet (record { seen = seen; outputs = outputs })

-- what a packet makes of outputs: those that it orders, whole, or they stay
abbrev pub Takes : List ℕ → List ℕ → Result Bool Refused → List ℕ → Type 0
Takes packet before (Ok true) later = IsOrderOf packet later
Takes packet before (Ok false) later = later ≡ before
Takes packet before (Err why) later = later ≡ before

-- outputs that became others are those of a packet, whole, or those of a task that says nothing any more
abbrev pub AreOthers : Option (List ℕ) → List ℕ → Type 0
AreOthers rest outputs = ((packet : List ℕ) × IsOrderOf packet outputs) ⊎ (rest ≡ Some outputs)

-- they became others, or they stay
abbrev pub Become : Option (List ℕ) → List ℕ → Bool → List ℕ → Type 0
Become rest before true later = AreOthers rest later
Become rest before false later = later ≡ before

-- has a packet, if one waited, ordered other outputs
abbrev pub orders_others : Option (Result Bool Refused) → Bool
orders_others (Some (Ok are_others)) = are_others
orders_others (Some (Err why)) = false
orders_others None = false
