-- What is known of a capture that is written.
use Rattle.std.specs.Prelude.{Bool, List, ℕ, Option}
use Rattle.ecat_record.specs.declared.format.Unit.{Unit}

-- the bytes that its writer holds, where it tells them; its unit of time; and whether a write has failed
pub record TapeState : Type 0 where
  pub held : Option (List ℕ)
  pub unit : Unit
  pub has_failed : Bool
