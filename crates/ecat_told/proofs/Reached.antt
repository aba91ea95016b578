-- What one datagram did with the registers of a controller.
use Rattle.std.proofs.Common.{◌≡◌, ◌⊎◌, ℕ, ◌+◌, ◌<◌, ◌≤◌, true, false, List, length}
use Rattle.std.specs.Prelude.{slice_index}
use Rattle.ec_regs.specs.declared.registers.TheConstants.{PROCESS_MEMORY}
use Rattle.ec_areas.specs.Ranges.{takes_writes}
use Rattle.ec_esc.specs.State.{ControllerState}
use Rattle.ecat_told.specs.So.{IsNoStatus}

-- its registers are as they were, but for the status bytes of sync managers
pub record SameRegisters (before after : ControllerState) : Type 0 where
  pub bytes : (a : ℕ) → a < PROCESS_MEMORY → IsNoStatus a
      → slice_index after.memory a ≡ slice_index before.memory a

-- the registers from an address on that take writes have these bytes now, and all others are as they were
pub record IsWrittenRun (from : ℕ) (values : List ℕ) (before after : ControllerState) : Type 0 where
  pub written : (k : ℕ) → k < length values → from + k < PROCESS_MEMORY → IsNoStatus (from + k)
      → takes_writes before.memory (from + k) ≡ true
      → slice_index after.memory (from + k) ≡ slice_index values k
  pub untaken : (a : ℕ) → a < PROCESS_MEMORY → IsNoStatus a → takes_writes before.memory a ≡ false
      → slice_index after.memory a ≡ slice_index before.memory a
  pub beside : (a : ℕ) → a < PROCESS_MEMORY → IsNoStatus a → (a < from) ⊎ (from + length values ≤ a)
      → slice_index after.memory a ≡ slice_index before.memory a

-- some of the registers from an address on that take writes may have others now, and all others are as they
-- were
pub record IsReached (from n : ℕ) (before after : ControllerState) : Type 0 where
  pub bytes : (a : ℕ) → a < PROCESS_MEMORY → IsNoStatus a
      → (slice_index after.memory a ≡ slice_index before.memory a)
      ⊎ ((from ≤ a) × (a < from + n) × (takes_writes before.memory a ≡ true))
