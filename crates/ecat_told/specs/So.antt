-- What is told of slaves is so where the controllers of a line have the bytes that are told (IEC 61158-4-12,
-- registers of the data link layer).
use Rattle.std.specs.Prelude.{◌≡◌, ◌≢◌, ◌⊎◌, ℕ, ◌+◌, ◌*◌, ◌<◌, ◌≤◌, ◌==◌, ◌&&◌, ◌||◌, Bool, true}
use Rattle.std.specs.Prelude.{Some, List, [], ◌∷◌, slice_index, slice_index_or}
use Rattle.ec_regs.specs.AddressRange.{within}
use Rattle.ec_regs.specs.SyncMan.{status_address}
use Rattle.ec_regs.specs.declared.registers.TheConstants.{STATION_ADDRESS, FMMU_BASE, FMMU_SIZE, FMMU_COUNT}
use Rattle.ec_regs.specs.declared.registers.TheConstants.{SYNC_MANAGER_ACTIVATE}
use Rattle.ec_regs.specs.declared.registers.TheConstants.{AL_STATUS, AL_STATUS_CODE}
use Rattle.ec_areas.specs.Ranges.{is_in_sync_manager, sync_manager_offset}
use Rattle.ec_esc.specs.State.{ControllerState, word_at}
use Rattle.ecat_told.specs.declared.byte.Byte.TheVariants.{Untold, Guessed, Told}
use Rattle.ecat_told.specs.declared.slave.Slave.{Slave}
use Rattle.ecat_told.specs.Registers.{place_of}

-- ---- one slave

-- not the status byte of a sync manager, which mailboxes and activation change
abbrev pub IsNoStatus : ℕ → Type 0
IsNoStatus address = (i : ℕ) → address ≢ status_address i

-- a byte that a master may always write: of the station address, the FMMUs, and the enable bits of sync
-- managers
abbrev pub is_free : ℕ → Bool
is_free address =
    within STATION_ADDRESS 2 address || (within FMMU_BASE (FMMU_SIZE * FMMU_COUNT) address
    || (is_in_sync_manager address && sync_manager_offset address == SYNC_MANAGER_ACTIVATE))

-- not a byte of AL status or its code, which applications change
abbrev pub IsNoState : ℕ → Type 0
IsNoState address = (address < AL_STATUS) ⊎ (AL_STATUS_CODE + 2 ≤ address)

-- what is claimed: of each kept byte but those statuses, and of AL status where it is asked for
abbrev pub IsClaimed : Bool → ℕ → Type 0
IsClaimed states address = IsNoStatus address × ((states ≡ true) ⊎ IsNoState address)

-- the controller has each byte that is told of it, and nothing is guessed of what is always written
pub record IsSlaveSo (states : Bool) (s : Slave) (c : ControllerState) : Type 0 where
  pub told : (address place b : ℕ) → place_of address ≡ Some place → IsClaimed states address
      → slice_index_or s.bytes place Untold ≡ Told b
      → slice_index c.memory address ≡ b
  pub sure : (address place b : ℕ) → place_of address ≡ Some place → is_free address ≡ true
      → slice_index_or s.bytes place Untold ≢ Guessed b

-- ---- a line

-- slave by slave, with the controller at its place
abbrev pub AreSo : Bool → List Slave → List ControllerState → Type 0
AreSo states [] [] = Unit {0}
AreSo states (s ∷ ss) (c ∷ cs) = IsSlaveSo states s c × AreSo states ss cs
AreSo states _ _ = ⊥

-- no slave is told yet, or as many as the line has controllers
abbrev pub IsSo : Bool → List Slave → List ControllerState → Type 0
IsSo states slaves line = (slaves ≡ []) ⊎ AreSo states slaves line

-- does a controller have a station address
abbrev pub has_station : ℕ → ControllerState → Bool
has_station x c = x == word_at c.memory STATION_ADDRESS
