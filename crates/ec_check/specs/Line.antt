-- What a line of slaves is mapped by. Contracts see a line as the list of its slaves' controllers
-- (IEC 61158-4-12, station address, FMMU and sync manager).
use Rattle.std.specs.Prelude.{◌≡◌, ℕ, ◌<◌, false, List, [], length, map, slice_index_or}
use Rattle.ec_regs.specs.declared.registers.TheConstants.{FMMU_COUNT, SYNC_MANAGER_COUNT}
use Rattle.ec_regs.specs.Pairs.{pair_count}
use Rattle.ec_regs.specs.declared.fmmu.Fmmu.{Fmmu}
use Rattle.ec_regs.specs.declared.sync_man.SyncMan.{SyncMan}
use Rattle.ec_regs.specs.declared.registers.TheConstants.{STATION_ADDRESS}
use Rattle.ec_areas.specs.Records.{fmmu_at, sync_manager_at}
use Rattle.ec_esc.specs.State.{ControllerState}
use Rattle.ec_esc.specs.State.{word_at}
use Rattle.ec_app.specs.State.{SlaveState}
use Rattle.ec_check.specs.declared.line.Standing.{Standing}

-- the controllers of a line, where this says which each has
abbrev pub controllers_by : {S : Type 0} → (S → ControllerState) → List S → List ControllerState
controllers_by controller line = map controller line

-- the controllers of a line of slaves
abbrev pub controllers : List SlaveState → List ControllerState
controllers slaves = map (λ s. s.controller) slaves

-- what stands for the controller of a slave that is not there
abbrev pub no_controller : ControllerState
no_controller = record { memory = []; shown = []; written = false }

-- the controller of a slave, whose number is below that of slaves
abbrev pub controller_of : List ControllerState → ℕ → ControllerState
controller_of line slave = slice_index_or line slave no_controller

-- its station address
unfoldable pub station_of : List ControllerState → ℕ → ℕ
station_of line slave = word_at (controller_of line slave).memory STATION_ADDRESS

-- one of its FMMUs
unfoldable pub fmmu_of : List ControllerState → ℕ → ℕ → Fmmu
fmmu_of line slave number = fmmu_at (controller_of line slave).memory number

-- one of its sync managers
unfoldable pub sync_manager_of : List ControllerState → ℕ → ℕ → SyncMan
sync_manager_of line slave number = sync_manager_at (controller_of line slave).memory number

-- an FMMU of this number stands on the line in the slave of this number
pub record HasFmmu (line : List ControllerState) (slave number : ℕ) : Type 0 where
  pub slave_there : slave < length line
  pub number_there : number < FMMU_COUNT

-- and a sync manager
pub record HasSyncManager (line : List ControllerState) (slave number : ℕ) : Type 0 where
  pub slave_there : slave < length line
  pub number_there : number < SYNC_MANAGER_COUNT

-- the FMMU stands on the line under its numbers
pub record StandsOn (line : List ControllerState) (f : Standing) : Type 0 where
  pub there : HasFmmu line f.slave f.number
  pub is : f.record ≡ fmmu_of line f.slave f.number
  pub count : f.bits ≡ pair_count f.record
