-- A slave by its station address and its records alone, as a master writes them or reads them back (IEC
-- 61158-4-12, FMMU and sync manager): it is mapped as the controller that has them, all other bytes of which
-- are 0.
use Rattle.std.specs.Prelude.{ℕ, ◌-◌, ◌/◌, ◌%◌, false, List, ◌∷◌, ◌++◌, replicate}
use Rattle.ec_regs.specs.declared.registers.TheConstants.{STATION_ADDRESS, FMMU_BASE, SYNC_MANAGER_BASE}
use Rattle.ec_regs.specs.declared.registers.TheConstants.{MEMORY_SIZE, PROCESS_MEMORY_SIZE}
use Rattle.ec_esc.specs.State.{ControllerState}
use Rattle.ec_check.specs.declared.records.Records.{Records}
use Rattle.ec_check.specs.declared.records.TheConstants.{FMMU_BYTES, SYNC_MANAGER_BYTES}

-- the bytes below the FMMUs: those of the station address, its low byte first, and else 0
abbrev pub station_bytes : ℕ → List ℕ
station_bytes station =
    replicate STATION_ADDRESS 0
    ++ station % 256 ∷ station / 256 ∷ replicate (FMMU_BASE - STATION_ADDRESS - 2) 0

-- the memory that has the records
unfoldable pub memory_of : Records → List ℕ
memory_of r =
    station_bytes r.station
    ++ (r.fmmus
    ++ (replicate (SYNC_MANAGER_BASE - FMMU_BASE - FMMU_BYTES) 0
    ++ (r.sync_managers ++ replicate (MEMORY_SIZE - SYNC_MANAGER_BASE - SYNC_MANAGER_BYTES) 0)))

-- the controller that has them
abbrev pub controller_with : Records → ControllerState
controller_with r = record {
  memory = memory_of r;
  shown = replicate PROCESS_MEMORY_SIZE 0;
  written = false;
}
