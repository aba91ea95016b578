-- What the rules of mapping read of a controller: its station address and the records of its FMMUs and sync
-- managers, but for the status bytes of these, which tell of mail alone, and for their PDI bytes, which the
-- slave alone writes (IEC 61158-4-12, FMMU and sync manager).
use Rattle.std.specs.Prelude.{ℕ, List, map}
use Rattle.ec_regs.specs.declared.fmmu.Fmmu.{Fmmu}
use Rattle.ec_regs.specs.declared.sync_man.SyncMan.{SyncMan}
use Rattle.ec_regs.specs.declared.registers.TheConstants.{STATION_ADDRESS}
use Rattle.ec_areas.specs.Records.{fmmus_of, sync_managers_of}
use Rattle.ec_esc.specs.State.{ControllerState, word_at}

-- a sync manager's record as if its status byte and its PDI byte were 0
abbrev pub without_status : SyncMan → SyncMan
without_status s = record s { status = 0; pdi = 0 }

-- a controller's station address, its FMMUs and its sync managers, these by number
pub record Mapping : Type 0 where
  pub station : ℕ
  pub fmmus : List Fmmu
  pub sync_managers : List SyncMan

unfoldable pub mapping_of : ControllerState → Mapping
mapping_of c = record {
  station = word_at c.memory STATION_ADDRESS;
  fmmus = fmmus_of c.memory;
  sync_managers = map without_status (sync_managers_of c.memory);
}

-- the mapping of a line, slave after slave
abbrev pub mapping : List ControllerState → List Mapping
mapping line = map mapping_of line
