-- Where an addressed item may go: a read to registers or into one buffered area that the master reads, a
-- write into one buffered area that the master writes (IEC 61158-4-12, sync manager).
use Rattle.std.specs.Prelude.{◌≡◌, ◌≢◌, ◌&&◌, ◌||◌, ℕ, ◌+◌, ◌<◌, Bool, false, nat_le, List, length}
use Rattle.std.specs.List.{list_any}
use Rattle.ec_regs.specs.declared.sync_man.SyncMan.{SyncMan}
use Rattle.ec_regs.specs.declared.registers.TheConstants.{PROCESS_MEMORY}
use Rattle.ec_regs.specs.AddressRange.{lies_within}
use Rattle.ec_regs.specs.SyncMan.{guards_inputs, guards_outputs}
use Rattle.ec_wire.specs.Datagram.{adp_of, ado_of}
use Rattle.ec_areas.specs.Records.{sync_managers_of}
use Rattle.ec_esc.specs.State.{ControllerState}
use Rattle.ec_check.specs.Line.{controller_of, station_of}
use Rattle.ec_map.specs.Item.{ItemRecord}
use Rattle.ec_wire.specs.declared.kind.Kind.TheVariants.{Fprd, Fpwr}
use Rattle.ec_map.specs.declared.place.PlaceFault.{PlaceFault}
use Rattle.ec_map.specs.declared.place.PlaceFault.TheVariants.{OutsideRead, OutsideWrite}

-- the station and the first byte that an addressed item names
abbrev pub station_named : ItemRecord → ℕ
station_named r = adp_of r.address

abbrev pub ado_named : ItemRecord → ℕ
ado_named r = ado_of r.address

-- does the area of the sync manager hold the n bytes from an address on
abbrev pub holds_run : SyncMan → ℕ → ℕ → Bool
holds_run s from n = lies_within s.start s.length from n

-- and is it active, buffered, and one that the master reads, or writes
abbrev pub is_input_run : ℕ → ℕ → SyncMan → Bool
is_input_run from n s = guards_inputs s && holds_run s from n

abbrev pub is_output_run : ℕ → ℕ → SyncMan → Bool
is_output_run from n s = guards_outputs s && holds_run s from n

-- may a cycle read the n bytes from an address on
abbrev pub may_read : ControllerState → ℕ → ℕ → Bool
may_read c from n =
    nat_le (from + n) PROCESS_MEMORY || list_any (is_input_run from n) (sync_managers_of c.memory)

-- may it write them
abbrev pub may_write : ControllerState → ℕ → ℕ → Bool
may_write c from n = list_any (is_output_run from n) (sync_managers_of c.memory)

-- the slave is the first one of the line with this station address
pub record IsFirstOfStation (line : List ControllerState) (station slave : ℕ) : Type 0 where
  pub there : slave < length line
  pub same : station_of line slave ≡ station
  pub first : (k : ℕ) → k < slave → station_of line k ≢ station

-- no slave has it
abbrev pub HasNoStation : List ControllerState → ℕ → Type 0
HasNoStation line station = (k : ℕ) → k < length line → station_of line k ≢ station

-- an addressed read may not go where it goes
pub record IsOutsideRead (line : List ControllerState) (r : ItemRecord) (slave address : ℕ) : Type 0 where
  pub kind : r.kind ≡ Fprd
  pub slave_named : IsFirstOfStation line (station_named r) slave
  pub outside : may_read (controller_of line slave) (ado_named r) (length r.payload) ≡ false
  pub address_named : address ≡ ado_named r

-- nor an addressed write
pub record IsOutsideWrite (line : List ControllerState) (r : ItemRecord) (slave address : ℕ) : Type 0 where
  pub kind : r.kind ≡ Fpwr
  pub slave_named : IsFirstOfStation line (station_named r) slave
  pub outside : may_write (controller_of line slave) (ado_named r) (length r.payload) ≡ false
  pub address_named : address ≡ ado_named r

-- the item goes where it may not, as the fault says
abbrev pub IsPlaceFault : List ControllerState → ItemRecord → PlaceFault → Type 0
IsPlaceFault line r (OutsideRead slave address) = IsOutsideRead line r slave address
IsPlaceFault line r (OutsideWrite slave address) = IsOutsideWrite line r slave address

-- it goes nowhere else
abbrev pub IsPlaced : List ControllerState → ItemRecord → Type 0
IsPlaced line r = (fault : PlaceFault) → ¬ IsPlaceFault line r fault
