-- Which requests a controller accepts: it reads registers or inputs, and writes outputs.
use Rattle.std.specs.Prelude.{◌≡◌, ℕ, ◌+◌, ◌≤◌, ◌⊎◌, Bool, true, List}
use Rattle.std.specs.List.{Any, AllByRecursion}
use Rattle.ec_regs.specs.SyncMan.{is_active, is_buffered, master_reads, master_writes}
use Rattle.ec_regs.specs.declared.sync_man.SyncMan.{SyncMan}
use Rattle.ec_regs.specs.declared.registers.TheConstants.{STATION_ADDRESS, PROCESS_MEMORY}
use Rattle.ec_wire.specs.Datagram.{adp_of, ado_of}
use Rattle.ec_areas.specs.Records.{sync_managers_of}
use Rattle.ec_esc.specs.State.{ControllerState, word_at}
use Rattle.ec_line.specs.After.{Entry}
use Rattle.ec_line.specs.Request.{Request}
use Rattle.ec_wire.specs.declared.kind.Kind.{Kind}
use Rattle.ec_wire.specs.declared.kind.Kind.TheVariants.{Brd, Fprd, Fpwr}

-- the range lies whole in the area of the sync manager, which is active, buffered and of a direction
pub record IsWithinArea (direction : SyncMan → Bool) (s : SyncMan) (from count : ℕ) : Type 0 where
  pub active : is_active s ≡ true
  pub buffered : is_buffered s ≡ true
  pub direction_is : direction s ≡ true
  pub starts : s.start ≤ from
  pub ends : from + count ≤ s.start + s.length

-- the range lies in the area of some sync manager of the controller
abbrev pub LiesInArea : (SyncMan → Bool) → ControllerState → ℕ → ℕ → Type 0
LiesInArea direction c from count = Any (λ s. IsWithinArea direction s from count) (sync_managers_of c.memory)

-- the range lies in the registers
abbrev pub LiesInRegisters : ℕ → ℕ → Type 0
LiesInRegisters from count = from + count ≤ PROCESS_MEMORY

-- the request names the controller by its station address
abbrev pub IsStationOf : Request → ControllerState → Type 0
IsStationOf r c = adp_of r.address ≡ word_at c.memory STATION_ADDRESS

-- logical requests go everywhere; a broadcast read to registers; an addressed read to registers or inputs,
-- and an addressed write to outputs, of the one that it addresses
abbrev pub AcceptsPlace : Kind → Request → ControllerState → Type 0
AcceptsPlace Brd r c = LiesInRegisters (ado_of r.address) r.count
AcceptsPlace Fprd r c =
    IsStationOf r c → LiesInRegisters (ado_of r.address) r.count
    ⊎ LiesInArea master_reads c (ado_of r.address) r.count
AcceptsPlace Fpwr r c = IsStationOf r c → LiesInArea master_writes c (ado_of r.address) r.count
AcceptsPlace _ r c = Unit {0}

-- the controller accepts the request, which has at least one byte
pub record Accepts (r : Request) (c : ControllerState) : Type 0 where
  pub some : 1 ≤ r.count
  pub place : AcceptsPlace r.kind r c

-- a controller accepts each entry's request
abbrev pub AcceptsAll : List Entry → ControllerState → Type 0
AcceptsAll es c = AllByRecursion (λ e. Accepts e.request c) es
