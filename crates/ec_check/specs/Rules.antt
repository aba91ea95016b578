-- The rules that a mapped line keeps, each as what breaks it: the parties by their numbers, then an address
-- or a bit that they share. They speak of the pairs of logical and physical bits that FMMUs map, and of the
-- areas that sync managers guard (IEC 61158-4-12, FMMU and sync manager). Bit numbers are 8 * byte address +
-- bit.
use Rattle.std.specs.Prelude.{◌≡◌, ◌≢◌, ◌⊎◌, ◌&&◌, ℕ, ◌+◌, ◌/◌, ◌<◌, ◌≤◌, Bool, true, if◌then◌else◌, List, []}
use Rattle.std.specs.Prelude.{◌∷◌, length}
use Rattle.ec_regs.specs.declared.registers.TheConstants.{SYNC_MANAGER_COUNT}
use Rattle.ec_regs.specs.Pairs.{is_switched_on}
use Rattle.ec_regs.specs.Pairs.{reads, writes, first_physical, IsPair}
use Rattle.ec_regs.specs.declared.fmmu.Fmmu.{Fmmu}
use Rattle.ec_regs.specs.declared.fmmu.TheConstants.{LAST_BIT}
use Rattle.ec_regs.specs.declared.sync_man.SyncMan.{SyncMan}
use Rattle.ec_regs.specs.declared.registers.TheConstants.{MEMORY_SIZE}
use Rattle.ec_regs.specs.SyncMan.{is_active}
use Rattle.ec_regs.specs.SyncMan.{is_buffered, master_reads, master_writes}
use Rattle.ec_regs.specs.declared.registers.TheConstants.{LOGICAL_BITS}
use Rattle.ec_esc.specs.State.{ControllerState}
use Rattle.ec_regs.specs.declared.registers.TheConstants.{ANSWER_MAILBOX_STATUS}
use Rattle.ec_check.specs.Line.{station_of, fmmu_of, sync_manager_of, HasFmmu}
use Rattle.ec_check.specs.Order.{IsBefore}

-- ---- what an FMMU maps

-- the FMMU maps a logical bit, and a physical bit
abbrev pub MapsLogical : Fmmu → ℕ → Type 0
MapsLogical f l = (p : ℕ) × IsPair f l p

abbrev pub MapsPhysical : Fmmu → ℕ → Type 0
MapsPhysical f p = (l : ℕ) × IsPair f l p

-- through the FMMU of this number of this slave the master reads a logical bit
pub record ReadsLogical (line : List ControllerState) (slave fmmu l : ℕ) : Type 0 where
  pub there : HasFmmu line slave fmmu
  pub for_reading : reads (fmmu_of line slave fmmu) ≡ true
  pub maps : MapsLogical (fmmu_of line slave fmmu) l

-- it writes a logical bit
pub record WritesLogical (line : List ControllerState) (slave fmmu l : ℕ) : Type 0 where
  pub there : HasFmmu line slave fmmu
  pub for_writing : writes (fmmu_of line slave fmmu) ≡ true
  pub maps : MapsLogical (fmmu_of line slave fmmu) l

-- it writes a physical bit
pub record WritesPhysical (line : List ControllerState) (slave fmmu p : ℕ) : Type 0 where
  pub there : HasFmmu line slave fmmu
  pub for_writing : writes (fmmu_of line slave fmmu) ≡ true
  pub maps : MapsPhysical (fmmu_of line slave fmmu) p

-- ---- stations

-- two slaves have one station address
pub record IsTwinStation (line : List ControllerState) (slave later_slave : ℕ) : Type 0 where
  pub order : slave < later_slave
  pub there : later_slave < length line
  pub same : station_of line slave ≡ station_of line later_slave

-- ---- FMMUs by themselves

-- the FMMU reads or writes and not both, its bit fields name bits of a byte, it maps a bit, and each bit that
-- it maps exists
pub record IsGoodFmmu (f : Fmmu) : Type 0 where
  pub kind : (f.kind ≡ 1) ⊎ (f.kind ≡ 2)
  pub start : f.start ≤ LAST_BIT
  pub stop : f.stop ≤ LAST_BIT
  pub bit : f.bit ≤ LAST_BIT
  pub some_bit : (l : ℕ) × MapsLogical f l
  pub logical : (l : ℕ) → MapsLogical f l → l < LOGICAL_BITS
  pub physical : (p : ℕ) → MapsPhysical f p → p / 8 < MEMORY_SIZE

-- an active FMMU is not such a one
pub record IsBadFmmu (line : List ControllerState) (slave fmmu : ℕ) : Type 0 where
  pub there : HasFmmu line slave fmmu
  pub active : is_switched_on (fmmu_of line slave fmmu) ≡ true
  pub bad : ¬ IsGoodFmmu (fmmu_of line slave fmmu)

-- ---- areas

-- the byte at an address lies in the area of an active sync manager
pub record IsInArea (s : SyncMan) (address : ℕ) : Type 0 where
  pub active : is_active s ≡ true
  pub from : s.start ≤ address
  pub to : address < s.start + s.length

-- two areas of a slave share a byte
pub record IsMeetingOfAreas (line : List ControllerState) (slave number later_number address : ℕ) : Type 0
  where
    pub slave_there : slave < length line
    pub order : number < later_number
    pub number_there : later_number < SYNC_MANAGER_COUNT
    pub first : IsInArea (sync_manager_of line slave number) address
    pub second : IsInArea (sync_manager_of line slave later_number) address

-- ---- FMMUs in areas

-- an area: the bytes from an address up to another one
pub record Area : Type 0 where
  pub from : ℕ
  pub to : ℕ

-- it holds the byte at an address
pub record Holds (area : Area) (address : ℕ) : Type 0 where
  pub from : area.from ≤ address
  pub to : address < area.to

-- it holds all bytes that an FMMU maps
abbrev pub HoldsAllOf : Area → Fmmu → Type 0
HoldsAllOf area f = (p : ℕ) → MapsPhysical f p → Holds area (p / 8)

-- does the sync manager guard an area of the FMMU's kind: an active one, buffered, that the master reads if
-- the FMMU is for reading, and else writes
abbrev pub suits : SyncMan → Fmmu → Bool
suits s f = is_active s && is_buffered s && (if reads f then master_reads s else master_writes s)

-- it is the area of such a sync manager of the slave
pub record IsGuarded (line : List ControllerState) (slave : ℕ) (f : Fmmu) (area : Area) : Type 0 where
  pub number : ℕ
  pub there : number < SYNC_MANAGER_COUNT
  pub suitable : suits (sync_manager_of line slave number) f ≡ true
  pub from : area.from ≡ (sync_manager_of line slave number).start
  pub to : area.to ≡ (sync_manager_of line slave number).start + (sync_manager_of line slave number).length

-- it is the one register that a mapped FMMU may read, the byte that tells of waiting mail
pub record IsMailStatus (f : Fmmu) (area : Area) : Type 0 where
  pub for_reading : reads f ≡ true
  pub from : area.from ≡ ANSWER_MAILBOX_STATUS
  pub to : area.to ≡ ANSWER_MAILBOX_STATUS + 1

-- it is an area of the FMMU's kind
abbrev pub IsAreaFor : List ControllerState → ℕ → Fmmu → Area → Type 0
IsAreaFor line slave f area = IsGuarded line slave f area ⊎ IsMailStatus f area

-- the address of the first byte that an FMMU maps
abbrev pub first_byte : Fmmu → ℕ
first_byte f = first_physical f / 8

-- no area of the FMMU's kind holds its first byte
abbrev pub HasNoArea : List ControllerState → ℕ → Fmmu → Type 0
HasNoArea line slave f = (area : Area) → IsAreaFor line slave f area → ¬ Holds area (first_byte f)

-- one does, and this is the first address behind it
pub record IsAreaEnd (line : List ControllerState) (slave : ℕ) (f : Fmmu) (address : ℕ) : Type 0 where
  pub area : Area
  pub suitable : IsAreaFor line slave f area
  pub holds : Holds area (first_byte f)
  pub behind : address ≡ area.to

-- where an FMMU leaves the areas of its kind: at its first byte if none holds that, else behind one that does
abbrev pub LeavesAreasAt : List ControllerState → ℕ → Fmmu → ℕ → Type 0
LeavesAreasAt line slave f address =
    (HasNoArea line slave f × (address ≡ first_byte f)) ⊎ IsAreaEnd line slave f address

-- an FMMU that maps a bit does not lie in one area of its kind
pub record IsOutsideArea (line : List ControllerState) (slave fmmu address : ℕ) : Type 0 where
  pub there : HasFmmu line slave fmmu
  pub some_bit : (p : ℕ) × MapsPhysical (fmmu_of line slave fmmu) p
  pub outside : (area : Area) → IsAreaFor line slave (fmmu_of line slave fmmu) area
      → ¬ HoldsAllOf area (fmmu_of line slave fmmu)
  pub place : LeavesAreasAt line slave (fmmu_of line slave fmmu) address

-- ---- bits that meet

-- two FMMUs of a slave write one physical bit
pub record IsTwiceWritten (line : List ControllerState) (slave fmmu later_fmmu bit : ℕ) : Type 0 where
  pub order : fmmu < later_fmmu
  pub first : WritesPhysical line slave fmmu bit
  pub second : WritesPhysical line slave later_fmmu bit

-- two FMMUs of the line read one logical bit
pub record IsTwiceRead (line : List ControllerState) (slave fmmu later_slave later_fmmu bit : ℕ) : Type 0
  where
    pub order : IsBefore (slave ∷ fmmu ∷ []) (later_slave ∷ later_fmmu ∷ [])
    pub first : ReadsLogical line slave fmmu bit
    pub second : ReadsLogical line later_slave later_fmmu bit

-- a logical bit is read from one slave and written to another
pub record IsReadAndWritten (line : List ControllerState) (reader fmmu writer writer_fmmu bit : ℕ) : Type 0
  where
    pub apart : reader ≢ writer
    pub read : ReadsLogical line reader fmmu bit
    pub written : WritesLogical line writer writer_fmmu bit
