-- A controller is its memory, what its application sees of process memory, and a mark that AL control was
-- written (IEC 61158-4-12, slave controller; the mark stands for the AL event of IEC 61158-6-12).
use Rattle.std.specs.Prelude.{◌≡◌, ◌==◌, ℕ, ◌+◌, ◌-◌, ◌*◌, ◌/◌, ◌%◌, Bool, true, false, if◌then◌else◌, List}
use Rattle.std.specs.Prelude.{◌++◌, length, take, drop, slice_index}
use Rattle.std.specs.Option.{is_some}
use Rattle.ec_regs.specs.Al.{state_of}
use Rattle.ec_regs.specs.Bits.{AreBytes}
use Rattle.ec_regs.specs.Fmmu.{fmmu_bytes}
use Rattle.ec_regs.specs.SyncMan.{sync_man_bytes}
use Rattle.ec_regs.specs.declared.fmmu.Fmmu.{Fmmu}
use Rattle.ec_regs.specs.declared.sync_man.SyncMan.{SyncMan}
use Rattle.ec_regs.specs.declared.registers.TheConstants.{STATION_ADDRESS, AL_STATUS, FMMU_BASE, FMMU_SIZE}
use Rattle.ec_regs.specs.declared.registers.TheConstants.{SYNC_MANAGER_BASE, SYNC_MANAGER_SIZE}
use Rattle.ec_regs.specs.declared.registers.TheConstants.{PROCESS_MEMORY, PROCESS_MEMORY_SIZE, MEMORY_SIZE}
use Rattle.ec_regs.specs.SyncMan.{is_active}

-- memory by address; the shown bytes of process memory, the first one for address 0x1000; and whether AL
-- control was written since the application last looked
pub record ControllerState : Type 0 where
  pub memory : List ℕ
  pub shown : List ℕ
  pub written : Bool

-- what every controller is: its memory and its shown bytes have their sizes, and are bytes
pub record IsController (c : ControllerState) : Type 0 where
  pub memory_size : length c.memory ≡ MEMORY_SIZE
  pub memory : AreBytes c.memory
  pub shown_size : length c.shown ≡ PROCESS_MEMORY_SIZE
  pub shown : AreBytes c.shown

-- the word at an address of a memory, its low byte first
abbrev pub word_at : List ℕ → ℕ → ℕ
word_at memory address = slice_index memory address + 256 * slice_index memory (address + 1)

-- AL status names a state: its four lowest bits are the code of one
abbrev pub NamesState : List ℕ → Type 0
NamesState memory = is_some (state_of (slice_index memory AL_STATUS % 16)) ≡ true

-- ---- the state at first

-- the byte at an address: the station address with its low byte first, AL status 1, which is Init, and all
-- else 0
unfoldable pub fresh_byte : ℕ → ℕ → ℕ
fresh_byte station address =
    if address == STATION_ADDRESS then station % 256 else
    (if address == STATION_ADDRESS + 1 then station / 256 else (if address == AL_STATUS then 1 else 0))

-- the state of a controller that was just made
pub record IsFresh (station : ℕ) (s : ControllerState) : Type 0 where
  pub memory_size : length s.memory ≡ MEMORY_SIZE
  pub memory : (address : ℕ) → slice_index s.memory address ≡ fresh_byte station address
  pub shown_size : length s.shown ≡ PROCESS_MEMORY_SIZE
  pub shown : (k : ℕ) → slice_index s.shown k ≡ 0
  pub written : s.written ≡ false

-- ---- changes from the application's side

-- a list whose elements from a place on are replaced by others
abbrev pub with_run : List ℕ → ℕ → List ℕ → List ℕ
with_run xs at ys = take at xs ++ ys ++ drop (at + length ys) xs

-- shown bytes in which those of a sync manager's area are the bytes of the memory
abbrev pub with_area_shown : SyncMan → List ℕ → List ℕ → List ℕ
with_area_shown s memory shown =
    with_run shown (s.start - PROCESS_MEMORY) (take s.length (drop s.start memory))

-- the FMMU with a number, 0 to 7, has this record
abbrev pub with_fmmu : ControllerState → ℕ → Fmmu → ControllerState
with_fmmu c i f = record c { memory = with_run c.memory (FMMU_BASE + FMMU_SIZE * i) (fmmu_bytes f) }

-- the sync manager with a number, 0 to 7, has this record, the area that it guards is shown as it stands in
-- the memory
abbrev pub with_sync_manager : ControllerState → ℕ → SyncMan → ControllerState
with_sync_manager c i s =
    let memory = with_run c.memory (SYNC_MANAGER_BASE + SYNC_MANAGER_SIZE * i) (sync_man_bytes s)
    in record c { memory = memory; shown = if is_active s then with_area_shown s memory c.shown else c.shown }

-- process memory has these bytes from an address on, and shows them
abbrev pub with_bytes : ControllerState → ℕ → List ℕ → ControllerState
with_bytes c address bytes = record c {
  memory = with_run c.memory address bytes;
  shown = with_run c.shown (address - PROCESS_MEMORY) bytes;
}
