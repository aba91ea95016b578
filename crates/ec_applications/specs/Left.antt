-- What applications leave as it was of a slave: all but the areas of process memory that the master reads;
-- and its EEPROM, all but the registers by which it answers, and by which a device gives a mail once more.
use Rattle.std.specs.Prelude.{◌≡◌, ℕ, ◌<◌, ◌≤◌, false, length, slice_index}
use Rattle.ec_areas.specs.Areas.{is_locked}
use Rattle.ec_areas.specs.Ranges.{is_in_sii}
use Rattle.ec_areas.specs.Records.{sync_managers_of}
use Rattle.ec_app.specs.State.{SlaveState}
use Rattle.ec_applications.specs.Repeats.{is_of_repeats}
use Rattle.ec_regs.specs.declared.registers.TheConstants.{MEMORY_SIZE, PROCESS_MEMORY}

-- its objects, mails and lengths of process data; what it is shown; whether AL control was written; each
-- register, so its station, its state and its mapping; and each byte of process memory that no area of inputs
-- or of a mailbox guards, so its outputs
pub record KeepsAllElse (before after : SlaveState) : Type 0 where
  pub application : after.application ≡ before.application
  pub shown : after.controller.shown ≡ before.controller.shown
  pub written : after.controller.written ≡ before.controller.written
  pub size : length after.controller.memory ≡ length before.controller.memory
  pub registers : (address : ℕ) → address < PROCESS_MEMORY
      → slice_index after.controller.memory address ≡ slice_index before.controller.memory address
  pub outputs : (address : ℕ) → PROCESS_MEMORY ≤ address
      → is_locked (sync_managers_of before.controller.memory) address ≡ false
      → slice_index after.controller.memory address ≡ slice_index before.controller.memory address

-- where its EEPROM has answered too, excepted are the registers of the slave information interface and, of a
-- device, the status byte and the PDI byte of the mailbox that the master reads
pub record KeepsAllButAnswers (before after : SlaveState) : Type 0 where
  pub application : after.application ≡ before.application
  pub shown : after.controller.shown ≡ before.controller.shown
  pub written : after.controller.written ≡ before.controller.written
  pub size : length after.controller.memory ≡ length before.controller.memory
  pub registers : (address : ℕ) → address < PROCESS_MEMORY → is_in_sii address ≡ false
      → is_of_repeats before.controller.memory address ≡ false
      → slice_index after.controller.memory address ≡ slice_index before.controller.memory address
  pub outputs : (address : ℕ) → PROCESS_MEMORY ≤ address
      → is_locked (sync_managers_of before.controller.memory) address ≡ false
      → slice_index after.controller.memory address ≡ slice_index before.controller.memory address

-- a slave with a memory of its size
abbrev pub HasMemory : SlaveState → Type 0
HasMemory s = length s.controller.memory ≡ MEMORY_SIZE
