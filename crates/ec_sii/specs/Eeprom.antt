-- What the EEPROM of a slave answers to the command that the master wrote into the registers of the slave
-- information interface (ETG.1000.4, slave information interface): the first fitting row says it.
use Rattle.std.specs.Prelude.{ℕ, ◌+◌, ◌*◌, ◌%◌, Bool, ◌==◌, not, nat_lt, if◌then◌else◌, List, [], ◌∷◌}
use Rattle.std.specs.Prelude.{length, slice_index, slice_set}
use Rattle.ec_sii.specs.declared.eeprom.SiiAnswer.{SiiAnswer}
use Rattle.ec_sii.specs.declared.eeprom.SiiAnswer.TheVariants.{Idle, Given, Reloaded, Stored, Unserved}
use Rattle.ec_sii.specs.declared.eeprom.SiiAnswer.TheVariants.{NotEnabled}
use Rattle.ec_sii.specs.declared.eeprom.TheConstants.{READ, WRITE, RELOAD, COMMAND_ERROR, ENABLE_ERROR}
use Rattle.ec_sii.specs.declared.eeprom.TheConstants.{READY, COMMANDS, BUSY}
use Rattle.ec_sii.specs.declared.registers.SiiRegisters.{SiiRegisters}

-- ---- what stands in it

-- the byte at a place; behind the end all are 255, as in an EEPROM that is empty there
abbrev pub byte_at : List ℕ → ℕ → ℕ
byte_at contents at = if nat_lt at (length contents) then slice_index contents at else 255

-- the eight bytes from a place on
abbrev pub eight_at : List ℕ → ℕ → List ℕ
eight_at contents at =
    byte_at contents at ∷ byte_at contents (at + 1) ∷ byte_at contents (at + 2) ∷ byte_at contents (at + 3)
    ∷ byte_at contents (at + 4) ∷ byte_at contents (at + 5) ∷ byte_at contents (at + 6)
    ∷ byte_at contents (at + 7) ∷ []

-- the first byte of the word that the registers name
abbrev pub place : SiiRegisters → ℕ
place r = 2 * r.address

-- ---- the table

-- the command, and whether a write is let pass
abbrev pub asked : SiiRegisters → ℕ
asked r = r.command % COMMANDS

abbrev pub is_enabled : SiiRegisters → Bool
is_enabled r = r.control % 2 == 1

-- the rows, in their order; below the fourth a write is asked for
unfoldable pub sii_answer : List ℕ → SiiRegisters → SiiAnswer
sii_answer contents r =
    if asked r == 0 then Idle else
    (if asked r == READ then Given else
    (if asked r == RELOAD then Reloaded else
    (if not (asked r == WRITE) then Unserved else
    (if not (is_enabled r) then NotEnabled else
    (if nat_lt (length contents) (place r + 2) then Unserved else Stored)))))

-- ---- what an answer leaves

-- no command stands, and these errors do; the bits that the master does not write are as they have to be
abbrev pub done : SiiRegisters → ℕ → SiiRegisters
done r errors = record r { pdi = 0; control = READY; command = errors }

abbrev pub registers_after : List ℕ → SiiRegisters → SiiAnswer → SiiRegisters
registers_after contents r Idle = done r (r.command % BUSY)
registers_after contents r Given = record (done r 0) { words = eight_at contents (place r) }
registers_after contents r Reloaded = done r 0
registers_after contents r Stored = done r 0
registers_after contents r Unserved = done r COMMAND_ERROR
registers_after contents r NotEnabled = done r ENABLE_ERROR

-- the word that was asked for has the first two bytes of data
abbrev pub contents_after : List ℕ → SiiRegisters → SiiAnswer → List ℕ
contents_after contents r Stored =
    slice_set (slice_set contents (place r) (slice_index r.words 0)) (place r + 1) (slice_index r.words 1)
contents_after contents r _ = contents
