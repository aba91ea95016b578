-- A controller whose slave information interface was served: its sixteen registers are as the EEPROM answers,
-- and all else is as it was; a controller that has no such interface stays.
use Rattle.std.specs.Prelude.{ℕ, if◌then◌else◌, List}
use Rattle.ec_regs.specs.declared.registers.TheConstants.{SII_BASE}
use Rattle.ec_areas.specs.Ranges.{has_sii}
use Rattle.ec_esc.specs.Application.{sii_registers, with_registers}
use Rattle.ec_esc.specs.State.{ControllerState}
use Rattle.ec_sii.specs.Eeprom.{sii_answer, registers_after, contents_after}
use Rattle.ec_sii.specs.Registers.{registers_of, registers_bytes}

-- its registers, and what they are then
abbrev pub answered : List ℕ → List ℕ → List ℕ
answered contents bytes =
    let r = registers_of bytes in registers_bytes (registers_after contents r (sii_answer contents r))

-- the controller
abbrev pub served : List ℕ → ControllerState → ControllerState
served contents c =
    if has_sii c.memory then with_registers c SII_BASE (answered contents (sii_registers c)) else c

-- the contents
abbrev pub contents_served : List ℕ → ControllerState → List ℕ
contents_served contents c =
    let r = registers_of (sii_registers c) in
    if has_sii c.memory then contents_after contents r (sii_answer contents r) else contents
