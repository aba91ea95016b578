-- What one controller puts into the data of a request, takes of them, and counts. It hangs on the controller
-- and the request alone, not on the data that arrive.
use Rattle.std.specs.Prelude.{ℕ, ◌*◌, nat_lt, if◌then◌else◌, Option, None}
use Rattle.std.specs.Option.{option_map}
use Rattle.ec_regs.specs.Bits.{bit}
use Rattle.ec_esc.specs.State.{ControllerState}
use Rattle.ec_esc.specs.Pass.{Effect, effect, gain_of}
use Rattle.ec_line.specs.Request.{Request}
use Rattle.ec_wire.specs.Kind.{command_of}

-- what the request's command does in the controller
abbrev pub effect_of : Request → ControllerState → Effect
effect_of r c = effect (command_of r.kind) c r.address r.count

-- the value that the controller claims for a data bit: that of the memory bit which the data bit takes, if it
-- takes one
unfoldable pub claim : Request → ControllerState → ℕ → Option ℕ
claim r c i =
    if nat_lt i (8 * r.count) then option_map (bit c.memory) ((effect_of r c).reading.places i)
    else None

-- the data bit that a memory bit takes, if it takes one
unfoldable pub taken : Request → ControllerState → ℕ → Option ℕ
taken r c = (effect_of r c).writing.places

-- what the working counter gains
unfoldable pub gain : Request → ControllerState → ℕ
gain r c = gain_of (effect_of r c)
