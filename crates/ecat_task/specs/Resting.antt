-- The slaves of a line that rests while nobody gives its outputs.
use Rattle.std.specs.Prelude.{Bool, true, false}
use Rattle.ec_regs.specs.declared.al.AlState.{AlState}
use Rattle.ec_regs.specs.declared.al.AlState.TheVariants.{SafeOp, Op}

-- the state in which they are to be, by whether outputs are stale (IEC 61158-6-12, AL management)
abbrev pub state_of : Bool → AlState
state_of true = SafeOp
state_of false = Op
