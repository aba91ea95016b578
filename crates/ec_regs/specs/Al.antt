-- AL status is the state of the application layer, a code in the four lowest bits of a byte, and above it the
-- bit that tells of an error (IEC 61158-6-12, AL management, AL status).
use Rattle.std.specs.Prelude.{◌==◌, ℕ, Bool, ◌+◌, ◌%◌, if◌then◌else◌, Option, None, Some}
use Rattle.std.specs.Int.{bit_at}
use Rattle.std.specs.Option.{unwrap_or}
use Rattle.ec_regs.specs.declared.al.AlState.{AlState}
use Rattle.ec_regs.specs.declared.al.AlState.TheVariants.{Init, PreOp, SafeOp, Op}
use Rattle.ec_regs.specs.declared.al.AlStatus.{AlStatus}

-- the code of a state
abbrev pub code_of : AlState → ℕ
code_of Init = 1
code_of PreOp = 2
code_of SafeOp = 4
code_of Op = 8

-- the state with a code, where there is one
abbrev pub state_of : ℕ → Option AlState
state_of code =
    if code == 1 then Some Init else
    (if code == 2 then Some PreOp else
    (if code == 4 then Some SafeOp else
    (if code == 8 then Some Op else None)))

-- bit 4 of AL control: does it acknowledge an error
abbrev pub acknowledges : ℕ → Bool
acknowledges control = bit_at control 4 == 1

-- the byte of a status: the code of its state, and 16 where an error stands
abbrev pub status_byte : AlStatus → ℕ
status_byte s = code_of s.state + (if s.error then 16 else 0)

-- the status that a byte spells: the state of bits 0 to 3, Init where they are no code, and the error of bit
-- 4
abbrev pub status_of : ℕ → AlStatus
status_of byte = record { state = unwrap_or (state_of (byte % 16)) Init; error = bit_at byte 4 == 1 }
