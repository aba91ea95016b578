-- The byte of a status tells that status.
use Rattle.std.proofs.Common.{◌≡◌, ◌+◌, ◌%◌, Bool, true, false, cond, Some, refl}
use Rattle.ec_regs.specs.Al.{code_of, state_of, status_byte, status_of}
use Rattle.ec_regs.specs.declared.al.AlState.{AlState}
use Rattle.ec_regs.specs.declared.al.AlState.TheVariants.{Init, PreOp, SafeOp, Op}
use Rattle.ec_regs.specs.declared.al.AlStatus.{AlStatus}

-- each of the four codes, without and with the error's bit
status_of-code : (state : AlState) (error : Bool)
    → status_of (code_of state + cond error 16 0) ≡ record { state = state; error = error }
status_of-code Init true = refl
status_of-code Init false = refl
status_of-code PreOp true = refl
status_of-code PreOp false = refl
status_of-code SafeOp true = refl
status_of-code SafeOp false = refl
status_of-code Op true = refl
status_of-code Op false = refl

-- its four lowest bits are the code of its state
state_of-code : (state : AlState) (error : Bool)
    → state_of ((code_of state + cond error 16 0) % 16) ≡ Some state
state_of-code Init true = refl
state_of-code Init false = refl
state_of-code PreOp true = refl
state_of-code PreOp false = refl
state_of-code SafeOp true = refl
state_of-code SafeOp false = refl
state_of-code Op true = refl
state_of-code Op false = refl

pub state_of-status_byte : (s : AlStatus) → state_of (status_byte s % 16) ≡ Some s.state
state_of-status_byte s = state_of-code s.state s.error

-- the status that a status's byte tells is that status
pub status_of-status_byte : (s : AlStatus) → status_of (status_byte s) ≡ s
status_of-status_byte s = status_of-code s.state s.error
