-- How slaves and links are drawn.
use Rattle.std.specs.Prelude.{ℕ, Bool, true, false, Option, None, Some}
use Rattle.ec_regs.specs.declared.al.AlState.{AlState}
use Rattle.ec_regs.specs.declared.al.AlState.TheVariants.{Init, PreOp, SafeOp, Op}
use Rattle.ec_run.specs.declared.recovery.Seen.{Seen}
use Rattle.ec_run.specs.declared.recovery.Seen.TheVariants.{Nobody, Several, In, Error, Unheard}

-- a state by its letter: I, P, S, O (IEC 61158-6-12, AL state machine)
abbrev pub state_letter : AlState → ℕ
state_letter Init = 73
state_letter PreOp = 80
state_letter SafeOp = 83
state_letter Op = 79

-- a slave by what was last seen of it: its state, E with an error, a point where it does not answer, and ?
-- where nothing is known
abbrev pub letter : Option Seen → ℕ
letter (Some (In state)) = state_letter state
letter (Some (Error state code)) = 69
letter (Some Nobody) = 46
letter (Some Several) = 63
letter (Some Unheard) = 63
letter None = 63

-- a link: - where it is up, x where it is down, ? where that is not known
abbrev pub mark : Option Bool → ℕ
mark (Some true) = 45
mark (Some false) = 120
mark None = 63
