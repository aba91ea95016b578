-- What a slave does with a request of the master to change its state: the first fitting row of a table says
-- whether the request is ignored, refused with an AL status code, or met (IEC 61158-6-12, AL management).
use Rattle.std.specs.Prelude.{ℕ, ◌*◌, ◌%◌, Bool, true, false, ◌==◌, ◌&&◌, not, nat_le, nat_lt, Option, None}
use Rattle.std.specs.Prelude.{Some, List, [], ◌∷◌}
use Rattle.std.specs.Option.{is_none, unwrap_or}
use Rattle.ec_regs.specs.Al.{code_of, state_of, acknowledges}
use Rattle.ec_regs.specs.AlStatusCode.{al_status_code}
use Rattle.ec_regs.specs.declared.al_status_code.AlStatusCode.{AlStatusCode}
use Rattle.ec_regs.specs.declared.al_status_code.AlStatusCode.TheVariants.{InvalidStateChange, UnknownState}
use Rattle.ec_regs.specs.declared.al_status_code.AlStatusCode.TheVariants.{BootstrapNotSupported}
use Rattle.ec_regs.specs.declared.al_status_code.AlStatusCode.TheVariants.{InvalidMailboxConfiguration}
use Rattle.ec_regs.specs.declared.al_status_code.AlStatusCode.TheVariants.{InvalidOutputConfiguration}
use Rattle.ec_regs.specs.declared.al_status_code.AlStatusCode.TheVariants.{InvalidInputConfiguration}
use Rattle.ec_regs.specs.declared.al.AlState.{AlState}
use Rattle.ec_regs.specs.declared.al.AlState.TheVariants.{Init, PreOp, SafeOp, Op}
use Rattle.ec_areas.specs.Records.{sync_manager_at}
use Rattle.ec_esc.specs.Application.{new_control, with_control_taken, with_al, al_status}
use Rattle.ec_esc.specs.State.{ControllerState}
use Rattle.ec_app.specs.declared.roles.TheConstants.{OUTPUTS, INPUTS}
use Rattle.ec_app.specs.declared.al_step.AlAnswer.{AlAnswer}
use Rattle.ec_app.specs.declared.al_step.AlAnswer.TheVariants.{Ignored, Refused, Entered}
use Rattle.ec_app.specs.declared.al_step.TheConstants.{CODES, BOOTSTRAP}
use Rattle.ec_app.specs.State.{SlaveState}
use Rattle.ec_app.specs.Roles.{has_mailboxes, fits_outputs, fits_inputs}
use Rattle.ec_app.specs.Table.{first_fitting}

-- ---- AL control

-- bits 0 to 3: the code of the state that is asked for
abbrev pub asked : ℕ → ℕ
asked control = control % CODES

-- that state; Init where the code is that of none
abbrev pub asked_state : ℕ → AlState
asked_state control = unwrap_or (state_of (asked control)) Init

-- ---- the table

-- does an error stand
abbrev pub has_error : SlaveState → Bool
has_error s = (al_status s.controller).error

-- the code of the state that the slave is in; the next state up has twice this code
abbrev pub current : SlaveState → ℕ
current s = code_of (al_status s.controller).state

-- do sync managers 2 and 3 fit what the application works with
abbrev pub has_outputs : SlaveState → Bool
has_outputs s = fits_outputs (sync_manager_at s.controller.memory OUTPUTS) s.application.out_length

abbrev pub has_inputs : SlaveState → Bool
has_inputs s = fits_inputs (sync_manager_at s.controller.memory INPUTS) s.application.in_length

-- does the slave lack the mailboxes that it needs on the way to Pre-Op; a simple slave needs none
abbrev pub lacks_mailboxes : SlaveState → Bool
lacks_mailboxes s = not s.application.simple && not (has_mailboxes s.controller.memory)

-- the rows, in their order; below the fifth a request is for the next state up
abbrev pub al_rows : SlaveState → ℕ → List (Bool × AlAnswer)
al_rows s control =
    (has_error s && not (acknowledges (control % 256)), Ignored)
    ∷ (asked control == BOOTSTRAP, Refused BootstrapNotSupported)
    ∷ (is_none (state_of (asked control)), Refused UnknownState)
    ∷ (nat_le (asked control) (current s), Entered (asked_state control))
    ∷ (nat_lt (2 * current s) (asked control), Refused InvalidStateChange)
    ∷ (asked control == code_of PreOp && lacks_mailboxes s, Refused InvalidMailboxConfiguration)
    ∷ (asked control == code_of SafeOp && not (has_outputs s), Refused InvalidOutputConfiguration)
    ∷ (asked control == code_of SafeOp && not (has_inputs s), Refused InvalidInputConfiguration)
    ∷ []

-- what the slave answers to a request; where no row fits, it does as it was asked
unfoldable pub al_answer : SlaveState → ℕ → AlAnswer
al_answer s control = first_fitting (al_rows s control) (Entered (asked_state control))

-- ---- what an answer leaves

-- the controller in this state, with no error and with the AL status code 0
abbrev pub with_state : ControllerState → AlState → ControllerState
with_state c state = with_al c (record { state = state; error = false }) 0

-- the controller with an error, its state as before, and with this AL status code
abbrev pub with_error : ControllerState → AlStatusCode → ControllerState
with_error c code = with_al c (record { state = (al_status c).state; error = true }) (al_status_code code)

-- the counter of the last good mail, which a slave that enters Init forgets
abbrev pub kept_in : AlState → Option ℕ → Option ℕ
kept_in Init _ = None
kept_in PreOp kept = kept
kept_in SafeOp kept = kept
kept_in Op kept = kept

-- the slave after an answer
abbrev pub with_al_answer : SlaveState → AlAnswer → SlaveState
with_al_answer s Ignored = s
with_al_answer s (Refused code) = record s { controller = with_error s.controller code }
with_al_answer s (Entered state) = record s {
  controller = with_state s.controller state;
  application = record s.application { kept = kept_in state s.application.kept };
}

-- the slave after the request in AL control, where there is a new one
abbrev pub after_request : Option ℕ → SlaveState → SlaveState
after_request None s = s
after_request (Some control) s = with_al_answer s (al_answer s control)

-- the slave after its AL step, which takes AL control where it was written since the last one
unfoldable pub al_step : SlaveState → SlaveState
al_step s =
    let taken = record s { controller = with_control_taken s.controller }
    in after_request (new_control s.controller) taken
