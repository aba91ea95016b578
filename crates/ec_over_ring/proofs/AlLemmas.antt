-- A slave whose AL control asks for a state enters it or refuses with an error, and AL status says which.
use Rattle.std.proofs.Common.{◌≡◌, ℕ, ◌+◌, ◌-◌, ◌*◌, ◌≤◌, Bool, true, false, cond, ltb, leb, ◌&&◌}
use Rattle.std.proofs.Common.{List, [], ◌∷◌, ◌++◌, length, take, drop, get_or, Option, None, Some}
use Rattle.std.proofs.Common.{sym, ap, ◌∙◌, arith, subst, inl, length-append}
use Rattle.std.specs.Prelude.{not}
use Rattle.std.specs.Int.{w16, to_le_bytes}
use Rattle.std.proofs.lemmas.List.{get_or-append_right, get_or_append_left, length-take-le}
use Rattle.ec_regs.specs.Al.{code_of, status_byte}
use Rattle.ec_regs.specs.declared.al.AlState.{AlState}
use Rattle.ec_regs.specs.declared.al.AlState.TheVariants.{Init, PreOp, SafeOp, Op}
use Rattle.ec_regs.specs.declared.al.AlStatus.{AlStatus}
use Rattle.ec_regs.specs.AlStatusCode.{al_status_code}
use Rattle.ec_regs.specs.declared.al_status_code.AlStatusCode.{AlStatusCode}
use Rattle.ec_regs.specs.declared.al_status_code.AlStatusCode.TheVariants.{InvalidStateChange}
use Rattle.ec_regs.specs.declared.al_status_code.AlStatusCode.TheVariants.{InvalidMailboxConfiguration}
use Rattle.ec_regs.specs.declared.al_status_code.AlStatusCode.TheVariants.{InvalidOutputConfiguration}
use Rattle.ec_regs.specs.declared.al_status_code.AlStatusCode.TheVariants.{InvalidInputConfiguration}
use Rattle.ec_regs.specs.declared.registers.TheConstants.{AL_STATUS, AL_STATUS_CODE, MEMORY_SIZE}
use Rattle.ec_esc.specs.Application.{with_al, al_status, new_control, with_control_taken}
use Rattle.ec_esc.specs.State.{ControllerState, with_run, word_at}
use Rattle.ec_esc.proofs.Laws.{length-with_run, get_or-with_run_beside}
use Rattle.ec_app.specs.AlStep.{al_answer, with_al_answer, after_request, al_step, current, has_error}
use Rattle.ec_app.specs.AlStep.{with_state, with_error, lacks_mailboxes, has_outputs, has_inputs}
use Rattle.ec_app.specs.State.{SlaveState}
use Rattle.ec_app.proofs.Laws.{al_left}
use Rattle.ec_over_ring.proofs.ControlLemmas.{HasControl}

-- ---- AL status then

-- a run begins where it is put
run_head : (m : List ℕ) (x : ℕ) (xs : List ℕ) (at : ℕ) → at ≤ length m
    → get_or (with_run m at (x ∷ xs)) at 0 ≡ x
run_head m x xs at inside =
    let front : length (take at m) ≡ at = length-take-le at m inside in
    let none : at - at ≡ 0 = omega arith in
    let size : length (take at m ++ x ∷ xs) ≡ length (take at m) + length (x ∷ xs) =
    length-append (take at m) (x ∷ xs) in
    get_or_append_left (take at m ++ x ∷ xs) (drop (at + length (x ∷ xs)) m) 0 at (omega (arith, size, front))
    ∙ get_or-append_right (take at m) (x ∷ xs) at at 0 front (omega arith)
    ∙ ap (λ (n : ℕ). get_or (x ∷ xs) n 0) none

-- the byte of AL status is that of a status
pub status_stands : (c : ControllerState) (status : AlStatus) (code : ℕ) → length c.memory ≡ MEMORY_SIZE
    → get_or (with_al c status code).memory AL_STATUS 0 ≡ status_byte status
status_stands c status code size =
    let bytes : List ℕ = status_byte status ∷ 0 ∷ [] in
    let first : List ℕ = with_run c.memory AL_STATUS bytes in
    let first_size : length first ≡ length c.memory =
    length-with_run c.memory bytes AL_STATUS (omega (arith, size)) in
    get_or-with_run_beside first (to_le_bytes w16 code) AL_STATUS_CODE 304 (omega (arith, first_size, size))
    (inl (omega arith))
    ∙ run_head c.memory (status_byte status) (0 ∷ []) 304 (omega (arith, size))

-- a state that stands without an error, or an error
pub data Stands (state : AlState) (byte : ℕ) : Type 0 where
  entered : byte ≡ status_byte (record { state = state; error = false }) → Stands state byte
  refused : (old : AlState) → byte ≡ status_byte (record { state = old; error = true }) → Stands state byte

-- a memory of which AL status says so
pub record IsTold (state : AlState) (memory : List ℕ) : Type 0 where
  pub stands : Stands state (get_or memory AL_STATUS 0)
  pub size : length memory ≡ MEMORY_SIZE

-- ---- the answer to a request for a state

-- it stands whichever way a test goes, and behind a row that never fits
either_stands : {R : Type 0} (state : AlState) (f : R → SlaveState) (b : Bool) (x y : R)
    → IsTold state (f x).controller.memory
    → IsTold state (f y).controller.memory
    → IsTold state (f (cond b x y)).controller.memory
either_stands state f true x y holds fails = holds
either_stands state f false x y holds fails = fails

never_stands : {R : Type 0} (state : AlState) (f : R → SlaveState) (b : Bool) (x y : R)
    → IsTold state (f y).controller.memory
    → IsTold state (f (cond (b && false) x y)).controller.memory
never_stands state f true x y fails = fails
never_stands state f false x y fails = fails

-- the state is entered
enters : (state : AlState) (s : SlaveState) → length s.controller.memory ≡ MEMORY_SIZE
    → IsTold state (with_state s.controller state).memory
enters state s size =
    let status : AlStatus = record { state = state; error = false } in
    record {
      stands = entered (status_stands s.controller status 0 size);
      size = (al_left s.controller status 0 size).size ∙ size;
    }

-- or refused
refuses : (state : AlState) (s : SlaveState) (code : AlStatusCode) → length s.controller.memory ≡ MEMORY_SIZE
    → IsTold state (with_error s.controller code).memory
refuses state s code size =
    let status : AlStatus = record { state = (al_status s.controller).state; error = true } in
    record {
      stands = refused (al_status s.controller).state
          (status_stands s.controller status (al_status_code code) size);
      size = (al_left s.controller status (al_status_code code) size).size ∙ size;
    }

-- with the acknowledgement no request is ignored
answer_stands : (state : AlState) (s : SlaveState) → length s.controller.memory ≡ MEMORY_SIZE
    → IsTold state (with_al_answer s (al_answer s (code_of state + 16))).controller.memory
unfolding al_answer
answer_stands Init s size =
    never_stands Init (with_al_answer s) (has_error s) _ _
    (either_stands Init (with_al_answer s) (leb 1 (current s)) _ _ (enters Init s size)
    (either_stands Init (with_al_answer s) (ltb (2 * current s) 1) _ _
    (refuses Init s InvalidStateChange size)
    (enters Init s size)))
answer_stands PreOp s size =
    never_stands PreOp (with_al_answer s) (has_error s) _ _
    (either_stands PreOp (with_al_answer s) (leb 2 (current s)) _ _ (enters PreOp s size)
    (either_stands PreOp (with_al_answer s) (ltb (2 * current s) 2) _ _
    (refuses PreOp s InvalidStateChange size)
    (either_stands PreOp (with_al_answer s) (lacks_mailboxes s) _ _
    (refuses PreOp s InvalidMailboxConfiguration size) (enters PreOp s size))))
answer_stands SafeOp s size =
    never_stands SafeOp (with_al_answer s) (has_error s) _ _
    (either_stands SafeOp (with_al_answer s) (leb 4 (current s)) _ _ (enters SafeOp s size)
    (either_stands SafeOp (with_al_answer s) (ltb (2 * current s) 4) _ _
    (refuses SafeOp s InvalidStateChange size)
    (either_stands SafeOp (with_al_answer s) (not (has_outputs s)) _ _
    (refuses SafeOp s InvalidOutputConfiguration size)
    (either_stands SafeOp (with_al_answer s) (not (has_inputs s)) _ _
    (refuses SafeOp s InvalidInputConfiguration size) (enters SafeOp s size)))))
answer_stands Op s size =
    never_stands Op (with_al_answer s) (has_error s) _ _
    (either_stands Op (with_al_answer s) (leb 8 (current s)) _ _ (enters Op s size)
    (either_stands Op (with_al_answer s) (ltb (2 * current s) 8) _ _ (refuses Op s InvalidStateChange size)
    (enters Op s size)))

-- the AL step of a slave whose AL control asks for a state
pub al_stands : (state : AlState) (s : SlaveState) → HasControl (code_of state + 16) s.controller
    → IsTold state (al_step s).controller.memory
unfolding al_step
al_stands state s has =
    let taken : SlaveState = record s { controller = with_control_taken s.controller } in
    let asked : new_control s.controller ≡ Some (code_of state + 16) =
    ap (λ b. cond b (Some (word_at s.controller.memory 288)) None) has.written
    ∙ ap (λ (n : ℕ). Some n) has.is in
    subst (λ (o : Option ℕ). IsTold state (after_request o taken).controller.memory)
    (sym asked)
    (answer_stands state taken has.size)
