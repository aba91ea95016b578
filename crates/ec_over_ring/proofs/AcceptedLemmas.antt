-- A slave that fits what is wanted refuses no state: where its records stand, each request of a start-up is
-- met.
use Rattle.std.proofs.Common.{◌≡◌, ℕ, ◌+◌, ◌*◌, ◌<◌, ◌≤◌, Bool, true, false, cond, ltb, leb, ◌&&◌}
use Rattle.std.proofs.Common.{not, ◌%◌, ◌/◌}
use Rattle.std.proofs.Common.{List, get_or, Option, None, Some, refl, sym, ap}
use Rattle.std.proofs.Common.{◌∙◌, arith, true≢false}
use Rattle.std.proofs.lemmas.Bool.Decides.{nat_tests}
use Rattle.ec_regs.specs.Al.{code_of, status_of}
use Rattle.ec_regs.specs.declared.al.AlState.{AlState}
use Rattle.ec_regs.specs.declared.al.AlState.TheVariants.{Init, PreOp, SafeOp, Op}
use Rattle.ec_regs.specs.declared.al.AlStatus.{AlStatus}
use Rattle.ec_regs.specs.declared.registers.TheConstants.{AL_STATUS}
use Rattle.ec_regs.specs.declared.sync_man.SyncMan.{SyncMan}
use Rattle.ec_regs.proofs.Laws.{status_of-status_byte}
use Rattle.ec_areas.specs.Records.{sync_manager_at}
use Rattle.ec_esc.specs.Application.{al_status, new_control, with_control_taken}
use Rattle.ec_esc.specs.State.{ControllerState, word_at}
use Rattle.ec_app.specs.AlStep.{after_request, al_answer, al_step, current, has_error, has_inputs}
use Rattle.ec_app.specs.AlStep.{has_outputs}
use Rattle.ec_app.specs.AlStep.{lacks_mailboxes, with_al_answer, with_state}
use Rattle.ec_app.specs.Slave.{step}
use Rattle.ec_app.specs.State.{SlaveState}
use Rattle.ec_app.proofs.Laws.{mail_step_status}
use Rattle.ec_over_ring.specs.Fit.{FitsRegisters}
use Rattle.ec_over_ring.specs.Started.{HoldsManager}
use Rattle.ec_over_ring.proofs.AlLemmas.{al_stands, status_stands}
use Rattle.ec_over_ring.proofs.ControlLemmas.{HasControl}
use Rattle.ec_over_ring.proofs.ManagerLemmas.{manager_is}

-- ---- the table

-- what a state asks of a slave
unfoldable pub Allows : AlState → SlaveState → Type 0
Allows Init s = Unit {0}
Allows PreOp s = lacks_mailboxes s ≡ false
Allows SafeOp s = (2 ≤ current s) × (has_outputs s ≡ true) × (has_inputs s ≡ true)
Allows Op s = 4 ≤ current s

code_some : (x : AlState) → 1 ≤ code_of x
code_some Init = omega arith
code_some PreOp = omega arith
code_some SafeOp = omega arith
code_some Op = omega arith

-- a row that never fits is passed over
never : {R : Type 0} (f : R → SlaveState) (c : ControllerState) (b : Bool) (x y : R) → (f y).controller ≡ c
    → (f (cond (b && false) x y)).controller ≡ c
never f c true x y rest = rest
never f c false x y rest = rest

-- so is one that does not fit
passed : {R : Type 0} (f : R → SlaveState) (c : ControllerState) (b : Bool) (x y : R) → b ≡ false
    → (f y).controller ≡ c → (f (cond b x y)).controller ≡ c
passed f c true x y unfit rest = absurd (true≢false unfit)
passed f c false x y unfit rest = rest

-- and whichever way a test goes
either : {R : Type 0} (f : R → SlaveState) (c : ControllerState) (b : Bool) (x y : R) → (f x).controller ≡ c
    → (f y).controller ≡ c → (f (cond b x y)).controller ≡ c
either f c true x y holds fails = holds
either f c false x y holds fails = fails

-- the controller behind the answer to a request
answered_by : SlaveState → ℕ → ControllerState
answered_by s control = (with_al_answer s (al_answer s control)).controller

-- the request is met
is_met : (state : AlState) (s : SlaveState) → Allows state s
    → answered_by s (code_of state + 16) ≡ with_state s.controller state
unfolding al_answer Allows answered_by
is_met Init s allows =
    let then : ControllerState = with_state s.controller Init in
    let some : 1 ≤ current s = code_some (al_status s.controller).state in
    let unfit : ltb (2 * current s) 1 ≡ false = grind (arith, nat_tests) in
    never (with_al_answer s) then (has_error s) _ _
    (either (with_al_answer s) then (leb 1 (current s)) _ _ refl
    (passed (with_al_answer s) then (ltb (2 * current s) 1) _ _ unfit refl))
is_met PreOp s lacks =
    let then : ControllerState = with_state s.controller PreOp in
    let some : 1 ≤ current s = code_some (al_status s.controller).state in
    let unfit : ltb (2 * current s) 2 ≡ false = grind (arith, nat_tests) in
    never (with_al_answer s) then (has_error s) _ _
    (either (with_al_answer s) then (leb 2 (current s)) _ _ refl
    (passed (with_al_answer s) then (ltb (2 * current s) 2) _ _ unfit
    (passed (with_al_answer s) then (lacks_mailboxes s) _ _ lacks refl)))
is_met SafeOp s (from, outputs, inputs) =
    let then : ControllerState = with_state s.controller SafeOp in
    let unfit : ltb (2 * current s) 4 ≡ false = grind (arith, nat_tests) in
    never (with_al_answer s) then (has_error s) _ _
    (either (with_al_answer s) then (leb 4 (current s)) _ _ refl
    (passed (with_al_answer s) then (ltb (2 * current s) 4) _ _ unfit
    (passed (with_al_answer s) then (not (has_outputs s)) _ _ (ap (λ (b : Bool). not b) outputs)
    (passed (with_al_answer s) then (not (has_inputs s)) _ _ (ap (λ (b : Bool). not b) inputs) refl))))
is_met Op s from =
    let then : ControllerState = with_state s.controller Op in
    let unfit : ltb (2 * current s) 8 ≡ false = grind (arith, nat_tests) in
    never (with_al_answer s) then (has_error s) _ _
    (either (with_al_answer s) then (leb 8 (current s)) _ _ refl
    (passed (with_al_answer s) then (ltb (2 * current s) 8) _ _ unfit refl))

-- so AL status tells no error behind the step
pub met_step : (state : AlState) (t : SlaveState) → HasControl (code_of state + 16) t.controller
    → Allows state t → (al_status (step t).controller).error ≡ false
unfolding step al_step Allows answered_by
met_step state t has allows =
    let taken : SlaveState = record t { controller = with_control_taken t.controller } in
    let status : AlStatus = record { state = state; error = false } in
    let asked : new_control t.controller ≡ Some (code_of state + 16) =
    ap (λ b. cond b (Some (word_at t.controller.memory 288)) None) has.written
    ∙ ap (λ (n : ℕ). Some n) has.is in
    let answered : (al_step t).controller ≡ with_state taken.controller state =
    ap (λ (o : Option ℕ). (after_request o taken).controller) asked
    ∙ is_met state taken (as_taken state allows) in
    ap (λ (b : ℕ). (status_of b).error)
    (mail_step_status (al_step t) (al_stands state t has).size
    ∙ ap (λ (c : ControllerState). get_or c.memory AL_STATUS 0) answered
    ∙ status_stands taken.controller status 0 has.size)
    ∙ ap (λ (x : AlStatus). x.error) (status_of-status_byte status)
  where
    as_taken : (x : AlState) → Allows x t
        → Allows x (record t { controller = with_control_taken t.controller })
    as_taken Init allowed = tt
    as_taken PreOp allowed = allowed
    as_taken SafeOp allowed = allowed
    as_taken Op allowed = allowed

-- ---- a record that stands

-- but for the bytes that are the slave's own
pub stands_as : (memory : List ℕ) (n : ℕ) (m : SyncMan) → FitsRegisters m → HoldsManager memory n (Some m)
    → sync_manager_at memory n
    ≡ record m {
      status = get_or memory (2048 + 8 * n + 5) 0;
      pdi = get_or memory (2048 + 8 * n + 7) 0;
    }
stands_as memory n m fits held =
    let at : ℕ = 2048 + 8 * n in
    let start_fits : m.start < 65536 = fits.start in
    let length_fits : m.length < 65536 = fits.length in
    let a : get_or memory (at + 0) 0 ≡ m.start % 256 = held.0 0 (omega arith) in
    let b : get_or memory (at + 1) 0 ≡ m.start / 256 % 256 = held.0 1 (omega arith) in
    let c : get_or memory (at + 2) 0 ≡ m.length % 256 = held.0 2 (omega arith) in
    let d : get_or memory (at + 3) 0 ≡ m.length / 256 % 256 = held.0 3 (omega arith) in
    let control : get_or memory (at + 4) 0 ≡ m.control = held.0 4 (omega arith) in
    let same : at + 6 + 0 ≡ at + 6 = omega arith in
    let activate : get_or memory (at + 6) 0 ≡ m.activate =
    sym (ap (λ (x : ℕ). get_or memory x 0) same) ∙ held.1 0 (omega arith) in
    let start : get_or memory (at + 0) 0 + 256 * get_or memory (at + 1) 0 ≡ m.start =
    omega (arith, a, b, start_fits) in
    let size : get_or memory (at + 2) 0 + 256 * get_or memory (at + 3) 0 ≡ m.length =
    omega (arith, c, d, length_fits) in
    manager_is memory n ∙ rw (start, size, control, activate) refl
