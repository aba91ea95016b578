use Rattle.std.proofs.Common.{◌≡◌, ℕ, List, [], ◌∷◌, length, sym, ◌∙◌, ap}
use Rattle.std.specs.Int.{w16, to_le_bytes}
use Rattle.ec_regs.specs.Al.{status_byte}
use Rattle.ec_regs.specs.declared.registers.TheConstants.{AL_STATUS, AL_STATUS_CODE, MEMORY_SIZE}
use Rattle.ec_esc.specs.Application.{with_al, al_status, al_status_code}
use Rattle.ec_esc.specs.State.{ControllerState, with_run}
use Rattle.ec_esc.proofs.ApplicationLemmas.{al_status-with_al, al_status_code-with_al}
use Rattle.ec_esc.proofs.controller.Controller.set_al.Goals as goal

pub returns-clause-state : goal.returns-clause-state
returns-clause-state c =
    let bytes : List ℕ = status_byte c.args.status ∷ 0 ∷ [] in
    let second : c.load.new.self ≡ with_run (with_run c.self.inside.memory AL_STATUS bytes)
    AL_STATUS_CODE (to_le_bytes w16 c.args.code) =
    c.load.ensures.value
    ∙ ap (λ (spelt : List ℕ). with_run c.set_al_status.new.self AL_STATUS_CODE spelt) c.to_le_bytes.ensures
    ∙ ap (λ (m : List ℕ). with_run m AL_STATUS_CODE (to_le_bytes w16 c.args.code))
    c.set_al_status.ensures.value in
    ap (λ (m : List ℕ). record {
      memory = m;
      shown = c.self.inside.shown.items;
      written = c.self.inside.written;
    }) second
    ∙ ap (λ (s : ControllerState). with_al s c.args.status c.args.code) c.self.view_is

-- the memory has its size
size : (c : goal.After-load) → length c.args.self.now.memory ≡ MEMORY_SIZE
size c = sym (ap (λ (s : ControllerState). length s.memory) c.self.view_is) ∙ c.self.invariant.0

pub returns-clause-status : goal.returns-clause-status
returns-clause-status c =
    ap al_status (returns-clause-state c) ∙ al_status-with_al c.args.self.now c.args.status c.args.code
    (size c)

pub returns-clause-code : goal.returns-clause-code
returns-clause-code c =
    ap al_status_code (returns-clause-state c)
    ∙ al_status_code-with_al c.args.self.now c.args.status c.args.code (size c) c.ranges.code.fits
