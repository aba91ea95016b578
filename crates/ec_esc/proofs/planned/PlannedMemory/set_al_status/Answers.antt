use Rattle.std.proofs.Common.{◌≡◌, ℕ, List, [], ◌∷◌, length, refl, ◌∙◌, ap, arith, subst, sym}
use Rattle.ec_regs.specs.Al.{status_byte}
use Rattle.ec_regs.specs.declared.registers.TheConstants.{AL_STATUS}
use Rattle.ec_esc.specs.Renewal.{ChangesWithin}
use Rattle.ec_esc.specs.State.{NamesState, with_run}
use Rattle.ec_esc.proofs.PlannedLemmas.{run_changes, fmmus_stay, managers_stay, status_names}
use Rattle.ec_esc.proofs.planned.PlannedMemory.set_al_status.Goals as goal

-- the memory with the status in it
memory_is : (c : goal.After-load) → c.load.new.self
    ≡ with_run c.self.inside.memory AL_STATUS (status_byte c.args.status ∷ 0 ∷ [])
memory_is c =
    c.load.ensures.value
    ∙ ap (λ (n : ℕ). with_run c.self.inside.memory AL_STATUS (n ∷ 0 ∷ [])) c.byte.ensures

pub invariant_of-self : goal.invariant_of-self
invariant_of-self c =
    let memory : List ℕ = c.self.inside.memory in
    let size : length memory ≡ 12288 = c.self.invariant.size in
    let changes : ChangesWithin AL_STATUS 2 memory c.load.new.self =
    run_changes memory c.load.new.self (status_byte c.args.status ∷ 0 ∷ []) AL_STATUS (omega arith)
    (memory_is c) in
    record {
      size = c.load.ensures.size;
      fmmus_are =
          c.self.invariant.fmmus_are
          ∙ fmmus_stay memory c.load.new.self AL_STATUS 2 changes size refl;
      extent_is = c.self.invariant.extent_is;
      managers_are =
          c.self.invariant.managers_are
          ∙ managers_stay memory c.load.new.self AL_STATUS 2 changes size refl;
      status = subst NamesState (sym (memory_is c)) (status_names memory c.args.status size);
    }
