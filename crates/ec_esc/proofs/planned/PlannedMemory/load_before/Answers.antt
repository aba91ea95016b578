use Rattle.std.proofs.Common.{◌≡◌, ℕ, List, length, get_or, sym, ◌∙◌, ap, arith}
use Rattle.ec_regs.specs.declared.registers.TheConstants.{AL_STATUS}
use Rattle.ec_areas.specs.Extent.{extent_of}
use Rattle.ec_areas.specs.Records.{fmmus_of, sync_managers_of}
use Rattle.ec_esc.specs.Renewal.{ChangesWithin}
use Rattle.ec_esc.proofs.ApplicationLemmas.{get_or-with_run_behind}
use Rattle.ec_esc.proofs.PlannedLemmas.{run_changes, status_stays}
use Rattle.ec_esc.proofs.planned.PlannedMemory.load_before.Goals as goal

pub invariant_of-self : goal.invariant_of-self
invariant_of-self c =
    let memory : List ℕ = c.self.inside.memory in
    let size : length memory ≡ 12288 = c.self.invariant.size in
    let changes : ChangesWithin c.args.address (length c.args.bytes.now) memory c.bytes-bytes.result.now =
    run_changes memory c.bytes-bytes.result.now c.args.bytes.now c.args.address
    (omega (arith, c.requires, size)) (c.bytes-bytes.ensures.value ∙ c.load.ensures.value) in
    record {
      size = c.load.ensures.size;
      fmmus_are =
          c.renew_fmmus.ensures.fmmus memory c.self.invariant.fmmus_are changes
          ∙ ap fmmus_of c.bytes-bytes.ensures.value;
      extent_is = λ surveyed.
          let same = c.renew_fmmus.ensures.surveyed surveyed in
          c.self.invariant.extent_is same.0 ∙ ap extent_of (sym same.1);
      managers_are =
          c.renew_managers.ensures memory c.self.invariant.managers_are changes
          ∙ ap sync_managers_of c.bytes-bytes.ensures.value;
      status =
          status_stays memory c.load.new.self
          (ap (λ (m : List ℕ). get_or m AL_STATUS 0) c.load.ensures.value
          ∙ get_or-with_run_behind memory c.args.bytes.now c.args.address AL_STATUS c.requires
          (omega (arith, c.requires, size)))
          c.self.invariant.status;
    }
