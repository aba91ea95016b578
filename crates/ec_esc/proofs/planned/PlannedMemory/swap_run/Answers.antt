use Rattle.std.proofs.Common.{ℕ, List, length, sym, ◌∙◌, ap, subst}
use Rattle.ec_regs.specs.Bits.{AreBytes}
use Rattle.ec_areas.specs.Extent.{extent_of}
use Rattle.ec_areas.specs.Records.{fmmus_of, sync_managers_of}
use Rattle.ec_esc.specs.Renewal.{ChangesWithin}
use Rattle.ec_esc.proofs.PlannedLemmas.{written_changes, written_names}
use Rattle.ec_esc.proofs.planned.PlannedMemory.swap_run.Goals as goal

pub invariant_of-self : goal.invariant_of-self
invariant_of-self c =
    let memory : List ℕ = c.self.inside.memory in
    let are : AreBytes memory = subst AreBytes (sym c.self.view_is) c.requires.bytes in
    let now_is = c.bytes-bytes.ensures.value ∙ c.swap_run.ensures.written in
    let changes : ChangesWithin c.args.from (length c.args.payload.now) memory c.bytes-bytes.result.now =
    written_changes memory c.bytes-bytes.result.now c.args.payload.now c.args.from
    (length c.args.payload.now) are now_is in
    record {
      size = c.swap_run.ensures.size;
      fmmus_are =
          c.renew_fmmus.ensures.fmmus memory c.self.invariant.fmmus_are changes
          ∙ ap fmmus_of c.bytes-bytes.ensures.value;
      extent_is = λ surveyed.
          let same = c.renew_fmmus.ensures.surveyed surveyed in
          c.self.invariant.extent_is same.0 ∙ ap extent_of (sym same.1);
      managers_are =
          c.renew_managers.ensures memory c.self.invariant.managers_are changes
          ∙ ap sync_managers_of c.bytes-bytes.ensures.value;
      status =
          written_names memory c.swap_run.new.memory c.args.payload.now c.args.from
          (length c.args.payload.now) are c.swap_run.ensures.written c.self.invariant.status;
    }
