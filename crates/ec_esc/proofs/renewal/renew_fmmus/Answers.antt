use Rattle.std.proofs.Common.{◌≡◌, ◌<◌, ℕ, List, length, get_or, sym, ◌∙◌, ap, arith}
use Rattle.std.proofs.lemmas.List.{length-set}
use Rattle.ec_regs.specs.declared.registers.TheConstants.{FMMU_COUNT}
use Rattle.ec_regs.specs.declared.fmmu.Fmmu.{Fmmu}
use Rattle.ec_areas.specs.Records.{fmmu_at}
use Rattle.ec_areas.proofs.Laws.{get_or-fmmus_of}
use Rattle.ec_esc.proofs.PlannedLemmas.{renewed_none, renewed_more, renewed_kept, fmmus_renewed, fmmu_stays}
use Rattle.ec_esc.proofs.PlannedLemmas.{fmmus_stay}
use Rattle.ec_esc.proofs.renewal.renew_fmmus.Goals as goal
use Rattle.ec_esc.proofs.renewal.renew_fmmus.Goals.{then-meets, else-meets}

pub returns-then-not-meets-clause-fmmus : goal.returns-then-not-meets-clause-fmmus
returns-then-not-meets-clause-fmmus c before old_is changes =
    let length_is = changes.size in
    old_is ∙ fmmus_stay before c.args.memory.now c.args.written.first c.args.written.count changes (omega (arith, c.requires))
    (sym c.meets.ensures ∙ c.if-not-meets.true)

pub loop-number-init : goal.loop-number-init
loop-number-init c = record {
  size = omega arith;
  renewed = λ before old_is changes. renewed_none c.args.fmmus.now (fmmu_at c.args.memory.now);
}

pub loop-number-preserved : goal.loop-number-preserved
loop-number-preserved c =
    let number = c.loop-number.number in
    let old : List Fmmu = c.args.fmmus.now in
    let fmmus : List Fmmu = c.loop-number.fmmus in
    let memory : List ℕ = c.args.memory.now in
    let below : number < FMMU_COUNT = c.loop-number-test.true in
    let size : length fmmus ≡ FMMU_COUNT = c.loop-number.invariant.size in
    elim c.if-meets.branch [
      | then-meets w ↦ rw (w.fmmus-is, w.new.ensures, w.fmmu_at.ensures) record {
        size = length-set fmmus number (fmmu_at memory number) ∙ size;
        renewed = λ before old_is changes.
            renewed_more number old fmmus (fmmu_at memory)
            (c.loop-number.invariant.renewed before old_is changes) (omega arith);
      }
      | else-meets w ↦ rw w.fmmus-is record {
        size = size;
        renewed = λ before old_is changes.
            let length_is = changes.size in
            let stays : fmmu_at memory number ≡ fmmu_at before number =
            fmmu_stays before memory c.args.written.first c.args.written.count number changes (omega (arith, c.requires)) below
            (sym (rw c.fmmu_record.ensures at c.meets-in-loop-number.ensures) ∙ w.if-meets.false) in
            renewed_kept number old fmmus (fmmu_at memory)
            (c.loop-number.invariant.renewed before old_is changes)
            (λ d. ap (λ (fs : List Fmmu). get_or fs number d) old_is
            ∙ get_or-fmmus_of before d number below ∙ sym stays);
      }
    ]

pub returns-clause-fmmus : goal.returns-clause-fmmus
returns-clause-fmmus c before old_is changes =
    let all : c.loop-number.number ≡ FMMU_COUNT = omega arith in
    fmmus_renewed c.args.fmmus.now c.loop-number.fmmus c.args.memory.now
    (rw (sym all) (c.loop-number.invariant.renewed before old_is changes)) c.loop-number.invariant.size
