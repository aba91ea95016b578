use Rattle.std.proofs.Common.{◌≡◌, ◌<◌, ℕ, List, length, get_or, sym, ◌∙◌, ap, arith}
use Rattle.std.proofs.lemmas.List.{length-set}
use Rattle.ec_regs.specs.declared.registers.TheConstants.{SYNC_MANAGER_COUNT}
use Rattle.ec_regs.specs.declared.sync_man.SyncMan.{SyncMan}
use Rattle.ec_areas.specs.Records.{sync_manager_at}
use Rattle.ec_areas.proofs.Laws.{get_or-sync_managers_of}
use Rattle.ec_esc.proofs.PlannedLemmas.{renewed_none, renewed_more, renewed_kept, managers_renewed}
use Rattle.ec_esc.proofs.PlannedLemmas.{manager_stays, managers_stay}
use Rattle.ec_esc.proofs.renewal.renew_managers.Goals as goal
use Rattle.ec_esc.proofs.renewal.renew_managers.Goals.{then-meets, else-meets}

pub returns-then-not-meets : goal.returns-then-not-meets
returns-then-not-meets c before old_is changes =
    let length_is = changes.size in
    old_is ∙ managers_stay before c.args.memory.now c.args.written.first c.args.written.count changes (omega
    (arith, c.requires))
    (sym c.meets.ensures ∙ c.if-not-meets.true)

pub loop-number-init : goal.loop-number-init
loop-number-init c = record {
  size = omega arith;
  renewed = λ before old_is changes. renewed_none c.args.managers.now (sync_manager_at c.args.memory.now);
}

pub loop-number-preserved : goal.loop-number-preserved
loop-number-preserved c =
    let number = c.loop-number.number in
    let old : List SyncMan = c.args.managers.now in
    let managers : List SyncMan = c.loop-number.managers in
    let memory : List ℕ = c.args.memory.now in
    let below : number < SYNC_MANAGER_COUNT = c.loop-number-test.true in
    let size : length managers ≡ SYNC_MANAGER_COUNT = c.loop-number.invariant.size in
    elim c.if-meets.branch [
      | then-meets w ↦ rw (w.managers-is, w.new.ensures, w.sync_manager_at.ensures) record {
        size = length-set managers number (sync_manager_at memory number) ∙ size;
        renewed = λ before old_is changes.
            renewed_more number old managers (sync_manager_at memory)
            (c.loop-number.invariant.renewed before old_is changes) (omega arith);
      }
      | else-meets w ↦ rw w.managers-is record {
        size = size;
        renewed = λ before old_is changes.
            let length_is = changes.size in
            let stays : sync_manager_at memory number ≡ sync_manager_at before number =
            manager_stays before memory c.args.written.first c.args.written.count number changes (omega
            (arith, c.requires)) below
            (sym (rw c.sync_manager_record.ensures at c.meets-in-loop-number.ensures) ∙ w.if-meets.false) in
            renewed_kept number old managers (sync_manager_at memory)
            (c.loop-number.invariant.renewed before old_is changes)
            (λ d. ap (λ (fs : List SyncMan). get_or fs number d) old_is
            ∙ get_or-sync_managers_of before d number below ∙ sym stays);
      }
    ]

pub returns : goal.returns
returns c before old_is changes =
    let all : c.loop-number.number ≡ SYNC_MANAGER_COUNT = omega arith in
    managers_renewed c.args.managers.now c.loop-number.managers c.args.memory.now
    (rw (sym all) (c.loop-number.invariant.renewed before old_is changes)) c.loop-number.invariant.size
