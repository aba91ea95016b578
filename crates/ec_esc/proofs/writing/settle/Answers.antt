use Rattle.std.specs.Prelude.{not}
use Rattle.std.proofs.Common.{◌≡◌, ℕ, ◌<◌, List, length, get_or, set, cond, refl, sym, ◌∙◌, ap, arith}
use Rattle.std.proofs.lemmas.List.{length-set}
use Rattle.ec_regs.specs.declared.registers.TheConstants.{SYNC_MANAGER_COUNT}
use Rattle.ec_regs.specs.declared.registers.TheConstants.{MEMORY_SIZE}
use Rattle.ec_areas.specs.Records.{sync_managers_of}
use Rattle.ec_regs.specs.SyncMan.{is_active}
use Rattle.ec_regs.specs.declared.sync_man.SyncMan.{SyncMan}
use Rattle.ec_esc.specs.Writing.{is_switched}
use Rattle.ec_regs.specs.SyncMan.{status_address}
use Rattle.ec_esc.proofs.SettledLemmas.{settled_to, settled_none, settled_more, settled_skip, settled_all}
use Rattle.ec_esc.proofs.SettledLemmas.{switched_by_records}
use Rattle.ec_esc.proofs.writing.settle.Goals as goal
use Rattle.ec_esc.proofs.writing.settle.Goals.{then-is_switched, else-is_switched}

pub loop-number-init : goal.loop-number-init
loop-number-init c = record { bytes = λ arrived _. settled_none arrived c.args.memory.now; size = refl }

-- the test says whether the sync manager was switched
switched_is : (c : goal.Joined-is_switched) (arrived : List ℕ) → c.args.before.now ≡ sync_managers_of arrived
    → c.is_switched.result ≡ is_switched arrived c.args.memory.now c.loop-number.number
switched_is c arrived before_is =
    let d = c.index-before-number.result in
    let e = c.index-after-number.result in
    let was = is_active (get_or c.args.before.now c.loop-number.number d) in
    switched_by_records arrived c.args.memory.now c.args.before.now c.managers.result.now d e
    c.loop-number.number c.is_switched.result
    c.loop-number-test.true before_is c.managers.ensures.value
    (c.is_switched.ensures ∙ ap (λ (s : SyncMan). cond was (not (is_active s))
    (is_active s)) c.index-after-number.is)

pub loop-number-preserved : goal.loop-number-preserved
loop-number-preserved c =
    let now = c.args.memory.now in
    let number = c.loop-number.number in
    let below : number < SYNC_MANAGER_COUNT = c.loop-number-test.true in
    let room : length now ≡ MEMORY_SIZE = c.managers.ensures.size in
    let inside : status_address number < length c.loop-number.memory =
    omega (arith, c.loop-number.invariant.size) in
    elim c.if-is_switched.branch [
      | then-is_switched w ↦
          let put : c.if-is_switched.memory ≡ set c.loop-number.memory (status_address number) 0 =
          w.memory-is ∙ w.set_byte.ensures.value
          ∙ ap (λ (at : ℕ). set c.loop-number.memory at 0) w.status_address.ensures.value in
          rw put record {
            bytes = λ arrived before_is.
                settled_more arrived now c.loop-number.memory number below inside (sym
                (switched_is c arrived before_is) ∙ w.if-is_switched.true)
                (c.loop-number.invariant.bytes arrived before_is);
            size = length-set c.loop-number.memory (status_address number) 0 ∙ c.loop-number.invariant.size;
          }
      | else-is_switched w ↦ rw w.memory-is record {
        bytes = λ arrived before_is.
            settled_skip arrived now c.loop-number.memory number below (sym
            (switched_is c arrived before_is) ∙ w.if-is_switched.false)
            (c.loop-number.invariant.bytes arrived before_is);
        size = c.loop-number.invariant.size;
      }
    ]

pub returns-clause-value : goal.returns-clause-value
returns-clause-value c arrived before_is =
    let all : c.loop-number.number ≡ SYNC_MANAGER_COUNT = omega arith in
    settled_all arrived c.args.memory.now c.loop-number.memory c.loop-number.invariant.size
    (λ a. c.loop-number.invariant.bytes arrived before_is a
    ∙ ap (λ (n : ℕ). settled_to arrived c.args.memory.now n a) all)

pub returns-clause-size : goal.returns-clause-size
returns-clause-size c = c.loop-number.invariant.size ∙ c.managers.ensures.size
