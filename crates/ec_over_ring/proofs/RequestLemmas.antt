-- A slave is asked for a state over a ring where its records stand: it comes to that state.
use Rattle.std.proofs.Common.{◌≡◌, ℕ, zero, suc, ◌+◌, ◌*◌, ◌<◌, ◌≤◌, Bool, true, false, cond, ◌&&◌, not}
use Rattle.std.proofs.Common.{List, [], ◌∷◌, length, get_or, Option, None, Some, Result, Err, Ok, refl, ap}
use Rattle.std.proofs.Common.{◌∙◌, arith, inl, inr, take}
use Rattle.std.specs.Prelude.{slice_get}
use Rattle.std.specs.List.{AllByRecursion}
use Rattle.std.proofs.lemmas.Bool.{and_from}
use Rattle.ec_regs.specs.Al.{code_of, status_of}
use Rattle.ec_regs.specs.SyncMan.{is_active, sync_man_bytes}
use Rattle.ec_regs.specs.declared.al.AlState.{AlState}
use Rattle.ec_regs.specs.declared.al.AlState.TheVariants.{Init, PreOp, SafeOp, Op}
use Rattle.ec_regs.specs.declared.al.AlStatus.{AlStatus}
use Rattle.ec_regs.specs.declared.registers.TheConstants.{AL_CONTROL}
use Rattle.ec_regs.specs.declared.sync_man.SyncMan.{SyncMan}
use Rattle.ec_areas.specs.Ranges.{meets}
use Rattle.ec_areas.specs.Records.{sync_manager_at}
use Rattle.ec_wire.specs.Datagram.{DatagramRecord, ado_of}
use Rattle.ec_esc.specs.Application.{al_status, al_status_code}
use Rattle.ec_app.specs.AlStep.{current}
use Rattle.ec_app.specs.Roles.{fits_inputs, fits_outputs, has_mailboxes, is_answer_mailbox}
use Rattle.ec_app.specs.Roles.{is_request_mailbox}
use Rattle.ec_app.specs.State.{SlaveState}
use Rattle.ec_ring.specs.Ring.{RingState}
use Rattle.ec_master.specs.RingTrips.{RingTrips}
use Rattle.ec_services.specs.States.{IsRequested, control_write}
use Rattle.ec_services.specs.declared.fault.MasterFault.{MasterFault}
use Rattle.ec_services.specs.declared.fault.MasterFault.TheVariants.{Refused}
use Rattle.ec_run.specs.declared.step.Step.TheVariants.{SyncManager}
use Rattle.ec_run.specs.declared.wanted.Wanted.{Wanted}
use Rattle.ec_over_ring.specs.Brought.{ReachesAll}
use Rattle.ec_over_ring.specs.Fit.{ArePaired, FitsRegisters, IsFitFor, Passes}
use Rattle.ec_over_ring.specs.Question.{after_question}
use Rattle.ec_over_ring.specs.Started.{Holds, HoldsManager, HoldsSet}
use Rattle.ec_over_ring.specs.States.{HasStation, asked_slave}
use Rattle.ec_over_ring.proofs.AcceptedLemmas.{Allows, met_step, stands_as}
use Rattle.ec_over_ring.proofs.BroughtLemmas.{has_one}
use Rattle.ec_over_ring.proofs.LineBroughtLemmas.{IsThere}
use Rattle.ec_over_ring.proofs.RecordsLemmas.{AreRegisters}
use Rattle.ec_over_ring.proofs.SetsLemmas.{Fits}
use Rattle.ec_over_ring.proofs.SettingLemmas.{area_registers, switch_registers}
use Rattle.ec_over_ring.proofs.SparedLemmas.{HasSuch, IsSparing, IsSuch, pass_spares, such_one}
use Rattle.ec_over_ring.proofs.StateLemmas.{ComesTo, requested, slaves_between, written_slave}
use Rattle.ec_over_ring.proofs.StationLemmas.{ado_is, parts_of}

-- ---- records that stand

pub fits_at : (n : ℕ) (ms : List SyncMan) → AllByRecursion FitsRegisters ms → Fits (slice_get ms n)
fits_at n [] all = tt
fits_at zero (m ∷ ms) all = all.0
fits_at (suc n) (m ∷ ms) all = fits_at n ms all.1

mailboxes_stand : (memory : List ℕ) (requests answers : Option SyncMan) → Fits requests → Fits answers
    → ArePaired requests answers → HoldsManager memory 0 requests → HoldsManager memory 1 answers
    → has_mailboxes memory ≡ true
unfolding is_active meets
mailboxes_stand memory None answers fit fits paired held holds = absurd held
mailboxes_stand memory (Some requests) None fit fits paired held holds = absurd holds
mailboxes_stand memory (Some requests) (Some answers) fit fits paired held holds =
    let first = stands_as memory 0 requests fit held in
    let second = stands_as memory 1 answers fits holds in
    and_from _ _
    (and_from _ _ (ap (λ (m : SyncMan). is_request_mailbox m) first ∙ paired.0)
    (ap (λ (m : SyncMan). is_answer_mailbox m) second ∙ paired.1))
    (ap (λ (b : Bool). not b)
    (ap (λ (m : SyncMan). meets m (sync_manager_at memory 1).start (sync_manager_at memory 1).length) first
    ∙ ap (λ (m : SyncMan). meets requests m.start m.length) second
    ∙ paired.2))

outputs_stand : (memory : List ℕ) (o : Option SyncMan) (n : ℕ) → Fits o
    → Passes (λ m. fits_outputs m n) o → HoldsManager memory 2 o
    → fits_outputs (sync_manager_at memory 2) n ≡ true
unfolding is_active
outputs_stand memory None n fit passes held = absurd held
outputs_stand memory (Some m) n fit passes held =
    ap (λ (x : SyncMan). fits_outputs x n) (stands_as memory 2 m fit held) ∙ passes

inputs_stand : (memory : List ℕ) (o : Option SyncMan) (n : ℕ) → Fits o
    → Passes (λ m. fits_inputs m n) o → HoldsManager memory 3 o
    → fits_inputs (sync_manager_at memory 3) n ≡ true
unfolding is_active
inputs_stand memory None n fit passes held = absurd held
inputs_stand memory (Some m) n fit passes held =
    ap (λ (x : SyncMan). fits_inputs x n) (stands_as memory 3 m fit held) ∙ passes

-- ---- what a state asks of a slave that fits what is wanted

unfoldable pub Accepts : Wanted → AlState → SlaveState → Type 0
Accepts wanted Init s = Unit {0}
Accepts wanted PreOp s =
    IsFitFor wanted s × HoldsSet wanted s.controller.memory (SyncManager 0)
    × HoldsSet wanted s.controller.memory (SyncManager 1)
Accepts wanted SafeOp s =
    IsFitFor wanted s × IsThere PreOp s × HoldsSet wanted s.controller.memory (SyncManager 2)
    × HoldsSet wanted s.controller.memory (SyncManager 3)
Accepts wanted Op s = IsThere SafeOp s

enough_mailboxes : (simple has : Bool) → (simple ≡ false → has ≡ true) → (not simple && not has) ≡ false
enough_mailboxes true has there = refl
enough_mailboxes false has there = ap (λ (b : Bool). not b) (there refl)

-- a slave with the station of which AL control was written
record IsWrittenTo (s t : SlaveState) : Type 0 where
  application : t.application ≡ s.application
  status : al_status t.controller ≡ al_status s.controller
  holds : (at : ℕ) (bytes : List ℕ) → AreRegisters at (length bytes) → Holds s.controller.memory at bytes
      → Holds t.controller.memory at bytes

written_to : (station : ℕ) (state : AlState) (r : RingState) (before : List SlaveState) (s : SlaveState)
    (behind : List SlaveState) → HasStation station r before s behind
    → IsWrittenTo s (after_question (control_write station state) s)
written_to station state r before s behind has =
    let d : DatagramRecord = control_write station state in
    let t : SlaveState = after_question d s in
    let place : ado_of d.address ≡ 288 = ado_is station AL_CONTROL has.address in
    let spares : IsSparing d.address 2 s.controller t.controller =
    pass_spares s.controller d refl (parts_of station r before s behind has).own (record {
      low = record {
        register = omega arith;
        beside = inl (omega (arith, place));
        no_status = λ i is. absurd (omega (arith, is));
      };
      high = record {
        register = omega arith;
        beside = inl (omega (arith, place));
        no_status = λ i is. absurd (omega (arith, is));
      };
    }) in
    record {
      application = refl;
      status = ap (λ (b : ℕ). status_of b)
          (spares.bytes 304 (inr (record {
            register = omega arith;
            beside = inr (omega (arith, place));
            no_status = λ i is. absurd (omega (arith, is));
          })));
      holds = λ at bytes registers held k below.
          let above : 310 ≤ at = registers.above in
          spares.bytes (at + k) (inr (record {
            register = (registers.left k below).register;
            beside = inr (omega (arith, place, above));
            no_status = registers.no_status k below;
          }))
          ∙ held k below;
    }

manager_held : (s t : SlaveState) (n : ℕ) (o : Option SyncMan) → n < 8 → IsWrittenTo s t
    → HoldsManager s.controller.memory n o → HoldsManager t.controller.memory n o
manager_held s t n None few is held = absurd held
manager_held s t n (Some m) few is held = (
  is.holds (2048 + 8 * n) (take 5 (sync_man_bytes m)) (area_registers n few) held.0,
  is.holds (2048 + 8 * n + 6) (get_or (sync_man_bytes m) 6 0 ∷ []) (switch_registers n few) held.1,
)

allowed : (wanted : Wanted) (state : AlState) (s t : SlaveState) → IsWrittenTo s t → Accepts wanted state s
    → Allows state t
unfolding Accepts Allows
allowed wanted Init s t is accepts = tt
allowed wanted PreOp s t is (fits, requests, answers) =
    ap (λ (b : Bool). not b && not (has_mailboxes t.controller.memory))
    (ap (λ a. a.simple) is.application)
    ∙ enough_mailboxes s.application.simple (has_mailboxes t.controller.memory) (λ real.
    mailboxes_stand t.controller.memory (slice_get wanted.managers 0) (slice_get wanted.managers 1)
    (fits_at 0 wanted.managers fits.records.managers) (fits_at 1 wanted.managers fits.records.managers)
    (fits.mailboxes real)
    (manager_held s t 0 (slice_get wanted.managers 0) (omega arith) is requests)
    (manager_held s t 1 (slice_get wanted.managers 1) (omega arith) is answers))
allowed wanted SafeOp s t is (fits, there, outputs, inputs) =
    let code : current t ≡ 2 =
    ap (λ (x : AlStatus). code_of x.state) (is.status ∙ there.status) in (
      omega (arith, code),
      ap (λ a. fits_outputs (sync_manager_at t.controller.memory 2) a.out_length) is.application
          ∙ outputs_stand t.controller.memory (slice_get wanted.managers 2) s.application.out_length
          (fits_at 2 wanted.managers fits.records.managers) fits.outputs
          (manager_held s t 2 (slice_get wanted.managers 2) (omega arith) is outputs),
      ap (λ a. fits_inputs (sync_manager_at t.controller.memory 3) a.in_length) is.application
          ∙ inputs_stand t.controller.memory (slice_get wanted.managers 3) s.application.in_length
          (fits_at 3 wanted.managers fits.records.managers) fits.inputs
          (manager_held s t 3 (slice_get wanted.managers 3) (omega arith) is inputs),
    )
allowed wanted Op s t is there =
    let code : current t ≡ 4 =
    ap (λ (x : AlStatus). code_of x.state) (is.status ∙ there.status) in
    omega (arith, code)

-- ---- the request

one_accepted : (station : ℕ) (state : AlState) (result : Result (Unit {0}) MasterFault) (r later : RingState)
    (before : List SlaveState) (s : SlaveState) (behind : List SlaveState) → ReachesAll r
    → HasStation station r before s behind → Allows state (after_question (control_write station state) s)
    → IsRequested RingTrips r station state 1000 result later
    → result ≡ Ok tt
one_accepted station state result r later before s behind ring has allows talk =
    let t : SlaveState = after_question (control_write station state) s in
    let comes : ComesTo station state r before s behind result later =
    requested station 1000 state r before s behind result later has
    (slaves_between station state r before s behind has ring.slaves.each) (omega arith) talk in
    let code : ℕ = al_status_code (asked_slave station state s).controller in
    comes.result_is
    ∙ ap (λ (b : Bool). cond b (Err (Refused code)) (Ok tt))
    (met_step state t (written_slave station state r before s behind has) allows)

pub request_accepted : (wanted : Wanted) (state : AlState) (result : Result (Unit {0}) MasterFault)
    (r later : RingState) → ReachesAll r → wanted.station < 65536
    → HasSuch (Accepts wanted state) wanted.station r.slaves
    → IsRequested RingTrips r wanted.station state 1000 result later
    → result ≡ Ok tt
request_accepted wanted state result r later ring address has talk =
    let station : ℕ = wanted.station in
    let is : IsSuch (Accepts wanted state) station r.slaves =
    such_one (Accepts wanted state) station r.slaves has in
    let has_it : HasStation station r is.one.before is.one.slave is.one.behind =
    has_one station r ring address is.one in
    one_accepted station state result r later is.one.before is.one.slave is.one.behind ring has_it
    (allowed wanted state is.one.slave (after_question (control_write station state) is.one.slave)
    (written_to station state r is.one.before is.one.slave is.one.behind has_it) is.such) talk
