-- A state request over a ring: its write is counted, each slave takes its step, and the first read of AL
-- status decides.
use Rattle.std.proofs.Common.{◌≡◌, ℕ, zero, suc, ◌+◌, ◌%◌, ◌<◌, ◌≤◌, true, false, cond, eqb, ltb}
use Rattle.std.proofs.Common.{List, [], ◌∷◌, ◌++◌, map, take, drop, get_or, Option, None, Some, Result}
use Rattle.std.proofs.Common.{Ok, Err, replicate, refl, sym, ap, ◌∙◌, arith, subst, true≢false}
use Rattle.std.specs.Int.{w16, from_le_bytes}
use Rattle.std.specs.List.{AllByRecursion}
use Rattle.std.proofs.lemmas.List.{get_or-drop}
use Rattle.ec_regs.specs.Al.{code_of, status_of, status_byte}
use Rattle.ec_regs.specs.Bits.{AreBytes}
use Rattle.ec_regs.specs.declared.al.AlState.{AlState}
use Rattle.ec_regs.specs.declared.al.AlState.TheVariants.{Init, PreOp, SafeOp, Op}
use Rattle.ec_regs.specs.declared.al.AlStatus.{AlStatus}
use Rattle.ec_regs.specs.declared.registers.TheConstants.{AL_CONTROL, AL_STATUS, AL_STATUS_CODE}
use Rattle.ec_regs.proofs.Laws.{status_of-status_byte, get_or-run}
use Rattle.ec_wire.specs.Datagram.{DatagramRecord, nth, address_of}
use Rattle.ec_wire.specs.declared.command.Command.TheVariants.{Fprd, Fpwr}
use Rattle.ec_esc.specs.Pass.{pass, Passed}
use Rattle.ec_esc.specs.State.{ControllerState, IsController, word_at}
use Rattle.ec_app.specs.AlStep.{al_step}
use Rattle.ec_app.specs.Lending.{with_controller}
use Rattle.ec_app.specs.Slave.{step}
use Rattle.ec_app.specs.State.{SlaveState}
use Rattle.ec_app.specs.Table.{first_fitting}
use Rattle.ec_app.proofs.Laws.{mail_step_status}
use Rattle.ec_ring.specs.Ring.{RingState, line_of, stepped}
use Rattle.ec_master.specs.RingTrips.{RingTrips}
use Rattle.ec_services.specs.Ask.{request, Answer, Asks, Talks, write, write_decides}
use Rattle.ec_services.specs.States.{control_write, status_read, status_question, status_decides, IsRequested}
use Rattle.ec_services.specs.declared.fault.MasterFault.{MasterFault}
use Rattle.ec_services.specs.declared.fault.MasterFault.TheVariants.{NoSlave, BadAnswer, Refused, NoAnswer}
use Rattle.ec_over_ring.specs.Question.{Tells, ReachesOne, after_question}
use Rattle.ec_over_ring.specs.States.{HasStation, asked_slave, asked_ring, told_state}
use Rattle.ec_over_ring.specs.Transfers.{IsSlave}
use Rattle.ec_over_ring.proofs.AlLemmas.{Stands, IsTold, al_stands}
use Rattle.ec_over_ring.proofs.ControlLemmas.{HasControl, control_controller, control_counted}
use Rattle.ec_over_ring.proofs.ControlLemmas.{control_station, control_written}
use Rattle.ec_over_ring.proofs.QuestionLemmas.{asked_alone}
use Rattle.ec_over_ring.proofs.RegisterLemmas.{registers_read}
use Rattle.ec_over_ring.proofs.StationLemmas.{parts_of, ado_is, reaches, meant, has_later}
use Rattle.ec_over_ring.proofs.TalkLemmas.{IsBegun, begun, goes_on, decided_as, ends}
use Rattle.ec_over_ring.proofs.TransferLemmas.{have_controllers, one_of, slaves_later}

-- ---- what an answer decides

-- a write that is counted once decides nothing
pub write_goes_on : {A : Type 0} (told : DatagramRecord) (answer : Answer) → told.counter ≡ 1
    → Tells told answer
    → write_decides {A = A} answer ≡ Ok None
write_goes_on told (Err fault) one tells = absurd tells
write_goes_on {A} told (Ok back) one tells =
    ap (λ (n : ℕ). first_fitting {R = Result (Option A) MasterFault}
    ((eqb n 0, Err NoSlave) ∷ (ltb 1 n, Err BadAnswer) ∷ []) (Ok None)) (tells.counter ∙ one)

-- what data of AL status decide that were counted once
abbrev by_status : AlState → ℕ → ℕ → Result (Option (Unit {0})) MasterFault
by_status state byte code =
    cond (status_of byte).error (Err (Refused code)) (cond (eqb (byte % 16) (code_of state)) (Ok
    (Some tt)) (Ok None))

status_by : (state : AlState) (told : DatagramRecord) (answer : Answer) → told.counter ≡ 1 → Tells told answer
    → status_decides state answer
    ≡ by_status state (get_or told.payload 0 0) (from_le_bytes w16 (drop 4 told.payload))
status_by state told (Err fault) one tells = absurd tells
status_by state told (Ok back) one tells =
    ap (λ (n : ℕ). first_fitting {R = Result (Option (Unit {0})) MasterFault}
    ((eqb n 0, Err NoSlave)
    ∷ (ltb 1 n, Err BadAnswer)
    ∷ (
      (status_of (get_or (nth back.joined 0).payload 0 0)).error,
      Err (Refused (from_le_bytes w16 (drop 4 (nth back.joined 0).payload))),
    )
    ∷ (eqb (get_or (nth back.joined 0).payload 0 0 % 16) (code_of state), Ok (Some tt))
    ∷ []) (Ok None)) (tells.counter ∙ one)
    ∙ ap (λ (bytes : List ℕ). by_status state (get_or bytes 0 0) (from_le_bytes w16
    (drop 4 bytes))) tells.payload

-- the state's byte has its code
code_is : (state : AlState) → eqb (status_byte (record { state = state; error = false }) % 16)
    (code_of state) ≡ true
code_is Init = refl
code_is PreOp = refl
code_is SafeOp = refl
code_is Op = refl

-- a status that stands decides
abbrev outcome : ℕ → ℕ → Result (Unit {0}) MasterFault
outcome byte code = cond (status_of byte).error (Err (Refused code)) (Ok tt)

stands_decide : (state : AlState) (byte code : ℕ) → Stands state byte
    → by_status state byte code ≡ decided_as (outcome byte code)
stands_decide state byte code (Stands.entered is) =
    let status : AlStatus = record { state = state; error = false } in
    let told : (status_of byte).error ≡ false =
    ap (λ (b : ℕ). (status_of b).error) is ∙ ap (λ (s : AlStatus). s.error) (status_of-status_byte status) in
    let code_told : eqb (byte % 16) (code_of state) ≡ true =
    ap (λ (b : ℕ). eqb (b % 16) (code_of state)) is ∙ code_is state in
    ap (λ e. cond e (Err (Refused code)) (cond (eqb (byte % 16) (code_of state)) (Ok (Some tt))
    (Ok None))) told
    ∙ ap (λ e. cond e (Ok (Some tt)) (Ok None)) code_told
    ∙ sym (ap (λ e. decided_as (cond e (Err (Refused code)) (Ok tt))) told)
stands_decide state byte code (Stands.refused old is) =
    let status : AlStatus = record { state = old; error = true } in
    let told : (status_of byte).error ≡ true =
    ap (λ (b : ℕ). (status_of b).error) is ∙ ap (λ (s : AlStatus). s.error) (status_of-status_byte status) in
    ap (λ e. cond e (Err (Refused code)) (cond (eqb (byte % 16) (code_of state)) (Ok (Some tt))
    (Ok None))) told
    ∙ sym (ap (λ e. decided_as (cond e (Err (Refused code)) (Ok tt))) told)

-- without an error it is the state that was asked for
pub stands_state : (state : AlState) (byte : ℕ) → Stands state byte → (status_of byte).error ≡ false
    → (status_of byte).state ≡ state
stands_state state byte (Stands.entered is) none =
    ap (λ (b : ℕ). (status_of b).state) is
    ∙ ap (λ (s : AlStatus). s.state) (status_of-status_byte (record { state = state; error = false }))
stands_state state byte (Stands.refused old is) none =
    let told : (status_of byte).error ≡ true =
    ap (λ (b : ℕ). (status_of b).error) is
    ∙ ap (λ (s : AlStatus). s.error) (status_of-status_byte (record { state = old; error = true })) in
    absurd (true≢false (sym told ∙ none))

-- ---- the write

pub small_code : (state : AlState) → code_of state + 16 < 256
small_code Init = omega arith
small_code PreOp = omega arith
small_code SafeOp = omega arith
small_code Op = omega arith

pub two_bytes : (x : ℕ) → x < 256 → AreBytes (x ∷ 0 ∷ [])
two_bytes x small zero = small
two_bytes x small (suc zero) = omega arith
two_bytes x small (suc (suc k)) = omega arith

pub zeros : (n : ℕ) → AreBytes (replicate n 0)
zeros zero k = omega arith
zeros (suc n) zero = omega arith
zeros (suc n) (suc k) = zeros n k

-- the slave that the write reached, as it stands before its step
pub written_slave : (station : ℕ) (state : AlState) (r : RingState) (before : List SlaveState)
    (s : SlaveState)
    (behind : List SlaveState) → HasStation station r before s behind
    → HasControl (code_of state + 16) (after_question (control_write station state) s).controller
written_slave station state r before s behind has =
    control_written s.controller (address_of station AL_CONTROL) (code_of state + 16)
    (parts_of station r before s behind has).own (small_code state)
    (meant station AL_CONTROL r before s behind has)
    (ado_is station AL_CONTROL has.address)

-- its AL status once it took its step
pub status_stands : (station : ℕ) (state : AlState) (r : RingState) (before : List SlaveState)
    (s : SlaveState)
    (behind : List SlaveState) → HasStation station r before s behind
    → Stands state (get_or (asked_slave station state s).controller.memory AL_STATUS 0)
unfolding step
status_stands station state r before s behind has =
    let t : SlaveState = after_question (control_write station state) s in
    let control : HasControl (code_of state + 16) t.controller =
    written_slave station state r before s behind has in
    let told : IsTold state (al_step t).controller.memory = al_stands state t control in
    subst (Stands state) (sym (mail_step_status (al_step t) told.size)) told.stands

-- ---- both trips

-- the ring behind the write, and what its answer decides
pub record IsWritten (station : ℕ) (state : AlState) (r : RingState) (before : List SlaveState)
    (s : SlaveState)
    (behind : List SlaveState) (answer : Answer) (between : RingState) : Type 0 where
  pub ring : between ≡ asked_ring station state r before s behind
  pub undecided : write_decides {A = Unit {0}} answer ≡ Ok None

first_trip : (station : ℕ) (state : AlState) (r : RingState) (before : List SlaveState) (s : SlaveState)
    (behind : List SlaveState) (answer : Answer) (between : RingState)
    → HasStation station r before s behind
    → Asks RingTrips r (control_write station state) answer between
    → IsWritten station state r before s behind answer between
first_trip station state r before s behind answer between has asks =
    let d : DatagramRecord = control_write station state in
    let one : ReachesOne d r before s behind =
    reaches station AL_CONTROL Fpwr ((code_of state + 16) ∷ 0 ∷ []) r before s behind has refl
    (two_bytes (code_of state + 16) (small_code state)) in
    let comes = asked_alone d r before behind s answer between one.asked one.alone one.down asks in
    record {
      ring = comes.1;
      undecided = write_goes_on (pass s.controller d).datagram answer
          (control_counted s.controller (address_of station AL_CONTROL) (code_of state + 16)
          (meant station AL_CONTROL r before s behind has) (ado_is station AL_CONTROL has.address)) comes.0;
    }

-- a read of AL status tells the bytes that stand there, and changes nothing
pub status_passed : (station : ℕ) (r : RingState) (before : List SlaveState) (s : SlaveState)
    (behind : List SlaveState) → HasStation station r before s behind
    → pass s.controller (status_read station)
    ≡ record {
      datagram = record (request Fprd (address_of station AL_STATUS) (take 6
          (drop 304 s.controller.memory))) {
            counter = 1;
          };
      state = s.controller;
    }
status_passed station r before s behind has =
    registers_read s.controller (address_of station AL_STATUS) 304 6
    (parts_of station r before s behind has).own
    (meant station AL_STATUS r before s behind has) (ado_is station AL_STATUS has.address) (omega arith)
    (omega arith)

-- the code that was read is the word that stands there
code_read : (m : List ℕ) → from_le_bytes w16 (drop 4 (take 6 (drop 304 m))) ≡ word_at m AL_STATUS_CODE
code_read m =
    let bytes : List ℕ = take 6 (drop 304 m) in
    let low : get_or (drop 4 bytes) 0 0 ≡ get_or m 308 0 =
    get_or-drop 4 bytes 0 0 ∙ get_or-run m 304 6 4 (omega arith) in
    let high : get_or (drop 4 bytes) 1 0 ≡ get_or m 309 0 =
    get_or-drop 4 bytes 1 0 ∙ get_or-run m 304 6 5 (omega arith) in
    omega (arith, low, high)

-- what a read of AL status decides, and the ring behind it
pub record IsRead (station : ℕ) (state : AlState) (r : RingState) (s : SlaveState) (answer : Answer)
    (later : RingState) : Type 0 where
  pub ring : later ≡ stepped r
  pub decides : status_decides state answer
      ≡ by_status state (get_or s.controller.memory AL_STATUS 0) (word_at s.controller.memory AL_STATUS_CODE)

second_trip : (station : ℕ) (state : AlState) (r : RingState) (before : List SlaveState) (s : SlaveState)
    (behind : List SlaveState) (answer : Answer) (later : RingState)
    → HasStation station r before s behind → Asks RingTrips r (status_read station) answer later
    → IsRead station state r s answer later
second_trip station state r before s behind answer later has asks =
    let d : DatagramRecord = status_read station in
    let m : List ℕ = s.controller.memory in
    let one : ReachesOne d r before s behind =
    reaches station AL_STATUS Fprd (replicate 6 0) r before s behind has refl (zeros 6) in
    let comes = asked_alone d r before behind s answer later one.asked one.alone one.down asks in
    let passed = status_passed station r before s behind has in
    record {
      ring = comes.1
          ∙ ap (λ (c : ControllerState).
          stepped (record r { slaves = before ++ with_controller s c ∷ behind }))
          (ap (λ (p : Passed). p.state) passed)
          ∙ ap (λ (ss : List SlaveState). stepped (record r { slaves = ss })) (sym has.slaves);
      decides = status_by state (pass s.controller d).datagram answer
          (ap (λ (p : Passed). p.datagram.counter) passed) comes.0
          ∙ ap (λ (p : Passed).
          by_status state (get_or p.datagram.payload 0 0) (from_le_bytes w16
          (drop 4 p.datagram.payload))) passed
          ∙ ap (λ (b : ℕ). by_status state b (from_le_bytes w16 (drop 4 (take 6 (drop 304 m)))))
          (get_or-run m 304 6 0 (omega arith))
          ∙ ap (λ (n : ℕ). by_status state (get_or m 304 0) n) (code_read m);
    }

-- ---- the service

-- what a request comes to over a ring
pub record ComesTo (station : ℕ) (state : AlState) (r : RingState) (before : List SlaveState) (s : SlaveState)
    (behind : List SlaveState) (result : Result (Unit {0}) MasterFault) (later : RingState) : Type 0 where
  pub result_is : result ≡ told_state (asked_slave station state s).controller
  pub ring : later ≡ stepped (asked_ring station state r before s behind)

-- the ring has the station still behind the write
pub has_between : (station : ℕ) (state : AlState) (r : RingState) (before : List SlaveState) (s : SlaveState)
    (behind : List SlaveState) → HasStation station r before s behind
    → AllByRecursion IsController (line_of (asked_ring station state r before s behind))
    → HasStation station (asked_ring station state r before s behind) (map step before)
    (asked_slave station state s) (map step behind)
has_between station state r before s behind has later =
    let t : SlaveState = after_question (control_write station state) s in
    has_later station r before s t behind has (written_slave station state r before s behind has).size
    (control_station s.controller (address_of station AL_CONTROL) (code_of state + 16)
    (parts_of station r before s behind has).own (meant station AL_CONTROL r before s behind has)
    (ado_is station AL_CONTROL has.address) ∙ has.station_is) later

pub requested : (station limit : ℕ) (state : AlState) (r : RingState) (before : List SlaveState)
    (s : SlaveState) (behind : List SlaveState) (result : Result (Unit {0}) MasterFault) (later : RingState)
    → HasStation station r before s behind
    → AllByRecursion IsController (line_of (asked_ring station state r before s behind))
    → 1 ≤ limit → IsRequested RingTrips r station state limit result later
    → ComesTo station state r before s behind result later
requested station zero state r before s behind result later has controllers some talk = absurd (omega
    (arith, some))
requested station (suc n) state r before s behind result later has controllers some talk =
    let q = status_question station state in
    let rest = replicate (suc n) q in
    let first : IsBegun RingTrips r (write (control_write station state)) rest (Err NoAnswer) result later =
    begun RingTrips r (write (control_write station state)) rest (Err NoAnswer) result later talk in
    let written : IsWritten station state r before s behind first.answer first.between =
    first_trip station state r before s behind first.answer first.between has first.asks in
    let ring : RingState = asked_ring station state r before s behind in
    let one : SlaveState = asked_slave station state s in
    let left : Talks RingTrips ring (q ∷ replicate n q) (Err NoAnswer) result later =
    subst (λ (x : RingState). Talks RingTrips x (q ∷ replicate n q) (Err NoAnswer) result later) written.ring
    (goes_on RingTrips r (write (control_write station state)) rest (Err NoAnswer) result later first
    written.undecided) in
    let second : IsBegun RingTrips ring q (replicate n q) (Err NoAnswer) result later =
    begun RingTrips ring q (replicate n q) (Err NoAnswer) result later left in
    let read : IsRead station state ring one second.answer second.between =
    second_trip station state ring (map step before) one (map step behind) second.answer second.between
    (has_between station state r before s behind has controllers) second.asks in
    let end = ends RingTrips ring q (replicate n q) (Err NoAnswer) result later second
    (told_state one.controller)
    (read.decides ∙ stands_decide state (get_or one.controller.memory AL_STATUS 0)
    (word_at one.controller.memory AL_STATUS_CODE) (status_stands station state r before s behind has)) in
    record { result_is = end.0; ring = end.1 ∙ read.ring }

-- each slave stays one behind the write
pub slaves_between : (station : ℕ) (state : AlState) (r : RingState) (before : List SlaveState)
    (s : SlaveState) (behind : List SlaveState) → HasStation station r before s behind
    → AllByRecursion IsSlave r.slaves
    → AllByRecursion IsController (line_of (asked_ring station state r before s behind))
slaves_between station state r before s behind has slaves =
    let d : DatagramRecord = control_write station state in
    let own : IsSlave s =
    one_of before s behind (subst (λ (ss : List SlaveState). AllByRecursion IsSlave ss) has.slaves slaves) in
    have_controllers (asked_ring station state r before s behind).slaves
    (slaves_later d r before s behind has.slaves slaves
    (record {
      controller = control_controller s.controller (address_of station AL_CONTROL) (code_of state + 16)
          own.controller (meant station AL_CONTROL r before s behind has)
          (ado_is station AL_CONTROL has.address);
      values = own.values;
    }))
