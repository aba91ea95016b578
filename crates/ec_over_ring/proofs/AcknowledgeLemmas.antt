-- An error is acknowledged over a ring: AL status is read, the state that it tells is asked for, and the next
-- read of AL status decides where it finds no error.
use Rattle.std.proofs.Common.{◌≡◌, ℕ, zero, suc, ◌+◌, ◌≤◌, false, Bool, cond, eqb, ltb, List, [], ◌∷◌, ◌++◌}
use Rattle.std.proofs.Common.{map, get_or, None, Some, Result, Ok, Err, replicate, refl, sym, ap, ◌∙◌}
use Rattle.std.proofs.Common.{arith, subst}
use Rattle.std.specs.List.{AllByRecursion}
use Rattle.ec_regs.specs.Al.{code_of, status_of}
use Rattle.ec_regs.specs.declared.al.AlState.{AlState}
use Rattle.ec_regs.specs.declared.al.AlStatus.{AlStatus}
use Rattle.ec_regs.specs.declared.registers.TheConstants.{AL_CONTROL, AL_STATUS}
use Rattle.ec_regs.proofs.Laws.{get_or-run}
use Rattle.ec_wire.specs.Datagram.{DatagramRecord, nth, address_of}
use Rattle.ec_wire.specs.declared.command.Command.TheVariants.{Fprd, Fpwr}
use Rattle.ec_esc.specs.Application.{al_status}
use Rattle.ec_esc.specs.Pass.{pass, Passed}
use Rattle.ec_esc.specs.State.{ControllerState}
use Rattle.ec_app.specs.Lending.{with_controller}
use Rattle.ec_app.specs.Slave.{step}
use Rattle.ec_app.specs.State.{SlaveState}
use Rattle.ec_app.specs.Table.{first_fitting}
use Rattle.ec_ring.specs.Ring.{RingState, stepped}
use Rattle.ec_master.specs.RingTrips.{RingTrips}
use Rattle.ec_services.specs.Acknowledgement.{IsAcknowledged, ThenAcknowledges, error_question, status_by}
use Rattle.ec_services.specs.Acknowledgement.{unless_error}
use Rattle.ec_services.specs.Ask.{Answer, Asks, Talks, write, write_decides}
use Rattle.ec_services.specs.States.{control_write, status_read}
use Rattle.ec_services.specs.declared.fault.MasterFault.{MasterFault}
use Rattle.ec_services.specs.declared.fault.MasterFault.TheVariants.{NoSlave, BadAnswer, NoAnswer}
use Rattle.ec_over_ring.specs.Question.{Tells, ReachesOne}
use Rattle.ec_over_ring.specs.States.{HasStation, acknowledged_ring, acknowledged_slave, asked_ring}
use Rattle.ec_over_ring.specs.States.{asked_slave}
use Rattle.ec_over_ring.specs.Transfers.{IsSlave}
use Rattle.ec_over_ring.proofs.ControlLemmas.{control_counted}
use Rattle.ec_over_ring.proofs.QuestionLemmas.{asked_alone}
use Rattle.ec_over_ring.proofs.StateLemmas.{has_between, slaves_between, small_code, stands_state}
use Rattle.ec_over_ring.proofs.StateLemmas.{status_passed, status_stands, two_bytes, write_goes_on, zeros}
use Rattle.ec_over_ring.proofs.StationLemmas.{ado_is, has_later, meant, reaches}
use Rattle.ec_over_ring.proofs.TalkLemmas.{IsBegun, begun, ends, goes_on}
use Rattle.ec_over_ring.proofs.TransferLemmas.{have_controllers, one_of, steps}

-- ---- a read of AL status

-- the status that a byte tells
abbrev told_byte : ℕ → Result AlStatus MasterFault
told_byte byte = Ok (status_of byte)

status_told : (told : DatagramRecord) (answer : Answer) → told.counter ≡ 1 → Tells told answer
    → status_by answer ≡ told_byte (get_or told.payload 0 0)
status_told told (Err fault) one tells = absurd tells
status_told told (Ok back) one tells =
    ap (λ (n : ℕ). first_fitting {R = Result AlStatus MasterFault}
    ((eqb n 0, Err NoSlave) ∷ (ltb 1 n, Err BadAnswer) ∷ [])
    (told_byte (get_or (nth back.joined 0).payload 0 0))) (tells.counter ∙ one)
    ∙ ap (λ (bytes : List ℕ). told_byte (get_or bytes 0 0)) tells.payload

-- it tells the status that stands there, and each slave takes its step
record IsSeen (r : RingState) (s : SlaveState) (answer : Answer) (later : RingState) : Type 0 where
  ring : later ≡ stepped r
  tells : status_by answer ≡ Ok (al_status s.controller)

seen : (station : ℕ) (r : RingState) (before : List SlaveState) (s : SlaveState) (behind : List SlaveState)
    (answer : Answer) (later : RingState) → HasStation station r before s behind
    → Asks RingTrips r (status_read station) answer later → IsSeen r s answer later
seen station r before s behind answer later has asks =
    let d : DatagramRecord = status_read station in
    let m : List ℕ = s.controller.memory in
    let one : ReachesOne d r before s behind =
    reaches station AL_STATUS Fprd (replicate 6 0) r before s behind has refl (zeros 6) in
    let comes = asked_alone d r before behind s answer later one.asked one.alone one.down asks in
    let passed = status_passed station r before s behind has in
    record {
      ring = comes.1
          ∙ ap (λ (c : ControllerState).
          stepped (record r { slaves = before ++ with_controller s c ∷ behind }))
          (ap (λ (p : Passed). p.state) passed)
          ∙ ap (λ (ss : List SlaveState). stepped (record r { slaves = ss })) (sym has.slaves);
      tells = status_told (pass s.controller d).datagram answer
          (ap (λ (p : Passed). p.datagram.counter) passed) comes.0
          ∙ ap (λ (p : Passed). told_byte (get_or p.datagram.payload 0 0)) passed
          ∙ ap told_byte (get_or-run m 304 6 0 (omega arith));
    }

-- the ring has the station still behind such a read
has_stepped : (station : ℕ) (r : RingState) (before : List SlaveState) (s : SlaveState)
    (behind : List SlaveState) → HasStation station r before s behind → AllByRecursion IsSlave r.slaves
    → HasStation station (stepped r) (map step before) (step s) (map step behind)
has_stepped station r before s behind has slaves =
    let all : AllByRecursion IsSlave (before ++ s ∷ behind) =
    subst (λ (ss : List SlaveState). AllByRecursion IsSlave ss) has.slaves slaves in
    let own : IsSlave s = one_of before s behind all in
    subst (λ (ss : List SlaveState).
    HasStation station (stepped (record r { slaves = ss })) (map step before) (step s) (map step behind))
    (sym has.slaves)
    (has_later station r before s s behind has own.controller.memory_size has.station_is
    (have_controllers (map step (before ++ s ∷ behind)) (steps (before ++ s ∷ behind) all)))

-- ---- the service

-- what it comes to over a ring
pub record ComesToState (station : ℕ) (r : RingState) (before : List SlaveState) (s : SlaveState)
    (behind : List SlaveState) (result : Result AlState MasterFault) (later : RingState) : Type 0 where
  pub result_is : result ≡ Ok (al_status s.controller).state
  pub ring : later ≡ stepped (acknowledged_ring station r before s behind)

-- the ring behind the write of a state, and that the write decides nothing
record IsAsked (station : ℕ) (state : AlState) (r : RingState) (before : List SlaveState) (s : SlaveState)
    (behind : List SlaveState) (answer : Answer) (between : RingState) : Type 0 where
  ring : between ≡ asked_ring station state r before s behind
  undecided : write_decides {A = AlState} answer ≡ Ok None

asked : (station : ℕ) (state : AlState) (r : RingState) (before : List SlaveState) (s : SlaveState)
    (behind : List SlaveState) (answer : Answer) (between : RingState)
    → HasStation station r before s behind
    → Asks RingTrips r (control_write station state) answer between
    → IsAsked station state r before s behind answer between
asked station state r before s behind answer between has asks =
    let d : DatagramRecord = control_write station state in
    let one : ReachesOne d r before s behind =
    reaches station AL_CONTROL Fpwr ((code_of state + 16) ∷ 0 ∷ []) r before s behind has refl
    (two_bytes (code_of state + 16) (small_code state)) in
    let comes = asked_alone d r before behind s answer between one.asked one.alone one.down asks in
    record {
      ring = comes.1;
      undecided = write_goes_on {A = AlState} (pass s.controller d).datagram answer
          (control_counted s.controller (address_of station AL_CONTROL) (code_of state + 16)
          (meant station AL_CONTROL r before s behind has) (ado_is station AL_CONTROL has.address)) comes.0;
    }

-- a read that finds no error decides for the state that was asked for
decides : (station : ℕ) (state : AlState) (r : RingState) (before : List SlaveState) (s : SlaveState)
    (behind : List SlaveState) (answer : Answer) → HasStation station r before s behind
    → status_by answer ≡ Ok (al_status (asked_slave station state s).controller)
    → (al_status (asked_slave station state s).controller).error ≡ false
    → unless_error (status_by answer) ≡ Ok (Some state)
decides station state r before s behind answer has tells none =
    let status : AlStatus = al_status (asked_slave station state s).controller in
    ap unless_error tells
    ∙ ap (λ (error : Bool). Ok (cond error None (Some status.state))) none
    ∙ ap (λ (is : AlState). Ok (Some is))
    (stands_state state _ (status_stands station state r before s behind has) none)

-- from the ring behind the first read on
rest_comes : (station n : ℕ) (state : AlState) (r : RingState) (before : List SlaveState) (s : SlaveState)
    (behind : List SlaveState) (result : Result AlState MasterFault) (later : RingState)
    → HasStation station r before s behind → AllByRecursion IsSlave r.slaves
    → Talks RingTrips r (write (control_write station state) ∷ replicate (suc n) (error_question station))
    (Err NoAnswer) result later
    → (al_status (asked_slave station state s).controller).error ≡ false
    → (result ≡ Ok state) × (later ≡ stepped (asked_ring station state r before s behind))
rest_comes station n state r before s behind result later has slaves talk none =
    let q = error_question station in
    let rest = replicate (suc n) q in
    let first : IsBegun RingTrips r (write (control_write station state)) rest (Err NoAnswer) result later =
    begun RingTrips r (write (control_write station state)) rest (Err NoAnswer) result later talk in
    let written : IsAsked station state r before s behind first.answer first.between =
    asked station state r before s behind first.answer first.between has first.asks in
    let ring : RingState = asked_ring station state r before s behind in
    let one : SlaveState = asked_slave station state s in
    let left : Talks RingTrips ring (q ∷ replicate n q) (Err NoAnswer) result later =
    subst (λ (x : RingState). Talks RingTrips x (q ∷ replicate n q) (Err NoAnswer) result later) written.ring
    (goes_on RingTrips r (write (control_write station state)) rest (Err NoAnswer) result later first
    written.undecided) in
    let second : IsBegun RingTrips ring q (replicate n q) (Err NoAnswer) result later =
    begun RingTrips ring q (replicate n q) (Err NoAnswer) result later left in
    let has_one : HasStation station ring (map step before) one (map step behind) =
    has_between station state r before s behind has
    (slaves_between station state r before s behind has slaves) in
    let last : IsSeen ring one second.answer second.between =
    seen station ring (map step before) one (map step behind) second.answer second.between has_one
    second.asks in
    let end = ends RingTrips ring q (replicate n q) (Err NoAnswer) result later second (Ok state)
    (decides station state r before s behind second.answer has last.tells none) in
    (end.0, end.1 ∙ last.ring)

pub acknowledged : (station limit : ℕ) (r : RingState) (before : List SlaveState) (s : SlaveState)
    (behind : List SlaveState) (result : Result AlState MasterFault) (later : RingState)
    → HasStation station r before s behind → AllByRecursion IsSlave r.slaves → 1 ≤ limit
    → IsAcknowledged RingTrips r station limit result later
    → (al_status (acknowledged_slave station s).controller).error ≡ false
    → ComesToState station r before s behind result later
acknowledged station zero r before s behind result later has slaves some is none = absurd (omega
    (arith, some))
acknowledged station (suc n) r before s behind result later has slaves some is none =
    let state : AlState = (al_status s.controller).state in
    let first : IsSeen r s is.reading.answer is.between =
    seen station r before s behind is.reading.answer is.between has is.reading.asks in
    let talk : Talks RingTrips (stepped r)
    (write (control_write station state) ∷ replicate (suc n) (error_question station)) (Err NoAnswer) result
    later =
    subst (λ (x : RingState). Talks RingTrips x
    (write (control_write station state) ∷ replicate (suc n) (error_question station)) (Err NoAnswer) result
    later) first.ring
    (subst (λ (status : Result AlStatus MasterFault).
    ThenAcknowledges RingTrips is.between station status (suc n) result later)
    (is.reading.tells ∙ first.tells) is.acknowledging) in
    let comes = rest_comes station n state (stepped r) (map step before) (step s) (map step behind) result
    later (has_stepped station r before s behind has slaves) (steps r.slaves slaves) talk none in
    record { result_is = comes.0; ring = comes.1 }

-- without an error the slave is in the state in which the read found it
pub acknowledged_state : (station : ℕ) (r : RingState) (before : List SlaveState) (s : SlaveState)
    (behind : List SlaveState) → HasStation station r before s behind → AllByRecursion IsSlave r.slaves
    → (al_status (acknowledged_slave station s).controller).error ≡ false
    → (al_status (acknowledged_slave station s).controller).state ≡ (al_status s.controller).state
acknowledged_state station r before s behind has slaves none =
    stands_state (al_status s.controller).state _
    (status_stands station (al_status s.controller).state (stepped r) (map step before) (step s)
    (map step behind) (has_stepped station r before s behind has slaves)) none
