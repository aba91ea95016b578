-- How many trips steps, looks and recoveries make at the most, and where the last one of them begins.
use Rattle.std.proofs.Common.{◌≡◌, ◌≤◌, ℕ, zero, suc, ◌+◌, ◌*◌, Bool, true, false, List, [], ◌∷◌}
use Rattle.std.proofs.Common.{length, refl, sym, ap, ◌∙◌, subst, arith, Option, None, Some, Result, Ok, Err}
use Rattle.std.proofs.Common.{replicate, slice_get}
use Rattle.std.proofs.Math.Nat.{suc-mul}
use Rattle.std.proofs.lemmas.List.{length-replicate}
use Rattle.ec_regs.specs.declared.al.AlState.{AlState}
use Rattle.ec_regs.specs.declared.fmmu.Fmmu.{Fmmu}
use Rattle.ec_regs.specs.declared.sync_man.SyncMan.{SyncMan}
use Rattle.ec_wire.specs.Datagram.{DatagramRecord}
use Rattle.ec_ring.specs.declared.port.PortFault.{PortFault}
use Rattle.ec_ring.specs.declared.weather.Came.{Came}
use Rattle.ec_master.specs.Ports.{Trips}
use Rattle.ec_services.specs.Ask.{Asks, IsAsked, Question, Talks, write}
use Rattle.ec_services.specs.Course.{Course, Runs}
use Rattle.ec_services.specs.States.{IsRequested, control_write, status_question}
use Rattle.ec_services.specs.declared.fault.MasterFault.{MasterFault}
use Rattle.ec_services.specs.declared.fault.MasterFault.TheVariants.{NoAnswer}
use Rattle.ec_services.specs.declared.mailbox.Peer.{Peer}
use Rattle.ec_services.specs.declared.surely.Progress.{Progress}
use Rattle.ec_run.specs.Phase.{AreDone, Brings, steps_from}
use Rattle.ec_run.specs.Recovering.{RecoveryState}
use Rattle.ec_run.specs.Recovery.{IsDealtWith, IsLookedAt, IsLookedFor, IsLookedUp, IsRecovered, IsSeenTo}
use Rattle.ec_run.specs.Recovery.{is_nobody}
use Rattle.ec_run.specs.Recovery.{remedy_of, steps_for}
use Rattle.ec_run.specs.StartupObjects.{WritesObject, WritesObjectOn, WritesStartup, WritesStartupOn}
use Rattle.ec_run.specs.StartupObjects.{startup_peer}
use Rattle.ec_run.specs.Step.{IsDone, IsPart, IsTried, SetsFmmu, SetsFmmuOn, SetsManager, SetsManagerOn}
use Rattle.ec_run.specs.Step.{fmmu_number, is_answered}
use Rattle.ec_run.specs.Step.{manager_number, startup_number}
use Rattle.ec_run.specs.Along.{IsAlong}
use Rattle.ec_run.specs.Travels.{IsWithin, Travels, look_trips, recovery_trips, trips_of, trips_of_all}
use Rattle.ec_run.specs.Travels.{turn_trips}
use Rattle.ec_run.specs.Turns.{IsDoneAtOnce, IsStateTurn, IsTaken, IsTurn, IsTurnWith, Told, due}
use Rattle.ec_run.specs.declared.along.Along.{Along}
use Rattle.ec_run.specs.declared.phase.Phase.{Phase}
use Rattle.ec_run.specs.declared.phase.Phase.TheVariants as phase
use Rattle.ec_run.specs.declared.phase.StepFault.{StepFault}
use Rattle.ec_run.specs.declared.objects.TheConstants.{STARTUP_TRIPS}
use Rattle.ec_run.specs.declared.recovery.Outcome.{Outcome}
use Rattle.ec_run.specs.declared.recovery.Remedy.{Remedy}
use Rattle.ec_run.specs.declared.recovery.Remedy.TheVariants.{Leave, From, Address}
use Rattle.ec_run.specs.declared.recovery.Seen.{Seen}
use Rattle.ec_run.specs.declared.recovery.TheConstants.{MORE_LOOKS}
use Rattle.ec_run.specs.declared.step.Step.{Step}
use Rattle.ec_run.specs.declared.step.Step.TheVariants.{Station, StationBehind, StationBefore}
use Rattle.ec_run.specs.declared.step.Step.TheVariants.{SyncManager, Fmmu as FmmuRecord, Startup, State}
use Rattle.ec_run.specs.declared.step.TheConstants.{MORE_TRIES, MOST_READS}
use Rattle.ec_run.specs.declared.turns.Turn.{Turn}
use Rattle.ec_run.specs.declared.wanted.StartupObject.{StartupObject}
use Rattle.ec_run.specs.declared.wanted.Wanted.{Wanted}

-- ---- trips one after the other

pub within_none : {P : Type 0} (trips : Trips P) (most : ℕ) (before later : P) → later ≡ before
    → IsWithin trips most before later
unfolding Travels
within_none trips most before later same = record { number = 0; bound = omega arith; travels = same }

pub within_one : {P : Type 0} (trips : Trips P) (before later : P) (sent : List DatagramRecord)
    (came : Result Came PortFault) → trips before sent came later → IsWithin trips 1 before later
unfolding Travels
within_one trips before later sent came made = record {
  number = 1;
  bound = omega arith;
  travels = (sent, came, later, made, refl);
}

travels_then : {P : Type 0} (trips : Trips P) (m n : ℕ) (before between later : P)
    → Travels trips m before between → Travels trips n between later → Travels trips (m + n) before later
unfolding Travels
travels_then trips zero n before between later first second =
    let same : n ≡ zero + n = omega arith in
    subst (λ (k : ℕ). Travels trips k before later) same
    (subst (λ (p : _). Travels trips n p later) first second)
travels_then trips (suc m) n before between later (sent, came, next, made, rest) second =
    let same : suc (m + n) ≡ suc m + n = omega arith in
    subst (λ (k : ℕ). Travels trips k before later) same
    (sent, came, next, made, travels_then trips m n next between later rest second)

pub within_then : {P : Type 0} (trips : Trips P) (m n : ℕ) (before between later : P)
    → IsWithin trips m before between → IsWithin trips n between later
    → IsWithin trips (m + n) before later
within_then trips m n before between later first second =
    let i : first.number ≤ m = first.bound in
    let j : second.number ≤ n = second.bound in
    record {
      number = first.number + second.number;
      bound = omega (arith, i, j);
      travels = travels_then trips first.number second.number before between later first.travels
          second.travels;
    }

pub within_less : {P : Type 0} (trips : Trips P) (m n : ℕ) (before later : P) → m ≤ n
    → IsWithin trips m before later → IsWithin trips n before later
within_less trips m n before later less within =
    let i : within.number ≤ m = within.bound in
    record { number = within.number; bound = omega (arith, i, less); travels = within.travels }

-- where nothing follows
pub within_ends : {P : Type 0} (trips : Trips P) (most : ℕ) (before between later : P) → later ≡ between
    → IsWithin trips most before between → IsWithin trips most before later
within_ends trips most before between later same within =
    subst (λ p. IsWithin trips most before p) (sym same) within

-- ---- questions

asks_within : {P : Type 0} (trips : Trips P) (before later : P) (sent : DatagramRecord) (answer : _)
    → Asks trips before sent answer later → IsWithin trips 1 before later
asks_within trips before later sent answer asks =
    within_one trips before later (sent ∷ []) asks.came asks.made

pub one_and : {P : Type 0} (trips : Trips P) (n : ℕ) (before between later : P)
    → IsWithin trips 1 before between → IsWithin trips n between later
    → IsWithin trips (suc n) before later
one_and trips n before between later first second =
    let same : 1 + n ≤ suc n = omega arith in
    within_less trips (1 + n) (suc n) before later same
    (within_then trips 1 n before between later first second)

pub one_of : {P : Type 0} (trips : Trips P) (n : ℕ) (before between later : P) → later ≡ between
    → IsWithin trips 1 before between → IsWithin trips (suc n) before later
one_of trips n before between later same first =
    let some : 1 ≤ suc n = omega arith in
    within_less trips 1 (suc n) before later some (within_ends trips 1 before between later same first)

pub talks_within : {P A : Type 0} (trips : Trips P) (before later : P) (qs : List (Question A))
    (undecided result : Result A MasterFault) → Talks trips before qs undecided result later
    → IsWithin trips (length qs) before later
unfolding Talks
talks_within trips before later [] undecided result (is, same) = within_none trips 0 before later same
talks_within trips before later (q ∷ rest) undecided result (Err fault, between, asked, (is, same)) =
    one_of trips (length rest) before between later same
    (asks_within trips before between q.sent asked.answer asked.asks)
talks_within trips before later (q ∷ rest) undecided result (Ok (Some value), between, asked, (is, same)) =
    one_of trips (length rest) before between later same
    (asks_within trips before between q.sent asked.answer asked.asks)
talks_within trips before later (q ∷ rest) undecided result (Ok None, between, asked, left) =
    one_and trips (length rest) before between later
    (asks_within trips before between q.sent asked.answer asked.asks)
    (talks_within trips between later rest undecided result left)

pub runs_within : {P S A : Type 0} (trips : Trips P) (before later : P) (course : Course S A) (known : S)
    (n : ℕ) (result : Result A MasterFault) (known_later : S)
    → Runs trips before course known n result known_later later → IsWithin trips n before later
unfolding Runs
runs_within trips before later course known zero result known_later (is, knows, same) =
    within_none trips 0 before later same
runs_within trips before later course known (suc n) result known_later
    (Err fault, learned, between, made, (is, knows, same)) =
    one_of trips n before between later same
    (asks_within trips before between (course.sent known) made.answer made.asks)
runs_within trips before later course known (suc n) result known_later
    (Ok (Some value), learned, between, made, (is, knows, same)) =
    one_of trips n before between later same
    (asks_within trips before between (course.sent known) made.answer made.asks)
runs_within trips before later course known (suc n) result known_later
    (Ok None, learned, between, made, left) =
    one_and trips n before between later
    (asks_within trips before between (course.sent known) made.answer made.asks)
    (runs_within trips between later course learned n result known_later left)

-- ---- a step

requested_within : {P : Type 0} (trips : Trips P) (before later : P) (station limit : ℕ) (state : AlState)
    (result : Result (Unit {0}) MasterFault) → IsRequested trips before station state limit result later
    → IsWithin trips (limit + 1) before later
requested_within trips before later station limit state result talk =
    let q : Question (Unit {0}) = status_question station state in
    let size : length (replicate limit q) ≡ limit = length-replicate limit q in
    let most : length (write (control_write station state) ∷ replicate limit q) ≤ limit + 1 =
    omega (arith, size) in
    within_less trips _ (limit + 1) before later most
    (talks_within trips before later (write (control_write station state) ∷ replicate limit q) (Err NoAnswer)
    result talk)

manager_within : {P : Type 0} (trips : Trips P) (before later : P) (station n : ℕ) (s : Option SyncMan)
    (result : Result (Unit {0}) MasterFault) → SetsManager trips before station n s result later
    → IsWithin trips 4 before later
manager_within trips before later station n None result sets = absurd sets
manager_within trips before later station n (Some s) result sets =
    talks_within trips before later _ (Ok tt) result sets

fmmu_within : {P : Type 0} (trips : Trips P) (before later : P) (station n : ℕ) (f : Option Fmmu)
    (result : Result (Unit {0}) MasterFault) → SetsFmmu trips before station n f result later
    → IsWithin trips 2 before later
fmmu_within trips before later station n None result sets = absurd sets
fmmu_within trips before later station n (Some f) result sets =
    talks_within trips before later _ (Ok tt) result sets

object_within : {P : Type 0} (trips : Trips P) (before later : P) (peer : Option Peer)
    (object : StartupObject) (result : Result (Unit {0}) MasterFault)
    → WritesObject trips before peer object result later → IsWithin trips STARTUP_TRIPS before later
object_within trips before later None object result (is, same) =
    within_none trips STARTUP_TRIPS before later same
object_within trips before later (Some peer) object result (peer_later, sure) =
    runs_within trips before later _ _ STARTUP_TRIPS sure.answer sure.last sure.runs

startup_within : {P : Type 0} (trips : Trips P) (before later : P) (peer : Option Peer)
    (object : Option (Option StartupObject)) (result : Result (Unit {0}) MasterFault)
    → WritesStartup trips before peer object result later → IsWithin trips STARTUP_TRIPS before later
startup_within trips before later peer None result writes = absurd writes
startup_within trips before later peer (Some None) result (is, same) =
    within_none trips STARTUP_TRIPS before later same
startup_within trips before later peer (Some (Some object)) result writes =
    object_within trips before later peer object result writes

pub done_within : {P : Type 0} (trips : Trips P) (before later : P) (place : ℕ) (wanted : Wanted)
    (step : Step) (result : Result (Unit {0}) MasterFault)
    → IsDone trips before place wanted step result later → IsWithin trips (trips_of step) before later
done_within trips before later place wanted Station result done =
    talks_within trips before later _ (Ok tt) result done
done_within trips before later place wanted (StationBehind first) result done =
    talks_within trips before later _ (Ok tt) result done
done_within trips before later place wanted StationBefore result done =
    talks_within trips before later _ (Ok tt) result done
done_within trips before later place wanted (SyncManager n) result done =
    manager_within trips before later wanted.station (manager_number n) _ result done
done_within trips before later place wanted (FmmuRecord n) result done =
    fmmu_within trips before later wanted.station (fmmu_number n) _ result done
done_within trips before later place wanted (Startup n) result done =
    startup_within trips before later (startup_peer wanted (startup_number n)) _ result done
done_within trips before later place wanted (State state) result done =
    requested_within trips before later wanted.station MOST_READS state result done

tried_more : {P : Type 0} (trips : Trips P) (more t : ℕ) (before later : P)
    → IsWithin trips (t + (more + 1) * t) before later → IsWithin trips ((suc more + 1) * t) before later
tried_more trips more t before later within =
    let same : (suc more + 1) * t ≡ (more + 1) * t + t =
    (let e : suc more + 1 ≡ suc (more + 1) = omega arith in ap (λ (n : ℕ). n * t) e) ∙ suc-mul (more + 1) t in
    let less : t + (more + 1) * t ≤ (suc more + 1) * t = omega (arith, same) in
    within_less trips _ _ before later less within

pub tried_within : {P : Type 0} (trips : Trips P) (more : ℕ) (before later : P) (place : ℕ) (wanted : Wanted)
    (step : Step) (result : Result (Unit {0}) MasterFault)
    → IsTried trips before place wanted step more result later
    → IsWithin trips ((more + 1) * trips_of step) before later
unfolding IsTried
tried_within trips zero before later place wanted step result done =
    let one : (zero + 1) * trips_of step ≡ trips_of step = omega arith in
    let less : trips_of step ≤ (zero + 1) * trips_of step = omega (arith, one) in
    within_less trips _ _ before later less (done_within trips before later place wanted step result done)
tried_within trips (suc more) before later place wanted step result (first, between, done, rest) =
    tried_rest (is_answered first) rest (λ again.
    tried_within trips more between later place wanted step result again)
  where
    tried_rest : (b : Bool)
        → (elim b as (λ (x : Bool). Type 0) [
          | true ↦ (result ≡ first) × (later ≡ between)
          | false ↦ IsTried trips between place wanted step more result later
        ])
        → (IsTried trips between place wanted step more result later
        → IsWithin trips ((more + 1) * trips_of step) between later)
        → IsWithin trips ((suc more + 1) * trips_of step) before later
    tried_rest true (is, same) on =
        tried_more trips more (trips_of step) before later
        (within_then trips (trips_of step) ((more + 1) * trips_of step) before between later
        (done_within trips before between place wanted step first done)
        (within_none trips ((more + 1) * trips_of step) between later same))
    tried_rest false again on =
        tried_more trips more (trips_of step) before later
        (within_then trips (trips_of step) ((more + 1) * trips_of step) before between later
        (done_within trips before between place wanted step first done) (on again))

-- ---- steps with one slave, and with all

pub are_done_within : {P : Type 0} (trips : Trips P) (before later : P) (place : ℕ) (wanted : Wanted)
    (steps : List Step) (result : Result (Unit {0}) StepFault)
    → AreDone trips before place wanted steps result later
    → IsWithin trips (trips_of_all steps) before later
unfolding AreDone
are_done_within trips before later place wanted [] result (is, same) = within_none trips 0 before later same
are_done_within trips before later place wanted (step ∷ rest) result (Err fault, between, tried, (is, same)) =
    within_then trips ((MORE_TRIES + 1) * trips_of step) (trips_of_all rest) before between later
    (tried_within trips MORE_TRIES before between place wanted step (Err fault) tried)
    (within_none trips (trips_of_all rest) between later same)
are_done_within trips before later place wanted (step ∷ rest) result (Ok done, between, tried, left) =
    within_then trips ((MORE_TRIES + 1) * trips_of step) (trips_of_all rest) before between later
    (tried_within trips MORE_TRIES before between place wanted step (Ok done) tried)
    (are_done_within trips between later place wanted rest result left)

pub brings_within : {P : Type 0} (trips : Trips P) (before later : P) (place : ℕ) (line : List Wanted)
    (steps : List Step) (result : Result (Unit {0}) StepFault)
    → Brings trips before place line steps result later
    → IsWithin trips (length line * trips_of_all steps) before later
unfolding Brings
brings_within trips before later place [] steps result (is, same) =
    within_none trips _ before later same
brings_within trips before later place (wanted ∷ rest) steps result (Err fault, between, did, (is, same)) =
    let t : ℕ = trips_of_all steps in
    let size : length (wanted ∷ rest) * t ≡ length rest * t + t = suc-mul (length rest) t in
    let less : t + length rest * t ≤ length (wanted ∷ rest) * t = omega (arith, size) in
    within_less trips _ _ before later less
    (within_then trips t (length rest * t) before between later
    (are_done_within trips before between place wanted steps (Err fault) did)
    (within_none trips (length rest * t) between later same))
brings_within trips before later place (wanted ∷ rest) steps result (Ok done, between, did, left) =
    let t : ℕ = trips_of_all steps in
    let size : length (wanted ∷ rest) * t ≡ length rest * t + t = suc-mul (length rest) t in
    let less : t + length rest * t ≤ length (wanted ∷ rest) * t = omega (arith, size) in
    within_less trips _ _ before later less
    (within_then trips t (length rest * t) before between later
    (are_done_within trips before between place wanted steps (Ok done) did)
    (brings_within trips between later (place + 1) rest steps result left))

-- ---- a recovery

pub looked_at_within : {P : Type 0} (trips : Trips P) (before later : P) (station : ℕ)
    (seen : Result Seen MasterFault)
    → IsLookedAt trips before station seen later → IsWithin trips 1 before later
looked_at_within trips before later station seen looked =
    asks_within trips before later _ looked.replied.answer looked.replied.asks

pub looked_for_within : {P : Type 0} (trips : Trips P) (more : ℕ) (before later : P) (station : ℕ)
    (seen : Result Seen MasterFault)
    → IsLookedFor trips before station more seen later → IsWithin trips (more + 1) before later
unfolding IsLookedFor
looked_for_within trips zero before later station seen looked =
    looked_at_within trips before later station seen looked
looked_for_within trips (suc more) before later station seen (first, between, looked, rest) =
    looked_rest (is_nobody first) rest (λ again.
    looked_for_within trips more between later station seen again)
  where
    looked_rest : (b : Bool)
        → (elim b as (λ (x : Bool). Type 0) [
          | true ↦ IsLookedFor trips between station more seen later
          | false ↦ (seen ≡ first) × (later ≡ between)
        ])
        → (IsLookedFor trips between station more seen later → IsWithin trips (more + 1) between later)
        → IsWithin trips (suc more + 1) before later
    looked_rest true again on =
        let less : 1 + (more + 1) ≤ suc more + 1 = omega arith in
        within_less trips _ _ before later less
        (within_then trips 1 (more + 1) before between later
        (looked_at_within trips before between station first looked) (on again))
    looked_rest false (is, same) on =
        let less : 1 ≤ suc more + 1 = omega arith in
        within_less trips _ _ before later less
        (within_ends trips 1 before between later same
        (looked_at_within trips before between station first looked))

pub looked_up_within : {P : Type 0} (trips : Trips P) (before later : P) (station : ℕ)
    (seen : Result Seen MasterFault)
    → IsLookedUp trips before station seen later → IsWithin trips look_trips before later
looked_up_within trips before later station seen looked =
    looked_for_within trips MORE_LOOKS before later station seen looked

-- no remedy has more steps than all that there are
from_within : (first : Phase) → trips_of_all (steps_from first) ≤ trips_of_all (Station ∷ steps_from phase.Init)
from_within phase.Init = omega arith
from_within phase.PreOp = omega arith
from_within phase.Startup = omega arith
from_within phase.SafeOp = omega arith
from_within phase.Op = omega arith

remedy_within : (tells : Bool) (remedy : Remedy)
    → trips_of_all (steps_for tells remedy) ≤ trips_of_all (Station ∷ steps_from phase.Init)
remedy_within tells Leave = omega arith
remedy_within tells (From first) = from_within first
remedy_within true Address = omega arith
remedy_within false Address = omega arith

seen_to_within : {P : Type 0} (trips : Trips P) (before later : P) (place : ℕ) (wanted : Wanted) (seen : Seen)
    (steps : List Step) (outcome : Outcome) → IsSeenTo trips before place wanted seen steps outcome later
    → IsWithin trips (trips_of_all steps) before later
seen_to_within trips before later place wanted seen [] outcome (is, same) =
    within_none trips 0 before later same
seen_to_within trips before later place wanted seen (step ∷ rest) outcome (brought, done, is) =
    are_done_within trips before later place wanted (step ∷ rest) brought done

dealt_within : {P : Type 0} (trips : Trips P) (before later : P) (place : ℕ) (wanted : Wanted) (tells : Bool)
    (seen : Result Seen MasterFault) (outcome : Outcome)
    → IsDealtWith trips before place wanted tells seen outcome later
    → IsWithin trips (trips_of_all (Station ∷ steps_from phase.Init)) before later
dealt_within trips before later place wanted tells (Err fault) outcome (is, same) =
    within_none trips _ before later same
dealt_within trips before later place wanted tells (Ok seen) outcome dealt =
    within_less trips _ _ before later (remedy_within tells (remedy_of seen))
    (seen_to_within trips before later place wanted seen (steps_for tells (remedy_of seen)) outcome dealt)

pub recovered_within : {P : Type 0} (trips : Trips P) (before later : P) (place : ℕ) (wanted : Wanted)
    (tells : Bool) (outcome : Outcome) → IsRecovered trips before place wanted tells outcome later
    → IsWithin trips recovery_trips before later
recovered_within trips before later place wanted tells outcome recovered =
    within_then trips (MORE_LOOKS + 1) (trips_of_all (Station ∷ steps_from phase.Init)) before
    recovered.between later
    (looked_for_within trips MORE_LOOKS before recovered.between wanted.station recovered.seen
    recovered.looked)
    (dealt_within trips recovered.between later place wanted tells recovered.seen outcome recovered.dealt)

-- ---- a turn of one, and a look along a line

done_at_once_within : {P : Type 0} (trips : Trips P) (before later : P) (place : ℕ) (wanted : Wanted)
    (step : Step) (told : Told) → trips_of step ≤ turn_trips
    → IsDoneAtOnce trips before place wanted step told later → IsWithin trips turn_trips before later
done_at_once_within trips before later place wanted step told less (did, done, is) =
    within_less trips (trips_of step) turn_trips before later less
    (done_within trips before later place wanted step did done)

asked_within : {P A : Type 0} (trips : Trips P) (before later : P) (q : Question A)
    (decided : Result (Option A) MasterFault) → IsAsked trips before q decided later
    → IsWithin trips turn_trips before later
asked_within trips before later q decided asked =
    let less : 1 ≤ turn_trips = omega arith in
    within_less trips 1 turn_trips before later less
    (asks_within trips before later q.sent asked.answer asked.asks)

state_turn_within : {P : Type 0} (trips : Trips P) (before later : P) (station : ℕ) (state : AlState)
    (asked : ℕ) (told : Told) → IsStateTurn trips before station state asked told later
    → IsWithin trips turn_trips before later
state_turn_within trips before later station state zero told turn =
    asked_within trips before later (write (control_write station state)) told turn
state_turn_within trips before later station state (suc asked) told turn =
    asked_within trips before later (status_question station state) told turn

part_within : {P : Type 0} (trips : Trips P) (before later : P) (q : Question (Unit {0})) (last : Bool)
    (told : Told) → IsPart trips before q last told later → IsWithin trips turn_trips before later
part_within trips before later q last told part =
    asked_within trips before later q part.decided part.asked

manager_on_within : {P : Type 0} (trips : Trips P) (before later : P) (station n : ℕ) (s : Option SyncMan)
    (asked : ℕ) (told : Told) → SetsManagerOn trips before station n s asked told later
    → IsWithin trips turn_trips before later
manager_on_within trips before later station n None asked told sets = absurd sets
manager_on_within trips before later station n (Some s) asked told sets =
    part_within trips before later _ _ told sets

fmmu_on_within : {P : Type 0} (trips : Trips P) (before later : P) (station n : ℕ) (m : Option Fmmu)
    (asked : ℕ) (told : Told) → SetsFmmuOn trips before station n m asked told later
    → IsWithin trips turn_trips before later
fmmu_on_within trips before later station n None asked told sets = absurd sets
fmmu_on_within trips before later station n (Some m) asked told sets =
    part_within trips before later _ _ told sets

-- a startup object takes one trip in a turn
object_on_within : {P : Type 0} (trips : Trips P) (before later : P) (peer : Option Peer)
    (object : StartupObject) (written : Option Progress) (told : Told) (written_later : Option Progress)
    → WritesObjectOn trips before peer object written told written_later later
    → IsWithin trips turn_trips before later
object_on_within trips before later None object written told written_later (is, kept, same) =
    within_none trips turn_trips before later same
object_on_within trips before later (Some peer) object written told written_later (progress, is, goes) =
    let less : 1 ≤ turn_trips = omega arith in
    within_less trips 1 turn_trips before later less
    (asks_within trips before later _ goes.step.answer goes.step.asks)

startup_on_within : {P : Type 0} (trips : Trips P) (before later : P) (peer : Option Peer)
    (object : Option (Option StartupObject)) (written : Option Progress) (told : Told)
    (written_later : Option Progress)
    → WritesStartupOn trips before peer object written told written_later later
    → IsWithin trips turn_trips before later
startup_on_within trips before later peer None written told written_later writes = absurd writes
startup_on_within trips before later peer (Some None) written told written_later (is, kept, same) =
    within_none trips turn_trips before later same
startup_on_within trips before later peer (Some (Some object)) written told written_later writes =
    object_on_within trips before later peer object written told written_later writes

taken_within : {P : Type 0} (trips : Trips P) (before later : P) (wanted : Wanted) (r : RecoveryState)
    (step : Step) (told : Told) (r_later : RecoveryState)
    → IsTaken trips before wanted r step told r_later later → IsWithin trips turn_trips before later
taken_within trips before later wanted r Station told r_later (done, is) =
    done_at_once_within trips before later r.place wanted Station told (omega arith) done
taken_within trips before later wanted r (StationBehind first) told r_later (done, is) =
    done_at_once_within trips before later r.place wanted (StationBehind first) told (omega arith) done
taken_within trips before later wanted r StationBefore told r_later (done, is) =
    done_at_once_within trips before later r.place wanted StationBefore told (omega arith) done
taken_within trips before later wanted r (SyncManager n) told r_later (sets, is) =
    manager_on_within trips before later wanted.station (manager_number n)
    (slice_get wanted.managers (manager_number n)) r.asked told sets
taken_within trips before later wanted r (FmmuRecord n) told r_later (sets, is) =
    fmmu_on_within trips before later wanted.station (fmmu_number n)
    (slice_get wanted.fmmus (fmmu_number n)) r.asked told sets
taken_within trips before later wanted r (Startup n) told r_later (written, writes, is) =
    startup_on_within trips before later (startup_peer wanted (startup_number n))
    (slice_get wanted.startup (startup_number n)) r.written told written writes
taken_within trips before later wanted r (State state) told r_later (turn, is) =
    state_turn_within trips before later wanted.station state r.asked told turn

turn_with_within : {P : Type 0} (trips : Trips P) (before later : P) (wanted : Wanted) (r : RecoveryState)
    (steps : List Step) (turn : Turn) → IsTurnWith trips before wanted r steps turn later
    → IsWithin trips turn_trips before later
turn_with_within trips before later wanted r [] turn (is, same) =
    within_none trips turn_trips before later same
turn_with_within trips before later wanted r (step ∷ rest) turn (told, r_later, taken, is) =
    taken_within trips before later wanted r step told r_later taken

pub turn_within : {P : Type 0} (trips : Trips P) (before later : P) (wanted : Wanted) (r : RecoveryState)
    (turn : Turn) → IsTurn trips before wanted r turn later → IsWithin trips turn_trips before later
turn_within trips before later wanted r turn taken =
    turn_with_within trips before later wanted r (due wanted r.steps) turn taken

pub along_within : {P : Type 0} (trips : Trips P) (before later : P) (line : List Wanted) (first : ℕ)
    (result : Result Along MasterFault) → IsAlong trips before line first result later
    → IsWithin trips 1 before later
along_within trips before later line first result along =
    within_one trips before later along.sent along.is_sent.came along.is_sent.made
