-- What is said of trips over ports is said of the trips over others that they are: of questions, steps, looks
-- and recoveries, of a line that is left in a state, and of trips that are counted.
use Rattle.std.proofs.Common.{◌≡◌, ℕ, zero, suc, ◌+◌, Bool, true, false, List, [], ◌∷◌, ap}
use Rattle.std.proofs.Common.{Option, None, Some, Result, Ok, Err}
use Rattle.ec_regs.specs.declared.al.AlState.{AlState}
use Rattle.ec_regs.specs.declared.fmmu.Fmmu.{Fmmu}
use Rattle.ec_regs.specs.declared.sync_man.SyncMan.{SyncMan}
use Rattle.ec_wire.specs.Datagram.{DatagramRecord}
use Rattle.ec_app.specs.declared.mail.Mail.{Mail}
use Rattle.ec_app.specs.declared.sdo.Sdo.{Sdo}
use Rattle.ec_master.specs.Ports.{Trips}
use Rattle.ec_services.specs.Ask.{Answer, Asks, IsAsked, Question, Talks}
use Rattle.ec_services.specs.Course.{Course, IsStep, Runs}
use Rattle.ec_services.specs.Surely.{IsSure}
use Rattle.ec_services.specs.Transfer.{service_of}
use Rattle.ec_services.specs.declared.fault.MasterFault.{MasterFault}
use Rattle.ec_services.specs.declared.mailbox.Peer.{Peer}
use Rattle.ec_run.specs.Alike.{AreTripsOf}
use Rattle.ec_run.specs.Ask.{IsPut, IsReplied}
use Rattle.ec_run.specs.Counting.{IsCounted}
use Rattle.ec_run.specs.Phase.{AreDone, Brings}
use Rattle.ec_run.specs.Recovery.{IsDealtWith, IsLookedAt, IsLookedFor, IsLookedUp, IsRecovered, IsSeenTo}
use Rattle.ec_run.specs.Recovery.{is_nobody, remedy_of, steps_for}
use Rattle.ec_run.specs.States.{Leaves, is_left}
use Rattle.ec_run.specs.StartupObjects.{WritesObject, WritesStartup, startup_peer}
use Rattle.ec_run.specs.Step.{IsDone, IsTried, SetsFmmu, SetsManager, fmmu_number, is_answered}
use Rattle.ec_run.specs.Step.{manager_number, startup_number}
use Rattle.ec_run.specs.Travels.{IsWithin, Travels}
use Rattle.ec_run.specs.declared.ask.Reply.{Reply}
use Rattle.ec_run.specs.declared.phase.StepFault.{StepFault}
use Rattle.ec_run.specs.declared.recovery.Outcome.{Outcome}
use Rattle.ec_run.specs.declared.recovery.Seen.{Seen}
use Rattle.ec_run.specs.declared.recovery.TheConstants.{MORE_LOOKS}
use Rattle.ec_run.specs.declared.step.Step.{Step}
use Rattle.ec_run.specs.declared.step.Step.TheVariants.{Station, StationBehind, StationBefore}
use Rattle.ec_run.specs.declared.step.Step.TheVariants.{SyncManager, Fmmu as FmmuRecord, Startup, State}
use Rattle.ec_run.specs.declared.step.TheConstants.{MORE_TRIES}
use Rattle.ec_run.specs.declared.wanted.StartupObject.{StartupObject}
use Rattle.ec_run.specs.declared.wanted.Wanted.{Wanted}

-- ---- one question

pub asks_of : {P Q : Type 0} (f : P → Q) (S : Trips P) (T : Trips Q) → AreTripsOf f S T → (before later : P)
    (sent : DatagramRecord) (answer : Answer) → Asks S before sent answer later
    → Asks T (f before) sent answer (f later)
asks_of f S T are before later sent answer asks = record {
  came = asks.came;
  made = are before (sent ∷ []) asks.came later asks.made;
  brings = asks.brings;
}

pub asked_of : {P Q A : Type 0} (f : P → Q) (S : Trips P) (T : Trips Q) → AreTripsOf f S T → (before later : P)
    (q : Question A) (decided : Result (Option A) MasterFault) → IsAsked S before q decided later
    → IsAsked T (f before) q decided (f later)
asked_of f S T are before later q decided asked = record {
  answer = asked.answer;
  asks = asks_of f S T are before later q.sent asked.answer asked.asks;
  decides = asked.decides;
}

put_of : {P Q : Type 0} (f : P → Q) (S : Trips P) (T : Trips Q) → AreTripsOf f S T → (before later : P)
    (sent : DatagramRecord) (joined : Result (List DatagramRecord) MasterFault)
    → IsPut S before sent joined later → IsPut T (f before) sent joined (f later)
put_of f S T are before later sent joined puts = record {
  answer = puts.answer;
  asks = asks_of f S T are before later sent puts.answer puts.asks;
  tells = puts.tells;
}

replied_of : {P Q : Type 0} (f : P → Q) (S : Trips P) (T : Trips Q) → AreTripsOf f S T → (before later : P)
    (sent : DatagramRecord) (reply : Result Reply MasterFault)
    → IsReplied S before sent reply later → IsReplied T (f before) sent reply (f later)
replied_of f S T are before later sent reply replied = record {
  answer = replied.answer;
  asks = asks_of f S T are before later sent replied.answer replied.asks;
  tells = replied.tells;
}

-- ---- one question after the other

pub talks_of : {P Q A : Type 0} (f : P → Q) (S : Trips P) (T : Trips Q) → AreTripsOf f S T
    → (before later : P) (qs : List (Question A)) (undecided result : Result A MasterFault)
    → Talks S before qs undecided result later → Talks T (f before) qs undecided result (f later)
unfolding Talks
talks_of f S T are before later [] undecided result (is, same) = (is, ap f same)
talks_of f S T are before later (q ∷ rest) undecided result (Err fault, between, asked, (is, same)) =
    (Err fault, f between, asked_of f S T are before between q (Err fault) asked, (is, ap f same))
talks_of f S T are before later (q ∷ rest) undecided result (Ok (Some value), between, asked, (is, same)) =
    (Ok (Some value), f between, asked_of f S T are before between q (Ok (Some value)) asked, (is, ap f same))
talks_of f S T are before later (q ∷ rest) undecided result (Ok None, between, asked, left) = (
  Ok None,
  f between,
  asked_of f S T are before between q (Ok None) asked,
  talks_of f S T are between later rest undecided result left,
)

-- ---- a course of questions

pub step_of : {P Q K A : Type 0} (f : P → Q) (S : Trips P) (T : Trips Q) → AreTripsOf f S T → (before later : P)
    (course : Course K A) (known : K) (decided : Result (Option A) MasterFault) (learned : K)
    → IsStep S before course known decided learned later
    → IsStep T (f before) course known decided learned (f later)
step_of f S T are before later course known decided learned step = record {
  answer = step.answer;
  asks = asks_of f S T are before later (course.sent known) step.answer step.asks;
  decides = step.decides;
  learns = step.learns;
}

pub runs_of : {P Q K A : Type 0} (f : P → Q) (S : Trips P) (T : Trips Q) → AreTripsOf f S T
    → (before later : P) (course : Course K A) (known : K) (n : ℕ) (result : Result A MasterFault) (last : K)
    → Runs S before course known n result last later → Runs T (f before) course known n result last (f later)
unfolding Runs
runs_of f S T are before later course known zero result last (is, knows, same) = (is, knows, ap f same)
runs_of f S T are before later course known (suc n) result last
    (Err fault, learned, between, step, (is, knows, same)) = (
      Err fault,
      learned,
      f between,
      step_of f S T are before between course known (Err fault) learned step,
      (is, knows, ap f same),
    )
runs_of f S T are before later course known (suc n) result last
    (Ok (Some value), learned, between, step, (is, knows, same)) = (
      Ok (Some value),
      learned,
      f between,
      step_of f S T are before between course known (Ok (Some value)) learned step,
      (is, knows, ap f same),
    )
runs_of f S T are before later course known (suc n) result last (Ok None, learned, between, step, left) = (
  Ok None,
  learned,
  f between,
  step_of f S T are before between course known (Ok None) learned step,
  runs_of f S T are between later course learned n result last left,
)

pub sure_of : {P Q A : Type 0} (f : P → Q) (S : Trips P) (T : Trips Q) → AreTripsOf f S T
    → (before later : P) (peer peer_later : Peer) (asked : Sdo) (limit : ℕ)
    (comes_to : Mail → Result A MasterFault) (result : Result A MasterFault)
    → IsSure S before peer (service_of asked comes_to) limit result peer_later later
    → IsSure T (f before) peer (service_of asked comes_to) limit result peer_later (f later)
sure_of f S T are before later peer peer_later asked limit comes_to result sure = record {
  answer = sure.answer;
  last = sure.last;
  runs = runs_of f S T are before later _ _ limit sure.answer sure.last sure.runs;
  peer_is = sure.peer_is;
  understands = sure.understands;
}

-- ---- a step

manager_of : {P Q : Type 0} (f : P → Q) (S : Trips P) (T : Trips Q) → AreTripsOf f S T → (before later : P)
    (station n : ℕ) (s : Option SyncMan) (result : Result (Unit {0}) MasterFault)
    → SetsManager S before station n s result later → SetsManager T (f before) station n s result (f later)
manager_of f S T are before later station n None result sets = absurd sets
manager_of f S T are before later station n (Some s) result sets =
    talks_of f S T are before later _ (Ok tt) result sets

fmmu_of : {P Q : Type 0} (f : P → Q) (S : Trips P) (T : Trips Q) → AreTripsOf f S T → (before later : P)
    (station n : ℕ) (record_of : Option Fmmu) (result : Result (Unit {0}) MasterFault)
    → SetsFmmu S before station n record_of result later
    → SetsFmmu T (f before) station n record_of result (f later)
fmmu_of f S T are before later station n None result sets = absurd sets
fmmu_of f S T are before later station n (Some r) result sets =
    talks_of f S T are before later _ (Ok tt) result sets

object_of : {P Q : Type 0} (f : P → Q) (S : Trips P) (T : Trips Q) → AreTripsOf f S T → (before later : P)
    (peer : Option Peer) (object : StartupObject) (result : Result (Unit {0}) MasterFault)
    → WritesObject S before peer object result later → WritesObject T (f before) peer object result (f later)
object_of f S T are before later None object result (is, same) = (is, ap f same)
object_of f S T are before later (Some peer) object result (peer_later, sure) =
    (peer_later, sure_of f S T are before later peer peer_later _ _ _ result sure)

startup_of : {P Q : Type 0} (f : P → Q) (S : Trips P) (T : Trips Q) → AreTripsOf f S T → (before later : P)
    (peer : Option Peer) (object : Option (Option StartupObject)) (result : Result (Unit {0}) MasterFault)
    → WritesStartup S before peer object result later
    → WritesStartup T (f before) peer object result (f later)
startup_of f S T are before later peer None result writes = absurd writes
startup_of f S T are before later peer (Some None) result (is, same) = (is, ap f same)
startup_of f S T are before later peer (Some (Some object)) result writes =
    object_of f S T are before later peer object result writes

pub done_of : {P Q : Type 0} (f : P → Q) (S : Trips P) (T : Trips Q) → AreTripsOf f S T → (before later : P)
    (place : ℕ) (wanted : Wanted) (step : Step) (result : Result (Unit {0}) MasterFault)
    → IsDone S before place wanted step result later → IsDone T (f before) place wanted step result (f later)
done_of f S T are before later place wanted Station result done =
    talks_of f S T are before later _ (Ok tt) result done
done_of f S T are before later place wanted (StationBehind first) result done =
    talks_of f S T are before later _ (Ok tt) result done
done_of f S T are before later place wanted StationBefore result done =
    talks_of f S T are before later _ (Ok tt) result done
done_of f S T are before later place wanted (SyncManager n) result done =
    manager_of f S T are before later wanted.station (manager_number n) _ result done
done_of f S T are before later place wanted (FmmuRecord n) result done =
    fmmu_of f S T are before later wanted.station (fmmu_number n) _ result done
done_of f S T are before later place wanted (Startup n) result done =
    startup_of f S T are before later (startup_peer wanted (startup_number n)) _ result done
done_of f S T are before later place wanted (State state) result done =
    talks_of f S T are before later _ _ result done

tried_of : {P Q : Type 0} (f : P → Q) (S : Trips P) (T : Trips Q) → AreTripsOf f S T → (more : ℕ)
    (before later : P) (place : ℕ) (wanted : Wanted) (step : Step) (result : Result (Unit {0}) MasterFault)
    → IsTried S before place wanted step more result later
    → IsTried T (f before) place wanted step more result (f later)
unfolding IsTried
tried_of f S T are zero before later place wanted step result done =
    done_of f S T are before later place wanted step result done
tried_of f S T are (suc more) before later place wanted step result (first, between, done, rest) = (
  first,
  f between,
  done_of f S T are before between place wanted step first done,
  tried_rest (is_answered first) rest (λ again. tried_of f S T are more between later place wanted step result
      again),
)
  where
    tried_rest : (b : Bool)
        → (elim b as (λ (x : Bool). Type 0) [
          | true ↦ (result ≡ first) × (later ≡ between)
          | false ↦ IsTried S between place wanted step more result later
        ])
        → (IsTried S between place wanted step more result later
        → IsTried T (f between) place wanted step more result (f later))
        → (elim b as (λ (x : Bool). Type 0) [
          | true ↦ (result ≡ first) × (f later ≡ f between)
          | false ↦ IsTried T (f between) place wanted step more result (f later)
        ])
    tried_rest true (is, same) on = (is, ap f same)
    tried_rest false again on = on again

-- ---- steps with one slave, and with all

pub are_done_of : {P Q : Type 0} (f : P → Q) (S : Trips P) (T : Trips Q) → AreTripsOf f S T
    → (before later : P) (place : ℕ) (wanted : Wanted) (steps : List Step)
    (result : Result (Unit {0}) StepFault) → AreDone S before place wanted steps result later
    → AreDone T (f before) place wanted steps result (f later)
unfolding AreDone
are_done_of f S T are before later place wanted [] result (is, same) = (is, ap f same)
are_done_of f S T are before later place wanted (step ∷ rest) result
    (Err fault, between, tried, (is, same)) = (
      Err fault,
      f between,
      tried_of f S T are MORE_TRIES before between place wanted step (Err fault) tried,
      (is, ap f same),
    )
are_done_of f S T are before later place wanted (step ∷ rest) result (Ok done, between, tried, left) = (
  Ok done,
  f between,
  tried_of f S T are MORE_TRIES before between place wanted step (Ok done) tried,
  are_done_of f S T are between later place wanted rest result left,
)

pub brings_of : {P Q : Type 0} (f : P → Q) (S : Trips P) (T : Trips Q) → AreTripsOf f S T
    → (before later : P) (place : ℕ) (line : List Wanted) (steps : List Step)
    (result : Result (Unit {0}) StepFault) → Brings S before place line steps result later
    → Brings T (f before) place line steps result (f later)
unfolding Brings
brings_of f S T are before later place [] steps result (is, same) = (is, ap f same)
brings_of f S T are before later place (wanted ∷ rest) steps result (Err fault, between, did, (is, same)) = (
  Err fault,
  f between,
  are_done_of f S T are before between place wanted steps (Err fault) did,
  (is, ap f same),
)
brings_of f S T are before later place (wanted ∷ rest) steps result (Ok done, between, did, left) = (
  Ok done,
  f between,
  are_done_of f S T are before between place wanted steps (Ok done) did,
  brings_of f S T are between later (place + 1) rest steps result left,
)

-- ---- slaves that are counted

pub counted_of : {P Q : Type 0} (f : P → Q) (S : Trips P) (T : Trips Q) → AreTripsOf f S T
    → (before later : P) (count : Result ℕ MasterFault) → IsCounted S before count later
    → IsCounted T (f before) count (f later)
counted_of f S T are before later count counted = record {
  joined = counted.joined;
  puts = put_of f S T are before later _ counted.joined counted.puts;
  tells = counted.tells;
}

-- ---- a recovery

looked_at_of : {P Q : Type 0} (f : P → Q) (S : Trips P) (T : Trips Q) → AreTripsOf f S T → (before later : P)
    (station : ℕ) (seen : Result Seen MasterFault) → IsLookedAt S before station seen later
    → IsLookedAt T (f before) station seen (f later)
looked_at_of f S T are before later station seen looked = record {
  reply = looked.reply;
  replied = replied_of f S T are before later _ looked.reply looked.replied;
  shows = looked.shows;
}

looked_for_of : {P Q : Type 0} (f : P → Q) (S : Trips P) (T : Trips Q) → AreTripsOf f S T → (more : ℕ)
    (before later : P) (station : ℕ) (seen : Result Seen MasterFault)
    → IsLookedFor S before station more seen later → IsLookedFor T (f before) station more seen (f later)
unfolding IsLookedFor
looked_for_of f S T are zero before later station seen looked =
    looked_at_of f S T are before later station seen looked
looked_for_of f S T are (suc more) before later station seen (first, between, looked, rest) = (
  first,
  f between,
  looked_at_of f S T are before between station first looked,
  looked_rest (is_nobody first) rest (λ again. looked_for_of f S T are more between later station seen again),
)
  where
    looked_rest : (b : Bool)
        → (elim b as (λ (x : Bool). Type 0) [
          | true ↦ IsLookedFor S between station more seen later
          | false ↦ (seen ≡ first) × (later ≡ between)
        ])
        → (IsLookedFor S between station more seen later
        → IsLookedFor T (f between) station more seen (f later))
        → (elim b as (λ (x : Bool). Type 0) [
          | true ↦ IsLookedFor T (f between) station more seen (f later)
          | false ↦ (seen ≡ first) × (f later ≡ f between)
        ])
    looked_rest true again on = on again
    looked_rest false (is, same) on = (is, ap f same)

pub looked_up_of : {P Q : Type 0} (f : P → Q) (S : Trips P) (T : Trips Q) → AreTripsOf f S T
    → (before later : P) (station : ℕ) (seen : Result Seen MasterFault)
    → IsLookedUp S before station seen later → IsLookedUp T (f before) station seen (f later)
looked_up_of f S T are before later station seen looked =
    looked_for_of f S T are MORE_LOOKS before later station seen looked

seen_to_of : {P Q : Type 0} (f : P → Q) (S : Trips P) (T : Trips Q) → AreTripsOf f S T → (before later : P)
    (place : ℕ) (wanted : Wanted) (seen : Seen) (steps : List Step) (outcome : Outcome)
    → IsSeenTo S before place wanted seen steps outcome later
    → IsSeenTo T (f before) place wanted seen steps outcome (f later)
seen_to_of f S T are before later place wanted seen [] outcome (is, same) = (is, ap f same)
seen_to_of f S T are before later place wanted seen (step ∷ rest) outcome (brought, done, is) =
    (brought, are_done_of f S T are before later place wanted (step ∷ rest) brought done, is)

dealt_of : {P Q : Type 0} (f : P → Q) (S : Trips P) (T : Trips Q) → AreTripsOf f S T → (before later : P)
    (place : ℕ) (wanted : Wanted) (tells : Bool) (seen : Result Seen MasterFault) (outcome : Outcome)
    → IsDealtWith S before place wanted tells seen outcome later
    → IsDealtWith T (f before) place wanted tells seen outcome (f later)
dealt_of f S T are before later place wanted tells (Err fault) outcome (is, same) = (is, ap f same)
dealt_of f S T are before later place wanted tells (Ok seen) outcome dealt =
    seen_to_of f S T are before later place wanted seen (steps_for tells (remedy_of seen)) outcome dealt

pub recovered_of : {P Q : Type 0} (f : P → Q) (S : Trips P) (T : Trips Q) → AreTripsOf f S T
    → (before later : P) (place : ℕ) (wanted : Wanted) (tells : Bool) (outcome : Outcome)
    → IsRecovered S before place wanted tells outcome later
    → IsRecovered T (f before) place wanted tells outcome (f later)
recovered_of f S T are before later place wanted tells outcome recovered = record {
  seen = recovered.seen;
  between = f recovered.between;
  looked = looked_up_of f S T are before recovered.between wanted.station recovered.seen recovered.looked;
  dealt = dealt_of f S T are recovered.between later place wanted tells recovered.seen outcome
      recovered.dealt;
}

-- ---- a line that is left in a state

leaves_rest_of : {P Q : Type 0} (f : P → Q) (S : Trips P) (T : Trips Q) (after later : P) (state : AlState)
    (slaves more : ℕ) (result : Result (Unit {0}) MasterFault) (b : Bool)
    → (elim b as (λ (x : Bool). Type 0) [
      | true ↦ (result ≡ Ok tt) × (later ≡ after)
      | false ↦ Leaves S after state slaves more result later
    ])
    → (Leaves S after state slaves more result later → Leaves T (f after) state slaves more result (f later))
    → (elim b as (λ (x : Bool). Type 0) [
      | true ↦ (result ≡ Ok tt) × (f later ≡ f after)
      | false ↦ Leaves T (f after) state slaves more result (f later)
    ])
leaves_rest_of f S T after later state slaves more result true (is, same) on = (is, ap f same)
leaves_rest_of f S T after later state slaves more result false again on = on again

pub leaves_of : {P Q : Type 0} (f : P → Q) (S : Trips P) (T : Trips Q) → AreTripsOf f S T → (most : ℕ)
    (before later : P) (state : AlState) (slaves : ℕ) (result : Result (Unit {0}) MasterFault)
    → Leaves S before state slaves most result later → Leaves T (f before) state slaves most result (f later)
unfolding Leaves
leaves_of f S T are zero before later state slaves result (is, same) = (is, ap f same)
leaves_of f S T are (suc more) before later state slaves result
    (written, between, writes, joined, after, reads, rest) = (
      written,
      f between,
      put_of f S T are before between _ written writes,
      joined,
      f after,
      put_of f S T are between after _ joined reads,
      leaves_rest_of f S T after later state slaves more result (is_left state slaves joined) rest
          (λ again. leaves_of f S T are more after later state slaves result again),
    )

-- ---- trips that are counted

travels_of : {P Q : Type 0} (f : P → Q) (S : Trips P) (T : Trips Q) → AreTripsOf f S T → (n : ℕ)
    (before later : P) → Travels S n before later → Travels T n (f before) (f later)
unfolding Travels
travels_of f S T are zero before later same = ap f same
travels_of f S T are (suc n) before later (sent, came, between, made, rest) = (
  sent,
  came,
  f between,
  are before sent came between made,
  travels_of f S T are n between later rest,
)

pub within_of : {P Q : Type 0} (f : P → Q) (S : Trips P) (T : Trips Q) → AreTripsOf f S T → (most : ℕ)
    (before later : P) → IsWithin S most before later → IsWithin T most (f before) (f later)
within_of f S T are most before later within = record {
  number = within.number;
  bound = within.bound;
  travels = travels_of f S T are within.number before later within.travels;
}
