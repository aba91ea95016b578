-- Turns with a slave and looks along a line, over ports that are others, seen so.
use Rattle.std.proofs.Common.{◌≡◌, ℕ, zero, suc, Bool, List, [], ◌∷◌, ap, Option, None, Some, Result}
use Rattle.std.specs.List.{slice_get}
use Rattle.ec_wire.specs.Datagram.{DatagramRecord}
use Rattle.ec_regs.specs.declared.al.AlState.{AlState}
use Rattle.ec_regs.specs.declared.fmmu.Fmmu.{Fmmu}
use Rattle.ec_regs.specs.declared.sync_man.SyncMan.{SyncMan}
use Rattle.ec_master.specs.Ports.{Trips}
use Rattle.ec_services.specs.Ask.{Answer, Question, write}
use Rattle.ec_services.specs.States.{control_write, status_question}
use Rattle.ec_services.specs.declared.fault.MasterFault.{MasterFault}
use Rattle.ec_services.specs.declared.mailbox.Peer.{Peer}
use Rattle.ec_services.specs.declared.surely.Progress.{Progress}
use Rattle.ec_run.specs.Alike.{AreTripsOf}
use Rattle.ec_run.specs.Along.{IsAlong, IsSent}
use Rattle.ec_run.specs.Recovering.{RecoveryState}
use Rattle.ec_run.specs.StartupObjects.{WritesObjectOn, WritesStartupOn, startup_peer}
use Rattle.ec_run.specs.Step.{IsPart, SetsFmmuOn, SetsManagerOn, fmmu_number, manager_number, startup_number}
use Rattle.ec_run.specs.Turns.{IsDoneAtOnce, IsStateTurn, IsTaken, IsTurn, IsTurnWith, Told, due}
use Rattle.ec_run.specs.declared.along.Along.{Along}
use Rattle.ec_run.specs.declared.step.Step.{Step}
use Rattle.ec_run.specs.declared.step.Step.TheVariants.{Station, StationBehind, StationBefore}
use Rattle.ec_run.specs.declared.step.Step.TheVariants.{SyncManager, Fmmu as FmmuRecord, Startup, State}
use Rattle.ec_run.specs.declared.turns.Turn.{Turn}
use Rattle.ec_run.specs.declared.wanted.StartupObject.{StartupObject}
use Rattle.ec_run.specs.declared.wanted.Wanted.{Wanted}
use Rattle.ec_run.proofs.AlikeLemmas.{asked_of, done_of, step_of}

done_at_once_of : {P Q : Type 0} (f : P → Q) (S : Trips P) (T : Trips Q) → AreTripsOf f S T
    → (before later : P) (place : ℕ) (wanted : Wanted) (step : Step) (told : Told)
    → IsDoneAtOnce S before place wanted step told later
    → IsDoneAtOnce T (f before) place wanted step told (f later)
done_at_once_of f S T are before later place wanted step told (did, done, is) =
    (did, done_of f S T are before later place wanted step did done, is)

state_turn_of : {P Q : Type 0} (f : P → Q) (S : Trips P) (T : Trips Q) → AreTripsOf f S T
    → (before later : P) (station : ℕ) (state : AlState) (asked : ℕ) (told : Told)
    → IsStateTurn S before station state asked told later
    → IsStateTurn T (f before) station state asked told (f later)
state_turn_of f S T are before later station state zero told turn =
    asked_of f S T are before later (write (control_write station state)) told turn
state_turn_of f S T are before later station state (suc asked) told turn =
    asked_of f S T are before later (status_question station state) told turn

part_of : {P Q : Type 0} (f : P → Q) (S : Trips P) (T : Trips Q) → AreTripsOf f S T → (before later : P)
    (q : Question (Unit {0})) (last : Bool) (told : Told) → IsPart S before q last told later
    → IsPart T (f before) q last told (f later)
part_of f S T are before later q last told part = record {
  decided = part.decided;
  asked = asked_of f S T are before later q part.decided part.asked;
  tells = part.tells;
}

manager_on_of : {P Q : Type 0} (f : P → Q) (S : Trips P) (T : Trips Q) → AreTripsOf f S T
    → (before later : P) (station n : ℕ) (s : Option SyncMan) (asked : ℕ) (told : Told)
    → SetsManagerOn S before station n s asked told later
    → SetsManagerOn T (f before) station n s asked told (f later)
manager_on_of f S T are before later station n None asked told sets = absurd sets
manager_on_of f S T are before later station n (Some s) asked told sets =
    part_of f S T are before later _ _ told sets

fmmu_on_of : {P Q : Type 0} (f : P → Q) (S : Trips P) (T : Trips Q) → AreTripsOf f S T
    → (before later : P) (station n : ℕ) (m : Option Fmmu) (asked : ℕ) (told : Told)
    → SetsFmmuOn S before station n m asked told later
    → SetsFmmuOn T (f before) station n m asked told (f later)
fmmu_on_of f S T are before later station n None asked told sets = absurd sets
fmmu_on_of f S T are before later station n (Some m) asked told sets =
    part_of f S T are before later _ _ told sets

object_on_of : {P Q : Type 0} (f : P → Q) (S : Trips P) (T : Trips Q) → AreTripsOf f S T
    → (before later : P) (peer : Option Peer) (object : StartupObject) (written : Option Progress) (told : Told)
    (written_later : Option Progress)
    → WritesObjectOn S before peer object written told written_later later
    → WritesObjectOn T (f before) peer object written told written_later (f later)
object_on_of f S T are before later None object written told written_later (is, kept, same) =
    (is, kept, ap f same)
object_on_of f S T are before later (Some peer) object written told written_later (progress, is, goes) = (
  progress,
  is,
  record {
    decided = goes.decided;
    step = step_of f S T are before later _ _ goes.decided progress goes.step;
    tells = goes.tells;
  },
)

startup_on_of : {P Q : Type 0} (f : P → Q) (S : Trips P) (T : Trips Q) → AreTripsOf f S T
    → (before later : P) (peer : Option Peer) (object : Option (Option StartupObject))
    (written : Option Progress) (told : Told) (written_later : Option Progress)
    → WritesStartupOn S before peer object written told written_later later
    → WritesStartupOn T (f before) peer object written told written_later (f later)
startup_on_of f S T are before later peer None written told written_later writes = absurd writes
startup_on_of f S T are before later peer (Some None) written told written_later (is, kept, same) =
    (is, kept, ap f same)
startup_on_of f S T are before later peer (Some (Some object)) written told written_later writes =
    object_on_of f S T are before later peer object written told written_later writes

taken_of : {P Q : Type 0} (f : P → Q) (S : Trips P) (T : Trips Q) → AreTripsOf f S T
    → (before later : P) (wanted : Wanted) (r : RecoveryState) (step : Step) (told : Told)
    (r_later : RecoveryState) → IsTaken S before wanted r step told r_later later
    → IsTaken T (f before) wanted r step told r_later (f later)
taken_of f S T are before later wanted r Station told r_later (done, is) =
    (done_at_once_of f S T are before later r.place wanted Station told done, is)
taken_of f S T are before later wanted r (StationBehind first) told r_later (done, is) =
    (done_at_once_of f S T are before later r.place wanted (StationBehind first) told done, is)
taken_of f S T are before later wanted r StationBefore told r_later (done, is) =
    (done_at_once_of f S T are before later r.place wanted StationBefore told done, is)
taken_of f S T are before later wanted r (SyncManager n) told r_later (sets, is) = (
  manager_on_of f S T are before later wanted.station (manager_number n)
      (slice_get wanted.managers (manager_number n)) r.asked told sets,
  is,
)
taken_of f S T are before later wanted r (FmmuRecord n) told r_later (sets, is) = (
  fmmu_on_of f S T are before later wanted.station (fmmu_number n) (slice_get wanted.fmmus (fmmu_number n))
      r.asked told sets,
  is,
)
taken_of f S T are before later wanted r (Startup n) told r_later (written, writes, is) = (
  written,
  startup_on_of f S T are before later (startup_peer wanted (startup_number n))
      (slice_get wanted.startup (startup_number n)) r.written told written writes,
  is,
)
taken_of f S T are before later wanted r (State state) told r_later (turn, is) =
    (state_turn_of f S T are before later wanted.station state r.asked told turn, is)

turn_with_of : {P Q : Type 0} (f : P → Q) (S : Trips P) (T : Trips Q) → AreTripsOf f S T
    → (before later : P) (wanted : Wanted) (r : RecoveryState) (steps : List Step) (turn : Turn)
    → IsTurnWith S before wanted r steps turn later → IsTurnWith T (f before) wanted r steps turn (f later)
turn_with_of f S T are before later wanted r [] turn (is, same) = (is, ap f same)
turn_with_of f S T are before later wanted r (step ∷ rest) turn (told, r_later, taken, is) =
    (told, r_later, taken_of f S T are before later wanted r step told r_later taken, is)

pub turn_of_like : {P Q : Type 0} (f : P → Q) (S : Trips P) (T : Trips Q) → AreTripsOf f S T
    → (before later : P) (wanted : Wanted) (r : RecoveryState) (turn : Turn)
    → IsTurn S before wanted r turn later → IsTurn T (f before) wanted r turn (f later)
turn_of_like f S T are before later wanted r turn taken =
    turn_with_of f S T are before later wanted r (due wanted r.steps) turn taken

sent_of : {P Q : Type 0} (f : P → Q) (S : Trips P) (T : Trips Q) → AreTripsOf f S T → (before later : P)
    (sent : List DatagramRecord) (answer : Answer) → IsSent S before sent answer later
    → IsSent T (f before) sent answer (f later)
sent_of f S T are before later sent answer is_sent = record {
  came = is_sent.came;
  made = are before sent is_sent.came later is_sent.made;
  brings = is_sent.brings;
}

pub along_of_like : {P Q : Type 0} (f : P → Q) (S : Trips P) (T : Trips Q) → AreTripsOf f S T
    → (before later : P) (line : List Wanted) (first : ℕ) (result : Result Along MasterFault)
    → IsAlong S before line first result later → IsAlong T (f before) line first result (f later)
along_of_like f S T are before later line first result along = record {
  sent = along.sent;
  reads = along.reads;
  answer = along.answer;
  is_sent = sent_of f S T are before later along.sent along.answer along.is_sent;
  is = along.is;
}
