-- A turn of a start over held ports is that turn over ports that give what was held.
use Rattle.std.proofs.Common.{ℕ, zero, suc, Bool, List, [], ◌∷◌, Option, None, Some, Result, Ok, Err}
use Rattle.std.proofs.Common.{sym, subst, refl}
use Rattle.std.specs.List.{slice_get}
use Rattle.ec_regs.specs.declared.al.AlState.{AlState}
use Rattle.ec_regs.specs.declared.fmmu.Fmmu.{Fmmu}
use Rattle.ec_regs.specs.declared.sync_man.SyncMan.{SyncMan}
use Rattle.ec_master.specs.Ports.{Trips}
use Rattle.ec_ring.specs.declared.weather.Came.{Came}
use Rattle.ec_services.specs.Ask.{IsAsked, Question, Talks, write}
use Rattle.ec_services.specs.States.{control_write, status_question}
use Rattle.ec_services.specs.declared.fault.MasterFault.{MasterFault}
use Rattle.ec_services.specs.declared.mailbox.Peer.{Peer}
use Rattle.ec_services.specs.declared.surely.Progress.{Progress}
use Rattle.ec_run.specs.Recovering.{RecoveryState}
use Rattle.ec_run.specs.StartupObjects.{WritesObjectOn, WritesStartupOn, startup_peer}
use Rattle.ec_run.specs.Step.{IsPart, SetsFmmuOn, SetsManagerOn, fmmu_number, manager_number, startup_number}
use Rattle.ec_run.specs.Turns.{IsStateTurn, IsTaken, IsTurnWith, Told, due}
use Rattle.ec_run.specs.declared.step.Step.{Step}
use Rattle.ec_run.specs.declared.step.Step.TheVariants.{Station, StationBehind, StationBefore}
use Rattle.ec_run.specs.declared.step.Step.TheVariants.{SyncManager, Fmmu as FmmuRecord, Startup, State}
use Rattle.ec_run.specs.declared.turns.Turn.{Turn}
use Rattle.ec_run.specs.declared.wanted.StartupObject.{StartupObject}
use Rattle.ec_run.specs.declared.wanted.Wanted.{Wanted}
use Rattle.ec_turns.specs.Held.{Give, HeldState, HeldTrips, giving}
use Rattle.ec_turns.specs.Start.{IsCountTurn, IsSlaveTurn, IsStartTurn, recovery_of}
use Rattle.ec_turns.specs.declared.plan.Plan.{Plan}
use Rattle.ec_turns.specs.declared.plan.Stage.{Stage}
use Rattle.ec_turns.specs.declared.plan.Stage.TheVariants.{Count, Behind, Stations, Init, PreOp, SafeOp, Op}
use Rattle.ec_turns.specs.declared.start.Start.{Start}
use Rattle.ec_turns.specs.declared.start.StartTurn.{StartTurn}
use Rattle.ec_turns.proofs.GivenLemmas.{asked_over, asks_over, frame_is_sent, step_over}

-- a talk of one question ends behind it
talk_over : {P : Type 0} (trips : Trips P) (before later : P) (came : Came) (held : HeldState)
    (q : Question (Unit {0})) (undecided did : Result (Unit {0}) MasterFault)
    → Give trips before came held later → Talks HeldTrips (giving came) (q ∷ []) undecided did held
    → Talks trips before (q ∷ []) undecided did later
unfolding Talks
talk_over {P} trips before later came held q undecided did give (Err fault, between, asked, (is, same)) = (
  Err fault,
  later,
  asked_over trips before later came held q (Err fault) give
      (subst (λ (h : HeldState). IsAsked HeldTrips (giving came) q (Err fault) h) (sym same) asked),
  (is, refl),
)
talk_over {P} trips before later came held q undecided did give (Ok (Some x), between, asked, (is, same)) = (
  Ok (Some x),
  later,
  asked_over trips before later came held q (Ok (Some x)) give
      (subst (λ (h : HeldState). IsAsked HeldTrips (giving came) q (Ok (Some x)) h) (sym same) asked),
  (is, refl),
)
talk_over {P} trips before later came held q undecided did give (Ok None, between, asked, (is, same)) = (
  Ok None,
  later,
  asked_over trips before later came held q (Ok None) give
      (subst (λ (h : HeldState). IsAsked HeldTrips (giving came) q (Ok None) h) (sym same) asked),
  (is, refl),
)

state_turn_over : {P : Type 0} (trips : Trips P) (before later : P) (came : Came) (held : HeldState)
    (station : ℕ) (state : AlState) (asked : ℕ) (told : Told) → Give trips before came held later
    → IsStateTurn HeldTrips (giving came) station state asked told held
    → IsStateTurn trips before station state asked told later
state_turn_over trips before later came held station state zero told give turn =
    asked_over trips before later came held (write (control_write station state)) told give turn
state_turn_over trips before later came held station state (suc asked) told give turn =
    asked_over trips before later came held (status_question station state) told give turn

part_over : {P : Type 0} (trips : Trips P) (before later : P) (came : Came) (held : HeldState)
    (q : Question (Unit {0})) (last : Bool) (told : Told) → Give trips before came held later
    → IsPart HeldTrips (giving came) q last told held → IsPart trips before q last told later
part_over trips before later came held q last told give part = record {
  decided = part.decided;
  asked = asked_over trips before later came held q part.decided give part.asked;
  tells = part.tells;
}

manager_on_over : {P : Type 0} (trips : Trips P) (before later : P) (came : Came) (held : HeldState)
    (station n : ℕ) (s : Option SyncMan) (asked : ℕ) (told : Told) → Give trips before came held later
    → SetsManagerOn HeldTrips (giving came) station n s asked told held
    → SetsManagerOn trips before station n s asked told later
manager_on_over trips before later came held station n None asked told give sets = absurd sets
manager_on_over trips before later came held station n (Some s) asked told give sets =
    part_over trips before later came held _ _ told give sets

fmmu_on_over : {P : Type 0} (trips : Trips P) (before later : P) (came : Came) (held : HeldState)
    (station n : ℕ) (m : Option Fmmu) (asked : ℕ) (told : Told) → Give trips before came held later
    → SetsFmmuOn HeldTrips (giving came) station n m asked told held
    → SetsFmmuOn trips before station n m asked told later
fmmu_on_over trips before later came held station n None asked told give sets = absurd sets
fmmu_on_over trips before later came held station n (Some m) asked told give sets =
    part_over trips before later came held _ _ told give sets

object_on_over : {P : Type 0} (trips : Trips P) (before later : P) (came : Came) (held : HeldState)
    (peer : Option Peer) (object : StartupObject) (written : Option Progress) (told : Told)
    (written_later : Option Progress) → Give trips before came held later
    → WritesObjectOn HeldTrips (giving came) peer object written told written_later held
    → WritesObjectOn trips before peer object written told written_later later
object_on_over trips before later came held None object written told written_later give (is, kept, same) =
    absurd (frame_is_sent trips before later came held give same)
object_on_over trips before later came held (Some peer) object written told written_later give
    (progress, is, goes) = (
      progress,
      is,
      record {
        decided = goes.decided;
        step = step_over trips before later came held _ _ goes.decided progress give goes.step;
        tells = goes.tells;
      },
    )

startup_on_over : {P : Type 0} (trips : Trips P) (before later : P) (came : Came) (held : HeldState)
    (peer : Option Peer) (object : Option (Option StartupObject)) (written : Option Progress) (told : Told)
    (written_later : Option Progress) → Give trips before came held later
    → WritesStartupOn HeldTrips (giving came) peer object written told written_later held
    → WritesStartupOn trips before peer object written told written_later later
startup_on_over trips before later came held peer None written told written_later give writes = absurd writes
startup_on_over trips before later came held peer (Some None) written told written_later give
    (is, kept, same) =
    absurd (frame_is_sent trips before later came held give same)
startup_on_over trips before later came held peer (Some (Some object)) written told written_later give
    writes =
    object_on_over trips before later came held peer object written told written_later give writes

taken_over : {P : Type 0} (trips : Trips P) (before later : P) (came : Came) (held : HeldState)
    (wanted : Wanted) (r : RecoveryState) (step : Step) (told : Told) (r_later : RecoveryState)
    → Give trips before came held later → IsTaken HeldTrips (giving came) wanted r step told r_later held
    → IsTaken trips before wanted r step told r_later later
taken_over trips before later came held wanted r Station told r_later give ((did, done, tells), is) =
    ((did, talk_over trips before later came held _ (Ok tt) did give done, tells), is)
taken_over trips before later came held wanted r (StationBehind first) told r_later give
    ((did, done, tells), is) =
    ((did, talk_over trips before later came held _ (Ok tt) did give done, tells), is)
taken_over trips before later came held wanted r StationBefore told r_later give ((did, done, tells), is) =
    ((did, talk_over trips before later came held _ (Ok tt) did give done, tells), is)
taken_over trips before later came held wanted r (SyncManager n) told r_later give (sets, is) = (
  manager_on_over trips before later came held wanted.station (manager_number n)
      (slice_get wanted.managers (manager_number n)) r.asked told give sets,
  is,
)
taken_over trips before later came held wanted r (FmmuRecord n) told r_later give (sets, is) = (
  fmmu_on_over trips before later came held wanted.station (fmmu_number n)
      (slice_get wanted.fmmus (fmmu_number n)) r.asked told give sets,
  is,
)
taken_over trips before later came held wanted r (Startup n) told r_later give (written, writes, is) = (
  written,
  startup_on_over trips before later came held (startup_peer wanted (startup_number n))
      (slice_get wanted.startup (startup_number n)) r.written told written give writes,
  is,
)
taken_over trips before later came held wanted r (State state) told r_later give (turn, is) =
    (state_turn_over trips before later came held wanted.station state r.asked told give turn, is)

turn_with_over : {P : Type 0} (trips : Trips P) (before later : P) (came : Came) (held : HeldState)
    (wanted : Wanted) (r : RecoveryState) (steps : List Step) (turn : Turn)
    → Give trips before came held later → IsTurnWith HeldTrips (giving came) wanted r steps turn held
    → IsTurnWith trips before wanted r steps turn later
turn_with_over trips before later came held wanted r [] turn give (is, same) =
    absurd (frame_is_sent trips before later came held give same)
turn_with_over trips before later came held wanted r (step ∷ rest) turn give (told, r_later, taken, is) =
    (told, r_later, taken_over trips before later came held wanted r step told r_later give taken, is)

slave_turn_over : {P : Type 0} (trips : Trips P) (before later : P) (came : Came) (held : HeldState)
    (plan : Plan) (wanted : Wanted) (s : Start) (turn : StartTurn) → Give trips before came held later
    → IsSlaveTurn HeldTrips (giving came) plan wanted s turn held
    → IsSlaveTurn trips before plan wanted s turn later
slave_turn_over trips before later came held plan wanted s turn give (did, taken, is) = (
  did,
  turn_with_over trips before later came held wanted (recovery_of plan s)
      (due wanted (recovery_of plan s).steps) did give taken,
  is,
)

count_turn_over : {P : Type 0} (trips : Trips P) (before later : P) (came : Came) (held : HeldState)
    (plan : Plan) (s : Start) (turn : StartTurn) → Give trips before came held later
    → IsCountTurn HeldTrips (giving came) plan s turn held → IsCountTurn trips before plan s turn later
count_turn_over trips before later came held plan s turn give (found, counts, is) = (
  found,
  record {
    joined = counts.joined;
    puts = record {
      answer = counts.puts.answer;
      asks = asks_over trips before later came held _ counts.puts.answer give counts.puts.asks;
      tells = counts.puts.tells;
    };
    tells = counts.tells;
  },
  is,
)

stage_turn_over : {P : Type 0} (trips : Trips P) (before later : P) (came : Came) (held : HeldState)
    (plan : Plan) (wanted : Wanted) (stage : Stage) (s : Start) (turn : StartTurn)
    → Give trips before came held later
    → IsStartTurn HeldTrips (giving came) plan wanted (record s { stage = stage }) turn held
    → IsStartTurn trips before plan wanted (record s { stage = stage }) turn later
stage_turn_over trips before later came held plan wanted Count s turn give taken =
    count_turn_over trips before later came held plan (record s { stage = Count }) turn give taken
stage_turn_over trips before later came held plan wanted Behind s turn give taken =
    slave_turn_over trips before later came held plan wanted (record s { stage = Behind }) turn give taken
stage_turn_over trips before later came held plan wanted Stations s turn give taken =
    slave_turn_over trips before later came held plan wanted (record s { stage = Stations }) turn give taken
stage_turn_over trips before later came held plan wanted Init s turn give taken =
    slave_turn_over trips before later came held plan wanted (record s { stage = Init }) turn give taken
stage_turn_over trips before later came held plan wanted PreOp s turn give taken =
    slave_turn_over trips before later came held plan wanted (record s { stage = PreOp }) turn give taken
stage_turn_over trips before later came held plan wanted SafeOp s turn give taken =
    slave_turn_over trips before later came held plan wanted (record s { stage = SafeOp }) turn give taken
stage_turn_over trips before later came held plan wanted Op s turn give taken =
    slave_turn_over trips before later came held plan wanted (record s { stage = Op }) turn give taken

pub start_turn_over : {P : Type 0} (trips : Trips P) (before later : P) (came : Came) (held : HeldState)
    (plan : Plan) (wanted : Wanted) (s : Start) (turn : StartTurn) → Give trips before came held later
    → IsStartTurn HeldTrips (giving came) plan wanted s turn held
    → IsStartTurn trips before plan wanted s turn later
start_turn_over trips before later came held plan wanted s turn give taken =
    stage_turn_over trips before later came held plan wanted s.stage s turn give taken
