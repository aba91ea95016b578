-- A start-up over a ring of slaves that fit what is wanted: no phase fails, and all records stand in the end.
use Rattle.std.proofs.Common.{◌≡◌, ℕ, true, List, [], ◌∷◌}
use Rattle.std.proofs.Common.{Result, Ok, refl, sym, subst, inr}
use Rattle.std.specs.List.{AllByRecursion}
use Rattle.std.proofs.lemmas.Bool.{and_parts}
use Rattle.ec_regs.specs.declared.al.AlState.TheVariants as state
use Rattle.ec_app.specs.State.{SlaveState}
use Rattle.ec_ring.specs.Ring.{RingState}
use Rattle.ec_master.specs.RingTrips.{RingTrips}
use Rattle.ec_run.specs.Phase.{Brings, steps_of}
use Rattle.ec_run.specs.declared.phase.Phase.TheVariants.{Init, PreOp, Startup as StartupPhase, SafeOp, Op}
use Rattle.ec_run.specs.declared.phase.StepFault.{StepFault}
use Rattle.ec_run.specs.declared.step.Step.{Step}
use Rattle.ec_run.specs.declared.step.Step.TheVariants.{SyncManager, Fmmu as FmmuRecord}
use Rattle.ec_run.specs.declared.wanted.Wanted.{Wanted}
use Rattle.ec_run.proofs.Laws.{brings_within, within_none}
use Rattle.ec_over_ring.specs.Brought.{ReachesAll}
use Rattle.ec_over_ring.specs.Fit.{CanStart, CanTake, HasMailboxes, Succeeds}
use Rattle.ec_over_ring.specs.Started.{AreWanted, HoldsSet, IsWanted}
use Rattle.ec_over_ring.proofs.BroughtLemmas.{has_one}
use Rattle.ec_over_ring.proofs.LineBroughtLemmas.{IsThere}
use Rattle.ec_over_ring.proofs.PhaseLemmas.{AreAllRecords, AreBrought, AreSoFar, IsPhase, Stage, any_lasts}
use Rattle.ec_over_ring.proofs.PhaseLemmas.{is_record, line_brought, there_lasts}
use Rattle.ec_over_ring.proofs.RequestLemmas.{Accepts}
use Rattle.ec_over_ring.proofs.SetsLemmas.{IsAny}
use Rattle.ec_over_ring.proofs.SettingLemmas.{AllLeave, begins, ends, held_to, is_setting, set_left}
use Rattle.ec_over_ring.proofs.SparedLemmas.{HasSuch, IsSuch, such_as, such_between, such_both, such_one}
use Rattle.ec_over_ring.proofs.StartedLemmas.{LineLeaves, LineStands, all_clear, all_setting}
use Rattle.ec_over_ring.proofs.StartedLemmas.{all_started, all_stay, clear_numbers, each_clear, is_clear}
use Rattle.ec_over_ring.proofs.StartedLemmas.{line_stands, line_stays, op_clear}
use Rattle.ec_over_ring.proofs.StoredLemmas.{each_aside, have_stored, is_aside, stay_kept}
use Rattle.ec_over_ring.proofs.TakingLemmas.{AreReady, AreWilling, IsReady, IsWilling, LineWritten, each_low}
use Rattle.ec_over_ring.proofs.TakingLemmas.{first_willing, line_written, objects_from, stay_ready}
use Rattle.ec_over_ring.proofs.TakingLemmas.{stay_willing}
use Rattle.ec_over_ring.proofs.TripKeepsLemmas.{within_keeps}

-- ---- the phases

-- the records that the phases set, before they ask for a state
unfoldable pub mailbox_records : List Step
mailbox_records = SyncManager 0 ∷ SyncManager 1 ∷ []

unfoldable pub process_records : List Step
process_records =
    SyncManager 2 ∷ SyncManager 3 ∷ SyncManager 4 ∷ SyncManager 5 ∷ SyncManager 6 ∷ SyncManager 7
    ∷ FmmuRecord 0 ∷ FmmuRecord 1 ∷ FmmuRecord 2 ∷ FmmuRecord 3 ∷ FmmuRecord 4 ∷ FmmuRecord 5
    ∷ FmmuRecord 6 ∷ FmmuRecord 7
    ∷ []

pub to_init : IsPhase IsAny [] state.Init
unfolding AreAllRecords each_clear Accepts
to_init = record { lasts = any_lasts; are = tt; clear = refl; accepts = λ wanted s has. tt }

mailbox_records_are : AreAllRecords mailbox_records
unfolding mailbox_records AreAllRecords is_record
mailbox_records_are = (refl, (refl, tt))

mailbox_records_clear : each_clear mailbox_records ≡ true
unfolding mailbox_records each_clear all_clear is_clear is_setting held_to begins ends
mailbox_records_clear = refl

pub to_pre_op : IsPhase (IsThere state.Init) mailbox_records state.PreOp
unfolding mailbox_records Accepts
to_pre_op = record {
  lasts = there_lasts state.Init;
  are = mailbox_records_are;
  clear = mailbox_records_clear;
  accepts = λ wanted s has. (has.such.fits, has.all.0, has.all.1.0);
}

process_records_are : AreAllRecords process_records
unfolding process_records AreAllRecords is_record
process_records_are = (
  refl,
  (
    refl,
    (
      refl,
      (
        refl,
        (
          refl,
          (
            refl,
            (refl, (refl, (refl, (refl, (refl, (refl, (refl, (refl, tt)))))))),
          ),
        ),
      ),
    ),
  ),
)

process_records_clear : each_clear process_records ≡ true
unfolding process_records each_clear all_clear is_clear is_setting held_to begins ends
process_records_clear = refl

pub to_safe_op : IsPhase (IsThere state.PreOp) process_records state.SafeOp
unfolding process_records Accepts
to_safe_op = record {
  lasts = there_lasts state.PreOp;
  are = process_records_are;
  clear = process_records_clear;
  accepts = λ wanted s has. (has.such.fits, has.such.is, has.all.0, has.all.1.0);
}

pub to_op : IsPhase (IsThere state.SafeOp) [] state.Op
unfolding AreAllRecords each_clear Accepts
to_op = record {
  lasts = there_lasts state.SafeOp;
  are = tt;
  clear = refl;
  accepts = λ wanted s has. has.such.is;
}

-- slaves that can start are fit, whatever else they are
line_starts : (line : List Wanted) (r : RingState) → AllByRecursion (CanStart r) line → AreSoFar IsAny line r
line_starts [] r can = tt
line_starts (wanted ∷ rest) r can = (
  subst (λ (ss : List SlaveState). HasSuch (Stage IsAny wanted) wanted.station ss) (sym can.0.has.slaves)
      (such_between (Stage IsAny wanted) wanted.station can.0.before can.0.slave can.0.behind
      can.0.has.others_before can.0.has.station_is (record { fits = can.0.fits; is = tt })
      can.0.has.others_behind),
  line_starts rest r can.1,
)

-- ---- the mailboxes stand

-- steps whose registers lie elsewhere leave a record, of whatever slave they are
clear_left : (wanted : Wanted) (x : Step) (other : ℕ) (ys : List Step) → IsWanted wanted
    → all_clear x ys ≡ true → AllByRecursion (λ (y : Step). is_setting y ≡ true) ys
    → AllLeave (λ (s : SlaveState). HoldsSet wanted s.controller.memory x) wanted.station other ys
unfolding AllLeave all_clear is_clear
clear_left wanted x other [] wants clear sets = tt
clear_left wanted x other (y ∷ ys) wants clear sets =
    let one = and_parts (is_clear x y) (all_clear x ys) clear in (
      (
        sets.0,
        set_left wanted x y other wants sets.0
            (inr (clear_numbers (held_to x) (begins y) (ends y) (begins x) one.0)),
      ),
      clear_left wanted x other ys wants one.1 sets.1,
    )

line_clear : (wanted : Wanted) (x : Step) (ys : List Step) (line : List Wanted) → IsWanted wanted
    → all_clear x ys ≡ true → AllByRecursion (λ (y : Step). is_setting y ≡ true) ys → AreWanted line
    → LineLeaves (λ (s : SlaveState). HoldsSet wanted s.controller.memory x) wanted.station ys line
unfolding LineLeaves
line_clear wanted x ys [] wants clear sets are = tt
line_clear wanted x ys (other ∷ rest) wants clear sets are = (
  (are.0, clear_left wanted x other.station ys wants clear sets),
  line_clear wanted x ys rest wants clear sets are.2,
)

first_clear : all_clear (SyncManager 0) (steps_of SafeOp) ≡ true
unfolding all_clear is_clear held_to begins ends
first_clear = refl

second_clear : all_clear (SyncManager 1) (steps_of SafeOp) ≡ true
unfolding all_clear is_clear held_to begins ends
second_clear = refl

safe_op_sets : AllByRecursion (λ (y : Step). is_setting y ≡ true) (steps_of SafeOp)
unfolding each_clear all_clear is_clear is_setting held_to begins ends
safe_op_sets = all_setting (steps_of SafeOp) refl

pub pre_op_clear : each_clear (steps_of PreOp) ≡ true
unfolding each_clear all_clear is_clear is_setting held_to begins ends
pre_op_clear = refl

pub mailboxes_clear : op_clear mailbox_records ≡ true
unfolding op_clear is_clear held_to begins ends mailbox_records
mailboxes_clear = refl

-- behind Pre-Op, and while the records of process data are set
pub boxes_of : (line : List Wanted) (r : RingState) → LineStands (steps_of PreOp) line r
    → LineStands mailbox_records line r
unfolding mailbox_records
boxes_of [] r stand = tt
boxes_of (wanted ∷ rest) r stand = ((stand.0.0, (stand.0.1.0, tt)), boxes_of rest r stand.1)

pub boxes_stay : (some line : List Wanted) (result : Result (Unit {0}) StepFault) (r later : RingState)
    → ReachesAll r → AreWanted line → AreWanted some
    → Brings RingTrips r 0 line (steps_of SafeOp) result later → LineStands mailbox_records some r
    → LineStands mailbox_records some later
unfolding mailbox_records
boxes_stay [] line result r later ring are wants brings stand = tt
boxes_stay (wanted ∷ rest) line result r later ring are wants brings stand = (
  all_stay wanted 0 mailbox_records (steps_of SafeOp) line result r later ring (
    line_clear wanted (SyncManager 0) (steps_of SafeOp) line wants.0 first_clear safe_op_sets are,
    (line_clear wanted (SyncManager 1) (steps_of SafeOp) line wants.0 second_clear safe_op_sets are, tt),
  ) brings stand.0,
  boxes_stay rest line result r later ring are wants.2 brings stand.1,
)

pub have_mailboxes : (line : List Wanted) (r : RingState) → ReachesAll r → AreWanted line
    → LineStands mailbox_records line r → AllByRecursion (HasMailboxes r) line
unfolding mailbox_records
have_mailboxes [] r ring are stand = tt
have_mailboxes (wanted ∷ rest) r ring are stand =
    let P : SlaveState → Type 0 = λ (s : SlaveState). HoldsSet wanted s.controller.memory (SyncManager 0)
    × HoldsSet wanted s.controller.memory (SyncManager 1) in
    let is : IsSuch P wanted.station r.slaves =
    such_one P wanted.station r.slaves
    (such_both (λ (s : SlaveState). HoldsSet wanted s.controller.memory (SyncManager 0))
    (λ (s : SlaveState). HoldsSet wanted s.controller.memory (SyncManager 1)) wanted.station r.slaves
    stand.0.0 stand.0.1.0) in (
      record {
        before = is.one.before;
        slave = is.one.slave;
        behind = is.one.behind;
        has = has_one wanted.station r ring are.0.station is.one;
        requests = is.such.0;
        answers = is.such.1;
      },
      have_mailboxes rest r ring are.2 stand.1,
    )

-- ---- the startup objects

pub objects_are : objects_from 0 16 ≡ steps_of StartupPhase
unfolding objects_from
objects_are = refl

pub init_low : each_low (steps_of Init) ≡ true
unfolding each_low is_setting ends
init_low = refl

pub pre_op_low : each_low (steps_of PreOp) ≡ true
unfolding each_low is_setting ends
pre_op_low = refl

safe_op_aside : each_aside (steps_of SafeOp) ≡ true
unfolding each_aside is_aside is_setting begins ends
safe_op_aside = refl

op_aside : each_aside (steps_of Op) ≡ true
unfolding each_aside is_aside is_setting begins ends
op_aside = refl

-- behind Pre-Op each slave is ready for them
pub now_ready : (line : List Wanted) (r : RingState) → AreSoFar (IsThere state.PreOp) line r
    → LineStands mailbox_records line r → AreWilling line r → AreReady line r
unfolding mailbox_records
now_ready [] r so_far stand stores = tt
now_ready (wanted ∷ rest) r so_far stand stores =
    let station : ℕ = wanted.station in
    let A : SlaveState → Type 0 = Stage (IsThere state.PreOp) wanted in
    let B : SlaveState → Type 0 = λ s. HoldsSet wanted s.controller.memory (SyncManager 0) in
    let C : SlaveState → Type 0 = λ s. HoldsSet wanted s.controller.memory (SyncManager 1) in
    let D : SlaveState → Type 0 = IsWilling wanted in (
      such_as (λ s. (A s × B s) × (C s × D s)) (IsReady wanted) station r.slaves
          (λ s all. record {
            stage = all.0.0;
            requests = all.0.1;
            answers = all.1.0;
            stores = all.1.1;
          })
          (such_both (λ s. A s × B s) (λ s. C s × D s) station r.slaves
          (such_both A B station r.slaves so_far.0 stand.0.0)
          (such_both C D station r.slaves stand.0.1.0 stores.0)),
      now_ready rest r so_far.1 stand.1 stores.1,
    )

-- and behind them as it was
pub still_so_far : (line : List Wanted) (r : RingState) → AreReady line r → AreSoFar (IsThere state.PreOp) line r
still_so_far [] r ready = tt
still_so_far (wanted ∷ rest) r ready = (
  such_as (IsReady wanted) (Stage (IsThere state.PreOp) wanted) wanted.station r.slaves (λ s so. so.stage)
      ready.0,
  still_so_far rest r ready.1,
)

pub boxes_still : (line : List Wanted) (r : RingState) → AreReady line r → LineStands mailbox_records line r
unfolding mailbox_records
boxes_still [] r ready = tt
boxes_still (wanted ∷ rest) r ready = (
  (
    such_as (IsReady wanted) (λ (s : SlaveState). HoldsSet wanted s.controller.memory (SyncManager 0))
        wanted.station r.slaves (λ s so. so.requests) ready.0,
    (
      such_as (IsReady wanted) (λ (s : SlaveState). HoldsSet wanted s.controller.memory (SyncManager 1))
          wanted.station r.slaves (λ s so. so.answers) ready.0,
      tt,
    ),
  ),
  boxes_still rest r ready.1,
)

-- ---- the whole start-up

reaches_later : (place : ℕ) (line : List Wanted) (ys : List Step) (result : Result (Unit {0}) StepFault)
    (r later : RingState) → ReachesAll r → Brings RingTrips r place line ys result later → ReachesAll later
reaches_later place line ys result r later ring brings =
    within_keeps _ r later ring (brings_within RingTrips r later place line ys result brings)

pub all_succeed : (line : List Wanted) (r in_init in_pre_op told in_safe_op later : RingState)
    (init pre_op startup safe_op op : Result (Unit {0}) StepFault) → ReachesAll r → AreWanted line
    → AllByRecursion (CanStart r) line → AllByRecursion (CanTake r) line
    → Brings RingTrips r 0 line (steps_of Init) init in_init
    → Brings RingTrips in_init 0 line (steps_of PreOp) pre_op in_pre_op
    → Brings RingTrips in_pre_op 0 line (steps_of StartupPhase) startup told
    → Brings RingTrips told 0 line (steps_of SafeOp) safe_op in_safe_op
    → Brings RingTrips in_safe_op 0 line (steps_of Op) op later
    → Succeeds line init pre_op startup safe_op op later
unfolding mailbox_records process_records
all_succeed line r in_init in_pre_op told in_safe_op later init pre_op startup safe_op op ring are can take
    first second third fourth fifth =
    let ring_a : ReachesAll in_init = reaches_later 0 line (steps_of Init) init r in_init ring first in
    let ring_b : ReachesAll in_pre_op =
    reaches_later 0 line (steps_of PreOp) pre_op in_init in_pre_op ring_a second in
    let ring_c : ReachesAll told =
    reaches_later 0 line (steps_of StartupPhase) startup in_pre_op told ring_b third in
    let ring_d : ReachesAll in_safe_op =
    reaches_later 0 line (steps_of SafeOp) safe_op told in_safe_op ring_c fourth in
    let ring_e : ReachesAll later =
    reaches_later 0 line (steps_of Op) op in_safe_op later ring_d fifth in
    let a : AreBrought state.Init line init in_init =
    line_brought IsAny [] state.Init 0 line init r in_init to_init ring are (line_starts line r can) first in
    let b : AreBrought state.PreOp line pre_op in_pre_op =
    line_brought (IsThere state.Init) mailbox_records state.PreOp 0 line pre_op in_init in_pre_op to_pre_op
    ring_a are a.so_far second in
    let set_boxes : Brings RingTrips in_init 0 line (steps_of PreOp) (Ok tt) in_pre_op =
    subst (λ (x : Result (Unit {0}) StepFault). Brings RingTrips in_init 0 line (steps_of PreOp) x in_pre_op)
    b.came second in
    let willing : AreWilling line in_pre_op =
    stay_willing (steps_of PreOp) line line pre_op in_init in_pre_op ring_a are pre_op_low second
    (stay_willing (steps_of Init) line line init r in_init ring are init_low first
    (first_willing line r take)) in
    let ready : AreReady line in_pre_op =
    now_ready line in_pre_op b.so_far
    (boxes_of line in_pre_op
    (line_stands 0 (steps_of PreOp) line in_init in_pre_op ring_a are pre_op_clear set_boxes)) willing in
    let written : LineWritten line startup in_pre_op told =
    line_written 0 line startup in_pre_op told ring_b are ready
    (subst (λ (ys : List Step). Brings RingTrips in_pre_op 0 line ys startup told) (sym objects_are) third) in
    let still : AreReady line told = stay_ready line line startup in_pre_op told written ready in
    let c : AreBrought state.SafeOp line safe_op in_safe_op =
    line_brought (IsThere state.PreOp) process_records state.SafeOp 0 line safe_op told in_safe_op to_safe_op
    ring_c are (still_so_far line told still) fourth in
    let d : AreBrought state.Op line op later =
    line_brought (IsThere state.SafeOp) [] state.Op 0 line op in_safe_op later to_op ring_d are c.so_far
    fifth in
    let set_areas : Brings RingTrips told 0 line (steps_of SafeOp) (Ok tt) in_safe_op =
    subst (λ (x : Result (Unit {0}) StepFault). Brings RingTrips told 0 line (steps_of SafeOp) x in_safe_op)
    c.came fourth in
    let entered_op : Brings RingTrips in_safe_op 0 line (steps_of Op) (Ok tt) later =
    subst (λ (x : Result (Unit {0}) StepFault). Brings RingTrips in_safe_op 0 line (steps_of Op) x later)
    d.came fifth in
    record {
      came_to_init = a.came;
      came_to_pre_op = b.came;
      objects_written = written.came;
      came_to_safe_op = c.came;
      came_to_op = d.came;
      set_up = all_started 0 line told told in_safe_op later ring_c are
          (within_none RingTrips 0 told told refl) set_areas entered_op;
      mailboxes = have_mailboxes line later ring_e are
          (line_stays mailbox_records line line in_safe_op later ring_d are mailboxes_clear are entered_op
          (boxes_stay line line (Ok tt) told in_safe_op ring_c are are set_areas
          (boxes_still line told still)));
      objects = have_stored line later ring_e are
          (stay_kept (steps_of Op) line line op in_safe_op later ring_d are op_aside fifth
          (stay_kept (steps_of SafeOp) line line safe_op told in_safe_op ring_c are safe_op_aside fourth
          written.kept));
    }
