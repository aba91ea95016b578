-- The phases of a start-up over a ring one at a time: none fails of slaves that fit what is wanted of them,
-- and each leaves them as the next one needs them.
use Rattle.std.proofs.Common.{◌≡◌, ℕ, ◌+◌, ◌*◌, List, [], ◌∷◌, length, map, Result, Ok, sym, ap, ◌∙◌, subst}
use Rattle.std.proofs.Common.{arith, get_or, drop, inl, inr}
use Rattle.std.specs.Prelude.{◌≢◌, ◌⊎◌}
use Rattle.std.specs.List.{AllByRecursion}
use Rattle.ec_regs.specs.declared.al.AlState.TheVariants as state
use Rattle.ec_app.specs.State.{SlaveState}
use Rattle.ec_ring.specs.Ring.{RingState}
use Rattle.ec_master.specs.RingTrips.{RingTrips}
use Rattle.ec_run.specs.Phase.{Brings, steps_of}
use Rattle.ec_run.specs.declared.phase.Phase.TheVariants.{Init, PreOp, Startup as StartupPhase, SafeOp, Op}
use Rattle.ec_run.specs.declared.phase.StepFault.{StepFault}
use Rattle.ec_run.specs.declared.step.Step.{Step}
use Rattle.ec_run.specs.declared.wanted.Wanted.{Wanted}
use Rattle.ec_run.proofs.Laws.{brings_within}
use Rattle.ec_over_ring.specs.Brought.{ReachesAll}
use Rattle.ec_over_ring.specs.Fit.{AreNone, IsFitFor, TakesAll}
use Rattle.ec_over_ring.specs.Started.{AreWanted}
use Rattle.ec_over_ring.specs.States.{IsElsewhere}
use Rattle.ec_over_ring.proofs.AddressedLemmas.{Goes}
use Rattle.ec_over_ring.proofs.FoundLemmas.{AreAsFound, IsAsFound}
use Rattle.ec_over_ring.proofs.LineBroughtLemmas.{IsThere}
use Rattle.ec_over_ring.proofs.PhaseLemmas.{AreBrought, AreSoFar, Stage, line_brought}
use Rattle.ec_over_ring.proofs.SetsLemmas.{IsAny}
use Rattle.ec_over_ring.proofs.SettingLemmas.{area_registers, switch_registers}
use Rattle.ec_over_ring.proofs.SparedLemmas.{HasSuch}
use Rattle.ec_over_ring.proofs.StartedLemmas.{LineStands, line_stands}
use Rattle.ec_over_ring.proofs.StationLemmas.{station_of}
use Rattle.ec_over_ring.proofs.SucceedLemmas.{boxes_of, boxes_still, init_low, mailbox_records, now_ready}
use Rattle.ec_over_ring.proofs.SucceedLemmas.{objects_are}
use Rattle.ec_over_ring.proofs.SucceedLemmas.{pre_op_clear, pre_op_low, process_records, still_so_far}
use Rattle.ec_over_ring.proofs.SucceedLemmas.{to_init, to_op, to_pre_op, to_safe_op}
use Rattle.ec_over_ring.proofs.TakingLemmas.{AreReady, AreWilling, Endures, IsLeftSo, IsWilling, LineWritten}
use Rattle.ec_over_ring.proofs.TakingLemmas.{SameAreas, line_written, low_keeps, stay_ready, stay_willing}
use Rattle.ec_over_ring.proofs.TakingLemmas.{willing, willing_still}
use Rattle.ec_over_ring.proofs.TripKeepsLemmas.{within_keeps}

-- ---- slaves by their places

-- the slaves of a ring, one after the other, are so of the slaves of a line
unfoldable pub Paired : (Wanted → SlaveState → Type 0) → List Wanted → List SlaveState → Type 0
Paired P [] [] = Unit {0}
Paired P (w ∷ ws) (s ∷ ss) = P w s × Paired P ws ss
Paired P [] (s ∷ ss) = ⊥
Paired P (w ∷ ws) [] = ⊥

-- each of them is so by its station address, where those are the wanted ones, of which no two are the same
pub others_apart : (station : ℕ) (line : List Wanted) (ss : List SlaveState)
    → map station_of ss ≡ map (λ (w : Wanted). w.station) line
    → AllByRecursion (λ (other : Wanted). other.station ≢ station) line
    → AllByRecursion (IsElsewhere station) ss
others_apart station [] [] same differ = tt
others_apart station [] (s ∷ ss) same differ =
    absurd (omega (arith, ap (λ (xs : List ℕ). length xs) same))
others_apart station (w ∷ ws) [] same differ = tt
others_apart station (w ∷ ws) (s ∷ ss) same differ = (
  (λ is. differ.0 (sym (ap (λ (xs : List ℕ). get_or xs 0 0) same) ∙ is)),
  others_apart station ws ss (ap (λ (xs : List ℕ). drop 1 xs) same) differ.1,
)

one_more : (P : Wanted → SlaveState → Type 0) (station : ℕ) (s : SlaveState) (line : List Wanted)
    (ss : List SlaveState) → station_of s ≡ station
    → AllByRecursion (λ (other : Wanted). other.station ≢ station) line
    → AllByRecursion (λ (w : Wanted). HasSuch (P w) w.station ss) line
    → AllByRecursion (λ (w : Wanted). HasSuch (P w) w.station (s ∷ ss)) line
unfolding HasSuch
one_more P station s [] ss is differ all = tt
one_more P station s (w ∷ ws) ss is differ all = (
  inr ((λ same. differ.0 (sym same ∙ is)), all.0),
  one_more P station s ws ss is differ.1 all.1,
)

pub all_such : (P : Wanted → SlaveState → Type 0) (line : List Wanted) (ss : List SlaveState)
    → map station_of ss ≡ map (λ (w : Wanted). w.station) line → AreWanted line → Paired P line ss
    → AllByRecursion (λ (w : Wanted). HasSuch (P w) w.station ss) line
unfolding HasSuch Paired
all_such P [] ss same are pairs = tt
all_such P (w ∷ ws) [] same are pairs = absurd pairs
all_such P (w ∷ ws) (s ∷ ss) same are pairs =
    let own : station_of s ≡ w.station = ap (λ (xs : List ℕ). get_or xs 0 0) same in
    let rest : map station_of ss ≡ map (λ (v : Wanted). v.station) ws =
    ap (λ (xs : List ℕ). drop 1 xs) same in (
      inl (own, pairs.0, others_apart w.station ws ss rest are.1),
      one_more P w.station s ws ss own are.1 (all_such P ws ss rest are.2 pairs.1),
    )

-- ---- stages

-- a ring whose slaves fit and take what is wanted, before the first phase
pub record AtFirst (line : List Wanted) (r : RingState) : Type 0 where
  pub ring : ReachesAll r
  pub so_far : AreSoFar IsAny line r

pub record InInit (line : List Wanted) (r : RingState) : Type 0 where
  pub ring : ReachesAll r
  pub so_far : AreSoFar (IsThere state.Init) line r

-- with both mailboxes set
pub record InPreOp (line : List Wanted) (r : RingState) : Type 0 where
  pub ring : ReachesAll r
  pub so_far : AreSoFar (IsThere state.PreOp) line r
  pub boxes : LineStands mailbox_records line r

pub record InSafeOp (line : List Wanted) (r : RingState) : Type 0 where
  pub ring : ReachesAll r
  pub so_far : AreSoFar (IsThere state.SafeOp) line r

all_any : (line : List Wanted) (ss : List SlaveState) → Paired IsFitFor line ss
    → Paired (Stage IsAny) line ss
unfolding Paired
all_any [] [] fit = tt
all_any [] (s ∷ ss) fit = absurd fit
all_any (w ∷ ws) [] fit = absurd fit
all_any (w ∷ ws) (s ∷ ss) fit = (record { fits = fit.0; is = tt }, all_any ws ss fit.1)

-- slaves that fit by their places fit by their station addresses, once these are the wanted ones
pub first_stage : (line : List Wanted) (r : RingState) → ReachesAll r → AreWanted line
    → map station_of r.slaves ≡ map (λ (w : Wanted). w.station) line → Paired IsFitFor line r.slaves
    → AtFirst line r
first_stage line r ring are same fit = record {
  ring = ring;
  so_far = all_such (Stage IsAny) line r.slaves same are (all_any line r.slaves fit);
}

-- so it is of those that take their startup objects, as they were found
areas_found : (s t : SlaveState) → IsAsFound s t → SameAreas s.controller.memory t.controller.memory
unfolding SameAreas
areas_found s t found n from few = (
  (λ k below. found.bytes (2048 + 8 * n + k) (omega arith) ((area_registers n few).left k below)
      ((area_registers n few).no_status k below)),
  (let same : 2048 + 8 * n + 6 + 0 ≡ 2048 + 8 * n + 6 = omega arith in
      subst (λ (a : ℕ). get_or t.controller.memory a 0 ≡ get_or s.controller.memory a 0) same
      (found.bytes (2048 + 8 * n + 6 + 0) (omega arith) ((switch_registers n few).left 0 (omega arith))
      ((switch_registers n few).no_status 0 (omega arith)))),
)

pub found_so : (s t : SlaveState) → IsAsFound s t → IsLeftSo s t
found_so s t found = record {
  needs_are = found.needs_are;
  shapes = found.shapes;
  fixed = found.fixed;
  areas = areas_found s t found;
}

abbrev pub MayTake : Wanted → SlaveState → Type 0
MayTake wanted s = AreNone wanted.startup ⊎ TakesAll wanted s

all_willing : (line : List Wanted) (ss ts : List SlaveState) → Paired MayTake line ss → AreAsFound ss ts
    → Paired IsWilling line ts
unfolding Paired AreAsFound
all_willing [] [] [] take found = tt
all_willing (w ∷ ws) (s ∷ ss) (t ∷ ts) take found = (
  willing_still w s t found.0.needs_are found.0.shapes (areas_found s t found.0) (willing w s take.0),
  all_willing ws ss ts take.1 found.1,
)
all_willing [] (s ∷ ss) ts take found = absurd take
all_willing (w ∷ ws) [] ts take found = absurd take
all_willing [] [] (t ∷ ts) take found = absurd found
all_willing (w ∷ ws) (s ∷ ss) [] take found = absurd found

pub willing_first : (line : List Wanted) (found r : RingState) → AreWanted line
    → map station_of r.slaves ≡ map (λ (w : Wanted). w.station) line → Paired MayTake line found.slaves
    → AreAsFound found.slaves r.slaves → AreWilling line r
willing_first line found r are same take as_found =
    all_such IsWilling line r.slaves same are (all_willing line found.slaves r.slaves take as_found)

reaches : (line : List Wanted) (ys : List Step) (result : Result (Unit {0}) StepFault)
    (r later : RingState) → ReachesAll r → Brings RingTrips r 0 line ys result later → ReachesAll later
reaches line ys result r later ring brings =
    within_keeps _ r later ring (brings_within RingTrips r later 0 line ys result brings)

pub init_done : (line : List Wanted) (result : Result (Unit {0}) StepFault) (r later : RingState)
    → AreWanted line → AtFirst line r → Brings RingTrips r 0 line (steps_of Init) result later
    → Goes (InInit line) result later
init_done line result r later are stage brings =
    let brought : AreBrought state.Init line result later =
    line_brought IsAny [] state.Init 0 line result r later to_init stage.ring are stage.so_far brings in
    record {
      came = brought.came;
      so = record {
        ring = reaches line (steps_of Init) result r later stage.ring brings;
        so_far = brought.so_far;
      };
    }

pub init_willing : (line : List Wanted) (result : Result (Unit {0}) StepFault) (r later : RingState)
    → AreWanted line → ReachesAll r → Brings RingTrips r 0 line (steps_of Init) result later
    → AreWilling line r → AreWilling line later
init_willing line result r later are ring brings willing =
    stay_willing (steps_of Init) line line result r later ring are init_low brings willing

-- so it is of whatever holds of a slave until it is asked for Safe-Op
pub init_keeps : (P : SlaveState → Type 0) (station : ℕ) (line : List Wanted)
    (result : Result (Unit {0}) StepFault) (r later : RingState) → Endures P → AreWanted line → ReachesAll r
    → Brings RingTrips r 0 line (steps_of Init) result later → HasSuch P station r.slaves
    → HasSuch P station later.slaves
init_keeps P station line result r later endures are ring brings has =
    low_keeps P station (steps_of Init) line result r later endures ring are init_low brings has

pub pre_op_done : (line : List Wanted) (result : Result (Unit {0}) StepFault) (r later : RingState)
    → AreWanted line → InInit line r → Brings RingTrips r 0 line (steps_of PreOp) result later
    → Goes (InPreOp line) result later
unfolding mailbox_records
pre_op_done line result r later are stage brings =
    let brought : AreBrought state.PreOp line result later =
    line_brought (IsThere state.Init) mailbox_records state.PreOp 0 line result r later to_pre_op stage.ring
    are stage.so_far brings in
    let set : Brings RingTrips r 0 line (steps_of PreOp) (Ok tt) later =
    subst (λ (x : Result (Unit {0}) StepFault). Brings RingTrips r 0 line (steps_of PreOp) x later)
    brought.came brings in
    record {
      came = brought.came;
      so = record {
        ring = reaches line (steps_of PreOp) result r later stage.ring brings;
        so_far = brought.so_far;
        boxes = boxes_of line later
            (line_stands 0 (steps_of PreOp) line r later stage.ring are pre_op_clear set);
      };
    }

pub pre_op_willing : (line : List Wanted) (result : Result (Unit {0}) StepFault) (r later : RingState)
    → AreWanted line → ReachesAll r → Brings RingTrips r 0 line (steps_of PreOp) result later
    → AreWilling line r → AreWilling line later
pre_op_willing line result r later are ring brings willing =
    stay_willing (steps_of PreOp) line line result r later ring are pre_op_low brings willing

pub pre_op_keeps : (P : SlaveState → Type 0) (station : ℕ) (line : List Wanted)
    (result : Result (Unit {0}) StepFault) (r later : RingState) → Endures P → AreWanted line → ReachesAll r
    → Brings RingTrips r 0 line (steps_of PreOp) result later → HasSuch P station r.slaves
    → HasSuch P station later.slaves
pre_op_keeps P station line result r later endures are ring brings has =
    low_keeps P station (steps_of PreOp) line result r later endures ring are pre_op_low brings has

pub objects_done : (line : List Wanted) (result : Result (Unit {0}) StepFault) (r later : RingState)
    → AreWanted line → InPreOp line r → AreWilling line r
    → Brings RingTrips r 0 line (steps_of StartupPhase) result later → Goes (InPreOp line) result later
objects_done line result r later are stage willing brings =
    let ready : AreReady line r = now_ready line r stage.so_far stage.boxes willing in
    let done : LineWritten line result r later =
    line_written 0 line result r later stage.ring are ready
    (subst (λ (ys : List Step). Brings RingTrips r 0 line ys result later) (sym objects_are) brings) in
    let still : AreReady line later = stay_ready line line result r later done ready in
    record {
      came = done.came;
      so = record {
        ring = reaches line (steps_of StartupPhase) result r later stage.ring brings;
        so_far = still_so_far line later still;
        boxes = boxes_still line later still;
      };
    }

pub safe_op_done : (line : List Wanted) (result : Result (Unit {0}) StepFault) (r later : RingState)
    → AreWanted line → InPreOp line r → Brings RingTrips r 0 line (steps_of SafeOp) result later
    → Goes (InSafeOp line) result later
unfolding process_records
safe_op_done line result r later are stage brings =
    let brought : AreBrought state.SafeOp line result later =
    line_brought (IsThere state.PreOp) process_records state.SafeOp 0 line result r later to_safe_op
    stage.ring are stage.so_far brings in
    record {
      came = brought.came;
      so = record {
        ring = reaches line (steps_of SafeOp) result r later stage.ring brings;
        so_far = brought.so_far;
      };
    }

pub op_done : (line : List Wanted) (result : Result (Unit {0}) StepFault) (r later : RingState)
    → AreWanted line → InSafeOp line r → Brings RingTrips r 0 line (steps_of Op) result later
    → result ≡ Ok tt
op_done line result r later are stage brings =
    (line_brought (IsThere state.SafeOp) [] state.Op 0 line result r later to_op stage.ring are stage.so_far
    brings).came
