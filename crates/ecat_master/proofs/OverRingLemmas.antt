-- A start over a ring: its trips are those of the ring, and its last phases leave each slave set up.
use Rattle.std.proofs.Common.{◌≡◌, ◌≢◌, ℕ, suc, ◌+◌, ◌*◌, false, List, [], ◌∷◌, ◌++◌, length, Result, Ok}
use Rattle.std.proofs.Common.{Err, refl, sym, ap, ◌∙◌, subst, arith, inl, inr}
use Rattle.std.specs.Prelude.{◌⊎◌}
use Rattle.std.specs.List.{AllByRecursion}
use Rattle.ec_regs.specs.declared.al.AlState.TheVariants as state
use Rattle.ec_regs.specs.declared.registers.TheConstants.{STATION_ADDRESS}
use Rattle.ec_esc.specs.Application.{al_status}
use Rattle.ec_esc.specs.State.{word_at}
use Rattle.ec_app.specs.State.{SlaveState}
use Rattle.ec_diag.specs.declared.located.Located.{Located}
use Rattle.ec_master.specs.Ports.{Trips}
use Rattle.ec_master.specs.RingTrips.{RingTrips}
use Rattle.ec_ring.specs.Ring.{RingState}
use Rattle.ec_ring.specs.declared.port.PortFault.{PortFault}
use Rattle.ec_ring.specs.declared.weather.Came.{Came}
use Rattle.ec_run.specs.Alike.{AreTripsOf}
use Rattle.ec_run.specs.Phase.{Brings, steps_of}
use Rattle.ec_run.specs.Travels.{IsWithin, trips_of_all}
use Rattle.ec_run.specs.Watched.{PortsTrip, WatchedState, WatchedTrips}
use Rattle.ec_run.specs.declared.phase.Phase.{Phase}
use Rattle.ec_run.specs.declared.phase.Phase.TheVariants.{Startup, SafeOp, Op}
use Rattle.ec_run.specs.declared.wanted.Wanted.{Wanted}
use Rattle.ec_run.proofs.Laws.{brings_of, brings_within, within_of, within_then}
use Rattle.ec_over_ring.specs.Brought.{ReachesAll}
use Rattle.ec_over_ring.specs.Heard.{HeardRing}
use Rattle.ec_over_ring.specs.Started.{AreWanted, IsSetUp}
use Rattle.ec_over_ring.proofs.Laws.{all_started, heard_is_ring, watched_ring}
use Rattle.ecat_master.specs.Identities.{WantedIdentity}
use Rattle.ecat_master.specs.Start.{BringsThrough, IsStarted, start_trips}
use Rattle.ecat_master.proofs.CourseLemmas.{within_aside}
use Rattle.ecat_master.proofs.FoundLemmas.{AreHeard, IsFoundSo, IsSameRing, found_is, within_same}
use Rattle.ecat_master.proofs.StartTripsLemmas.{recognized_trips, recognized_within, started_within}

-- ---- phases that all came to an end

-- the first of them did, and then the others
record ThenThrough {P : Type 0} (trips : Trips P) (before : P) (line : List Wanted) (phase : Phase)
    (rest : List Phase) (later : P) : Type 0 where
  between : P
  brings : Brings trips before 0 line (steps_of phase) (Ok tt) between
  left : BringsThrough trips between line rest (Ok tt) later

then_through : {P : Type 0} (trips : Trips P) (before later : P) (line : List Wanted) (phase : Phase)
    (rest : List Phase) → BringsThrough trips before line (phase ∷ rest) (Ok tt) later
    → ThenThrough trips before line phase rest later
unfolding BringsThrough
then_through trips before later line phase rest (Err fault, between, brings, (is, same)) = absurd (cc)
then_through trips before later line phase rest (Ok did, between, brings, left) =
    record { between = between; brings = brings; left = left }

through_nothing : {P : Type 0} (trips : Trips P) (before later : P) (line : List Wanted)
    → BringsThrough trips before line [] (Ok tt) later → later ≡ before
unfolding BringsThrough
through_nothing trips before later line (is, same) = same

-- ---- the ring

-- what the copies told aside, trips of ports that hear a ring are trips of that ring
ports_of_ring : AreTripsOf (λ (r : RingState). r) (PortsTrip HeardRing) RingTrips
ports_of_ring before sent came later trip =
    subst (λ (c : Result Came PortFault). RingTrips before sent c later) (sym trip.copies)
    (heard_is_ring before sent trip.arrivals later trip.made)

phase_of_ring : (line : List Wanted) (phase : Phase) (before later : WatchedState RingState)
    → Brings (WatchedTrips HeardRing) before 0 line (steps_of phase) (Ok tt) later
    → Brings RingTrips before.ports 0 line (steps_of phase) (Ok tt) later.ports
phase_of_ring line phase before later brings =
    brings_of (λ (w : WatchedState RingState). w.ports) (WatchedTrips HeardRing) RingTrips watched_ring before
    later 0 line (steps_of phase) (Ok tt) brings

-- what was found is so
pub found_line : AreHeard → (line : List Wanted) (identities : List WantedIdentity) (cable : Located)
    (before later : WatchedState RingState) → ReachesAll before.ports
    → IsStarted HeardRing before line identities cable later → IsFoundSo line cable before.ports
found_line laws line identities cable before later ring started =
    let addressed = started.below.below.addressed in
    found_is laws before addressed.looked line cable ring addressed.found

-- each slave of a line that was started is set up
pub all_set_up : (line : List Wanted) (identities : List WantedIdentity) (cable : Located)
    (before later : WatchedState RingState) → ReachesAll before.ports → AreWanted line
    → IsStarted HeardRing before line identities cable later → AllByRecursion (IsSetUp later.ports) line
all_set_up line identities cable before later ring wanted started =
    let trips : Trips RingState = PortsTrip HeardRing in
    let recognized : WatchedState RingState = started.recognized in
    let told = then_through (WatchedTrips HeardRing) recognized later line Startup (SafeOp ∷ Op ∷ [])
    started.brought in
    let set = then_through (WatchedTrips HeardRing) told.between later line SafeOp (Op ∷ []) told.left in
    let asked = then_through (WatchedTrips HeardRing) set.between later line Op [] set.left in
    let last : later ≡ asked.between =
    through_nothing (WatchedTrips HeardRing) asked.between later line asked.left in
    let some : ℕ = recognized_trips (length line) identities in
    let more : ℕ = length line * trips_of_all (steps_of Startup) in
    let within : IsWithin RingTrips (some + more) before.ports told.between.ports =
    within_of (λ (r : RingState). r) trips RingTrips ports_of_ring (some + more) before.ports
    told.between.ports
    (within_then trips some more before.ports recognized.ports told.between.ports
    (recognized_within HeardRing before recognized line identities cable started.below)
    (within_aside HeardRing more recognized told.between
    (brings_within (WatchedTrips HeardRing) recognized told.between 0 line (steps_of Startup) (Ok tt)
    told.brings))) in
    all_started (some + more) line before.ports told.between.ports set.between.ports later.ports ring wanted
    within
    (phase_of_ring line SafeOp told.between set.between set.brings)
    (phase_of_ring line Op set.between later
    (subst (λ w. Brings (WatchedTrips HeardRing) set.between 0 line (steps_of Op) (Ok tt) w) (sym last)
    asked.brings))

-- ---- no slave of the ring is left out

-- a slave that is in Op without an error
abbrev IsInOp : SlaveState → Type 0
IsInOp s = al_status s.controller ≡ record { state = state.Op; error = false }

-- one of these slaves has a station address, and is in Op
unfoldable HasInOp : ℕ → List SlaveState → Type 0
HasInOp station [] = ⊥
HasInOp station (s ∷ ss) =
    ((word_at s.controller.memory STATION_ADDRESS ≡ station) × IsInOp s) ⊎ HasInOp station ss

stands_there : (station : ℕ) (before behind : List SlaveState) (s : SlaveState)
    → word_at s.controller.memory STATION_ADDRESS ≡ station → IsInOp s
    → HasInOp station (before ++ s ∷ behind)
unfolding HasInOp
stands_there station [] behind s is op = inl (is, op)
stands_there station (x ∷ xs) behind s is op = inr (stands_there station xs behind s is op)

set_up_there : (line : List Wanted) (r : RingState) → AllByRecursion (IsSetUp r) line
    → AllByRecursion (λ (wanted : Wanted). HasInOp wanted.station r.slaves) line
set_up_there [] r all = tt
set_up_there (wanted ∷ rest) r all = (
  subst (λ (ss : List SlaveState). HasInOp wanted.station ss) (sym all.0.has.slaves)
      (stands_there wanted.station all.0.before all.0.behind all.0.slave all.0.has.station_is all.0.status),
  set_up_there rest r all.1,
)

-- without it the others are there as before
record IsTakenOut (station : ℕ) (ss : List SlaveState) : Type 0 where
  left : List SlaveState
  size : length ss ≡ suc (length left)
  keeps : (other : ℕ) → other ≢ station → HasInOp other ss → HasInOp other left
  back : AllByRecursion IsInOp left → AllByRecursion IsInOp ss

taken_out : (station : ℕ) (ss : List SlaveState) → HasInOp station ss → IsTakenOut station ss
unfolding HasInOp
taken_out station [] has = absurd has
taken_out station (s ∷ ss) (inl (is, op)) =
    record { left = ss; size = refl; keeps = keeps; back = λ all. (op, all) }
  where
    keeps : (other : ℕ) → other ≢ station → HasInOp other (s ∷ ss) → HasInOp other ss
    keeps other differs (inl (same, in_op)) = absurd (differs (sym same ∙ is))
    keeps other differs (inr rest) = rest
taken_out station (s ∷ ss) (inr rest) =
    let out : IsTakenOut station ss = taken_out station ss rest in
    let size : length ss ≡ suc (length out.left) = out.size in
    record {
      left = s ∷ out.left;
      size = ap (λ (n : ℕ). suc n) size;
      keeps = keeps out;
      back = λ all. (all.0, out.back all.1);
    }
  where
    keeps : (out : IsTakenOut station ss) (other : ℕ) → other ≢ station → HasInOp other (s ∷ ss)
        → HasInOp other (s ∷ out.left)
    keeps out other differs (inl here) = inl here
    keeps out other differs (inr there) = inr (out.keeps other differs there)

rest_there : (station : ℕ) (ss : List SlaveState) (out : IsTakenOut station ss) (rest : List Wanted)
    → AllByRecursion (λ (other : Wanted). other.station ≢ station) rest
    → AllByRecursion (λ (wanted : Wanted). HasInOp wanted.station ss) rest
    → AllByRecursion (λ (wanted : Wanted). HasInOp wanted.station out.left) rest
rest_there station ss out [] differ has = tt
rest_there station ss out (wanted ∷ rest) differ has =
    (out.keeps wanted.station differ.0 has.0, rest_there station ss out rest differ.1 has.1)

-- as many slaves as stations that differ, each of which one has
no_other : (line : List Wanted) (ss : List SlaveState) → length ss ≡ length line → AreWanted line
    → AllByRecursion (λ (wanted : Wanted). HasInOp wanted.station ss) line → AllByRecursion IsInOp ss
no_other [] [] size wanted has = tt
no_other [] (s ∷ ss) size wanted has = absurd (omega (arith, size))
no_other (first ∷ rest) ss size wanted has =
    let out : IsTakenOut first.station ss = taken_out first.station ss has.0 in
    let more : length ss ≡ suc (length out.left) = out.size in
    out.back
    (no_other rest out.left (omega (arith, size, more)) wanted.2
    (rest_there first.station ss out rest wanted.1 has.1))

pub all_of_ring : AreHeard → (line : List Wanted) (identities : List WantedIdentity) (cable : Located)
    (before later : WatchedState RingState) → ReachesAll before.ports → AreWanted line
    → IsStarted HeardRing before line identities cable later → AllByRecursion IsInOp later.ports.slaves
all_of_ring laws line identities cable before later ring wanted started =
    let some : ℕ = start_trips (length line) identities in
    let kept : IsSameRing before.ports later.ports =
    within_same some before.ports later.ports
    (within_of (λ (r : RingState). r) (PortsTrip HeardRing) RingTrips ports_of_ring some before.ports
    later.ports (started_within HeardRing before later line identities cable started)) in
    let found = found_line laws line identities cable before later ring started in
    no_other line later.ports.slaves (kept.size ∙ found.slaves) wanted
    (set_up_there line later.ports
    (all_set_up line identities cable before later ring wanted started))
