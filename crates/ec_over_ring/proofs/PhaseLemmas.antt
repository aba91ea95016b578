-- A phase of a start-up over a ring: the records of each slave are set, and then it comes to the state that
-- it is asked for, while the others stay as they are.
use Rattle.std.proofs.Common.{◌≡◌, ℕ, zero, suc, ◌+◌, ◌≤◌, Bool, true, false, List, []}
use Rattle.std.proofs.Common.{◌∷◌, ◌++◌, length, Result, Ok, Err, refl, sym, ap, ◌∙◌, arith, subst, inl}
use Rattle.std.proofs.Common.{inr, true≢false}
use Rattle.std.specs.Prelude.{◌≢◌, ◌⊎◌, slice_get}
use Rattle.std.specs.List.{AllByRecursion}
use Rattle.ec_regs.specs.Al.{status_of}
use Rattle.ec_regs.specs.Bits.{AreBytes}
use Rattle.ec_regs.specs.Fmmu.{fmmu_bytes}
use Rattle.ec_regs.specs.declared.al.AlState.{AlState}
use Rattle.ec_regs.specs.declared.fmmu.Fmmu.{Fmmu}
use Rattle.ec_wire.specs.Datagram.{ado_of, adp_of}
use Rattle.ec_app.specs.Roles.{fits_inputs, fits_outputs}
use Rattle.ec_app.specs.State.{SlaveState}
use Rattle.ec_ring.specs.Ring.{RingState}
use Rattle.ec_master.specs.RingTrips.{RingTrips}
use Rattle.ec_services.specs.declared.fault.MasterFault.{MasterFault}
use Rattle.ec_run.specs.Phase.{AreDone, Brings}
use Rattle.ec_run.specs.Step.{IsDone, IsTried, fmmu_number, is_answered, manager_number}
use Rattle.ec_run.specs.declared.phase.StepFault.{StepFault}
use Rattle.ec_run.specs.declared.step.Step.{Step}
use Rattle.ec_run.specs.declared.step.Step.TheVariants.{Station, StationBehind, StationBefore, Startup}
use Rattle.ec_run.specs.declared.step.Step.TheVariants.{SyncManager, Fmmu as FmmuRecord, State}
use Rattle.ec_run.specs.declared.wanted.Wanted.{Wanted}
use Rattle.ec_run.proofs.Laws.{tried_within}
use Rattle.ec_over_ring.specs.Brought.{ReachesAll}
use Rattle.ec_over_ring.specs.Fit.{AreRecords, IsFitFor, Passes}
use Rattle.ec_over_ring.specs.Started.{AreWanted, IsWanted}
use Rattle.ec_over_ring.proofs.LineBroughtLemmas.{IsThere, one_there}
use Rattle.ec_over_ring.proofs.NeedsLemmas.{Needs, needs}
use Rattle.ec_over_ring.proofs.RecordsLemmas.{spares_station}
use Rattle.ec_over_ring.proofs.RequestLemmas.{Accepts, fits_at, request_accepted}
use Rattle.ec_over_ring.proofs.SetsLemmas.{IsAny, Spells, fmmu_accepted, manager_accepted}
use Rattle.ec_over_ring.proofs.SettingLemmas.{AllLeave, StepLeaves, begins, begins_high, ends, is_setting}
use Rattle.ec_over_ring.proofs.SettingLemmas.{small_number, steps_keep, tried_keeps}
use Rattle.ec_over_ring.proofs.SparedLemmas.{HasSuch, IsFollowed, such_as, such_both, such_one}
use Rattle.ec_over_ring.proofs.StartedLemmas.{HasAll, LineLeaves, each_clear, gathered, line_keeps}
use Rattle.ec_over_ring.proofs.StartedLemmas.{slave_stands, steps_reach}
use Rattle.ec_over_ring.proofs.StationLemmas.{station_of}
use Rattle.ec_over_ring.proofs.TripKeepsLemmas.{within_keeps}

-- ---- what stays of a slave

-- what is wanted still fits it
pub fits_still : (wanted : Wanted) (s t : SlaveState) → needs t ≡ needs s → IsFitFor wanted s
    → IsFitFor wanted t
fits_still wanted s t same fits = record {
  records = fits.records;
  mailboxes = λ real. fits.mailboxes (sym (ap (λ (n : Needs). n.0) same) ∙ real);
  outputs = subst (λ (n : ℕ). Passes (λ m. fits_outputs m n) (slice_get wanted.managers 2))
      (sym (ap (λ (n : Needs). n.1) same)) fits.outputs;
  inputs = subst (λ (n : ℕ). Passes (λ m. fits_inputs m n) (slice_get wanted.managers 3))
      (sym (ap (λ (n : Needs). n.2) same)) fits.inputs;
}

-- what lasts while no state is asked of it
pub Lasts : (SlaveState → Type 0) → Type 0
Lasts T =
    (address n : ℕ) (s t : SlaveState) → IsFollowed address n s t
    → (adp_of address ≢ station_of s) ⊎ (310 ≤ ado_of address) → T s → T t

pub any_lasts : Lasts IsAny
unfolding Lasts
any_lasts address n s t follow spared any = tt

pub there_lasts : (state : AlState) → Lasts (IsThere state)
unfolding Lasts
there_lasts state address n s t follow spared there = record {
  status = ap (λ (b : ℕ). status_of b) (follow.status there.unasked spared) ∙ there.status;
  unasked = follow.unasked;
}

-- what is wanted fits a slave, of which something else holds
pub record Stage (T : SlaveState → Type 0) (wanted : Wanted) (s : SlaveState) : Type 0 where
  pub fits : IsFitFor wanted s
  pub is : T s

-- a step leaves that which sets a record or is of another slave
stage_left : (T : SlaveState → Type 0) (wanted : Wanted) (y : Step) (other : ℕ) → Lasts T
    → is_setting y ≡ true → (other ≢ wanted.station) ⊎ (310 ≤ begins y)
    → StepLeaves (Stage T wanted) wanted.station other y
unfolding StepLeaves Lasts
stage_left T wanted y other lasts sets apart d range = record {
  by_station = range.by_station;
  address = spares_station other (begins y) (ends y) d (begins_high y sets) range;
  keeps = λ s t is follow stage. record {
    fits = fits_still wanted s t follow.needs_are stage.fits;
    is = lasts d.address (length d.payload) s t follow (spared s is apart) stage.is;
  };
}
  where
    spared : (s : SlaveState) → station_of s ≡ wanted.station
        → (other ≢ wanted.station) ⊎ (310 ≤ begins y)
        → (adp_of d.address ≢ station_of s) ⊎ (310 ≤ ado_of d.address)
    spared s is (inl differ) = inl (λ same. differ (sym range.named ∙ same ∙ is))
    spared s is (inr above) = let from : begins y ≤ ado_of d.address = range.from in
        inr (omega (arith, above, from))

-- and any step leaves it fit
fits_left : (wanted : Wanted) (y : Step) (other : ℕ) → is_setting y ≡ true
    → StepLeaves (IsFitFor wanted) wanted.station other y
unfolding StepLeaves
fits_left wanted y other sets d range = record {
  by_station = range.by_station;
  address = spares_station other (begins y) (ends y) d (begins_high y sets) range;
  keeps = λ s t is follow fits. fits_still wanted s t follow.needs_are fits;
}

-- ---- steps that set records

unfoldable pub is_record : Step → Bool
is_record (SyncManager n) = true
is_record (FmmuRecord n) = true
is_record (State state) = false
is_record Station = false
is_record (StationBehind first) = false
is_record StationBefore = false
is_record (Startup n) = false

record_sets : (y : Step) → is_record y ≡ true → is_setting y ≡ true
unfolding is_record is_setting
record_sets (SyncManager n) is = refl
record_sets (FmmuRecord n) is = refl
record_sets (State state) is = absurd (true≢false (sym is))
record_sets Station is = absurd (true≢false (sym is))
record_sets (StationBehind first) is = absurd (true≢false (sym is))
record_sets StationBefore is = absurd (true≢false (sym is))
record_sets (Startup n) is = absurd (true≢false (sym is))

record_high : (y : Step) → is_record y ≡ true → 310 ≤ begins y
unfolding is_record begins
record_high (SyncManager n) is = omega arith
record_high (FmmuRecord n) is = omega arith
record_high (State state) is = absurd (true≢false (sym is))
record_high Station is = absurd (true≢false (sym is))
record_high (StationBehind first) is = absurd (true≢false (sym is))
record_high StationBefore is = absurd (true≢false (sym is))
record_high (Startup n) is = absurd (true≢false (sym is))

spells_at : (n : ℕ) (fs : List Fmmu) → AllByRecursion (λ (f : Fmmu). length (fmmu_bytes f) ≡ 16) fs
    → AllByRecursion (λ (f : Fmmu). AreBytes (fmmu_bytes f)) fs → Spells (slice_get fs n)
spells_at n [] sizes all = tt
spells_at zero (f ∷ fs) sizes all = (sizes.0, all.0)
spells_at (suc n) (f ∷ fs) sizes all = spells_at n fs sizes.1 all.1

record_accepted : (place : ℕ) (wanted : Wanted) (y : Step) (result : Result (Unit {0}) MasterFault)
    (r later : RingState) → ReachesAll r → IsWanted wanted → AreRecords wanted → is_record y ≡ true
    → HasSuch IsAny wanted.station r.slaves → IsDone RingTrips r place wanted y result later
    → result ≡ Ok tt
unfolding is_record
record_accepted place wanted (SyncManager n) result r later ring wants records is has done =
    manager_accepted wanted.station (manager_number n) (slice_get wanted.managers (manager_number n)) result r
    later ring wants.station (small_number n) (fits_at (manager_number n) wanted.managers records.managers)
    has done
record_accepted place wanted (FmmuRecord n) result r later ring wants records is has done =
    fmmu_accepted wanted.station (fmmu_number n) (slice_get wanted.fmmus (fmmu_number n)) result r later ring
    wants.station (small_number n) (spells_at (fmmu_number n) wanted.fmmus wants.fmmus records.fmmus) has done
record_accepted place wanted (State state) result r later ring wants records is has done =
    absurd (true≢false (sym is))
record_accepted place wanted Station result r later ring wants records is has done =
    absurd (true≢false (sym is))
record_accepted place wanted (StationBehind first) result r later ring wants records is has done =
    absurd (true≢false (sym is))
record_accepted place wanted StationBefore result r later ring wants records is has done =
    absurd (true≢false (sym is))
record_accepted place wanted (Startup n) result r later ring wants records is has done =
    absurd (true≢false (sym is))

-- what is done at first is not tried again
tried_once : (place more : ℕ) (wanted : Wanted) (y : Step) (result : Result (Unit {0}) MasterFault)
    (r later : RingState)
    → ((first : Result (Unit {0}) MasterFault) (between : RingState)
    → IsDone RingTrips r place wanted y first between → first ≡ Ok tt)
    → IsTried RingTrips r place wanted y more result later → result ≡ Ok tt
unfolding IsTried
tried_once place zero wanted y result r later done tried = done result later tried
tried_once place (suc more) wanted y result r later done (first, between, is, rest) =
    first_so (is_answered first) (ap is_answered (done first between is)) rest
  where
    first_so : (b : Bool) → b ≡ true
        → (elim b as (λ (x : Bool). Type 0) [
          | true ↦ (result ≡ first) × (later ≡ between)
          | false ↦ IsTried RingTrips between place wanted y more result later
        ]) → result ≡ Ok tt
    first_so true answered (same, still) = same ∙ done first between is
    first_so false answered again = absurd (true≢false (sym answered))

-- records are set, and what is left of the steps begins behind them
record IsSplit (place : ℕ) (wanted : Wanted) (ys rest : List Step) (result : Result (Unit {0}) StepFault)
    (r later : RingState) : Type 0 where
  between : RingState
  done : AreDone RingTrips r place wanted ys (Ok tt) between
  left : AreDone RingTrips between place wanted rest result later

any_left : (wanted : Wanted) (y : Step) (other : ℕ) → is_setting y ≡ true
    → StepLeaves IsAny wanted.station other y
unfolding StepLeaves
any_left wanted y other sets d range = record {
  by_station = range.by_station;
  address = spares_station other (begins y) (ends y) d (begins_high y sets) range;
  keeps = λ s t is follow any. tt;
}

unfoldable pub AreAllRecords : List Step → Type 0
AreAllRecords ys = AllByRecursion (λ (y : Step). is_record y ≡ true) ys

split : (place : ℕ) (wanted : Wanted) (ys rest : List Step) (result : Result (Unit {0}) StepFault)
    (r later : RingState) → ReachesAll r → IsWanted wanted → AreRecords wanted → AreAllRecords ys
    → HasSuch IsAny wanted.station r.slaves → AreDone RingTrips r place wanted (ys ++ rest) result later
    → IsSplit place wanted ys rest result r later
unfolding AreDone AreAllRecords
split place wanted [] rest result r later ring wants records are has done =
    record { between = r; done = (refl, refl); left = done }
split place wanted (y ∷ ys) rest result r later ring wants records are has
    (Err fault, between, tried, left) =
    absurd (failed (tried_once place 19 wanted y (Err fault) r between (λ first then done.
    record_accepted place wanted y first r then ring wants records are.0 has done) tried))
  where
    failed : Err fault ≡ (let fine : Result (Unit {0}) MasterFault = Ok tt in fine) → ⊥
    failed is = absurd (cc)
split place wanted (y ∷ ys) rest result r later ring wants records are has (Ok did, between, tried, left) =
    let reached : ReachesAll between =
    within_keeps _ r between ring (tried_within RingTrips 19 r between place wanted y (Ok did) tried) in
    let sets : is_setting y ≡ true = record_sets y are.0 in
    let more : IsSplit place wanted ys rest result between later =
    split place wanted ys rest result between later reached wants records are.1
    (tried_keeps IsAny wanted.station 19 place wanted y (Ok did) r between ring wants sets
    (any_left wanted y wanted.station sets) tried has) left in
    record { between = more.between; done = (Ok did, between, tried, more.done); left = more.left }

-- ---- a phase of one slave

-- the steps of a phase: records are set, and a state is asked for
abbrev pub phase_steps : List Step → AlState → List Step
phase_steps ys state = ys ++ State state ∷ []

-- what a phase of these steps needs of a slave, and that its records serve the state
pub record IsPhase (T : SlaveState → Type 0) (ys : List Step) (state : AlState) : Type 0 where
  pub lasts : Lasts T
  pub are : AreAllRecords ys
  pub clear : each_clear ys ≡ true
  pub accepts : (wanted : Wanted) (s : SlaveState)
      → HasAll (Stage T wanted) wanted ys s → Accepts wanted state s

-- records of the slave itself leave it
records_left : (T : SlaveState → Type 0) (wanted : Wanted) (ys : List Step) → Lasts T → AreAllRecords ys
    → AllLeave (Stage T wanted) wanted.station wanted.station ys
unfolding AllLeave AreAllRecords
records_left T wanted [] lasts are = tt
records_left T wanted (y ∷ ys) lasts are = (
  (
    record_sets y are.0,
    stage_left T wanted y wanted.station lasts (record_sets y are.0) (inr (record_high y are.0)),
  ),
  records_left T wanted ys lasts are.1,
)

-- so do the steps of others
phase_left : (T : SlaveState → Type 0) (wanted : Wanted) (ys : List Step) (state : AlState) (other : ℕ)
    → Lasts T → AreAllRecords ys → other ≢ wanted.station
    → AllLeave (Stage T wanted) wanted.station other (phase_steps ys state)
unfolding AllLeave AreAllRecords is_setting
phase_left T wanted [] state other lasts are differ =
    ((refl, stage_left T wanted (State state) other lasts refl (inl differ)), tt)
phase_left T wanted (y ∷ ys) state other lasts are differ = (
  (record_sets y are.0, stage_left T wanted y other lasts (record_sets y are.0) (inl differ)),
  phase_left T wanted ys state other lasts are.1 differ,
)

-- and it stays fit in all of them
all_fit : (wanted : Wanted) (ys : List Step) (state : AlState) (other : ℕ) → AreAllRecords ys
    → AllLeave (IsFitFor wanted) wanted.station other (phase_steps ys state)
unfolding AllLeave AreAllRecords is_setting
all_fit wanted [] state other are = ((refl, fits_left wanted (State state) other refl), tt)
all_fit wanted (y ∷ ys) state other are = (
  (record_sets y are.0, fits_left wanted y other (record_sets y are.0)),
  all_fit wanted ys state other are.1,
)

-- a request that is met ends the phase
request_ends : (place : ℕ) (wanted : Wanted) (state : AlState) (result : Result (Unit {0}) StepFault)
    (r later : RingState) → ReachesAll r → IsWanted wanted
    → HasSuch (Accepts wanted state) wanted.station r.slaves
    → AreDone RingTrips r place wanted (State state ∷ []) result later → result ≡ Ok tt
unfolding AreDone
request_ends place wanted state result r later ring wants accepts (Ok did, between, tried, left) = left.0
request_ends place wanted state result r later ring wants accepts (Err fault, between, tried, left) =
    absurd (failed (tried_once place 19 wanted (State state) (Err fault) r between (λ first then done.
    request_accepted wanted state first r then ring wants.station accepts done) tried))
  where
    failed : Err fault ≡ (let fine : Result (Unit {0}) MasterFault = Ok tt in fine) → ⊥
    failed is = absurd (cc)

-- a slave once a phase is done with it
pub record IsBrought (state : AlState) (wanted : Wanted) (result : Result (Unit {0}) StepFault)
    (later : RingState) : Type 0 where
  pub came : result ≡ Ok tt
  pub stage : HasSuch (Stage (IsThere state) wanted) wanted.station later.slaves

records_of : (T : SlaveState → Type 0) (wanted : Wanted) (r : RingState)
    → HasSuch (Stage T wanted) wanted.station r.slaves → AreRecords wanted
records_of T wanted r has =
    (such_one (Stage T wanted) wanted.station r.slaves has).such.fits.records

slave_brought : (T : SlaveState → Type 0) (ys : List Step) (state : AlState) (place : ℕ) (wanted : Wanted)
    (result : Result (Unit {0}) StepFault) (r later : RingState) → IsPhase T ys state → ReachesAll r
    → IsWanted wanted → HasSuch (Stage T wanted) wanted.station r.slaves
    → AreDone RingTrips r place wanted (phase_steps ys state) result later
    → IsBrought state wanted result later
slave_brought T ys state place wanted result r later phase ring wants has done =
    let station : ℕ = wanted.station in
    let parts : IsSplit place wanted ys (State state ∷ []) result r later =
    split place wanted ys (State state ∷ []) result r later ring wants (records_of T wanted r has) phase.are
    (such_as (Stage T wanted) IsAny station r.slaves (λ s is. tt) has) done in
    let between : RingState = parts.between in
    let reached : ReachesAll between = steps_reach place wanted ys (Ok tt) r between ring parts.done in
    let kept : HasSuch (Stage T wanted) station between.slaves =
    steps_keep (Stage T wanted) station place wanted ys (Ok tt) r between ring wants
    (records_left T wanted ys phase.lasts phase.are) parts.done has in
    let accepts : HasSuch (Accepts wanted state) station between.slaves =
    such_as (HasAll (Stage T wanted) wanted ys) (Accepts wanted state) station between.slaves
    (phase.accepts wanted)
    (gathered (Stage T wanted) wanted ys between kept
    (slave_stands place wanted ys r between ring wants phase.clear parts.done)) in
    let is : result ≡ Ok tt =
    request_ends place wanted state result between later reached wants accepts parts.left in
    let fits : HasSuch (IsFitFor wanted) station later.slaves =
    steps_keep (IsFitFor wanted) station place wanted (phase_steps ys state) result r later ring wants
    (all_fit wanted ys state station phase.are) done
    (such_as (Stage T wanted) (IsFitFor wanted) station r.slaves (λ s is. is.fits) has) in
    let there : HasSuch (IsThere state) station later.slaves =
    one_there state place wanted between later reached wants.station
    (subst (λ (x : Result (Unit {0}) StepFault).
    AreDone RingTrips between place wanted (State state ∷ []) x later) is parts.left) in
    record {
      came = is;
      stage = such_as (λ s. IsFitFor wanted s × IsThere state s) (Stage (IsThere state) wanted) station
          later.slaves (λ s both. record { fits = both.0; is = both.1 })
          (such_both (IsFitFor wanted) (IsThere state) station later.slaves fits there);
    }

-- ---- and of a line

-- each slave of a line is so far
abbrev pub AreSoFar : (SlaveState → Type 0) → List Wanted → RingState → Type 0
AreSoFar T line r =
    AllByRecursion (λ (wanted : Wanted). HasSuch (Stage T wanted) wanted.station r.slaves) line

-- those behind one stay as they are while the phase is done with it
rest_stays : (T : SlaveState → Type 0) (ys : List Step) (state : AlState) (place : ℕ) (wanted : Wanted)
    (rest : List Wanted) (result : Result (Unit {0}) StepFault) (r later : RingState)
    → IsPhase T ys state → ReachesAll r → IsWanted wanted
    → AllByRecursion (λ (other : Wanted). other.station ≢ wanted.station) rest
    → AreDone RingTrips r place wanted (phase_steps ys state) result later → AreSoFar T rest r
    → AreSoFar T rest later
rest_stays T ys state place wanted [] result r later phase ring wants differ done are = tt
rest_stays T ys state place wanted (other ∷ rest) result r later phase ring wants differ done are = (
  steps_keep (Stage T other) other.station place wanted (phase_steps ys state) result r later ring wants
      (phase_left T other ys state wanted.station phase.lasts phase.are (λ same. differ.0 (sym same))) done
      are.0,
  rest_stays T ys state place wanted rest result r later phase ring wants differ.1 done are.1,
)

-- and it stays while the phase is done with those behind it
line_left : (T : SlaveState → Type 0) (ys : List Step) (state : AlState) (wanted : Wanted)
    (rest : List Wanted) → Lasts T → AreAllRecords ys
    → AllByRecursion (λ (other : Wanted). other.station ≢ wanted.station) rest → AreWanted rest
    → LineLeaves (Stage T wanted) wanted.station (phase_steps ys state) rest
unfolding LineLeaves
line_left T ys state wanted [] lasts are differ wants = tt
line_left T ys state wanted (other ∷ rest) lasts are differ wants = (
  (wants.0, phase_left T wanted ys state other.station lasts are differ.0),
  line_left T ys state wanted rest lasts are differ.1 wants.2,
)

-- a line once a phase is done with it
pub record AreBrought (state : AlState) (line : List Wanted) (result : Result (Unit {0}) StepFault)
    (later : RingState) : Type 0 where
  pub came : result ≡ Ok tt
  pub so_far : AreSoFar (IsThere state) line later

pub line_brought : (T : SlaveState → Type 0) (ys : List Step) (state : AlState) (place : ℕ)
    (line : List Wanted) (result : Result (Unit {0}) StepFault) (r later : RingState) → IsPhase T ys state
    → ReachesAll r → AreWanted line → AreSoFar T line r
    → Brings RingTrips r place line (phase_steps ys state) result later
    → AreBrought state line result later
unfolding Brings
line_brought T ys state place [] result r later phase ring wants are brings =
    record { came = brings.0; so_far = tt }
line_brought T ys state place (wanted ∷ rest) result r later phase ring wants are
    (Err fault, between, done, left) =
    absurd (failed
    (slave_brought T ys state place wanted (Err fault) r between phase ring wants.0 are.0 done).came)
  where
    failed : Err fault ≡ (let fine : Result (Unit {0}) StepFault = Ok tt in fine) → ⊥
    failed is = absurd (cc)
line_brought T ys state place (wanted ∷ rest) result r later phase ring wants are
    (Ok did, between, done, left) =
    let reached : ReachesAll between =
    steps_reach place wanted (phase_steps ys state) (Ok did) r between ring done in
    let one : IsBrought state wanted (Ok did) between =
    slave_brought T ys state place wanted (Ok did) r between phase ring wants.0 are.0 done in
    let more : AreBrought state rest result later =
    line_brought T ys state (place + 1) rest result between later phase reached wants.2
    (rest_stays T ys state place wanted rest (Ok did) r between phase ring wants.0 wants.1 done are.1) left in
    record {
      came = more.came;
      so_far = (
        line_keeps (Stage (IsThere state) wanted) wanted.station (place + 1) rest (phase_steps ys state)
            result between later reached
            (line_left (IsThere state) ys state wanted rest (there_lasts state) phase.are wants.1 wants.2)
            left one.stage,
        more.so_far,
      );
    }
