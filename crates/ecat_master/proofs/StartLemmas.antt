-- The parts of a start: phases one after the other, and the causes of faults.
use Rattle.std.proofs.Common.{◌≡◌, ◌≢◌, ◌<◌, ℕ, ◌-◌, refl, sym, ap, ◌∙◌, subst, List, [], ◌∷◌, Some, Result}
use Rattle.std.proofs.Common.{Ok, Err, IfOk, drop, length, take}
use Rattle.std.proofs.Math.Seq.{take-length}
use Rattle.std.proofs.lemmas.List.{length-drop}
use Rattle.std.specs.Result.{IsErrAnd}
use Rattle.ec_diag.specs.declared.located.Located.{Located}
use Rattle.ec_master.specs.Ports.{Trips}
use Rattle.ec_run.specs.Phase.{Brings, steps_of}
use Rattle.ec_run.specs.Watched.{WatchedState, WatchedTrips}
use Rattle.ec_run.specs.declared.phase.Phase.{Phase}
use Rattle.ec_run.specs.declared.phase.StepFault.{StepFault}
use Rattle.ec_run.specs.declared.step.Step.TheVariants.{StationBefore, StationBehind}
use Rattle.ec_run.specs.declared.wanted.Wanted.{Wanted}
use Rattle.ec_services.specs.declared.fault.MasterFault.{MasterFault}
use Rattle.ecat_master.specs.Course.{HeardTrips}
use Rattle.ecat_master.specs.Identities.{AreIdentitiesCompared, WantedIdentity}
use Rattle.ecat_master.specs.Start.{AreCounted, BringsThrough, HasFailed, IsCaused, IsFound, IsInPreOp}
use Rattle.ecat_master.specs.Start.{IsMiscounted, GivesStations, IsUnanswered, LookEnds, PartEnds}
use Rattle.ecat_master.specs.declared.identity.OtherSlave.{OtherSlave}
use Rattle.ecat_master.specs.declared.startup.StartEnd.{StartEnd}
use Rattle.ecat_master.specs.declared.startup.StartEnd.TheVariants.{Fault, Output}
use Rattle.ecat_master.specs.declared.startup.StartFault.{StartFault}
use Rattle.ecat_master.specs.declared.startup.StartFault.TheVariants.{Ask, Count, Cable, Step, Identity}

through_none : {P : Type 0} (trips : Trips P) (before : P) (line : List Wanted)
    → BringsThrough trips before line [] (Ok tt) before
unfolding BringsThrough
through_none trips before line = (refl, refl)

through_more : {P : Type 0} (trips : Trips P) (before between later : P) (line : List Wanted) (phase : Phase)
    (rest : List Phase) (result : Result (Unit {0}) StepFault)
    → Brings trips before 0 line (steps_of phase) (Ok tt) between
    → BringsThrough trips between line rest result later
    → BringsThrough trips before line (phase ∷ rest) result later
unfolding BringsThrough
through_more trips before between later line phase rest result brings more = (Ok tt, between, brings, more)

through_fails : {P : Type 0} (trips : Trips P) (before later : P) (line : List Wanted) (phase : Phase)
    (rest : List Phase) (failed : StepFault) → Brings trips before 0 line (steps_of phase) (Err failed) later
    → BringsThrough trips before line (phase ∷ rest) (Err failed) later
unfolding BringsThrough
through_fails trips before later line phase rest failed brings = (Err failed, later, brings, (refl, refl))

-- a part that has ended early ends so whatever was to follow it
ends_early : (first whole : Result (Unit {0}) StepFault → Type 0) (end : StartEnd)
    → ((failed : StepFault) → first (Err failed) → whole (Err failed)) → PartEnds first (Err end)
    → PartEnds whole (Err end)
ends_early first whole Output on ends = tt
ends_early first whole (Fault (Step failed)) on ends = on failed ends
ends_early first whole (Fault (Ask fault)) on ends = ends
ends_early first whole (Fault (Count count)) on ends = ends
ends_early first whole (Fault (Cable located)) on ends = ends
ends_early first whole (Fault (Identity other)) on ends = ends

-- the last part ends as the whole does that it is left of
ends_with : (last whole : Result (Unit {0}) StepFault → Type 0) (result : Result (Unit {0}) StartEnd)
    → ((did : Result (Unit {0}) StepFault) → last did → whole did) → PartEnds last result
    → PartEnds whole result
ends_with last whole (Ok did) on ends = on (Ok tt) ends
ends_with last whole (Err end) on ends = ends_early last whole end (λ failed. on (Err failed)) ends

-- one phase and no other
through_one : {P : Type 0} (trips : Trips P) (before later : P) (line : List Wanted) (phase : Phase)
    (did : Result (Unit {0}) StepFault) → Brings trips before 0 line (steps_of phase) did later
    → BringsThrough trips before line (phase ∷ []) did later
through_one trips before later line phase (Err failed) brings =
    through_fails trips before later line phase [] failed brings
through_one trips before later line phase (Ok _) brings =
    through_more trips before later later line phase [] (Ok tt) brings (through_none trips later line)

-- a phase that has ended early is all that was brought
pub phase_ends : {P : Type 0} (trips : Trips P) (before later : P) (line : List Wanted) (phase : Phase)
    (rest : List Phase) (end : StartEnd)
    → PartEnds (λ did. Brings trips before 0 line (steps_of phase) did later) (Err end)
    → PartEnds (λ did. BringsThrough trips before line (phase ∷ rest) did later) (Err end)
phase_ends trips before later line phase rest end ends =
    ends_early (λ did. Brings trips before 0 line (steps_of phase) did later)
    (λ did. BringsThrough trips before line (phase ∷ rest) did later) end
    (λ failed. through_fails trips before later line phase rest failed) ends

-- a phase, and what follows it
pub phase_then : {P : Type 0} (trips : Trips P) (before between later : P) (line : List Wanted)
    (phase : Phase) (rest : List Phase) (result : Result (Unit {0}) StartEnd)
    → Brings trips before 0 line (steps_of phase) (Ok tt) between
    → PartEnds (λ did. BringsThrough trips between line rest did later) result
    → PartEnds (λ did. BringsThrough trips before line (phase ∷ rest) did later) result
phase_then trips before between later line phase rest result brings ends =
    ends_with (λ did. BringsThrough trips between line rest did later)
    (λ did. BringsThrough trips before line (phase ∷ rest) did later) result
    (λ did. through_more trips before between later line phase rest did brings) ends

-- the last phase
pub last_phase : {P : Type 0} (trips : Trips P) (before later : P) (line : List Wanted) (phase : Phase)
    (result : Result (Unit {0}) StartEnd)
    → PartEnds (λ did. Brings trips before 0 line (steps_of phase) did later) result
    → PartEnds (λ did. BringsThrough trips before line (phase ∷ []) did later) result
last_phase trips before later line phase result ends =
    ends_with (λ did. Brings trips before 0 line (steps_of phase) did later)
    (λ did. BringsThrough trips before line (phase ∷ []) did later) result
    (λ did. through_one trips before later line phase did) ends

-- ---- station addresses over a cable with a gap

-- all behind a place, as code cuts them off
rest_is : (line : List Wanted) (link : ℕ) → take (length line - link) (drop link line) ≡ drop link line
rest_is line link =
    ap (λ (n : ℕ). take n (drop link line)) (sym (length-drop link line)) ∙ take-length (drop link line)

pub stations_then : {P : Type 0} (trips : Trips P) (before between later : P) (line : List Wanted) (link : ℕ)
    (result : Result (Unit {0}) StepFault)
    → Brings trips before link (take (length line - link) (drop link line)) (StationBehind link ∷ []) (Ok tt)
    between
    → Brings trips between 0 (take link line) (StationBefore ∷ []) result later
    → GivesStations trips before line (Some link) result later
stations_then trips before between later line link result behind rest = (
  Ok tt,
  between,
  subst (λ (xs : List Wanted). Brings trips before link xs (StationBehind link ∷ []) (Ok tt) between)
      (rest_is line link) behind,
  rest,
)

pub stations_fail : {P : Type 0} (trips : Trips P) (before later : P) (line : List Wanted) (link : ℕ)
    (failed : StepFault)
    → Brings trips before link (take (length line - link) (drop link line)) (StationBehind link ∷ [])
    (Err failed) later
    → GivesStations trips before line (Some link) (Err failed) later
stations_fail trips before later line link failed behind = (
  Err failed,
  later,
  subst (λ (xs : List Wanted). Brings trips before link xs (StationBehind link ∷ []) (Err failed) later)
      (rest_is line link) behind,
  (refl, refl),
)

-- ---- how parts end

-- a line could not be written
pub unwritten_ends : (ends : Result (Unit {0}) StepFault → Type 0) (result : Result (Unit {0}) StartEnd)
    → IsErrAnd result (λ e. e ≡ Output) → PartEnds ends result
unwritten_ends ends (Ok did) is = absurd is
unwritten_ends ends (Err end) is = subst (λ e. PartEnds ends (Err e)) (sym is) tt

-- a step failed
pub failed_ends : (ends : Result (Unit {0}) StepFault → Type 0) (result : Result (Unit {0}) StartEnd)
    (failed : StepFault) → IsErrAnd result (λ e. e ≡ Fault (Step failed)) → ends (Err failed)
    → PartEnds ends result
failed_ends ends (Ok did) failed is end = absurd is
failed_ends ends (Err e) failed is end = subst (λ e. PartEnds ends (Err e)) (sym is) end

-- it ends as the part that ended before
pub passed_ends : (ends : Result (Unit {0}) StepFault → Type 0) (result : Result (Unit {0}) StartEnd)
    (end : StartEnd) → IsErrAnd result (λ e. e ≡ end) → PartEnds ends (Err end) → PartEnds ends result
passed_ends ends (Ok did) end is part = absurd is
passed_ends ends (Err e) end is part = subst (λ e. PartEnds ends (Err e)) (sym is) part

pub unwritten_look : {P : Type 0} (heard : HeardTrips P) (before later : WatchedState P) (slaves : ℕ)
    (result : Result Located StartEnd) → IsErrAnd result (λ e. e ≡ Output)
    → LookEnds heard before slaves result later
unwritten_look heard before later slaves (Ok cable) is = absurd is
unwritten_look heard before later slaves (Err end) is =
    subst (λ e. LookEnds heard before slaves (Err e) later) (sym is) tt

-- ---- causes

-- the fault that is answered is the one that came
fault_is : {A : Type 0} (result : Result A StartEnd) (end : StartEnd) (fault : StartFault)
    → IsErrAnd result (λ e. e ≡ end) → result ≡ Err (Fault fault) → end ≡ Fault fault
fault_is (Ok done) end fault is told = absurd is
fault_is (Err e) end fault is told = cc (is, told)

-- where a line could not be written no fault is told
pub unwritten_is_no_fault : {A : Type 0} (Any : Type 0) (result : Result A StartEnd) (fault : StartFault)
    → IsErrAnd result (λ e. e ≡ Output) → result ≡ Err (Fault fault) → Any
unwritten_is_no_fault Any result fault is told =
    let not : Output ≡ Fault fault = fault_is result Output fault is told in absurd (cc (not))

step_cause : {P : Type 0} (heard : HeardTrips P) (before : WatchedState P) (line : List Wanted)
    (identities : List WantedIdentity) (ends : Result (Unit {0}) StepFault → Type 0) (fault : StartFault)
    → ((failed : StepFault) → ends (Err failed) → HasFailed heard before line identities failed)
    → PartEnds ends (Err (Fault fault)) → IsCaused heard before line identities fault
step_cause heard before line identities ends (Step failed) causes end = causes failed end
step_cause heard before line identities ends (Ask fault) causes end = absurd end
step_cause heard before line identities ends (Count count) causes end = absurd end
step_cause heard before line identities ends (Cable located) causes end = absurd end
step_cause heard before line identities ends (Identity other) causes end = absurd end

-- a part ended early, and its fault is told
pub part_cause : {P : Type 0} (heard : HeardTrips P) (before : WatchedState P) (line : List Wanted)
    (identities : List WantedIdentity) (ends : Result (Unit {0}) StepFault → Type 0) (end : StartEnd)
    (result : Result Located StartEnd)
    → ((failed : StepFault) → ends (Err failed) → HasFailed heard before line identities failed)
    → PartEnds ends (Err end) → IsErrAnd result (λ e. e ≡ end) → (fault : StartFault)
    → result ≡ Err (Fault fault) → IsCaused heard before line identities fault
part_cause heard before line identities ends end result causes part is fault told =
    step_cause heard before line identities ends fault causes
    (subst (λ e. PartEnds ends (Err e)) (fault_is result end fault is told) part)

-- a slave was another one, and that is told
pub slave_cause : {P : Type 0} (heard : HeardTrips P) (before in_pre_op later : WatchedState P)
    (line : List Wanted) (identities : List WantedIdentity) (cable : Located)
    (other : OtherSlave) (result : Result Located StartEnd)
    → IsInPreOp heard before line cable in_pre_op
    → AreIdentitiesCompared (WatchedTrips heard) in_pre_op 0 line identities (Err other) later
    → IsErrAnd result (λ e. e ≡ Fault (Identity other))
    → (fault : StartFault) → result ≡ Err (Fault fault) → IsCaused heard before line identities fault
slave_cause heard before in_pre_op later line identities cable other result below compared is fault told =
    let same : Fault (Identity other) ≡ Fault fault =
    fault_is result (Fault (Identity other)) fault is told in
    let found : Identity other ≡ fault = cc (same) in
    subst (λ f. IsCaused heard before line identities f) found
    (record { cable = cable; in_pre_op = in_pre_op; below = below; later = later; compared = compared })

-- a count was not answered, and that is told
pub count_cause : {P : Type 0} (heard : HeardTrips P) (before : WatchedState P) (line : List Wanted)
    (identities : List WantedIdentity) (end : StartEnd) (result : Result Located StartEnd)
    → ((fault : StartFault) → end ≡ Fault fault → IsCaused heard before line identities fault)
    → IsErrAnd result (λ e. e ≡ end) → (fault : StartFault) → result ≡ Err (Fault fault)
    → IsCaused heard before line identities fault
count_cause heard before line identities end result causes is fault told =
    causes fault (fault_is result end fault is told)

pub unanswered : {P : Type 0} (heard : HeardTrips P) (before later : WatchedState P) (line : List Wanted)
    (identities : List WantedIdentity) (fault : StartFault)
    → ((asked : MasterFault) × AreCounted (WatchedTrips heard) before (Err asked) later × (fault ≡ Ask asked))
    → IsCaused heard before line identities fault
unanswered heard before later line identities fault (asked, counting, is) =
    subst (λ f. IsCaused heard before line identities f) (sym is) (IsUnanswered.counting later counting)

-- another number was counted, or nobody, and that is told
pub another_is_counted : {P : Type 0} (heard : HeardTrips P) (before later : WatchedState P)
    (line : List Wanted) (identities : List WantedIdentity) (count : ℕ) (fault : StartFault)
    → AreCounted (WatchedTrips heard) before (Ok count) later → count ≢ length line
    → ◌≡◌ {A = Result Located StartEnd} (Err (Fault (Count count))) (Err (Fault fault))
    → IsCaused heard before line identities fault
another_is_counted heard before later line identities count fault counting other told =
    let found : Count count ≡ fault = cc (told) in
    subst (λ f. IsCaused heard before line identities f) found (IsMiscounted.another later counting other)

pub nobody_is_counted : {P : Type 0} (heard : HeardTrips P) (before later : WatchedState P)
    (line : List Wanted) (identities : List WantedIdentity) (count : ℕ) (fault : StartFault)
    → AreCounted (WatchedTrips heard) before (Ok count) later → count ≡ 0
    → ◌≡◌ {A = Result Located StartEnd} (Err (Fault (Count count))) (Err (Fault fault))
    → IsCaused heard before line identities fault
nobody_is_counted heard before later line identities count fault counting none told =
    let found : Count count ≡ fault = cc (told) in
    subst (λ f. IsCaused heard before line identities f) found (IsMiscounted.nobody later counting none)

-- ---- the looks behind the counts

pub looks_find : {P : Type 0} (heard : HeardTrips P) (before counted later : WatchedState P)
    (line : List Wanted) (result : Result Located StartEnd) → 0 < length line
    → AreCounted (WatchedTrips heard) before (Ok (length line)) counted
    → LookEnds heard counted (length line) result later
    → IfOk result (λ cable. IsFound heard before line cable later)
looks_find heard before counted later line (Ok cable) some counting looks =
    record { some = some; counted = counted; counting = counting; looks = looks.0 }
looks_find heard before counted later line (Err end) some counting looks = tt

look_cause : {P : Type 0} (heard : HeardTrips P) (before counted later : WatchedState P) (line : List Wanted)
    (identities : List WantedIdentity) (fault : StartFault) → 0 < length line
    → AreCounted (WatchedTrips heard) before (Ok (length line)) counted
    → LookEnds heard counted (length line) (Err (Fault fault)) later
    → IsCaused heard before line identities fault
look_cause heard before counted later line identities (Ask asked) some counting looks =
    IsUnanswered.looking counted later counting looks.0 looks.1
look_cause heard before counted later line identities (Cable located) some counting looks = (
  later,
  record { some = some; counted = counted; counting = counting; looks = looks.0 },
  looks.1,
)
look_cause heard before counted later line identities (Count count) some counting looks = absurd looks
look_cause heard before counted later line identities (Step failed) some counting looks = absurd looks
look_cause heard before counted later line identities (Identity other) some counting looks = absurd looks

pub looks_cause : {P : Type 0} (heard : HeardTrips P) (before counted later : WatchedState P)
    (line : List Wanted) (identities : List WantedIdentity) (result : Result Located StartEnd)
    → 0 < length line
    → AreCounted (WatchedTrips heard) before (Ok (length line)) counted
    → LookEnds heard counted (length line) result later → (fault : StartFault)
    → result ≡ Err (Fault fault) → IsCaused heard before line identities fault
looks_cause heard before counted later line identities result some counting looks fault told =
    look_cause heard before counted later line identities fault some counting
    (subst (λ r. LookEnds heard counted (length line) r later) told looks)
