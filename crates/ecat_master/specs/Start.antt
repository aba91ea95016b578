-- A line is started (IEC 61158-6-12, AL management): its slaves are counted and its cable is looked at, each
-- slave gets its station address, and all are brought through one phase after the other up to Op; in Pre-Op
-- they are asked who they are. Where one of these parts fails, the fault that is told has its cause in it.
use Rattle.std.specs.Prelude.{◌≡◌, ◌≢◌, ◌≤◌, ◌<◌, ℕ, zero, suc, ◌+◌, ◌*◌, ◌&&◌, nat_lt, if◌then◌else◌}
use Rattle.std.specs.Prelude.{Option, None, Some}
use Rattle.std.specs.Prelude.{List, [], ◌∷◌, Result, Ok, Err, drop, length, take}
use Rattle.ec_diag.specs.declared.located.Located.{Located}
use Rattle.ec_diag.specs.declared.located.Located.TheVariants.{Whole, One}
use Rattle.ec_master.specs.Ports.{Trips}
use Rattle.ec_ring.specs.declared.links.TheConstants.{MAX_SLAVES}
use Rattle.ec_run.specs.Counting.{IsCounted}
use Rattle.ec_run.specs.Phase.{Brings, steps_from, steps_of}
use Rattle.ec_run.specs.Travels.{trips_of_all}
use Rattle.ec_run.specs.Watched.{WatchedState, WatchedTrips}
use Rattle.ec_run.specs.declared.phase.Phase.{Phase}
use Rattle.ec_run.specs.declared.phase.Phase.TheVariants.{Init, PreOp, Startup, SafeOp, Op}
use Rattle.ec_run.specs.declared.phase.StepFault.{StepFault}
use Rattle.ec_run.specs.declared.step.Step.TheVariants.{Station, StationBefore, StationBehind}
use Rattle.ec_run.specs.declared.wanted.Wanted.{Wanted}
use Rattle.ec_services.specs.declared.fault.MasterFault.{MasterFault}
use Rattle.ec_services.specs.declared.fault.MasterFault.TheVariants.{Port}
use Rattle.ecat_master.specs.Course.{HeardTrips, IsLookedOver}
use Rattle.ecat_master.specs.Identities.{AreIdentitiesCompared, WantedIdentity, identities_trips}
use Rattle.ecat_master.specs.declared.identity.OtherSlave.{OtherSlave}
use Rattle.ecat_master.specs.declared.startup.TheConstants.{MORE_CABLE_LOOKS, MORE_COUNTS}
use Rattle.ecat_master.specs.declared.startup.StartEnd.{StartEnd}
use Rattle.ecat_master.specs.declared.startup.StartEnd.TheVariants.{Fault, Output}
use Rattle.ecat_master.specs.declared.startup.StartFault.{StartFault}
use Rattle.ecat_master.specs.declared.startup.StartFault.TheVariants.{Ask, Count, Cable, Step, Identity}

-- ---- counts

-- so many counts, one behind the other, whatever each told
unfoldable pub AreCounts : {P : Type 0} → Trips P → ℕ → P → P → Type 0
AreCounts trips zero before later = later ≡ before
AreCounts {P} trips (suc n) before later =
    (between : P) × AreCounts trips n before between
    × (told : Result ℕ MasterFault) × IsCounted trips between told later

-- so many at the most
pub record EarlierCounts {P : Type 0} (trips : Trips P) (most : ℕ) (before later : P) : Type 0 where
  pub number : ℕ
  pub bound : number ≤ most
  pub counts : AreCounts trips number before later

-- the slaves are counted, so often at the most; the last count told this
pub record AreCounted {P : Type 0} (trips : Trips P) (before : P) (count : Result ℕ MasterFault) (later : P)
    : Type 0 where
  pub between : P
  pub earlier : EarlierCounts trips MORE_COUNTS before between
  pub last : IsCounted trips between count later

-- ---- station addresses

-- the link between two slaves at which the cable is broken, if it is broken there and nowhere else
abbrev pub gap_of : Located → ℕ → Option ℕ
gap_of (One link) slaves = if nat_lt 0 link && nat_lt link slaves then Some link else None
gap_of _ slaves = None

-- each slave gets its station address by its place; over a cable with a gap, first those behind it by their
-- distance from it, and then those before it by frames that circulate; until a step fails
abbrev pub GivesStations : {P : Type 0} → Trips P → P → List Wanted → Option ℕ → Result (Unit {0}) StepFault
    → P → Type 0
GivesStations trips before line None result later = Brings trips before 0 line (Station ∷ []) result later
GivesStations {P} trips before line (Some link) result later =
    (did : Result (Unit {0}) StepFault) × (between : P)
    × Brings trips before link (drop link line) (StationBehind link ∷ []) did between
    × (elim did [
      | Err fault ↦ (result ≡ Err fault) × (later ≡ between)
      | Ok _ ↦ Brings trips between 0 (take link line) (StationBefore ∷ []) result later
    ])

-- the cable is whole, or broken at one link
abbrev pub IsCable : Located → Type 0
IsCable Whole = Unit {0}
IsCable (One link) = Unit {0}
IsCable _ = ⊥

-- ---- phases

-- all slaves are brought through phases, one after the other until a step fails
unfoldable pub BringsThrough : {P : Type 0} → Trips P → P → List Wanted → List Phase
    → Result (Unit {0}) StepFault → P → Type 0
BringsThrough trips before line [] result later = (result ≡ Ok tt) × (later ≡ before)
BringsThrough {P} trips before line (phase ∷ rest) result later =
    (did : Result (Unit {0}) StepFault) × (between : P)
    × Brings trips before 0 line (steps_of phase) did between
    × (elim did [
      | Err fault ↦ (result ≡ Err fault) × (later ≡ between)
      | Ok _ ↦ BringsThrough trips between line rest result later
    ])

-- ---- in their order

-- the last count told as many slaves as the line has, and the looks found its cable broken so
pub record IsFound {P : Type 0} (heard : HeardTrips P) (before : WatchedState P) (line : List Wanted)
    (cable : Located) (later : WatchedState P) : Type 0 where
  pub some : 0 < length line
  pub counted : WatchedState P
  pub counting : AreCounted (WatchedTrips heard) before (Ok (length line)) counted
  pub looks : IsLookedOver heard counted (length line) (Some cable) later

-- over a cable that is whole or broken at one link each slave was given its station address
pub record IsAddressed {P : Type 0} (heard : HeardTrips P) (before : WatchedState P) (line : List Wanted)
    (cable : Located) (later : WatchedState P) : Type 0 where
  pub looked : WatchedState P
  pub found : IsFound heard before line cable looked
  pub cable_is : IsCable cable
  pub stations : GivesStations (WatchedTrips heard) looked line (gap_of cable (length line)) (Ok tt) later

-- and all slaves were brought to Pre-Op
pub record IsInPreOp {P : Type 0} (heard : HeardTrips P) (before : WatchedState P) (line : List Wanted)
    (cable : Located) (later : WatchedState P) : Type 0 where
  pub given : WatchedState P
  pub addressed : IsAddressed heard before line cable given
  pub brought : BringsThrough (WatchedTrips heard) given line (Init ∷ PreOp ∷ []) (Ok tt) later

-- and none of them is another slave than its identity wants
pub record IsRecognized {P : Type 0} (heard : HeardTrips P) (before : WatchedState P) (line : List Wanted)
    (identities : List WantedIdentity) (cable : Located) (later : WatchedState P) : Type 0 where
  pub in_pre_op : WatchedState P
  pub below : IsInPreOp heard before line cable in_pre_op
  pub compared : AreIdentitiesCompared (WatchedTrips heard) in_pre_op 0 line identities (Ok tt) later

-- and from there to Op: what was done of a line that is started, between which states of the ports
pub record IsStarted {P : Type 0} (heard : HeardTrips P) (before : WatchedState P) (line : List Wanted)
    (identities : List WantedIdentity) (cable : Located) (later : WatchedState P) : Type 0 where
  pub recognized : WatchedState P
  pub below : IsRecognized heard before line identities cable recognized
  pub brought : BringsThrough (WatchedTrips heard) recognized line (Startup ∷ SafeOp ∷ Op ∷ []) (Ok tt) later

-- the most trips of that, by how many slaves there are: counts, looks at the cable, and with each slave a
-- step that gives it its station address and those of all phases; and the reads of identities
abbrev pub start_trips : ℕ → List WantedIdentity → ℕ
start_trips slaves identities =
    MORE_COUNTS + 1 + (MORE_CABLE_LOOKS + 1) + slaves * trips_of_all (Station ∷ steps_from Init)
    + identities_trips identities

-- ---- causes of faults

-- a question to the slaves was not answered: a count of them; or a port failed at a look at the cable
pub data IsUnanswered {P : Type 0} (heard : HeardTrips P) (before : WatchedState P) (line : List Wanted)
    (fault : MasterFault) : Type 0 where
  counting : (later : WatchedState P) → AreCounted (WatchedTrips heard) before (Err fault) later
      → IsUnanswered heard before line fault
  looking : (counted later : WatchedState P)
      → AreCounted (WatchedTrips heard) before (Ok (length line)) counted
      → IsLookedOver heard counted (length line) None later → fault ≡ Port
      → IsUnanswered heard before line fault

-- the line is longer than any, and nobody was counted; or the last count told another number than it has, or
-- nobody
pub data IsMiscounted {P : Type 0} (heard : HeardTrips P) (before : WatchedState P) (line : List Wanted)
    (count : ℕ) : Type 0 where
  too_long : MAX_SLAVES < length line → count ≡ 0 → IsMiscounted heard before line count
  another : (later : WatchedState P) → AreCounted (WatchedTrips heard) before (Ok count) later
      → count ≢ length line → IsMiscounted heard before line count
  nobody : (later : WatchedState P) → AreCounted (WatchedTrips heard) before (Ok count) later
      → count ≡ 0 → IsMiscounted heard before line count

-- a step failed, behind all the parts before it: one that gives a station address, one of a phase up to
-- Pre-Op, or one of a phase above it
pub data HasFailed {P : Type 0} (heard : HeardTrips P) (before : WatchedState P) (line : List Wanted)
    (identities : List WantedIdentity) (failed : StepFault) : Type 0 where
  station : (cable : Located) (looked later : WatchedState P) → IsFound heard before line cable looked
      → IsCable cable
      → GivesStations (WatchedTrips heard) looked line (gap_of cable (length line)) (Err failed) later
      → HasFailed heard before line identities failed
  to_pre_op : (cable : Located) (given later : WatchedState P) → IsAddressed heard before line cable given
      → BringsThrough (WatchedTrips heard) given line (Init ∷ PreOp ∷ []) (Err failed) later
      → HasFailed heard before line identities failed
  to_op : (cable : Located) (recognized later : WatchedState P)
      → IsRecognized heard before line identities cable recognized
      → BringsThrough (WatchedTrips heard) recognized line (Startup ∷ SafeOp ∷ Op ∷ []) (Err failed) later
      → HasFailed heard before line identities failed

-- all slaves were in Pre-Op, and by the comparison of their identities one is another
pub record IsAnother {P : Type 0} (heard : HeardTrips P) (before : WatchedState P) (line : List Wanted)
    (identities : List WantedIdentity) (other : OtherSlave) : Type 0 where
  pub cable : Located
  pub in_pre_op : WatchedState P
  pub below : IsInPreOp heard before line cable in_pre_op
  pub later : WatchedState P
  pub compared : AreIdentitiesCompared (WatchedTrips heard) in_pre_op 0 line identities (Err other) later

-- what lies behind a fault of a start
abbrev pub IsCaused : {P : Type 0} → HeardTrips P → WatchedState P → List Wanted → List WantedIdentity
    → StartFault → Type 0
IsCaused heard before line identities (Ask fault) = IsUnanswered heard before line fault
IsCaused heard before line identities (Count count) = IsMiscounted heard before line count
IsCaused {P} heard before line identities (Cable located) =
    (later : WatchedState P) × IsFound heard before line located later × ¬ (IsCable located)
IsCaused heard before line identities (Step failed) = HasFailed heard before line identities failed
IsCaused heard before line identities (Identity other) = IsAnother heard before line identities other

-- ---- parts

-- how the looks at the cable let a start go on, or end it
abbrev pub LookEnds : {P : Type 0} → HeardTrips P → WatchedState P → ℕ → Result Located StartEnd
    → WatchedState P → Type 0
LookEnds heard before slaves (Ok cable) later =
    IsLookedOver heard before slaves (Some cable) later × IsCable cable
LookEnds heard before slaves (Err Output) later = Unit {0}
LookEnds heard before slaves (Err (Fault fault)) later = elim fault [
  | Ask asked ↦ IsLookedOver heard before slaves None later × (asked ≡ Port)
  | Cable located ↦ IsLookedOver heard before slaves (Some located) later × ¬ (IsCable located)
  | _ ↦ ⊥
]

-- how a part of a start ends: it is done, a step failed, or a line could not be written
abbrev pub PartEnds : (Result (Unit {0}) StepFault → Type 0) → Result (Unit {0}) StartEnd → Type 0
PartEnds ends (Ok _) = ends (Ok tt)
PartEnds ends (Err Output) = Unit {0}
PartEnds ends (Err (Fault fault)) = elim fault [
  | Step failed ↦ ends (Err failed)
  | _ ↦ ⊥
]
