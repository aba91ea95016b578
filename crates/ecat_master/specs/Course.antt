-- The course of a running master over its ports, end to end: cycle after cycle, before each one the outputs
-- of the task that it serves, and behind each one a look at the cable and what is done with a slave before
-- the next one begins.
use Rattle.std.specs.Prelude.{◌≡◌, ◌⊎◌, ℕ, zero, suc, ◌+◌, Bool, true, false, List, length, Option, None}
use Rattle.std.specs.Prelude.{Some, Result, slice_get}
use Rattle.std.specs.Result.{result_ok}
use Rattle.ec_wire.specs.Datagram.{DatagramRecord}
use Rattle.ec_diag.specs.Arrivals.{IsLocated}
use Rattle.ec_diag.specs.declared.located.Located.{Located}
use Rattle.ec_diag.specs.declared.located.Located.TheVariants.{Whole, One, Between}
use Rattle.ec_ring.specs.declared.arrivals.Arrivals.{Arrivals}
use Rattle.ec_ring.specs.declared.port.PortFault.{PortFault}
use Rattle.ec_services.specs.declared.fault.MasterFault.{MasterFault}
use Rattle.ec_acyclic.specs.Next.{TalkState}
use Rattle.ec_acyclic.specs.Turn.{IsServiceTurn}
use Rattle.ec_acyclic.specs.declared.turn.Turn.{Turn as ServiceTurn}
use Rattle.ec_run.specs.Cycles.{End, IsCycle}
use Rattle.ec_run.specs.Along.{IsAlong}
use Rattle.ec_run.specs.Recovering.{RecoveryState}
use Rattle.ec_run.specs.Recovery.{IsLookedAt}
use Rattle.ec_run.specs.Turns.{IsTurn}
use Rattle.ec_run.specs.Watched.{WatchedState, WatchedTrips, untold}
use Rattle.ec_run.specs.declared.cycles.Cycles.{Cycles}
use Rattle.ec_run.specs.declared.along.Along.{Along}
use Rattle.ec_run.specs.declared.recovery.Seen.{Seen}
use Rattle.ec_run.specs.declared.turns.Turn.{Turn}
use Rattle.ec_run.specs.declared.wanted.Wanted.{Wanted}
use Rattle.ecat_master.specs.Last.{in_op}
use Rattle.ecat_master.specs.Over.{stops_behind}
use Rattle.ecat_master.specs.Task.{Listens, TakesOutputs}
use Rattle.ecat_master.specs.declared.run.LinePlan.{LinePlan}
use Rattle.ecat_master.specs.declared.startup.TheConstants.{MORE_CABLE_LOOKS}

-- ports that tell where copies arrive: the ports before a trip, the frame, what arrives, the ports behind it
abbrev pub HeardTrips : Type 0 → Type 1
HeardTrips P = P → List DatagramRecord → Result Arrivals PortFault → P → Type 0

-- what a running master stands between: its ports, by the trips that they make; the task that it serves, by
-- how that is listened to and which outputs it holds; and the pace, by where it has no other cycle
pub record Sides (P D T : Type 0) : Type 1 where
  pub heard : HeardTrips P
  pub listens : Listens D
  pub held : D → List ℕ
  pub over : T → Type 0

abbrev pub sides_of : {P D T : Type 0} → HeardTrips P → Listens D → (D → List ℕ) → (T → Type 0) → Sides P D T
sides_of heard listens held over = record { heard = heard; listens = listens; held = held; over = over }

-- ---- looks at the cable

-- one look at the cable of a line of so many slaves, and where it is broken by it; nothing where a port
-- failed
pub record IsLook {P : Type 0} (heard : HeardTrips P) (before : P) (slaves : ℕ) (found : Option Located)
    (later : P) : Type 0 where
  pub result : Result Located PortFault
  pub located : IsLocated heard before slaves result later
  pub finds : found ≡ result_ok result

-- is it known of each link whether it is down, but for those between two that are
abbrev pub is_known : Located → Bool
is_known Whole = true
is_known (One link) = true
is_known (Between first last) = true
is_known _ = false

-- is no other look needed, or of no use
abbrev pub is_last_look : Option Located → Bool
is_last_look None = true
is_last_look (Some located) = is_known located

-- the cable is looked at, and again until it is known where it is broken, so often more at the most
unfoldable pub AreLooks : {P : Type 0} → HeardTrips P → P → ℕ → ℕ → Option Located → P → Type 0
AreLooks heard before slaves zero found later = IsLook heard before slaves found later
AreLooks {P} heard before slaves (suc more) found later =
    (first : Option Located) × (between : P) × IsLook heard before slaves first between
    × (elim (is_last_look first) [
      | true ↦ (found ≡ first) × (later ≡ between)
      | false ↦ AreLooks heard between slaves more found later
    ])

-- that often; what the copies of cycles told stays as it was
pub record IsLookedOver {P : Type 0} (heard : HeardTrips P) (before : WatchedState P) (slaves : ℕ)
    (found : Option Located) (later : WatchedState P) : Type 0 where
  pub looks : AreLooks heard before.ports slaves MORE_CABLE_LOOKS found later.ports
  pub still_told : later.tally ≡ before.tally

-- once; what the copies of cycles told stays as it was
pub record IsLookedOnce {P : Type 0} (heard : HeardTrips P) (before : WatchedState P) (slaves : ℕ)
    (found : Option Located) (later : WatchedState P) : Type 0 where
  pub look : IsLook heard before.ports slaves found later.ports
  pub still_told : later.tally ≡ before.tally

-- the cable is looked at once, or it is not
abbrev pub MayBeLooked : {P : Type 0} → HeardTrips P → WatchedState P → ℕ → WatchedState P → Type 0
MayBeLooked heard before slaves later =
    (later ≡ before) ⊎ ((found : Option Located) × IsLookedOnce heard before slaves found later)

-- ---- between two cycles

-- a slave of the line is looked at, by its station address, or none is
pub data MayBeLookedAt {P : Type 0} (heard : HeardTrips P) (line : List Wanted)
    (before later : WatchedState P) : Type 0 where
  none : later ≡ before → MayBeLookedAt heard line before later
  looked_at : (place : ℕ) (wanted : Wanted) (seen : Result Seen MasterFault)
      → slice_get line place ≡ Some wanted
      → IsLookedAt (WatchedTrips heard) before wanted.station seen later
      → MayBeLookedAt heard line before later

-- a slave is looked at, or none is; or slaves of the line are asked by one frame; or a turn is taken with one
-- that is being brought to Op again; or one of a service of a slave of the line, by its station address
pub data IsCaredFor {P : Type 0} (heard : HeardTrips P) (line : List Wanted) (before later : WatchedState P)
    : Type 0 where
  looked_at : MayBeLookedAt heard line before later → IsCaredFor heard line before later
  looked_along : (first : ℕ) (result : Result Along MasterFault)
      → IsAlong (WatchedTrips heard) before line first result later → IsCaredFor heard line before later
  turned : (wanted : Wanted) (recovery : RecoveryState) (turn : Turn)
      → slice_get line recovery.place ≡ Some wanted
      → IsTurn (WatchedTrips heard) before wanted recovery turn later
      → IsCaredFor heard line before later
  served : (place : ℕ) (wanted : Wanted) (talk : TalkState) (turn : ServiceTurn)
      → slice_get line place ≡ Some wanted → talk.station ≡ wanted.station
      → IsServiceTurn (WatchedTrips heard) before talk turn later
      → IsCaredFor heard line before later

-- behind a cycle one frame goes out beside the cycles: the cable is looked at, or a slave is seen to. Behind
-- the last one both may be done, and then a slave be looked at, since no cycle waits for it
pub data IsFollowed {P : Type 0} (heard : HeardTrips P) (line : List Wanted) (is_last : Bool)
    (before later : WatchedState P) : Type 0 where
  looked : MayBeLooked heard before (length line) later → IsFollowed heard line is_last before later
  seen_to : IsCaredFor heard line before later → IsFollowed heard line is_last before later
  ended : is_last ≡ true → (cable between : WatchedState P) → MayBeLooked heard before (length line) cable
      → IsCaredFor heard line cable between → MayBeLookedAt heard line between later
      → IsFollowed heard line is_last before later

-- ---- end to end

-- the outputs that the task has are taken; what was told is forgotten; a cycle is made, and what its copies
-- tell is kept; and what is done behind it
pub record IsRound {P D T : Type 0} (sides : Sides P D T) (planned : LinePlan) (s : Cycles)
    (before : WatchedState P) (end : End) (after : Cycles) (later : WatchedState P) : Type 0 where
  pub supplied : Cycles
  pub takes : TakesOutputs sides.listens sides.held s supplied
  pub behind : WatchedState P
  pub cycle : IsCycle (WatchedTrips sides.heard) (untold before.ports) planned.plan.now.outputs
      planned.expected.now supplied end after behind
  pub followed : IsFollowed sides.heard planned.line.now
      (stops_behind planned.plan.now end (in_op planned.plan.now.states after.image)) behind later

-- so many of them, each from the ports that the one before it left, and how the last one ended, if there was
-- one
unfoldable pub Rounds : {P D T : Type 0} → Sides P D T → LinePlan → ℕ → Cycles → WatchedState P → Option End
    → Cycles → WatchedState P → Type 0
Rounds sides planned zero s before last after later = (after ≡ s) × (later ≡ before) × (last ≡ None)
Rounds {P} sides planned (suc n) s before last after later =
    (now : Cycles) × (ports : WatchedState P) × (end_before : Option End) × (end : End)
    × Rounds sides planned n s before end_before now ports
    × IsRound sides planned now ports end after later × (last ≡ Some end)

-- some number of them, as many as cycles are counted
pub record IsCourse {P D T : Type 0} (sides : Sides P D T) (planned : LinePlan) (s : Cycles)
    (before : WatchedState P) (last : Option End) (after : Cycles) (later : WatchedState P) : Type 0 where
  pub number : ℕ
  pub rounds : Rounds sides planned number s before last after later
  pub counts : after.counts.cycles ≡ s.counts.cycles + number

-- the most trips behind a cycle: one, and three behind one that may be the last since it did not end well
abbrev pub beside_trips : Bool → ℕ
beside_trips false = 1
beside_trips true = 3

-- the most trips of a round: a frame for each item, and those behind its cycle
abbrev pub round_trips : ℕ → Bool → ℕ
round_trips items may_stop = items + beside_trips may_stop
