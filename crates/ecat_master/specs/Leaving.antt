-- The state in which a running master leaves the slaves of its line: how often all of them are asked for it,
-- and what is answered (IEC 61158-6-12, AL control and AL status).
use Rattle.std.specs.Prelude.{◌≡◌, ◌≤◌, ◌<◌, ◌⊎◌, ◌*◌, ◌||◌, ℕ, zero, suc, Bool, true, false, Option, None}
use Rattle.std.specs.Prelude.{Some, Result, is_ok, nat_lt, if◌then◌else◌}
use Rattle.ec_regs.specs.declared.al.AlState.{AlState}
use Rattle.ec_ring.specs.declared.port.Port.TheVariants.{A, B}
use Rattle.ec_run.specs.States.{Leaves}
use Rattle.ec_run.specs.Tally.{came_at}
use Rattle.ec_run.specs.Watched.{WatchedState, WatchedTrips, untold}
use Rattle.ec_run.specs.declared.states.TheConstants.{LEAVE_ASKS}
use Rattle.ec_services.specs.declared.fault.MasterFault.{MasterFault}
use Rattle.ecat_master.specs.Course.{HeardTrips}
use Rattle.ecat_master.specs.declared.leaving.Left.{Left}
use Rattle.ecat_master.specs.declared.leaving.Left.TheVariants.{AsTheyAre, All, NotAll}
use Rattle.ecat_master.specs.declared.leaving.TheConstants.{ROUNDS}

-- the copies of the frames told since what they told was last forgotten: did any come
abbrev pub hears : {P : Type 0} → WatchedState P → Bool
hears s = came_at A s.tally || came_at B s.tally

-- a round: what was told is forgotten, and all slaves are asked for the state, and what they are in is read,
-- until so many answer that they are in it. Did they
pub record IsLeavingRound {P : Type 0} (heard : HeardTrips P) (state : AlState) (slaves : ℕ)
    (before : WatchedState P) (all : Bool) (later : WatchedState P) : Type 0 where
  pub answer : Result (Unit {0}) MasterFault
  pub asked : Leaves (WatchedTrips heard) (untold before.ports) state slaves LEAVE_ASKS answer later
  pub all_is : all ≡ is_ok answer

-- so many rounds, one after the other, none of which brought all of them to the state
unfoldable pub NoneBrings : {P : Type 0} → HeardTrips P → AlState → ℕ → ℕ → WatchedState P → WatchedState P
    → Type 0
NoneBrings heard state slaves zero before later = later ≡ before
NoneBrings {P} heard state slaves (suc n) before later =
    (between : WatchedState P) × NoneBrings heard state slaves n before between
    × IsLeavingRound heard state slaves between false later

-- one of the rounds did, and the ones before it did not
pub record IsBrought {P : Type 0} (heard : HeardTrips P) (state : AlState) (slaves : ℕ)
    (before later : WatchedState P) : Type 0 where
  pub rounds : ℕ
  pub fewer : rounds < ROUNDS
  pub between : WatchedState P
  pub none : NoneBrings heard state slaves rounds before between
  pub last : IsLeavingRound heard state slaves between true later

-- no round did, one or more: there were as many as there are at the most, or no copy came in the last one
pub record IsNotBrought {P : Type 0} (heard : HeardTrips P) (state : AlState) (slaves : ℕ)
    (before later : WatchedState P) : Type 0 where
  pub rounds : ℕ
  pub some : 1 ≤ rounds
  pub most : rounds ≤ ROUNDS
  pub none : NoneBrings heard state slaves rounds before later
  pub ends : (rounds ≡ ROUNDS) ⊎ (hears later ≡ false)

-- how many answers are waited for: one of each slave, and never more than a working counter can count
abbrev pub answers_of : ℕ → ℕ
answers_of slaves = if nat_lt slaves 65535 then slaves else 65535

-- a line of so many slaves is left as it is, by no trip, where it is to be left so; else its slaves are
-- brought to the state that is wanted, and are all in it, or not all
abbrev pub IsLeft : {P : Type 0} → HeardTrips P → Option AlState → ℕ → WatchedState P → Left → WatchedState P
    → Type 0
IsLeft heard None slaves before left later = (left ≡ AsTheyAre) × (later ≡ before)
IsLeft heard (Some state) slaves before left later =
    ((left ≡ All state) × IsBrought heard state (answers_of slaves) before later)
    ⊎ ((left ≡ NotAll state) × IsNotBrought heard state (answers_of slaves) before later)

-- the state in which the slaves are left is the planned one, or, where the plan lets a task say it, any
abbrev pub MayBeLeft : Bool → Option AlState → Option AlState → Type 0
MayBeLeft by_task planned state = (state ≡ planned) ⊎ (by_task ≡ true)

-- so many trips are made for that at the most: two for each time of asking
abbrev pub leaving_trips : ℕ
leaving_trips = ROUNDS * (LEAVE_ASKS * 2)
