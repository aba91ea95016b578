-- Rounds of asking all slaves for a state, one after the other, and how many trips they make.
use Rattle.std.proofs.Common.{◌≡◌, ◌≤◌, ◌<◌, ℕ, zero, suc, ◌+◌, ◌*◌, Bool, true, false, refl, ap, subst}
use Rattle.std.proofs.Common.{arith, inl, inr, Option, None, Some, Result, Ok, List}
use Rattle.ec_regs.specs.declared.al.AlState.{AlState}
use Rattle.ec_wire.specs.Datagram.{DatagramRecord}
use Rattle.ec_master.specs.Ports.{Trips}
use Rattle.ec_services.specs.declared.fault.MasterFault.{MasterFault}
use Rattle.ec_run.specs.Ask.{IsPut}
use Rattle.ec_run.specs.States.{Leaves, is_left}
use Rattle.ec_run.specs.Travels.{IsWithin}
use Rattle.ec_run.specs.Watched.{PortsTrip, WatchedState, WatchedTrips, untold}
use Rattle.ec_run.specs.declared.states.TheConstants.{LEAVE_ASKS}
use Rattle.ec_run.proofs.Laws.{within_less, within_none, within_one, within_then}
use Rattle.ecat_master.specs.Course.{HeardTrips}
use Rattle.ecat_master.specs.Leaving.{IsBrought, IsLeavingRound, IsLeft, IsNotBrought, NoneBrings, answers_of}
use Rattle.ecat_master.specs.Leaving.{leaving_trips}
use Rattle.ecat_master.specs.declared.leaving.Left.{Left}
use Rattle.ecat_master.specs.declared.leaving.TheConstants.{ROUNDS}
use Rattle.ecat_master.proofs.CourseLemmas.{within_aside}

pub no_rounds : {P : Type 0} (heard : HeardTrips P) (state : AlState) (slaves : ℕ) (before : WatchedState P)
    → NoneBrings heard state slaves 0 before before
unfolding NoneBrings
no_rounds heard state slaves before = refl

pub not_all : {P : Type 0} (heard : HeardTrips P) (state : AlState) (slaves : ℕ)
    (before later : WatchedState P) (all : Bool) → IsLeavingRound heard state slaves before all later
    → all ≡ false → IsLeavingRound heard state slaves before false later
not_all heard state slaves before later all round is =
    subst (λ (b : Bool). IsLeavingRound heard state slaves before b later) is round

-- one more
pub one_more : {P : Type 0} (heard : HeardTrips P) (state : AlState) (slaves n : ℕ)
    (before between later : WatchedState P) → NoneBrings heard state slaves n before between
    → IsLeavingRound heard state slaves between false later
    → NoneBrings heard state slaves (n + 1) before later
unfolding NoneBrings
one_more {P} heard state slaves n before between later none round =
    let next : suc n ≡ n + 1 = omega arith in
    let all : NoneBrings heard state slaves (suc n) before later = (between, none, round) in
    subst (λ (k : ℕ). NoneBrings heard state slaves k before later) next all

-- ---- how many trips

put_within : {P : Type 0} (trips : Trips P) (before later : P) (sent : DatagramRecord)
    (joined : Result (List DatagramRecord) MasterFault) → IsPut trips before sent joined later
    → IsWithin trips 1 before later
put_within trips before later sent joined put =
    within_one trips before later _ put.asks.came put.asks.made

-- the two of one time of asking
both_within : {P : Type 0} (trips : Trips P) (before between after : P) (written read : DatagramRecord)
    (first second : Result (List DatagramRecord) MasterFault) → IsPut trips before written first between
    → IsPut trips between read second after → IsWithin trips 2 before after
both_within trips before between after written read first second one other =
    within_then trips 1 1 before between after (put_within trips before between written first one)
    (put_within trips between after read second other)

-- what follows one time of asking, where all are in the state and where they are not
abbrev Behind : {P : Type 0} → Trips P → P → AlState → ℕ → ℕ → Result (Unit {0}) MasterFault → P → Bool
    → Type 0
Behind trips after state slaves n result later true = (result ≡ Ok tt) × (later ≡ after)
Behind trips after state slaves n result later false = Leaves trips after state slaves n result later

behind_within : {P : Type 0} (trips : Trips P) (after later : P) (state : AlState) (slaves n : ℕ)
    (result : Result (Unit {0}) MasterFault) (found : Bool)
    → Behind trips after state slaves n result later found
    → (Leaves trips after state slaves n result later → IsWithin trips (n * 2) after later)
    → IsWithin trips (n * 2) after later
behind_within trips after later state slaves n result true (is, same) more =
    within_none trips (n * 2) after later same
behind_within trips after later state slaves n result false rest more = more rest

leaves_within : {P : Type 0} (trips : Trips P) (before later : P) (state : AlState) (slaves n : ℕ)
    (result : Result (Unit {0}) MasterFault) → Leaves trips before state slaves n result later
    → IsWithin trips (n * 2) before later
unfolding Leaves
leaves_within trips before later state slaves zero result (is, same) =
    within_none trips 0 before later same
leaves_within trips before later state slaves (suc n) result
    (first, between, written, joined, after, read, rest) =
    let same : 2 + n * 2 ≤ suc n * 2 = omega arith in
    within_less trips (2 + n * 2) (suc n * 2) before later same
    (within_then trips 2 (n * 2) before after later
    (both_within trips before between after _ _ first joined written read)
    (behind_within trips after later state slaves n result (is_left state slaves joined) rest
    (leaves_within trips after later state slaves n result)))

round_within : {P : Type 0} (heard : HeardTrips P) (state : AlState) (slaves : ℕ) (all : Bool)
    (before later : WatchedState P) → IsLeavingRound heard state slaves before all later
    → IsWithin (PortsTrip heard) (LEAVE_ASKS * 2) before.ports later.ports
round_within heard state slaves all before later round =
    within_aside heard (LEAVE_ASKS * 2) (untold before.ports) later
    (leaves_within (WatchedTrips heard) (untold before.ports) later state slaves LEAVE_ASKS round.answer
    round.asked)

none_within : {P : Type 0} (heard : HeardTrips P) (state : AlState) (slaves n : ℕ)
    (before later : WatchedState P) → NoneBrings heard state slaves n before later
    → IsWithin (PortsTrip heard) (n * (LEAVE_ASKS * 2)) before.ports later.ports
unfolding NoneBrings
none_within heard state slaves zero before later same =
    within_none (PortsTrip heard) 0 before.ports later.ports (ap (λ s. s.ports) same)
none_within heard state slaves (suc n) before later (between, none, round) =
    let trips = PortsTrip heard in
    let same : n * (LEAVE_ASKS * 2) + LEAVE_ASKS * 2 ≤ suc n * (LEAVE_ASKS * 2) = omega arith in
    within_less trips (n * (LEAVE_ASKS * 2) + LEAVE_ASKS * 2) (suc n * (LEAVE_ASKS * 2)) before.ports
    later.ports same
    (within_then trips (n * (LEAVE_ASKS * 2)) (LEAVE_ASKS * 2) before.ports between.ports later.ports
    (none_within heard state slaves n before between none)
    (round_within heard state slaves false between later round))

pub brought_within : {P : Type 0} (heard : HeardTrips P) (state : AlState) (slaves : ℕ)
    (before later : WatchedState P) → IsBrought heard state slaves before later
    → IsWithin (PortsTrip heard) leaving_trips before.ports later.ports
brought_within heard state slaves before later brought =
    let trips = PortsTrip heard in
    let fewer : brought.rounds < ROUNDS = brought.fewer in
    let less : brought.rounds * (LEAVE_ASKS * 2) + LEAVE_ASKS * 2 ≤ leaving_trips = omega (arith, fewer) in
    within_less trips (brought.rounds * (LEAVE_ASKS * 2) + LEAVE_ASKS * 2) leaving_trips before.ports
    later.ports less
    (within_then trips (brought.rounds * (LEAVE_ASKS * 2)) (LEAVE_ASKS * 2) before.ports
    brought.between.ports later.ports
    (none_within heard state slaves brought.rounds before brought.between brought.none)
    (round_within heard state slaves true brought.between later brought.last))

pub not_brought_within : {P : Type 0} (heard : HeardTrips P) (state : AlState) (slaves : ℕ)
    (before later : WatchedState P) → IsNotBrought heard state slaves before later
    → IsWithin (PortsTrip heard) leaving_trips before.ports later.ports
not_brought_within heard state slaves before later not_brought =
    let most : not_brought.rounds ≤ ROUNDS = not_brought.most in
    let less : not_brought.rounds * (LEAVE_ASKS * 2) ≤ leaving_trips = omega (arith, most) in
    within_less (PortsTrip heard) (not_brought.rounds * (LEAVE_ASKS * 2)) leaving_trips before.ports
    later.ports less
    (none_within heard state slaves not_brought.rounds before later not_brought.none)

-- slaves are left by so many trips at the most
pub left_within : {P : Type 0} (heard : HeardTrips P) (state : Option AlState) (slaves : ℕ)
    (before later : WatchedState P) (left : Left) → IsLeft heard state slaves before left later
    → IsWithin (PortsTrip heard) leaving_trips before.ports later.ports
left_within heard None slaves before later left (is, same) =
    within_none (PortsTrip heard) leaving_trips before.ports later.ports (ap (λ s. s.ports) same)
left_within heard (Some state) slaves before later left (inl all) =
    brought_within heard state (answers_of slaves) before later all.1
left_within heard (Some state) slaves before later left (inr not_all) =
    not_brought_within heard state (answers_of slaves) before later not_all.1
