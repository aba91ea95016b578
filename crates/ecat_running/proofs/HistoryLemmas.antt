-- Trips of ports that tell where copies arrive, one after the other, as a history.
use Rattle.std.proofs.Common.{◌≡◌, ◌≤◌, ◌⊎◌, ℕ, zero, suc, ◌+◌, List, [], ◌∷◌, ◌++◌, length}
use Rattle.std.proofs.Common.{subst, arith, inl, inr, Result, Ok, Err}
use Rattle.ec_wire.specs.Datagram.{DatagramRecord}
use Rattle.ec_ring.specs.declared.arrivals.Arrivals.{Arrivals}
use Rattle.ec_ring.specs.declared.port.PortFault.{PortFault}
use Rattle.ec_ring.specs.declared.weather.Came.{Came}
use Rattle.ec_run.specs.Travels.{IsWithin, Travels}
use Rattle.ec_run.specs.Watched.{PortsTrip}
use Rattle.ecat_remote.specs.History.{IsPast, PastTrip, Went}
use Rattle.ecat_remote.specs.Taken.{Gives, Heard}
use Rattle.ecat_remote.specs.Trips.{HeardTrips, RemoteState, RemoteTrips}
use Rattle.ecat_running.specs.History.{IsHistory}

-- each trip is one of a history, or has changed nothing
abbrev pub EachIsPast : {C : Type 0} → Gives C → Heard C → Type 0
EachIsPast {C} gives heard =
    (before later : RemoteState C) (sent : List DatagramRecord) (came : Result Came PortFault)
    → RemoteTrips gives heard before sent came later
    → (later ≡ before) ⊎ IsPast before (record { number = before.next; frame = sent }) later

heard_past : {C : Type 0} (gives : Gives C) (heard : Heard C) → EachIsPast gives heard
    → (before later : RemoteState C) (sent : List DatagramRecord) (arrivals : Result Arrivals PortFault)
    → HeardTrips gives heard before sent arrivals later
    → (later ≡ before) ⊎ IsPast before (record { number = before.next; frame = sent }) later
heard_past gives heard each before later sent (Ok came) made =
    each before later sent (Ok made.copies) made.trip
heard_past gives heard each before later sent (Err failed) made = each before later sent (Err failed) made

one_past : {C : Type 0} (gives : Gives C) (heard : Heard C) → EachIsPast gives heard
    → (before later : RemoteState C) (sent : List DatagramRecord) (came : Result Came PortFault)
    → PortsTrip (HeardTrips gives heard) before sent came later
    → (later ≡ before) ⊎ IsPast before (record { number = before.next; frame = sent }) later
one_past gives heard each before later sent came trip =
    heard_past gives heard each before later sent trip.arrivals trip.made

-- a trip, and a history behind it
one_then : {C : Type 0} (n : ℕ) (before between later : RemoteState C) (p : PastTrip)
    → (between ≡ before) ⊎ IsPast before p between → IsHistory between n later
    → IsHistory before (suc n) later
one_then n before between later p (inl same) history =
    let bound : length history.past ≤ n = history.bound in
    record {
      past = history.past;
      bound = omega (arith, bound);
      went = subst (λ b. Went b history.past later) same history.went;
    }
one_then n before between later p (inr is) history =
    let bound : length history.past ≤ n = history.bound in
    record {
      past = p ∷ history.past;
      bound = omega (arith, bound);
      went = (between, is, history.went);
    }

travels_past : {C : Type 0} (gives : Gives C) (heard : Heard C) → EachIsPast gives heard → (n : ℕ)
    (before later : RemoteState C) → Travels (PortsTrip (HeardTrips gives heard)) n before later
    → IsHistory before n later
unfolding Travels
travels_past gives heard each zero before later same =
    record { past = []; bound = omega arith; went = same }
travels_past gives heard each (suc n) before later (sent, came, between, trip, rest) =
    one_then n before between later _ (one_past gives heard each before between sent came trip)
    (travels_past gives heard each n between later rest)

-- so many trips at the most are a history
pub history_of : {C : Type 0} (gives : Gives C) (heard : Heard C) → EachIsPast gives heard → (most : ℕ)
    (before later : RemoteState C) → IsWithin (PortsTrip (HeardTrips gives heard)) most before later
    → IsHistory before most later
history_of gives heard each most before later within =
    let history = travels_past gives heard each within.number before later within.travels in
    let first : length history.past ≤ within.number = history.bound in
    let second : within.number ≤ most = within.bound in
    record { past = history.past; bound = omega (arith, first, second); went = history.went }

-- one history behind another
abbrev pub MayGoOn : Type 0 → Type 0
MayGoOn C =
    (first before later : RemoteState C) (past more : List PastTrip) → Went first past before
    → Went before more later → Went first (past ++ more) later

both_lengths : (past more : List PastTrip) → length (past ++ more) ≡ length past + length more
both_lengths [] more = omega arith
both_lengths (p ∷ past) more = omega (arith, both_lengths past more)

pub joined : {C : Type 0} → MayGoOn C → (m n : ℕ) (before between later : RemoteState C)
    → IsHistory before m between → IsHistory between n later → IsHistory before (m + n) later
joined goes m n before between later first second =
    let one : length first.past ≤ m = first.bound in
    let other : length second.past ≤ n = second.bound in
    let all : length (first.past ++ second.past) ≡ length first.past + length second.past =
    both_lengths first.past second.past in
    record {
      past = first.past ++ second.past;
      bound = omega (arith, one, other, all);
      went = goes before between later first.past second.past first.went second.went;
    }
