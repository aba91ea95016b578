-- How many trips a start makes at the most, part after part.
use Rattle.std.proofs.Common.{◌≡◌, ◌≤◌, ℕ, zero, suc, ◌+◌, ◌*◌, List, [], ◌∷◌, length, drop, take, arith}
use Rattle.std.proofs.Common.{length-drop, Option, None, Some, Result, Ok, Err}
use Rattle.std.proofs.Math.Nat.{suc-mul}
use Rattle.std.proofs.lemmas.List.{length-take}
use Rattle.ec_wire.specs.Datagram.{DatagramRecord}
use Rattle.ec_app.specs.declared.mail.Mail.{Mail}
use Rattle.ec_app.specs.declared.sdo.Sdo.{Sdo}
use Rattle.ec_app.specs.declared.value.Value.{Value}
use Rattle.ec_diag.specs.declared.located.Located.{Located}
use Rattle.ec_master.specs.Ports.{Trips}
use Rattle.ec_run.specs.Phase.{steps_of}
use Rattle.ec_run.specs.Travels.{IsWithin, trips_of_all}
use Rattle.ec_run.specs.Watched.{PortsTrip, WatchedState, WatchedTrips}
use Rattle.ec_run.specs.declared.phase.Phase.{Phase}
use Rattle.ec_run.specs.declared.phase.Phase.TheVariants.{Init, PreOp, Startup, SafeOp, Op}
use Rattle.ec_run.specs.declared.phase.StepFault.{StepFault}
use Rattle.ec_run.specs.declared.step.Step.TheVariants.{Station, StationBefore, StationBehind}
use Rattle.ec_run.specs.declared.wanted.Wanted.{Wanted}
use Rattle.ec_run.proofs.Laws.{brings_within, within_less, within_none, within_one, within_then}
use Rattle.ec_services.specs.Ask.{Answer, Asks}
use Rattle.ec_services.specs.Course.{Course, Runs}
use Rattle.ec_services.specs.Surely.{IsSure}
use Rattle.ec_services.specs.Transfer.{service_of}
use Rattle.ec_services.specs.declared.fault.MasterFault.{MasterFault}
use Rattle.ec_services.specs.declared.mailbox.Peer.{Peer}
use Rattle.ecat_master.specs.Course.{HeardTrips}
use Rattle.ecat_master.specs.Identities.{AreEntriesCompared, AreIdentitiesCompared, IdentityEntry}
use Rattle.ecat_master.specs.Identities.{IsEntryCompared, IsPeerCompared, WantedIdentity, entry_at}
use Rattle.ecat_master.specs.Identities.{identities_trips, next_entry}
use Rattle.ecat_master.specs.Start.{AreCounted, BringsThrough, GivesStations, IsRecognized, IsStarted}
use Rattle.ecat_master.specs.Start.{start_trips}
use Rattle.ecat_master.specs.declared.identity.OtherSlave.{OtherSlave}
use Rattle.ecat_master.specs.declared.identity.TheConstants.{ENTRY_TRIPS}
use Rattle.ecat_master.specs.declared.startup.TheConstants.{MORE_CABLE_LOOKS, MORE_COUNTS}
use Rattle.ecat_master.proofs.CountsLemmas.{counts_within}
use Rattle.ecat_master.proofs.CourseLemmas.{looks_within, within_aside}

-- ---- a course of questions

asks_within : {P : Type 0} (trips : Trips P) (before later : P) (sent : DatagramRecord) (answer : Answer)
    → Asks trips before sent answer later → IsWithin trips 1 before later
asks_within trips before later sent answer asks =
    within_one trips before later (sent ∷ []) asks.came asks.made

one_and : {P : Type 0} (trips : Trips P) (n : ℕ) (before between later : P)
    → IsWithin trips 1 before between → IsWithin trips n between later
    → IsWithin trips (suc n) before later
one_and trips n before between later first second =
    let same : 1 + n ≤ suc n = omega arith in
    within_less trips (1 + n) (suc n) before later same
    (within_then trips 1 n before between later first second)

runs_within : {P S A : Type 0} (trips : Trips P) (before later : P) (course : Course S A) (known : S)
    (n : ℕ) (result : Result A MasterFault) (known_later : S)
    → Runs trips before course known n result known_later later → IsWithin trips n before later
unfolding Runs
runs_within trips before later course known zero result known_later (is, knows, same) =
    within_none trips 0 before later same
runs_within trips before later course known (suc n) result known_later
    (Err fault, learned, between, made, (is, knows, same)) =
    one_and trips n before between later
    (asks_within trips before between (course.sent known) made.answer made.asks)
    (within_none trips n between later same)
runs_within trips before later course known (suc n) result known_later
    (Ok (Some value), learned, between, made, (is, knows, same)) =
    one_and trips n before between later
    (asks_within trips before between (course.sent known) made.answer made.asks)
    (within_none trips n between later same)
runs_within trips before later course known (suc n) result known_later
    (Ok None, learned, between, made, left) =
    one_and trips n before between later
    (asks_within trips before between (course.sent known) made.answer made.asks)
    (runs_within trips between later course learned n result known_later left)

sure_within : {P A : Type 0} (trips : Trips P) (before later : P) (peer peer_later : Peer) (asked : Sdo)
    (limit : ℕ) (comes_to : Mail → Result A MasterFault) (result : Result A MasterFault)
    → IsSure trips before peer (service_of asked comes_to) limit result peer_later later
    → IsWithin trips limit before later
sure_within trips before later peer peer_later asked limit comes_to result sure =
    runs_within trips before later _ _ limit sure.answer sure.last sure.runs

-- ---- identities

entry_within : {P : Type 0} (trips : Trips P) (before later : P) (entry : IdentityEntry)
    (peer peer_later : Peer) (wanted : Option Value) (result : Result (Unit {0}) OtherSlave)
    → IsEntryCompared trips before entry peer wanted result peer_later later
    → IsWithin trips ENTRY_TRIPS before later
entry_within trips before later entry peer peer_later None result (is, kept, same) =
    within_none trips ENTRY_TRIPS before later same
entry_within trips before later entry peer peer_later (Some wanted) result read =
    sure_within trips before later peer peer_later _ ENTRY_TRIPS _ read.found read.reads

-- one entry more
more_within : {P : Type 0} (trips : Trips P) (before between later : P) (wanted : Option Value)
    (rest : WantedIdentity) → IsWithin trips ENTRY_TRIPS before between
    → IsWithin trips (length rest * ENTRY_TRIPS) between later
    → IsWithin trips (length (wanted ∷ rest) * ENTRY_TRIPS) before later
more_within trips before between later wanted rest first others =
    let size : length (wanted ∷ rest) * ENTRY_TRIPS ≡ length rest * ENTRY_TRIPS + ENTRY_TRIPS =
    suc-mul (length rest) ENTRY_TRIPS in
    let less : ENTRY_TRIPS + length rest * ENTRY_TRIPS ≤ length (wanted ∷ rest) * ENTRY_TRIPS =
    omega (arith, size) in
    within_less trips _ _ before later less
    (within_then trips ENTRY_TRIPS (length rest * ENTRY_TRIPS) before between later first others)

entries_within : {P : Type 0} (trips : Trips P) (before later : P) (entry : IdentityEntry) (peer : Peer)
    (identity : WantedIdentity) (result : Result (Unit {0}) OtherSlave)
    → AreEntriesCompared trips before entry peer identity result later
    → IsWithin trips (length identity * ENTRY_TRIPS) before later
unfolding AreEntriesCompared
entries_within trips before later entry peer [] result (is, same) = within_none trips _ before later same
entries_within trips before later entry peer (wanted ∷ rest) result
    (Err other, next, between, compared, (is, same)) =
    more_within trips before between later wanted rest
    (entry_within trips before between entry peer next wanted (Err other) compared)
    (within_none trips (length rest * ENTRY_TRIPS) between later same)
entries_within trips before later entry peer (wanted ∷ rest) result (Ok did, next, between, compared, left) =
    more_within trips before between later wanted rest
    (entry_within trips before between entry peer next wanted (Ok did) compared)
    (entries_within trips between later (next_entry entry) next rest result left)

peer_within : {P : Type 0} (trips : Trips P) (before later : P) (place station : ℕ) (peer : Option Peer)
    (identity : WantedIdentity) (result : Result (Unit {0}) OtherSlave)
    → IsPeerCompared trips before place station peer identity result later
    → IsWithin trips (length identity * ENTRY_TRIPS) before later
peer_within trips before later place station None identity result (is, same) =
    within_none trips (length identity * ENTRY_TRIPS) before later same
peer_within trips before later place station (Some peer) identity result compared =
    entries_within trips before later (entry_at place station 1) peer identity result compared

-- the reads of identities are as many as their definition says
pub identities_within : {P : Type 0} (trips : Trips P) (before later : P) (place : ℕ) (line : List Wanted)
    (identities : List WantedIdentity) (result : Result (Unit {0}) OtherSlave)
    → AreIdentitiesCompared trips before place line identities result later
    → IsWithin trips (identities_trips identities) before later
unfolding AreIdentitiesCompared
identities_within trips before later place [] identities result (is, same) =
    within_none trips (identities_trips identities) before later same
identities_within trips before later place (wanted ∷ rest) [] result (is, same) =
    within_none trips 0 before later same
identities_within trips before later place (wanted ∷ rest) (identity ∷ others) result
    (Err other, between, compared, (is, same)) =
    within_then trips (length identity * ENTRY_TRIPS) (identities_trips others) before between later
    (peer_within trips before between place wanted.station _ identity (Err other) compared)
    (within_none trips (identities_trips others) between later same)
identities_within trips before later place (wanted ∷ rest) (identity ∷ others) result
    (Ok did, between, compared, left) =
    within_then trips (length identity * ENTRY_TRIPS) (identities_trips others) before between later
    (peer_within trips before between place wanted.station _ identity (Ok did) compared)
    (identities_within trips between later (place + 1) rest others result left)

-- ---- counts, station addresses and phases

counted_within : {P : Type 0} (trips : Trips P) (before later : P) (count : Result ℕ MasterFault)
    → AreCounted trips before count later → IsWithin trips (MORE_COUNTS + 1) before later
counted_within trips before later count counted =
    within_then trips MORE_COUNTS 1 before counted.between later
    (counts_within trips MORE_COUNTS before counted.between counted.earlier)
    (asks_within trips counted.between later _ counted.last.puts.answer counted.last.puts.asks)

-- one step for each slave, wherever the cable is broken
stations_within : {P : Type 0} (trips : Trips P) (before later : P) (line : List Wanted) (gap : Option ℕ)
    (result : Result (Unit {0}) StepFault) → GivesStations trips before line gap result later
    → IsWithin trips (length line * trips_of_all (Station ∷ [])) before later
stations_within trips before later line None result gives =
    brings_within trips before later 0 line (Station ∷ []) result gives
stations_within trips before later line (Some link) result (Err fault, between, behind, (is, same)) =
    let less : length (drop link line) * trips_of_all (Station ∷ []) + 0
    ≤ length line * trips_of_all (Station ∷ []) =
    omega (arith, length-drop link line) in
    within_less trips _ _ before later less
    (within_then trips (length (drop link line) * trips_of_all (Station ∷ [])) 0 before between later
    (brings_within trips before between link (drop link line) (StationBehind link ∷ []) (Err fault) behind)
    (within_none trips 0 between later same))
stations_within trips before later line (Some link) result (Ok did, between, behind, gives) =
    let less : length (drop link line) * trips_of_all (Station ∷ [])
    + length (take link line) * trips_of_all (Station ∷ []) ≤ length line * trips_of_all (Station ∷ []) =
    omega (arith, length-drop link line, length-take link line) in
    within_less trips _ _ before later less
    (within_then trips (length (drop link line) * trips_of_all (Station ∷ []))
    (length (take link line) * trips_of_all (Station ∷ [])) before between later
    (brings_within trips before between link (drop link line) (StationBehind link ∷ []) (Ok did) behind)
    (brings_within trips between later 0 (take link line) (StationBefore ∷ []) result gives))

-- the steps of phases with so many slaves
abbrev pub phases_trips : ℕ → List Phase → ℕ
phases_trips slaves [] = 0
phases_trips slaves (phase ∷ rest) = slaves * trips_of_all (steps_of phase) + phases_trips slaves rest

phases_within : {P : Type 0} (trips : Trips P) (before later : P) (line : List Wanted) (phases : List Phase)
    (result : Result (Unit {0}) StepFault) → BringsThrough trips before line phases result later
    → IsWithin trips (phases_trips (length line) phases) before later
unfolding BringsThrough
phases_within trips before later line [] result (is, same) = within_none trips 0 before later same
phases_within trips before later line (phase ∷ rest) result (Err fault, between, brings, (is, same)) =
    within_then trips (length line * trips_of_all (steps_of phase)) (phases_trips (length line) rest) before
    between later
    (brings_within trips before between 0 line (steps_of phase) (Err fault) brings)
    (within_none trips (phases_trips (length line) rest) between later same)
phases_within trips before later line (phase ∷ rest) result (Ok did, between, brings, left) =
    within_then trips (length line * trips_of_all (steps_of phase)) (phases_trips (length line) rest) before
    between later
    (brings_within trips before between 0 line (steps_of phase) (Ok did) brings)
    (phases_within trips between later line rest result left)

-- ---- a start

-- up to the comparison of identities
abbrev pub recognized_trips : ℕ → List WantedIdentity → ℕ
recognized_trips slaves identities =
    MORE_COUNTS + 1 + (MORE_CABLE_LOOKS + 1) + slaves * trips_of_all (Station ∷ [])
    + phases_trips slaves (Init ∷ PreOp ∷ []) + identities_trips identities

pub recognized_within : {P : Type 0} (heard : HeardTrips P) (before later : WatchedState P)
    (line : List Wanted) (identities : List WantedIdentity) (cable : Located)
    → IsRecognized heard before line identities cable later
    → IsWithin (PortsTrip heard) (recognized_trips (length line) identities) before.ports later.ports
recognized_within heard before later line identities cable recognized =
    let trips = PortsTrip heard in
    let slaves : ℕ = length line in
    let in_pre_op : WatchedState _ = recognized.in_pre_op in
    let given : WatchedState _ = recognized.below.given in
    let looked : WatchedState _ = recognized.below.addressed.looked in
    let found = recognized.below.addressed.found in
    let counted : WatchedState _ = found.counted in
    within_then trips
    (MORE_COUNTS + 1 + (MORE_CABLE_LOOKS + 1) + slaves * trips_of_all (Station ∷ [])
    + phases_trips slaves (Init ∷ PreOp ∷ [])) (identities_trips identities) before.ports in_pre_op.ports
    later.ports
    (within_then trips (MORE_COUNTS + 1 + (MORE_CABLE_LOOKS + 1) + slaves * trips_of_all (Station ∷ []))
    (phases_trips slaves (Init ∷ PreOp ∷ [])) before.ports given.ports in_pre_op.ports
    (within_then trips (MORE_COUNTS + 1 + (MORE_CABLE_LOOKS + 1)) (slaves * trips_of_all (Station ∷ []))
    before.ports looked.ports given.ports
    (within_then trips (MORE_COUNTS + 1) (MORE_CABLE_LOOKS + 1) before.ports counted.ports looked.ports
    (within_aside heard (MORE_COUNTS + 1) before counted
    (counted_within (WatchedTrips heard) before counted (Ok (length line)) found.counting))
    (looks_within heard MORE_CABLE_LOOKS (length line) counted.ports looked.ports (Some cable)
    found.looks.looks))
    (within_aside heard _ looked given
    (stations_within (WatchedTrips heard) looked given line _ (Ok tt) recognized.below.addressed.stations)))
    (within_aside heard _ given in_pre_op
    (phases_within (WatchedTrips heard) given in_pre_op line (Init ∷ PreOp ∷ []) (Ok tt)
    recognized.below.brought)))
    (within_aside heard _ in_pre_op later
    (identities_within (WatchedTrips heard) in_pre_op later 0 line identities (Ok tt) recognized.compared))

-- the parts of a start come to what its definition says
all_parts : (slaves : ℕ) (identities : List WantedIdentity)
    → recognized_trips slaves identities + phases_trips slaves (Startup ∷ SafeOp ∷ Op ∷ [])
    ≤ start_trips slaves identities
all_parts slaves identities = omega arith

pub started_within : {P : Type 0} (heard : HeardTrips P) (before later : WatchedState P) (line : List Wanted)
    (identities : List WantedIdentity) (cable : Located)
    → IsStarted heard before line identities cable later
    → IsWithin (PortsTrip heard) (start_trips (length line) identities) before.ports later.ports
started_within heard before later line identities cable started =
    let recognized : WatchedState _ = started.recognized in
    within_less (PortsTrip heard) _ _ before.ports later.ports (all_parts (length line) identities)
    (within_then (PortsTrip heard) (recognized_trips (length line) identities)
    (phases_trips (length line) (Startup ∷ SafeOp ∷ Op ∷ [])) before.ports recognized.ports later.ports
    (recognized_within heard before recognized line identities cable started.below)
    (within_aside heard _ recognized later
    (phases_within (WatchedTrips heard) recognized later line (Startup ∷ SafeOp ∷ Op ∷ []) (Ok tt)
    started.brought)))
