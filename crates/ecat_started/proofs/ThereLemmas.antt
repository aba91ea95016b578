-- What the parts of a start leave of a ring, whatever they come to: its links, and as many slaves.
use Rattle.std.proofs.Common.{◌≡◌, ℕ, zero, suc, Bool, true, false, List, [], ◌∷◌, length, drop, take, subst}
use Rattle.std.proofs.Common.{Option, None, Some, Result, Ok, Err, refl, sym, ap, ◌∙◌, inl}
use Rattle.ec_diag.specs.Arrivals.{probe}
use Rattle.ec_diag.specs.declared.located.Located.{Located}
use Rattle.ec_master.specs.RingTrips.{RingTrips}
use Rattle.ec_ring.specs.Ring.{RingState}
use Rattle.ec_run.specs.Counting.{IsCounted}
use Rattle.ec_run.specs.Phase.{Brings}
use Rattle.ec_run.specs.Watched.{WatchedState, WatchedTrips}
use Rattle.ec_ring.specs.Arrivals.{copies_came}
use Rattle.ec_run.specs.declared.phase.StepFault.{StepFault}
use Rattle.ec_run.specs.declared.step.Step.{Step}
use Rattle.ec_run.specs.declared.step.Step.TheVariants.{Station, StationBefore, StationBehind}
use Rattle.ec_run.specs.declared.wanted.Wanted.{Wanted}
use Rattle.ec_run.proofs.Laws.{brings_of, brings_within, counted_of, within_of}
use Rattle.ec_services.specs.declared.fault.MasterFault.{MasterFault}
use Rattle.ec_over_ring.specs.Brought.{ReachesAll}
use Rattle.ec_over_ring.specs.Heard.{HeardRing}
use Rattle.ec_over_ring.proofs.Laws.{IsCountedSo, IsMild, IsOnItsWay, IsStillThere, found_alike}
use Rattle.ec_over_ring.proofs.Laws.{heard_is_ring}
use Rattle.ec_over_ring.proofs.Laws.{ring_counted, there_then, watched_ring, way_then, way_trip, within_there}
use Rattle.ecat_master.specs.Course.{AreLooks, IsLook, is_last_look}
use Rattle.ecat_master.specs.Start.{AreCounted, AreCounts, GivesStations, IsAddressed, IsFound, gap_of}

-- ports that are watched are those of the ring
pub ring_brings : (before later : WatchedState RingState) (place : ℕ) (line : List Wanted) (ys : List Step)
    (result : Result (Unit {0}) StepFault)
    → Brings (WatchedTrips HeardRing) before place line ys result later
    → Brings RingTrips before.ports place line ys result later.ports
ring_brings before later place line ys result brings =
    brings_of (λ (w : WatchedState RingState). w.ports) (WatchedTrips HeardRing) RingTrips watched_ring before
    later place line ys result brings

pub on_its_way : (r later : RingState) → IsOnItsWay r later → IsStillThere r later
on_its_way r later way = record {
  ring = way.ring;
  links = way.links;
  size = way.size;
  alike = found_alike r.slaves later.slaves way.found;
}

-- ---- steps

brings_there : (before later : WatchedState RingState) (place : ℕ) (line : List Wanted) (ys : List Step)
    (result : Result (Unit {0}) StepFault) → ReachesAll before.ports
    → Brings (WatchedTrips HeardRing) before place line ys result later
    → IsStillThere before.ports later.ports
brings_there before later place line ys result ring brings =
    within_there _ before.ports later.ports ring
    (brings_within RingTrips before.ports later.ports place line ys result
    (ring_brings before later place line ys result brings))

stations_there : (before later : WatchedState RingState) (line : List Wanted) (gap : Option ℕ)
    (result : Result (Unit {0}) StepFault) → ReachesAll before.ports
    → GivesStations (WatchedTrips HeardRing) before line gap result later
    → IsStillThere before.ports later.ports
stations_there before later line None result ring gives =
    brings_there before later 0 line (Station ∷ []) result ring gives
stations_there before later line (Some link) result ring (Err fault, between, behind, (is, same)) =
    subst (λ (w : WatchedState RingState). IsStillThere before.ports w.ports) (sym same)
    (brings_there before between link (drop link line) (StationBehind link ∷ []) (Err fault) ring behind)
stations_there before later line (Some link) result ring (Ok did, between, behind, rest) =
    let first : IsStillThere before.ports between.ports =
    brings_there before between link (drop link line) (StationBehind link ∷ []) (Ok did) ring behind in
    there_then before.ports between.ports later.ports first
    (brings_there between later 0 (take link line) (StationBefore ∷ []) result first.ring rest)

-- ---- looks at the cable

probe_mild : IsMild probe
unfolding IsMild
probe_mild = inl refl

pub look_way : (before later : RingState) (n : ℕ) (found : Option Located) → ReachesAll before
    → IsLook HeardRing before n found later → IsOnItsWay before later
look_way before later n found ring look =
    way_trip before later probe (copies_came look.located.came) ring probe_mild
    (heard_is_ring before (probe ∷ []) look.located.came later look.located.made)

pub looks_way : (more : ℕ) (before later : RingState) (n : ℕ) (found : Option Located) → ReachesAll before
    → AreLooks HeardRing before n more found later → IsOnItsWay before later
unfolding AreLooks
looks_way zero before later n found ring look = look_way before later n found ring look
looks_way (suc more) before later n found ring (first, between, look, rest) =
    let here : IsOnItsWay before between = look_way before between n first ring look in
    looks_rest (is_last_look first) rest here
    (λ others. way_then before between later here (looks_way more between later n found here.ring others))
  where
    looks_rest : (b : Bool)
        → (elim b as (λ (x : Bool). Type 0) [
          | true ↦ (found ≡ first) × (later ≡ between)
          | false ↦ AreLooks HeardRing between n more found later
        ]) → IsOnItsWay before between
        → (AreLooks HeardRing between n more found later → IsOnItsWay before later)
        → IsOnItsWay before later
    looks_rest true (is, same) here on = subst (IsOnItsWay before) (sym same) here
    looks_rest false others here on = on others

-- ---- counts

-- one of them
count_once : (before later : WatchedState RingState) (count : Result ℕ MasterFault) → ReachesAll before.ports
    → IsCounted (WatchedTrips HeardRing) before count later → IsCountedSo count before.ports later.ports
count_once before later count ring counted =
    ring_counted before.ports later.ports count ring
    (counted_of (λ (w : WatchedState RingState). w.ports) (WatchedTrips HeardRing) RingTrips watched_ring
    before later count counted)

-- so many and one more: what the last one comes to, and the ring behind it
count_behind : (n : ℕ) (before between later : WatchedState RingState) (count : Result ℕ MasterFault)
    → ReachesAll before.ports → AreCounts (WatchedTrips HeardRing) n before between
    → IsCounted (WatchedTrips HeardRing) between count later → IsCountedSo count before.ports later.ports
unfolding AreCounts
count_behind zero before between later count ring same last =
    count_once before later count ring
    (subst (λ (w : WatchedState RingState). IsCounted (WatchedTrips HeardRing) w count later) same last)
count_behind (suc n) before between later count ring (earlier, counts, told, counted) last =
    let first : IsCountedSo told before.ports between.ports =
    count_behind n before earlier between told ring counts counted in
    let way : IsOnItsWay before.ports between.ports = first.way in
    let so : IsCountedSo count between.ports later.ports =
    count_once between later count way.ring last in
    record {
      count_is = so.count_is ∙ ap (λ (n : ℕ). Ok n) way.size;
      way = way_then before.ports between.ports later.ports way so.way;
    }

pub all_counted : (before later : WatchedState RingState) (count : Result ℕ MasterFault)
    → ReachesAll before.ports → AreCounted (WatchedTrips HeardRing) before count later
    → IsCountedSo count before.ports later.ports
all_counted before later count ring counts =
    count_behind counts.earlier.number before counts.between later count ring counts.earlier.counts
    counts.last

-- ---- what a start found, and then

pub found_there : (before later : WatchedState RingState) (line : List Wanted) (cable : Located)
    → ReachesAll before.ports → IsFound HeardRing before line cable later
    → IsStillThere before.ports later.ports
found_there before later line cable ring found =
    let way = (all_counted before found.counted (Ok (length line)) ring found.counting).way in
    let first : IsStillThere before.ports found.counted.ports =
    on_its_way before.ports found.counted.ports way in
    there_then before.ports found.counted.ports later.ports first
    (on_its_way found.counted.ports later.ports
    (looks_way _ found.counted.ports later.ports (length line) (Some cable) first.ring
    found.looks.looks))

pub addressed_there : (before later : WatchedState RingState) (line : List Wanted) (cable : Located)
    → ReachesAll before.ports → IsAddressed HeardRing before line cable later
    → IsStillThere before.ports later.ports
addressed_there before later line cable ring addressed =
    let first : IsStillThere before.ports addressed.looked.ports =
    found_there before addressed.looked line cable ring addressed.found in
    there_then before.ports addressed.looked.ports later.ports first
    (stations_there addressed.looked later line (gap_of cable (length line)) (Ok tt) first.ring
    addressed.stations)
