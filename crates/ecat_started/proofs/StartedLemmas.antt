-- A start leaves a ring with as many slaves as there were, and so it meets the certificate of the work.
use Rattle.std.proofs.Common.{◌≡◌, ◌≤◌, ℕ, zero, suc, List, length, Result, ap, ◌∙◌, subst, sym}
use Rattle.std.specs.List.{AllByRecursion}
use Rattle.std.proofs.lemmas.List.{length-map}
use Rattle.ec_wire.specs.Datagram.{DatagramRecord}
use Rattle.ec_esc.specs.State.{ControllerState}
use Rattle.ec_app.specs.Slave.{step}
use Rattle.ec_app.specs.State.{SlaveState}
use Rattle.ec_diag.specs.declared.located.Located.{Located}
use Rattle.ec_map.specs.Item.{IsItem, ItemRecord}
use Rattle.ec_ring.specs.Ring.{RingState, line_of, with_controllers}
use Rattle.ec_ring.specs.Travel.{travelled}
use Rattle.ec_ring.specs.Weather.{calm}
use Rattle.ec_ring.specs.declared.links.TheConstants.{MAX_SLAVES}
use Rattle.ec_ring.specs.declared.port.PortFault.{PortFault}
use Rattle.ec_ring.specs.declared.weather.Came.{Came}
use Rattle.ec_ring.proofs.Laws.{length-with_controllers}
use Rattle.ec_run.specs.Travels.{IsWithin, Travels}
use Rattle.ec_run.specs.Watched.{PortsTrip, WatchedState}
use Rattle.ec_run.specs.declared.wanted.Wanted.{Wanted}
use Rattle.ec_over_ring.specs.Brought.{ReachesAll}
use Rattle.ec_over_ring.specs.Fit.{HasMailboxes}
use Rattle.ec_over_ring.specs.Heard.{HeardRing}
use Rattle.ec_over_ring.specs.Started.{AreWanted, IsSetUp}
use Rattle.ecat_master.specs.Identities.{WantedIdentity}
use Rattle.ecat_master.specs.Start.{IsStarted, start_trips}
use Rattle.ecat_master.proofs.Laws.{started_within}
use Rattle.ecat_started.specs.Certified.{IsCertified, IsToldOf}

-- a trip leaves as many slaves
trip_size : (before later : RingState) (sent : List DatagramRecord) (came : Result Came PortFault)
    → PortsTrip HeardRing before sent came later → length later.slaves ≡ length before.slaves
trip_size before later sent came trip =
    let line : List ControllerState = (travelled (calm before.links) sent (line_of before)).line in
    ap (λ (r : RingState). length r.slaves) trip.made.1
    ∙ length-map (with_controllers before.slaves line) step
    ∙ length-with_controllers before.slaves line

travels_size : (n : ℕ) (before later : RingState) → Travels (PortsTrip HeardRing) n before later
    → length later.slaves ≡ length before.slaves
unfolding Travels
travels_size zero before later same = ap (λ (r : RingState). length r.slaves) same
travels_size (suc n) before later (sent, came, between, made, rest) =
    travels_size n between later rest ∙ trip_size before between sent came made

pub within_size : (most : ℕ) (before later : RingState) → IsWithin (PortsTrip HeardRing) most before later
    → length later.slaves ≡ length before.slaves
within_size most before later within = travels_size within.number before later within.travels

-- ---- what was started

-- a line that was started is set up, and its ring has as many slaves, by the laws of a running master; and
-- its mailboxes stand, by the law of this crate
pub record StartsRing : Type 0 where
  pub set_up : (line : List Wanted) (identities : List WantedIdentity) (cable : Located)
      (before later : WatchedState RingState) → ReachesAll before.ports → AreWanted line
      → IsStarted HeardRing before line identities cable later → AllByRecursion (IsSetUp later.ports) line
  pub slaves : (line : List Wanted) (identities : List WantedIdentity) (cable : Located)
      (before later : WatchedState RingState) → ReachesAll before.ports
      → IsStarted HeardRing before line identities cable later → length before.ports.slaves ≡ length line
  pub mailboxes : (line : List Wanted) (identities : List WantedIdentity) (cable : Located)
      (before later : WatchedState RingState) → ReachesAll before.ports → AreWanted line
      → IsStarted HeardRing before line identities cable later
      → AllByRecursion (HasMailboxes later.ports) line

-- a ring whose slaves are set up meets the certificate, by the law of this crate
abbrev pub SetUpMeets : Type 0
SetUpMeets =
    (slaves : List SlaveState) (line : List Wanted) (work : List ItemRecord) (expected : List ℕ)
    (r : RingState) → IsToldOf slaves line work expected → AllByRecursion IsItem work → AreWanted line
    → length r.slaves ≡ length line → length r.slaves ≤ MAX_SLAVES → AllByRecursion (IsSetUp r) line
    → AllByRecursion (HasMailboxes r) line
    → IsCertified r work expected

pub started_certified : StartsRing → SetUpMeets → (slaves : List SlaveState) (line : List Wanted)
    (work : List ItemRecord) (expected : List ℕ) (identities : List WantedIdentity) (cable : Located)
    (before later : WatchedState RingState) → IsToldOf slaves line work expected
    → AllByRecursion IsItem work → ReachesAll before.ports → AreWanted line
    → IsStarted HeardRing before line identities cable later → IsCertified later.ports work expected
started_certified starts meets slaves line work expected identities cable before later told each ring wanted
    started =
    let size : length later.ports.slaves ≡ length before.ports.slaves =
    within_size (start_trips (length line) identities) before.ports later.ports
    (started_within HeardRing before later line identities cable started) in
    meets slaves line work expected later.ports told each wanted
    (size ∙ starts.slaves line identities cable before later ring started)
    (subst (λ (n : ℕ). n ≤ MAX_SLAVES) (sym size) ring.slaves.limit)
    (starts.set_up line identities cable before later ring wanted started)
    (starts.mailboxes line identities cable before later ring wanted started)
