-- A ring that says where copies arrived is that ring as a master's ports.
use Rattle.std.proofs.Common.{◌≡◌, ◌∙◌, ap, refl, sym, subst, List, Option, None, Some, Result, Ok}
use Rattle.std.specs.Option.{option_map}
use Rattle.ec_wire.specs.Datagram.{DatagramRecord}
use Rattle.ec_esc.specs.State.{ControllerState}
use Rattle.ec_ring.specs.Arrivals.{arrivals_of, copies_came, copies_of}
use Rattle.ec_ring.specs.Ring.{RingState, line_of}
use Rattle.ec_ring.specs.Travel.{travelled}
use Rattle.ec_ring.specs.Walk.{Walked, walked_from_a, walked_from_b}
use Rattle.ec_ring.specs.Weather.{calm}
use Rattle.ec_ring.specs.declared.arrivals.Arrival.{Arrival}
use Rattle.ec_ring.specs.declared.arrivals.Arrivals.{Arrivals}
use Rattle.ec_ring.specs.declared.links.Links.{Links}
use Rattle.ec_ring.specs.declared.port.Port.{Port}
use Rattle.ec_ring.specs.declared.port.PortFault.{PortFault}
use Rattle.ec_ring.specs.declared.weather.Came.{Came}
use Rattle.ec_master.specs.RingTrips.{RingTrips}
use Rattle.ec_run.specs.Alike.{AreTripsOf}
use Rattle.ec_run.specs.Watched.{WatchedState, WatchedTrips}
use Rattle.ec_over_ring.specs.Heard.{HeardRing}

-- ---- the copies

-- a copy that arrived somewhere is that copy
copy_of : (o : Option (List DatagramRecord × Port))
    → option_map (λ (y : Arrival). y.frame)
    (option_map (λ (x : List DatagramRecord × Port). record { frame = x.0; at = x.1 }) o)
    ≡ option_map (λ (x : List DatagramRecord × Port). x.0) o
copy_of None = refl
copy_of (Some x) = refl

calm_copies : (links : Links) (sent : List DatagramRecord) (line : List ControllerState)
    → copies_of (arrivals_of (calm links) sent line) ≡ (travelled (calm links) sent line).came
unfolding arrivals_of travelled
calm_copies links sent line =
    let a : Walked = walked_from_a links sent line in
    let b : Walked = walked_from_b links sent a.line in
    let one = copy_of a.arrived in
    let two = copy_of b.arrived in
    cc

-- ---- a trip

pub heard_is_ring : (before : RingState) (sent : List DatagramRecord) (arrivals : Result Arrivals PortFault)
    (later : RingState) → HeardRing before sent arrivals later
    → RingTrips before sent (copies_came arrivals) later
heard_is_ring before sent arrivals later (is, stepped) = (
  ap copies_came is
      ∙ ap (λ (came : Came). Ok came) (calm_copies before.links sent (line_of before)),
  stepped,
)

pub watched_ring : AreTripsOf (λ (w : WatchedState RingState). w.ports) (WatchedTrips HeardRing) RingTrips
watched_ring before sent came later trip =
    subst (λ (c : Result Came PortFault). RingTrips before.ports sent c later.ports) (sym trip.copies)
    (heard_is_ring before.ports sent trip.arrivals later.ports trip.made)
