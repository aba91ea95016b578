-- What ports bring that keep what copies told, the ports themselves bring.
use Rattle.std.proofs.Common.{◌≡◌, List, [], ◌∷◌, ap}
use Rattle.ec_wire.specs.Datagram.{DatagramRecord}
use Rattle.ec_master.specs.Given.{AllThatCame}
use Rattle.ec_master.specs.Suffice.{Brings}
use Rattle.ec_run.specs.Alike.{AreTripsOf}
use Rattle.ec_run.specs.Watched.{WatchedState, WatchedTrips}
use Rattle.ecat_remote.specs.Taken.{Gives, Heard}
use Rattle.ecat_remote.specs.Trips.{HeardCopies, HeardTrips, RemoteState}

watched_copies : {C : Type 0} (gives : Gives C) (heard : Heard C)
    → AreTripsOf (λ (w : WatchedState (RemoteState C)). w.ports) (WatchedTrips (HeardTrips gives heard))
    (HeardCopies gives heard)
watched_copies gives heard before sent came later trip = record {
  arrivals = trip.arrivals;
  made = trip.made;
  copies = trip.copies;
}

pub brought_by_ports : {C : Type 0} (gives : Gives C) (heard : Heard C)
    (before later : WatchedState (RemoteState C)) (frames : List (List DatagramRecord)) (came : AllThatCame)
    → Brings (WatchedTrips (HeardTrips gives heard)) before frames came later
    → Brings (HeardCopies gives heard) before.ports frames came later.ports
unfolding Brings
brought_by_ports gives heard before later frames [] same = ap (λ s. s.ports) same
brought_by_ports gives heard before later [] (came ∷ more) never = absurd never
brought_by_ports gives heard before later (sent ∷ rest) (came ∷ more) (between, trip, others) = (
  between.ports,
  watched_copies gives heard before sent came between trip,
  brought_by_ports gives heard between later rest more others,
)
