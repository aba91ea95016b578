-- The trips that ports have made, one after the other: cycles, looks, trips that failed.
use Rattle.std.specs.Prelude.{◌≡◌, ℕ, List, [], ◌∷◌}
use Rattle.ec_wire.specs.Datagram.{DatagramRecord}
use Rattle.ecat_remote.specs.Trips.{RemoteState, IsTurn}

-- a trip that was made: its number, and the frame
pub record PastTrip : Type 0 where
  pub number : ℕ
  pub frame : List DatagramRecord

-- the ports made this trip
pub record IsPast {C : Type 0} (before : RemoteState C) (p : PastTrip) (later : RemoteState C) : Type 0 where
  pub number : p.number ≡ before.next
  pub turn : IsTurn before p.frame later

-- the ports made these trips, one after the other
abbrev pub Went : {C : Type 0} → RemoteState C → List PastTrip → RemoteState C → Type 0
Went before [] later = later ≡ before
Went {C} before (p ∷ ps) later = (between : RemoteState C) × IsPast before p between × Went between ps later
