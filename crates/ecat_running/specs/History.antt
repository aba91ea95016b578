-- The trips that a running master's ports have made: all of them one history, each under the next number.
use Rattle.std.specs.Prelude.{◌≤◌, ℕ, List, length}
use Rattle.ecat_master.specs.Ended.{is_well}
use Rattle.ecat_remote.specs.History.{PastTrip, Went}
use Rattle.ecat_remote.specs.Trips.{RemoteState}

-- the ports made these trips, so many at the most
pub record IsHistory {C : Type 0} (before : RemoteState C) (most : ℕ) (later : RemoteState C) : Type 0 where
  pub past : List PastTrip
  pub bound : length past ≤ most
  pub went : Went before past later

-- what a function takes
abbrev domain : {X Y : Type 0} → (X → Y) → Type 0
domain {X} f = X

-- how slaves are left at the end of a run, as a master tells it
abbrev pub WayLeft : Type 0
WayLeft = domain is_well
