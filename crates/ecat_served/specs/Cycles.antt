-- A cycle over a ring whose line is served: its trips one after the other, and the moments of the slaves that
-- their copies met.
use Rattle.std.specs.Prelude.{◌≡◌, List, [], ◌∷◌, map, Ok}
use Rattle.ec_esc.specs.State.{ControllerState}
use Rattle.ec_line.specs.Moving.{Visit, behind}
use Rattle.ec_map.specs.Item.{ItemRecord}
use Rattle.ec_ring.specs.Ring.{RingState, line_of}
use Rattle.ec_ring.specs.declared.weather.Weather.{Weather}
use Rattle.ec_master.specs.Cut.{concat, frames_of}
use Rattle.ec_master.specs.Given.{AllThatCame}
use Rattle.ec_master.specs.Moments.{IsMovingCycle, AllGivenByMoving}
use Rattle.ec_master.specs.Travelled.{trips_under}
use Rattle.ecat_served.specs.History.{Packet}
use Rattle.ecat_served.specs.Trips.{AreMetOn, IsServedTrip, Sent, Traffic, came_served, plain}

-- trips one after the other, each over the line that the one before left
abbrev pub AreServedTrips : List Sent → List Weather → List Traffic → List ControllerState
    → List ControllerState → Type 0
AreServedTrips [] [] [] line later = later ≡ line
AreServedTrips (sent ∷ more) (w ∷ ws) (got ∷ rest) line later =
    (between : List ControllerState) × IsServedTrip sent w line got between
    × AreServedTrips more ws rest between later
AreServedTrips _ _ _ line later = ⊥

-- all packets of some trips, in their order
abbrev pub packets_of : List Traffic → List Packet
packets_of gots = concat (map (λ (got : Traffic). got.packets) gots)

-- a cycle over a ring's line
abbrev pub IsServedCycle : List Weather → RingState → List ItemRecord → List Traffic → List ControllerState
    → Type 0
IsServedCycle ws r items gots later = AreServedTrips (map plain (frames_of items)) ws gots (line_of r) later

-- what the line gave back on each trip
abbrev pub came_on_each : List Weather → List Traffic → AllThatCame
came_on_each (w ∷ ws) (got ∷ gots) = Ok (came_served w got) ∷ came_on_each ws gots
came_on_each _ _ = []

-- on each trip each copy that came met each slave as it was on this visit
abbrev pub AreAllMetOn : List Traffic → List (List Visit) → Type 0
AreAllMetOn [] [] = Unit {0}
AreAllMetOn (got ∷ gots) (vs ∷ runs) = AreMetOn got vs × AreAllMetOn gots runs
AreAllMetOn _ _ = ⊥

-- what came to a line is a cycle over one that moves, on which its slaves are visited so
pub record IsVisitedCycle (ws : List Weather) (r : RingState) (items : List ItemRecord) (gots : List Traffic)
    (later : List ControllerState) (runs : List (List Visit)) : Type 0 where
  pub moving : IsMovingCycle ws r items runs
  pub left : behind runs (line_of r) ≡ later
  pub met : AreAllMetOn gots runs
  pub given : AllGivenByMoving (trips_under ws r items) runs (came_on_each ws gots)
