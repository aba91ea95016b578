-- A cycle over a net at whose other end a line is served: its numbers go through, and what the line made of
-- its copies is what the net gave.
use Rattle.std.specs.Prelude.{◌≡◌, ℕ, ◌+◌, ◌%◌, ◌^◌}
use Rattle.std.specs.Prelude.{List, [], ◌∷◌, length}
use Rattle.std.specs.List.{AllByRecursion}
use Rattle.std.proofs.Common.{ap, sym, subst, ◌∙◌}
use Rattle.ec_esc.specs.State.{ControllerState}
use Rattle.ec_line.specs.After.{Entry}
use Rattle.ec_line.specs.Moving.{Visit, MovingTrips, behind}
use Rattle.ec_map.specs.Item.{ItemRecord}
use Rattle.ec_ring.specs.Ring.{RingState, line_of}
use Rattle.ec_ring.specs.Travel.{trip_of}
use Rattle.ec_ring.specs.declared.links.Links.{Links}
use Rattle.ec_ring.specs.declared.weather.Came.{Came}
use Rattle.ec_ring.specs.declared.weather.Weather.{Weather}
use Rattle.ec_ring.proofs.Laws.{length-controllers}
use Rattle.ec_seal.specs.Moving.{moving_back}
use Rattle.ec_master.specs.Cut.{frames_of}
use Rattle.ec_master.specs.Travelled.{trips_of}
use Rattle.ecat_remote.specs.Moving.{GaveMoving, NetworkGaveMoving}
use Rattle.ecat_remote.specs.Network.{by_number}
use Rattle.ecat_served.specs.Cycles.{AreAllMetOn, AreServedTrips}
use Rattle.ecat_served.specs.Trips.{Traffic, came_served}
use Rattle.ecat_served.specs.Network.{BothTaken, IsGivenCycle, IsSealedCycle, LineGave, LineGaveAll}
use Rattle.ecat_served.specs.Network.{all_sealed}
use Rattle.ecat_served.proofs.CycleLemmas.{still_frames}
use Rattle.ecat_served.proofs.PlainLemmas.{Still}
use Rattle.ecat_served.proofs.SealedLemmas.{GoThroughA, GoThroughB, SealedTrip, sealed_trip}

gave_moving : (n : ℕ) (f : List Entry) (w : Weather) (size : ℕ) (line later : List ControllerState)
    (got : Traffic) (taken : Came) (trip : SealedTrip n f w size line got later)
    → LineGave n (came_served w got) taken → GaveMoving n (trip_of w f size) trip.visits taken
gave_moving n f w size line later got taken trip gave =
    let is : LineGave n (moving_back n (trip_of w f size) trip.visits) taken =
    subst (λ (c : Came). LineGave n c taken) trip.came gave in
    record { at_a = trip.at_a; at_b = trip.at_b; a = is.a; b = is.b }

-- ---- the trips of frames

record SealedTrips (links : Links) (n size : ℕ) (fs : List (List Entry)) (ws : List Weather)
    (gots : List Traffic) (line later : List ControllerState) (taken : List BothTaken) : Type 0 where
  runs : List (List Visit)
  moving : MovingTrips (trips_of ws links size fs) runs line
  later_is : behind runs line ≡ later
  met : AreAllMetOn gots runs
  gave : NetworkGaveMoving n size fs ws runs taken

-- a trip before others, of which this was taken on the whole
one_more : (links : Links) (n size : ℕ) (f : List Entry) (fs : List (List Entry)) (w : Weather)
    (ws : List Weather) (got : Traffic) (gots : List Traffic) (line between later : List ControllerState)
    (taken whole : List BothTaken) (first : SealedTrip n f w size line got between)
    (rest : SealedTrips links ((n + 1) % 2 ^ 63) size fs ws gots between later taken)
    → NetworkGaveMoving n size (f ∷ fs) (w ∷ ws) (first.visits ∷ rest.runs) whole
    → SealedTrips links n size (f ∷ fs) (w ∷ ws) (got ∷ gots) line later whole
unfolding trips_of
one_more links n size f fs w ws got gots line between later taken whole first rest gave = record {
  runs = first.visits ∷ rest.runs;
  moving = (
    first.is.moving,
    subst (λ (l : List ControllerState). MovingTrips (trips_of ws links size fs) rest.runs l)
        (sym first.is.left) rest.moving,
  );
  later_is = ap (behind rest.runs) first.is.left ∙ rest.later_is;
  met = (first.is.met, rest.met);
  gave = gave;
}

sealed_trips : GoThroughA → GoThroughB → (links : Links) (n size : ℕ) (fs : List (List Entry))
    (ws : List Weather) (gots : List Traffic) (line later : List ControllerState) (taken : List BothTaken)
    → length line ≡ size → AllByRecursion Still fs → AreServedTrips (all_sealed n fs) ws gots line later
    → LineGaveAll n ws gots taken → SealedTrips links n size fs ws gots line later taken
unfolding trips_of
sealed_trips ta tb links n size [] [] [] line later [] is still served gave =
    record { runs = []; moving = tt; later_is = sym served; met = tt; gave = tt }
sealed_trips ta tb links n size [] [] [] line later (both ∷ taken) is still served gave = absurd gave
sealed_trips ta tb links n size [] [] (got ∷ gots) line later taken is still served gave = absurd served
sealed_trips ta tb links n size [] (w ∷ ws) gots line later taken is still served gave = absurd served
sealed_trips ta tb links n size (f ∷ fs) [] gots line later taken is still served gave = absurd served
sealed_trips ta tb links n size (f ∷ fs) (w ∷ ws) [] line later taken is still served gave = absurd served
sealed_trips ta tb links n size (f ∷ fs) (w ∷ ws) (got ∷ gots) line later [] is still served gave =
    let between : List ControllerState = served.0 in
    let first : SealedTrip n f w size line got between =
    subst (λ k. SealedTrip n f w k line got between) is
    (sealed_trip ta tb n f w line between got still.0 served.1) in
    let rest : SealedTrips links ((n + 1) % 2 ^ 63) size fs ws gots between later [] =
    sealed_trips ta tb links ((n + 1) % 2 ^ 63) size fs ws gots between later [] first.size_is still.1
    served.2 tt in
    one_more links n size f fs w ws got gots line between later [] [] first rest tt
sealed_trips ta tb links n size (f ∷ fs) (w ∷ ws) (got ∷ gots) line later (both ∷ taken) is still served
    gave =
    let between : List ControllerState = served.0 in
    let first : SealedTrip n f w size line got between =
    subst (λ k. SealedTrip n f w k line got between) is
    (sealed_trip ta tb n f w line between got still.0 served.1) in
    let rest : SealedTrips links ((n + 1) % 2 ^ 63) size fs ws gots between later taken =
    sealed_trips ta tb links ((n + 1) % 2 ^ 63) size fs ws gots between later taken first.size_is still.1
    served.2 gave.1 in
    one_more links n size f fs w ws got gots line between later taken (both ∷ taken) first rest
    (gave_moving n f w size line between got (by_number both) first gave.0, rest.gave)

pub sealed_cycle : GoThroughA → GoThroughB → (n : ℕ) (ws : List Weather) (r : RingState)
    (items : List ItemRecord) (gots : List Traffic) (later : List ControllerState) (taken : List BothTaken)
    → IsSealedCycle n ws r items gots later → LineGaveAll n ws gots taken
    → (runs : List (List Visit)) × IsGivenCycle n ws r items gots later taken runs
sealed_cycle ta tb n ws r items gots later taken served gave =
    let all = sealed_trips ta tb r.links n (length r.slaves) (frames_of items) ws gots (line_of r) later taken
    (length-controllers r.slaves) (still_frames items) served gave in (
      all.runs,
      record { moving = all.moving; left = all.later_is; met = all.met; gave = all.gave },
    )
