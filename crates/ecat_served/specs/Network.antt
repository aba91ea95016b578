-- A cycle over a net at whose other end a line is served: its copies go out under their numbers, and of what
-- was taken that which bears a number of its trip is what the line made of a copy of that trip.
use Rattle.std.specs.Prelude.{◌≡◌, ◌⊎◌, ℕ, ◌+◌, ◌%◌, ◌^◌, List, [], ◌∷◌, length, Some, IfSome, Result}
use Rattle.ec_wire.specs.Datagram.{DatagramRecord}
use Rattle.ec_esc.specs.State.{ControllerState}
use Rattle.ec_line.specs.After.{Entry}
use Rattle.ec_line.specs.Moving.{Visit, behind}
use Rattle.ec_map.specs.Item.{ItemRecord}
use Rattle.ec_ring.specs.Ring.{RingState, line_of}
use Rattle.ec_ring.specs.declared.weather.Came.{Came}
use Rattle.ec_ring.specs.declared.weather.Weather.{Weather}
use Rattle.ec_seal.specs.Taken.{BearsOneOf}
use Rattle.ec_master.specs.Cut.{frames_of}
use Rattle.ec_master.specs.Moments.{IsMovingCycle, SaysOfMoving}
use Rattle.ec_master.specs.declared.cycle.CycleFault.{CycleFault}
use Rattle.ec_master.specs.declared.verdict.Verdict.{Verdict}
use Rattle.ecat_remote.specs.Moving.{NetworkGaveMoving, losing_each}
use Rattle.ecat_remote.specs.Network.{by_number}
use Rattle.ecat_served.specs.Cycles.{AreAllMetOn, AreServedTrips}
use Rattle.ecat_served.specs.Trips.{Sent, Traffic, came_served, sealed}

-- ---- what goes out

-- frames on trips from a number on
abbrev pub all_sealed : ℕ → List (List Entry) → List Sent
all_sealed n [] = []
all_sealed n (f ∷ fs) = sealed n f ∷ all_sealed ((n + 1) % 2 ^ 63) fs

-- a cycle from a trip on over a ring's line
abbrev pub IsSealedCycle : ℕ → List Weather → RingState → List ItemRecord → List Traffic
    → List ControllerState → Type 0
IsSealedCycle n ws r items gots later =
    AreServedTrips (all_sealed n (frames_of items)) ws gots (line_of r) later

-- ---- what is taken

-- what a function speaks of
abbrev domain : {X Y : Type 0} → (X → Y) → Type 0
domain {X} f = X

-- both copies that were taken on a trip, as the laws of ports that lie elsewhere have them
abbrev pub BothTaken : Type 0
BothTaken = domain by_number

-- a copy is what a line made of one of a trip's
abbrev pub IsMadeOf : Came → List DatagramRecord → Type 0
IsMadeOf came copy = (came.a ≡ Some copy) ⊎ (came.b ≡ Some copy)

-- what was taken on a trip with a number: what bears a number of the trip is what the line made of one of
-- its copies
pub record LineGave (n : ℕ) (came taken : Came) : Type 0 where
  pub a : IfSome taken.a (λ (copy : List DatagramRecord). BearsOneOf n copy → IsMadeOf came copy)
  pub b : IfSome taken.b (λ (copy : List DatagramRecord). BearsOneOf n copy → IsMadeOf came copy)

-- so it was on each trip; on the last ones nothing may have been taken, since they were not made
abbrev pub LineGaveAll : ℕ → List Weather → List Traffic → List BothTaken → Type 0
LineGaveAll n ws gots [] = Unit {0}
LineGaveAll n (w ∷ ws) (got ∷ gots) (both ∷ taken) =
    LineGave n (came_served w got) (by_number both) × LineGaveAll ((n + 1) % 2 ^ 63) ws gots taken
LineGaveAll n _ _ _ = ⊥

-- ---- what it comes to

-- what came to a line is a cycle over one that moves, and the net gave of it what was taken
pub record IsGivenCycle (n : ℕ) (ws : List Weather) (r : RingState) (items : List ItemRecord)
    (gots : List Traffic) (later : List ControllerState) (taken : List BothTaken) (runs : List (List Visit))
    : Type 0 where
  pub moving : IsMovingCycle ws r items runs
  pub left : behind runs (line_of r) ≡ later
  pub met : AreAllMetOn gots runs
  pub gave : NetworkGaveMoving n (length r.slaves) (frames_of items) ws runs taken

-- the end of a cycle says of a served line all that it says of one that moves, at the moments at which the
-- cycle's own packets met its slaves, and in weathers in which those copies are lost that were not taken
pub record SaysOfServed (ws : List Weather) (r : RingState) (items : List ItemRecord) (gots : List Traffic)
    (later : List ControllerState) (taken : List BothTaken) (result : Result Verdict CycleFault)
    (items_later : List ItemRecord) : Type 0 where
  pub runs : List (List Visit)
  pub met : AreAllMetOn gots runs
  pub left : behind runs (line_of r) ≡ later
  pub says : SaysOfMoving (losing_each taken ws) r items runs result items_later
