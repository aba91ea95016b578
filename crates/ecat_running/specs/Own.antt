-- What the end of a cycle of a running master says, whatever the network gave.
use Rattle.std.specs.Prelude.{◌≡◌, ◌≤◌, ℕ, List, length, map}
use Rattle.std.specs.List.{AllByRecursion}
use Rattle.ec_wire.specs.Datagram.{DatagramRecord}
use Rattle.ec_esc.specs.State.{ControllerState}
use Rattle.ec_line.specs.Answered.{sent_of}
use Rattle.ec_line.specs.Moving.{Visit}
use Rattle.ec_map.specs.Item.{ItemRecord}
use Rattle.ec_map.specs.Share.{expected_of}
use Rattle.ec_ring.specs.Ring.{RingState, line_of}
use Rattle.ec_ring.specs.declared.links.TheConstants.{MAX_SLAVES}
use Rattle.ec_ring.specs.declared.weather.Weather.{Weather}
use Rattle.ec_master.specs.Cut.{frames_of}
use Rattle.ec_master.specs.Given.{AllThatCame}
use Rattle.ec_master.specs.Moments.{IsMovingCycle, SaysOfMoving}
use Rattle.ec_master.specs.Unordered.{IsAccepted}
use Rattle.ec_run.specs.Cycles.{End}
use Rattle.ecat_remote.specs.Moving.{NetworkGaveMoving, losing_each}
use Rattle.ecat_remote.specs.Network.{AreAllTaken, IsOfCycle, NetworkGaveAll, NoneFailed, TakesAll}
use Rattle.ecat_remote.specs.Network.{by_number}
use Rattle.ecat_remote.specs.Taken.{Gives, Heard}
use Rattle.ecat_remote.specs.Trips.{HasRoom, RemoteState}

-- what a function takes
abbrev domain : {X Y : Type 0} → (X → Y) → Type 0
domain {X} f = X

-- both copies that were taken on a trip, as the laws of ports that lie elsewhere have them
abbrev pub BothTaken : Type 0
BothTaken = domain by_number

-- a ring accepts these items, and this is what its slaves add to their counters
pub record Expects (r : RingState) (items : List ItemRecord) (expected : List ℕ) : Type 0 where
  pub size : length r.slaves ≤ MAX_SLAVES
  pub accepted : IsAccepted r.slaves items
  pub expects : expected ≡ map (expected_of (line_of r)) items

-- a cycle that was made: its items, what each of them is expected to count, how it ended, and the items that
-- it brought
pub record MadeCycle : Type 0 where
  pub items : List ItemRecord
  pub expected : List ℕ
  pub end : End
  pub brought : List ItemRecord

-- what its trips send
abbrev pub sent_in : MadeCycle → List (List DatagramRecord)
sent_in cycle = map sent_of (frames_of cycle.items)

-- over whatever ring that accepts its items, where what bears a number of a trip of this cycle is one of that
-- trip's two copies, its end says of the ring all that a cycle over it says: over one that stands still while
-- the frames travel, and over one that moves
pub record SaysOfTheRing {C : Type 0} (gives : Gives C) (heard : Heard C) (before : RemoteState C)
    (cycle : MadeCycle) (came : AllThatCame) (later : RemoteState C) : Type 0 where
  pub still : (r : RingState) (taken : List BothTaken) (behind : List ControllerState)
      → Expects r cycle.items cycle.expected → TakesAll gives heard before (sent_in cycle) taken came later
      → NetworkGaveAll before.next (line_of r) (sent_in cycle) taken behind
      → IsOfCycle r cycle.items came behind cycle.end cycle.brought
  pub moving : (r : RingState) (ws : List Weather) (runs : List (List Visit)) (taken : List BothTaken)
      → Expects r cycle.items cycle.expected → IsMovingCycle ws r cycle.items runs
      → TakesAll gives heard before (sent_in cycle) taken came later
      → NetworkGaveMoving before.next (length r.slaves) (frames_of cycle.items) ws runs taken
      → SaysOfMoving (losing_each taken ws) r cycle.items runs cycle.end cycle.brought

-- such a cycle: of each of its trips, where none failed and each frame had room for a number, it is known
-- which copies were taken; and so its end says of the ring what a cycle over it says
pub record IsOwn {C : Type 0} (gives : Gives C) (heard : Heard C) (before : RemoteState C)
    (cycle : MadeCycle) (later : RemoteState C) : Type 0 where
  pub came : AllThatCame
  pub taken : NoneFailed came → AllByRecursion HasRoom (sent_in cycle)
      → AreAllTaken gives heard before (sent_in cycle) came later
  pub says : SaysOfTheRing gives heard before cycle came later
