-- A network that gives packets whenever and as often as it will, of these trips, of others, of earlier runs
-- and of other masters, seen from the ports: which copies were taken on each trip, and what is asked of them.
use Rattle.std.specs.Prelude.{◌≡◌, ℕ, ◌+◌, ◌%◌, ◌^◌, List, [], ◌∷◌, length, Option, None, Some}
use Rattle.std.specs.Prelude.{IfSome, Result, Ok, Err}
use Rattle.ec_wire.specs.Datagram.{DatagramRecord}
use Rattle.ec_esc.specs.State.{ControllerState}
use Rattle.ec_map.specs.Item.{ItemRecord}
use Rattle.ec_ring.specs.Ring.{RingState, line_of, with_line}
use Rattle.ec_ring.specs.declared.port.Port.{Port}
use Rattle.ec_ring.specs.declared.port.Port.TheVariants.{A, B}
use Rattle.ec_ring.specs.declared.weather.Came.{Came}
use Rattle.ec_ring.specs.declared.weather.Weather.{Weather}
use Rattle.ec_seal.specs.Taken.{Made, GoesBack, BearsOneOf}
use Rattle.ec_seal.specs.Trips.{numbered_trip}
use Rattle.ec_master.specs.Cut.{frames_of}
use Rattle.ec_master.specs.Given.{AllThatCame}
use Rattle.ec_master.specs.Suffice.{AllGivenBy, SaysOf}
use Rattle.ec_master.specs.Travelled.{trips_under, run_under, ring_under}
use Rattle.ec_master.specs.declared.cycle.CycleFault.{CycleFault}
use Rattle.ec_master.specs.declared.verdict.Verdict.{Verdict}
use Rattle.ecat_remote.specs.Taken.{Gives, Heard, AreBoth, opened_came}
use Rattle.ecat_remote.specs.History.{PastTrip}
use Rattle.ecat_remote.specs.Trips.{RemoteState, IsTurn}
use Rattle.ecat_remote.specs.declared.copies.NumberedCopy.{NumberedCopy}
use Rattle.ecat_remote.specs.declared.enough.Both.{Both}

-- ---- what was taken

-- the frame of a copy, if it was sent from a port
abbrev pub frame_from : Port → Port → List DatagramRecord → Option (List DatagramRecord)
frame_from A A frame = Some frame
frame_from A B frame = None
frame_from B A frame = None
frame_from B B frame = Some frame

abbrev pub frame_if : Port → Option NumberedCopy → Option (List DatagramRecord)
frame_if from None = None
frame_if from (Some copy) = frame_from from copy.from copy.frame

-- the first of two frames that there is
abbrev pub first_of : Option (List DatagramRecord) → Option (List DatagramRecord)
    → Option (List DatagramRecord)
first_of None second = second
first_of (Some frame) second = Some frame

-- what was taken on a trip, by the port from which it was sent, at whatever port it was received
abbrev pub by_number : Both → Came
by_number both = record {
  a = first_of (frame_if A both.a) (frame_if A both.b);
  b = first_of (frame_if B both.a) (frame_if B both.b);
}

-- this was taken on a trip; opened, the copies are what came, and the trip had its turn
pub record Takes {C : Type 0} (gives : Gives C) (heard : Heard C) (before : RemoteState C)
    (sent : List DatagramRecord) (both : Both) (came : Came) (later : RemoteState C) : Type 0 where
  pub taken : AreBoth gives heard (heard before.carrier) before.next sent both later.carrier
  pub opened : came ≡ opened_came both
  pub turn : IsTurn before sent later

-- no trip failed
abbrev pub NoneFailed : AllThatCame → Type 0
NoneFailed [] = Unit {0}
NoneFailed (Ok came ∷ more) = NoneFailed more
NoneFailed (Err failed ∷ more) = ⊥

-- frames go out one after the other, none of these trips fails, and on each this was taken; the last frames
-- may not have gone out
unfoldable pub TakesAll : {C : Type 0} → Gives C → Heard C → RemoteState C
    → List (List DatagramRecord) → List Both → AllThatCame → RemoteState C → Type 0
TakesAll gives heard before frames taken [] later = (taken ≡ []) × (later ≡ before)
TakesAll {C} gives heard before (sent ∷ frames) (both ∷ taken) (Ok came ∷ more) later =
    (between : RemoteState C) × Takes gives heard before sent both came between
    × TakesAll gives heard between frames taken more later
TakesAll gives heard before frames taken (came ∷ more) later = ⊥

-- the trips of frames from a number on
abbrev pub pasts_of : ℕ → List (List DatagramRecord) → List Both → List PastTrip
pasts_of number (sent ∷ frames) (both ∷ taken) =
    record { number = number; frame = sent } ∷ pasts_of ((number + 1) % 2 ^ 63) frames taken
pasts_of number _ _ = []

-- ---- what the network gave

-- what was taken on a trip: what bears a number of this trip is one of its two copies. Nobody else makes
-- packets with its numbers, and each copy walked once over the line; what bears other numbers, or none, may
-- be anything
pub record Gave (m : Made) (taken : Came) : Type 0 where
  pub a : IfSome taken.a (λ (copy : List DatagramRecord). BearsOneOf m.number copy → GoesBack m copy)
  pub b : IfSome taken.b (λ (copy : List DatagramRecord). BearsOneOf m.number copy → GoesBack m copy)

-- frames go out one after the other, each on the next trip over the line that the last one left; and on each
-- trip the network gave what was taken, under some weather. This is the line behind the last trip
abbrev pub NetworkGaveAll : ℕ → List ControllerState → List (List DatagramRecord) → List Both
    → List ControllerState → Type 0
NetworkGaveAll trip line frames [] behind = behind ≡ line
NetworkGaveAll trip line [] (both ∷ taken) behind = ⊥
NetworkGaveAll trip line (sent ∷ frames) (both ∷ taken) behind =
    (w : Weather)
    × Gave (record { number = trip; frame = sent; weather = w; line = line }) (by_number both)
    × NetworkGaveAll ((trip + 1) % 2 ^ 63) (numbered_trip trip w sent line).line frames taken behind

-- ---- what it says of the ring

-- this was taken on the trips, none of which failed
pub record AreAllTaken {C : Type 0} (gives : Gives C) (heard : Heard C)
    (before : RemoteState C) (frames : List (List DatagramRecord)) (came : AllThatCame)
    (later : RemoteState C) : Type 0 where
  pub taken : List Both
  pub takes : TakesAll gives heard before frames taken came later

-- in some weathers the ring's own trips, with nothing late, give what came; where all frames went out, they
-- leave the line that was left
pub record IsGivenBy (r : RingState) (items : List ItemRecord) (came : AllThatCame)
    (behind : List ControllerState) : Type 0 where
  pub weathers : List Weather
  pub given : AllGivenBy (trips_under weathers r items) (line_of r) came
  pub left : length came ≡ length (frames_of items) → behind ≡ (run_under weathers r items).line

-- in some weathers the end of the cycle says of the ring all that a cycle over it says; where all frames went
-- out, the ring behind that cycle is the one that was left
pub record IsOfCycle (r : RingState) (items : List ItemRecord) (came : AllThatCame)
    (behind : List ControllerState) (result : Result Verdict CycleFault) (items_later : List ItemRecord)
    : Type 0 where
  pub weathers : List Weather
  pub says : SaysOf weathers r items result items_later
  pub left : length came ≡ length (frames_of items) → ring_under weathers r items ≡ with_line r behind
