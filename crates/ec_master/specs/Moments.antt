-- A cycle over a ring that moves: between the passages of the copies each slave's application may do whatever
-- leaves its mapping and its outputs; and what the counters certify of such a cycle (IEC 61158-4-12, sync
-- manager, buffered mode).
use Rattle.std.specs.Prelude.{◌≡◌, ◌≢◌, ◌≤◌, ℕ, List, [], ◌∷◌, length, map, take, drop, Result, Ok}
use Rattle.std.specs.List.{AllByRecursion}
use Rattle.ec_wire.specs.Datagram.{DatagramRecord}
use Rattle.ec_app.specs.State.{SlaveState}
use Rattle.ec_line.specs.Moving.{Visit, MovingTrips, AllAlike, IsPassedOnce, SameWritten, SameShownWritten}
use Rattle.ec_line.specs.Moving.{copy_a, copy_b, joined_on_each, seen, front_of, laters, behind}
use Rattle.ec_line.specs.Run.{after_trips}
use Rattle.ec_line.specs.Trip.{Trip, Passed}
use Rattle.ec_map.specs.Item.{ItemRecord, IsItem}
use Rattle.ec_map.specs.Share.{expected_of}
use Rattle.ec_ring.specs.Ring.{RingState, line_of, controllers, with_controllers, with_line}
use Rattle.ec_ring.specs.declared.links.TheConstants.{MAX_SLAVES}
use Rattle.ec_ring.specs.declared.port.PortFault.{PortFault}
use Rattle.ec_ring.specs.declared.weather.Came.{Came}
use Rattle.ec_ring.specs.declared.weather.Weather.{Weather}
use Rattle.ec_master.specs.Again.{AskTheSame}
use Rattle.ec_master.specs.Certificate.{verdict_by_counts}
use Rattle.ec_master.specs.Covered.{InputsStand}
use Rattle.ec_master.specs.Cut.{concat}
use Rattle.ec_master.specs.Given.{AllThatCame, Gives}
use Rattle.ec_master.specs.Travelled.{trips_under}
use Rattle.ec_master.specs.Unordered.{by_station, AreAnswers, IsAccepted}
use Rattle.ec_master.specs.Verdict.{verdict}
use Rattle.ec_master.specs.declared.cycle.CycleFault.{CycleFault}
use Rattle.ec_master.specs.declared.verdict.Verdict.{Verdict}
use Rattle.ec_master.specs.declared.verdict.Verdict.TheVariants.{Good}

-- ---- the cycle

-- while a work's frames travel over a ring, each under its weather, its slaves move so
abbrev pub IsMovingCycle : List Weather → RingState → List ItemRecord → List (List Visit) → Type 0
IsMovingCycle ws r items runs = MovingTrips (trips_under ws r items) runs (line_of r)

-- the answer of each item
abbrev pub answers_moving : List Weather → RingState → List ItemRecord → List (List Visit)
    → List DatagramRecord
answers_moving ws r items runs = concat (joined_on_each (trips_under ws r items) runs)

-- the master's verdict
abbrev pub verdict_moving : List Weather → RingState → List ItemRecord → List (List Visit) → Verdict
verdict_moving ws r items runs =
    verdict items (answers_moving ws r items runs) (map (expected_of (line_of r)) items)

-- ---- an image of moments

-- the slaves, each with its controller as it was at its moment of a frame's trip, a passage of a copy that
-- came back; their applications are not told
abbrev pub slaves_seen : Trip → List Visit → List SlaveState → List SlaveState
slaves_seen t vs slaves = with_controllers slaves (seen (front_of t) vs)

-- the items of a frame have the answers of slaves that are mapped as they were, each at its moment, and in
-- them each input that they read as it was then; a slave that counts an item was passed by exactly one of the
-- copies that came back
pub record IsFrameAtMoments (slaves : List SlaveState) (t : Trip) (vs : List Visit)
    (sent got : List ItemRecord) : Type 0 where
  pub alike : AllAlike (controllers slaves) (seen (front_of t) vs)
  pub answers : AreAnswers (by_station (slaves_seen t vs slaves)) sent got
  pub inputs : InputsStand (slaves_seen t vs slaves) sent got
  pub once : AllByRecursion (IsPassedOnce t (controllers slaves)) t.entries

-- so it is of each frame, with the items that it carries
abbrev pub FramesAtMoments : List SlaveState → List Trip → List (List Visit) → List ItemRecord
    → List ItemRecord → Type 0
FramesAtMoments slaves [] [] [] [] = Unit {0}
FramesAtMoments slaves (t ∷ ts) (vs ∷ rest) sent got =
    let n = length t.entries in
    IsFrameAtMoments slaves t vs (take n sent) (take n got)
    × FramesAtMoments slaves ts rest (drop n sent) (drop n got)
FramesAtMoments slaves _ _ _ _ = ⊥

-- behind the cycle each bit that an accepted request writes is the one that was sent last
abbrev pub OutputsLast : List Weather → RingState → List ItemRecord → List (List Visit) → Type 0
OutputsLast ws r items runs =
    let line = line_of r in SameWritten line (behind runs line) (after_trips (trips_under ws r items) line)

-- and so it is shown to the applications, where in each frame the last entry that shows its byte is the last
-- that writes it
abbrev pub OutputsShown : List Weather → RingState → List ItemRecord → List (List Visit) → Type 0
OutputsShown ws r items runs =
    let line = line_of r in
    let ts = trips_under ws r items
    in SameShownWritten ts line (behind runs line) (after_trips ts line)

-- the ring behind the cycle; of applications only what they leave in their controllers is told
abbrev pub ring_moving : RingState → List (List Visit) → RingState
ring_moving r runs = with_line r (behind runs (line_of r))

-- ---- over ports

-- the copies of a trip, and the line behind it
abbrev pub copies_moving : Trip → List Visit → Passed
copies_moving t vs = record { a = (copy_a t vs).frame; b = (copy_b t vs).frame; line = laters vs }

-- the trip gives these copies, in either place
abbrev pub GivenByMoving : Trip → List Visit → Result Came PortFault → Type 0
GivenByMoving t vs came = Gives t (copies_moving t vs) came

-- each trip gives what came; the last ones may not have been made
unfoldable pub AllGivenByMoving : List Trip → List (List Visit) → AllThatCame → Type 0
AllGivenByMoving ts runs [] = Unit {0}
AllGivenByMoving [] runs (came ∷ more) = ⊥
AllGivenByMoving (t ∷ ts) [] (came ∷ more) = ⊥
AllGivenByMoving (t ∷ ts) (vs ∷ rest) (came ∷ more) =
    GivenByMoving t vs came × AllGivenByMoving ts rest more

-- there is no fault, and the verdict is that by counts; on a good one each frame's items have the answers of
-- the slaves, each at one moment of that frame's trip, and the outputs are those sent last; on another the
-- items are as they were. Behind the trips the ring accepts items that ask the same, and what is expected of
-- their counters is as it was
pub record SaysOfMoving (ws : List Weather) (r : RingState) (items : List ItemRecord)
    (runs : List (List Visit)) (result : Result Verdict CycleFault) (items_later : List ItemRecord)
    : Type 0 where
  pub counted : result ≡ Ok (verdict_by_counts (trips_under ws r items) items (line_of r))
  pub image : result ≡ Ok Good → FramesAtMoments r.slaves (trips_under ws r items) runs items items_later
  pub outputs : result ≡ Ok Good → OutputsLast ws r items runs
  pub shown : result ≡ Ok Good → OutputsShown ws r items runs
  pub untouched : result ≢ Ok Good → items_later ≡ items
  pub again : (others : List ItemRecord) → AskTheSame items others
      → IsAccepted (ring_moving r runs).slaves others
  pub still_expected : (others : List ItemRecord) → AllByRecursion IsItem others → AskTheSame items others
      → map (expected_of (line_of (ring_moving r runs))) others ≡ map (expected_of (line_of r)) items

-- so it is of each ring, in any weathers and however it moves, that would have given what came
abbrev pub SaysOfEachMoving : List ItemRecord → List ℕ → AllThatCame → Result Verdict CycleFault
    → List ItemRecord → Type 0
SaysOfEachMoving items expected came result items_later =
    (ws : List Weather) (r : RingState) (runs : List (List Visit)) → length r.slaves ≤ MAX_SLAVES
    → IsAccepted r.slaves items → IsMovingCycle ws r items runs
    → expected ≡ map (expected_of (line_of r)) items → AllGivenByMoving (trips_under ws r items) runs came
    → SaysOfMoving ws r items runs result items_later
