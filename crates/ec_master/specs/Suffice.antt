-- Of ports only what came back of each frame counts: where it is what a ring's trips give, the end of a cycle
-- says of that ring all that a cycle over the ring says.
use Rattle.std.specs.Prelude.{◌≡◌, ◌≢◌, ◌≤◌, ◌<◌, ◌+◌, ℕ, List, [], ◌∷◌, length, map, Result, Ok, Some}
use Rattle.std.specs.List.{AllByRecursion}
use Rattle.ec_wire.specs.Datagram.{DatagramRecord}
use Rattle.ec_regs.specs.declared.registers.TheConstants.{PROCESS_MEMORY, PROCESS_MEMORY_SIZE}
use Rattle.ec_app.specs.State.{SlaveState}
use Rattle.ec_esc.specs.State.{ControllerState}
use Rattle.ec_line.specs.Answered.{sent_of}
use Rattle.ec_line.specs.Shown.{ShowsLast}
use Rattle.ec_line.specs.Trip.{Trip, passed}
use Rattle.ec_map.specs.Item.{ItemRecord, IsItem}
use Rattle.ec_map.specs.Share.{expected_of}
use Rattle.ec_ring.specs.Ring.{RingState, line_of}
use Rattle.ec_ring.specs.declared.links.TheConstants.{MAX_SLAVES}
use Rattle.ec_ring.specs.declared.weather.Came.{Came}
use Rattle.ec_ring.specs.declared.weather.Weather.{Weather}
use Rattle.ec_master.specs.Again.{AskTheSame}
use Rattle.ec_master.specs.Certificate.{verdict_by_counts, memory_at, shown_at}
use Rattle.ec_master.specs.Cut.{frames_of}
use Rattle.ec_master.specs.Given.{AllThatCame, in_turn, Gives}
use Rattle.ec_master.specs.Moments.{SaysOfEachMoving}
use Rattle.ec_master.specs.Ports.{Trips, IsPortCycle}
use Rattle.ec_master.specs.Rounds.{round_counter, AreRecent, AreOfRound}
use Rattle.ec_master.specs.Travelled.{trips_under, ring_under}
use Rattle.ec_master.specs.Unordered.{by_station, slaves_after_all, AreAnswers, IsAccepted}
use Rattle.ec_master.specs.declared.cycle.CycleFault.{CycleFault}
use Rattle.ec_ring.specs.declared.port.PortFault.{PortFault}
use Rattle.ec_master.specs.declared.verdict.Verdict.{Verdict}
use Rattle.ec_master.specs.declared.verdict.Verdict.TheVariants.{Good}

-- ---- what came back

-- frames go out from these ports on, and this comes back of them; the last ones may not have gone out
unfoldable pub Brings : {P : Type 0} → Trips P → P → List (List DatagramRecord) → AllThatCame → P → Type 0
Brings trips before sent [] later = later ≡ before
Brings trips before [] (came ∷ more) later = ⊥
Brings {P} trips before (sent ∷ rest) (came ∷ more) later =
    (between : P) × trips before sent came between × Brings trips between rest more later

-- ---- what a ring gives

-- the trip over a line gives these copies, in either place
abbrev pub GivenBy : Trip → List ControllerState → Result Came PortFault → Type 0
GivenBy t line came = Gives t (passed t line) came

-- each trip over the line, as those before left it, gives what came; the last ones may not have been made
unfoldable pub AllGivenBy : List Trip → List ControllerState → AllThatCame → Type 0
AllGivenBy ts line [] = Unit {0}
AllGivenBy [] line (came ∷ more) = ⊥
AllGivenBy (t ∷ ts) line (came ∷ more) = GivenBy t line came × AllGivenBy ts (passed t line).line more

-- ---- what it says of the ring

-- there is no fault, and the verdict is that by counts; on a good one the items have the answers of the
-- unordered cycle, and the ring's slaves its memories and, where the last item that shows a byte in a frame
-- is the last that writes it, its shown bytes; on another verdict the items are as they were. Behind the
-- trips the ring accepts items that ask the same, and what is expected of their counters is as it was
pub record SaysOf (ws : List Weather) (r : RingState) (items : List ItemRecord)
    (result : Result Verdict CycleFault) (items_later : List ItemRecord) : Type 0 where
  pub counted : result ≡ Ok (verdict_by_counts (trips_under ws r items) items (line_of r))
  pub good : result ≡ Ok Good → AreAnswers (by_station r.slaves) items items_later
  pub memories : result ≡ Ok Good → (n : ℕ)
      → memory_at (by_station (ring_under ws r items).slaves) n
      ≡ memory_at (slaves_after_all items (by_station r.slaves)) n
  pub outputs : result ≡ Ok Good → (n k : ℕ) (s : SlaveState) → k < PROCESS_MEMORY_SIZE
      → by_station r.slaves n ≡ Some s
      → AllByRecursion (ShowsLast s.controller (PROCESS_MEMORY + k)) (frames_of items)
      → shown_at (by_station (ring_under ws r items).slaves) k n
      ≡ shown_at (slaves_after_all items (by_station r.slaves)) k n
  pub untouched : result ≢ Ok Good → items_later ≡ items
  pub asks_the_same : AskTheSame items items_later
  pub again : (others : List ItemRecord) → AskTheSame items others
      → IsAccepted (ring_under ws r items).slaves others
  pub still_expected : (others : List ItemRecord) → AllByRecursion IsItem others
      → AskTheSame items others
      → map (expected_of (line_of (ring_under ws r items))) others ≡ map (expected_of (line_of r)) items

-- so it is of each ring, in any weathers, that would have given what came
abbrev pub SaysOfEach : List ItemRecord → List ℕ → AllThatCame → Result Verdict CycleFault → List ItemRecord
    → Type 0
SaysOfEach items expected came result items_later =
    (ws : List Weather) (r : RingState) → length r.slaves ≤ MAX_SLAVES → IsAccepted r.slaves items
    → expected ≡ map (expected_of (line_of r)) items → AllGivenBy (trips_under ws r items) (line_of r) came
    → SaysOf ws r items result items_later

-- the cycle over ports is that of what its trips brought, and says so of each such ring, whether it is still
-- or moves while the frames travel. Where the items began a round and every copy is of that round or of one
-- of the fifteen before it, a good verdict rests on none of these
pub record FramesSuffice {P : Type 0} (trips : Trips P) (before : P) (items : List ItemRecord)
    (expected : List ℕ) (result : Result Verdict CycleFault) (items_later : List ItemRecord) (later : P)
    : Type 0 where
  pub came : AllThatCame
  pub brought : Brings trips before (map sent_of (frames_of items)) came later
  pub cycle : IsPortCycle in_turn came items expected result items_later []
  pub says : SaysOfEach items expected came result items_later
  pub says_moving : SaysOfEachMoving items expected came result items_later
  pub this_round : (k : ℕ) → result ≡ Ok Good
      → AllByRecursion (λ (r : ItemRecord). r.counter ≡ round_counter k) items
      → AllByRecursion (λ (e : ℕ). e < 4096) expected → AllByRecursion (AreRecent k) came
      → AllByRecursion (AreOfRound k) came
