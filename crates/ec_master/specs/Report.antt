-- What is told of the frames of a cycle, whatever its verdict: how far each working counter moved, and which
-- copies came back (IEC 61158-4-12, working counter).
use Rattle.std.specs.Prelude.{◌≡◌, ◌≤◌, ℕ, ◌+◌, ◌%◌, List, [], ◌∷◌, ◌++◌, length, map, take, Result, Ok, Err}
use Rattle.std.specs.Prelude.{is_some}
use Rattle.ec_wire.specs.Datagram.{DatagramRecord}
use Rattle.ec_merge.specs.Rule.{distance}
use Rattle.ec_esc.specs.State.{ControllerState}
use Rattle.ec_line.specs.Answered.{sent_of}
use Rattle.ec_line.specs.Trip.{Trip}
use Rattle.ec_map.specs.Item.{ItemRecord}
use Rattle.ec_ring.specs.Ring.{RingState, line_of}
use Rattle.ec_ring.specs.declared.links.TheConstants.{MAX_SLAVES}
use Rattle.ec_ring.specs.declared.port.PortFault.{PortFault}
use Rattle.ec_ring.specs.declared.weather.Came.{Came}
use Rattle.ec_ring.specs.declared.weather.Weather.{Weather}
use Rattle.ec_master.specs.Certificate.{carriers, count_of}
use Rattle.ec_master.specs.Cut.{frames_of}
use Rattle.ec_master.specs.Ports.{came_or, Trips, IsPortCycle}
use Rattle.ec_master.specs.Given.{AllThatCame, in_turn}
use Rattle.ec_master.specs.Moments.{SaysOfEachMoving}
use Rattle.ec_master.specs.Suffice.{Brings, AllGivenBy, SaysOfEach}
use Rattle.ec_master.specs.Travelled.{trips_under}
use Rattle.ec_master.specs.Unordered.{IsAccepted}
use Rattle.ec_master.specs.declared.cycle.CycleFault.{CycleFault}
use Rattle.ec_master.specs.declared.verdict.Verdict.{Verdict}
use Rattle.ec_master.specs.declared.report.CopiesBack.{CopiesBack}
use Rattle.ec_master.specs.declared.work.TheConstants.{MAX_ITEMS}

-- ---- one frame

-- how far the counter of each datagram moved in a copy; not at all where the copy has no such datagram
unfoldable pub moved_in : List DatagramRecord → List DatagramRecord → List ℕ
moved_in [] copy = []
moved_in (s ∷ ss) [] = 0 ∷ moved_in ss []
moved_in (s ∷ ss) (c ∷ cs) = distance s.counter c.counter ∷ moved_in ss cs

-- numbers added one by one, modulo 65,536
unfoldable pub added : List ℕ → List ℕ → List ℕ
added (x ∷ xs) (y ∷ ys) = (x + y) % 65536 ∷ added xs ys
added _ _ = []

-- how far each moved in both copies together; in a lost copy none did
abbrev pub counts_of : List DatagramRecord → Came → List ℕ
counts_of sent came = added (moved_in sent (came_or came.a sent)) (moved_in sent (came_or came.b sent))

-- which copies came back
abbrev pub copies_of : Came → CopiesBack
copies_of came = record { a = is_some came.a; b = is_some came.b }

-- ---- the frames of a cycle

-- the counts of datagrams, and the copies of frames, in the order in which they went out
pub record ReportRecord : Type 0 where
  pub counts : List ℕ
  pub copies : List CopiesBack

abbrev pub no_report : ReportRecord
no_report = record { counts = []; copies = [] }

-- one frame more, of which this came back; of either list no more is kept than a work has items, and of a
-- trip that failed nothing is
abbrev pub with_trip : ReportRecord → List DatagramRecord → Result Came PortFault → ReportRecord
with_trip r sent (Err failed) = r
with_trip r sent (Ok came) = record {
  counts = take MAX_ITEMS (r.counts ++ counts_of sent came);
  copies = take MAX_ITEMS (r.copies ++ copies_of came ∷ []);
}

-- the frames that went out, of which this came back
unfoldable pub with_trips : ReportRecord → List (List DatagramRecord) → AllThatCame → ReportRecord
with_trips r (sent ∷ rest) (came ∷ more) = with_trips (with_trip r sent came) rest more
with_trips r _ _ = r

-- ---- ports that keep a report

-- the ports, and what is told of the trips that they made
pub record Reported (P : Type 0) : Type 0 where
  pub ports : P
  pub report : ReportRecord

-- a trip is one of the ports, and the report has one frame more
pub record ReportedTrips {P : Type 0} (trips : Trips P) (before : Reported P) (sent : List DatagramRecord)
    (came : Result Came PortFault) (later : Reported P) : Type 0 where
  pub made : trips before.ports sent came later.ports
  pub told : later.report ≡ with_trip before.report sent came

-- ---- what counts are

-- what each item's counter gains: each slave's share, as often as a copy that came back has passed it on the
-- trip that carries the item
unfoldable pub counts_by_passes : List ItemRecord → List Trip → List ControllerState → List ℕ
counts_by_passes (r ∷ rs) (t ∷ ts) line = count_of r t line ∷ counts_by_passes rs ts line
counts_by_passes _ _ line = []

-- ---- a cycle

-- a cycle over ports and what is told of it. The frames that went out brought what came, the cycle is that of
-- what came, and the report has it; of each ring, in any weathers, that would have given what came, all is
-- said that a cycle over the ring says, still or moving, and each count is that of the slaves passed
pub record CycleIsTold {P : Type 0} (trips : Trips P) (before : P) (items : List ItemRecord)
    (expected : List ℕ) (result : Result Verdict CycleFault) (items_later : List ItemRecord)
    (report : ReportRecord) (later : P) : Type 0 where
  pub came : AllThatCame
  pub brought : Brings trips before (map sent_of (frames_of items)) came later
  pub cycle : IsPortCycle in_turn came items expected result items_later []
  pub says : SaysOfEach items expected came result items_later
  pub says_moving : SaysOfEachMoving items expected came result items_later
  pub told : report ≡ with_trips no_report (map sent_of (frames_of items)) came
  pub passes : (ws : List Weather) (r : RingState) → length r.slaves ≤ MAX_SLAVES → IsAccepted r.slaves items
      → AllGivenBy (trips_under ws r items) (line_of r) came
      → report.counts ≡ counts_by_passes items (carriers (trips_under ws r items)) (line_of r)
