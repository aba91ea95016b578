-- What the copies of frames tell whatever the verdict on them: how they came back, at which ports, and how
-- far each working counter moved (IEC 61158-4-12, working counter and circulating bit).
use Rattle.std.specs.Prelude.{◌||◌, ◌++◌, ◌+◌, ◌%◌, nat_lt, if◌then◌else◌, ℕ, zero, suc, Bool, true, false}
use Rattle.std.specs.Prelude.{Option, None, Some, List, [], ◌∷◌, length, take}
use Rattle.ec_wire.specs.Datagram.{DatagramRecord, nth}
use Rattle.ec_merge.specs.Rule.{distance}
use Rattle.ec_ring.specs.declared.arrivals.Arrival.{Arrival}
use Rattle.ec_ring.specs.declared.arrivals.Arrivals.{Arrivals}
use Rattle.ec_ring.specs.declared.port.Port.{Port}
use Rattle.ec_ring.specs.declared.port.Port.TheVariants.{A, B}
use Rattle.ec_master.specs.declared.work.TheConstants.{MAX_ITEMS}
use Rattle.ec_run.specs.declared.tally.Signs.{Signs}
use Rattle.ec_run.specs.declared.tally.Ways.{Ways}
use Rattle.ec_run.specs.declared.tally.Ways.TheVariants.{Crossed, Turned, Lost}

-- ---- one frame

-- is it this port
abbrev pub is_port : Port → Port → Bool
is_port A A = true
is_port A B = false
is_port B A = false
is_port B B = true

-- did the copy arrive at this port
abbrev pub arrived : Option Arrival → Port → Bool
arrived None port = false
arrived (Some copy) port = is_port copy.at port

-- did a copy come at this port, before or of this frame
abbrev pub has_come : Bool → Arrivals → Port → Bool
has_come before came port = before || (arrived came.a port || arrived came.b port)

-- how copies came back, the first from port A, that arrived at these ports
abbrev pub way_between : Port → Port → Ways
way_between B A = Crossed
way_between A A = Turned
way_between A B = Turned
way_between B B = Turned

-- how the copies of a frame came back
abbrev pub ways_of : Option Arrival → Option Arrival → Ways
ways_of None b = Lost
ways_of (Some a) None = Lost
ways_of (Some a) (Some b) = way_between a.at b.at

-- the worse of two ways
abbrev pub worse : Ways → Ways → Ways
worse Crossed other = other
worse Turned Crossed = Turned
worse Turned Turned = Turned
worse Turned Lost = Lost
worse Lost other = Lost

-- how far the counter of the datagram of this number moved in a frame; not at all where it has none
abbrev pub moved_to : List DatagramRecord → List DatagramRecord → ℕ → ℕ
moved_to sent copy k =
    if nat_lt k (length copy) then distance (nth sent k).counter (nth copy k).counter else 0

-- and in a copy; not at all where it was lost
abbrev pub moved : List DatagramRecord → Option Arrival → ℕ → ℕ
moved sent None k = 0
moved sent (Some copy) k = moved_to sent copy.frame k

-- and in both copies together
abbrev pub moved_in_both : List DatagramRecord → Arrivals → ℕ → ℕ
moved_in_both sent came k = (moved sent came.a k + moved sent came.b k) % 65536

-- the first n of numbers, one by one
unfoldable pub first_of : (ℕ → ℕ) → ℕ → List ℕ
first_of number zero = []
first_of number (suc n) = first_of number n ++ number n ∷ []

-- and their sum, modulo 65,536
unfoldable pub total_of : (ℕ → ℕ) → ℕ → ℕ
total_of number zero = 0
total_of number (suc n) = (total_of number n + number n) % 65536

-- ---- the frames that have gone out

-- how their copies came back, how far the counters moved in those from port A, how far each counter moved in
-- both, and at which ports copies came
pub record TallyRecord : Type 0 where
  pub ways : Ways
  pub by_a : ℕ
  pub counts : List ℕ
  pub at_a : Bool
  pub at_b : Bool

-- before any has
abbrev pub nothing_told : TallyRecord
nothing_told = record { ways = Crossed; by_a = 0; counts = []; at_a = false; at_b = false }

-- one more; no more counters are kept than a work has items
abbrev pub with_frame : TallyRecord → List DatagramRecord → Arrivals → TallyRecord
with_frame h sent came = record {
  ways = worse h.ways (ways_of came.a came.b);
  by_a = (h.by_a + total_of (moved sent came.a) (length sent)) % 65536;
  counts = take MAX_ITEMS (h.counts ++ first_of (moved_in_both sent came) (length sent));
  at_a = has_come h.at_a came A;
  at_b = has_come h.at_b came B;
}

-- what is told but for how far each counter moved
abbrev pub without_counts : TallyRecord → TallyRecord
without_counts h = record h { counts = [] }

-- did a copy come at this port
abbrev pub came_at : Port → TallyRecord → Bool
came_at A h = h.at_a
came_at B h = h.at_b

-- how copies came back, and what those from port A counted
abbrev pub signs_of : TallyRecord → Signs
signs_of h = record { ways = h.ways; by_a = h.by_a }
