-- What happens with the packets of a capture, one after the other; and that each is told once: as a copy of
-- one trip, or as late or stray.
use Rattle.std.specs.Prelude.{◌≡◌, ℕ, ◌+◌, Option, None, Some, List, [], ◌∷◌, is_some}
use Rattle.std.specs.Prelude.{if◌then◌else◌}
use Rattle.ec_wire.specs.Datagram.{DatagramRecord}
use Rattle.ecat_trips.specs.declared.packet.Outline.{Outline}
use Rattle.ecat_trips.specs.declared.trip.Trip.{Trip}
use Rattle.ecat_trips.specs.declared.marks.Marks.{Marks}
use Rattle.ecat_trips.specs.declared.trips.Fate.TheVariants.{Begins, Replaces, Second, Back, Closes, Late}
use Rattle.ecat_trips.specs.declared.trips.Fate.TheVariants.{Stray}
use Rattle.ecat_trips.specs.declared.trips.Step.{Step}
use Rattle.ecat_trips.specs.declared.trips.Step.TheVariants.{Ended, Taken}
use Rattle.ecat_trips.specs.Steps.{TripsState, step}

-- one thing that happened, and with which packet
pub record Happened : Type 0 where
  pub packet : Outline
  pub frame : List DatagramRecord
  pub step : Step

-- no packet was taken yet
abbrev pub nothing : TripsState
nothing = record { on_the_way = []; lost = [] }

-- what happens from one state to another, one thing after the other
abbrev pub Runs : Marks → TripsState → List Happened → TripsState → Type 0
Runs m s [] t = t ≡ s
Runs m s (h ∷ hs) t =
    (h.step ≡ (step m h.packet h.frame s).step) × Runs m (step m h.packet h.frame s).after hs t

-- ---- the copies of trips

-- a measure of packets, of a packet that there may be
abbrev pub of_some : (Outline → ℕ) → Option Outline → ℕ
of_some measure None = 0
of_some measure (Some p) = measure p

-- of all copies of a trip together
unfoldable pub of_copies : (Outline → ℕ) → Trip → ℕ
of_copies measure t =
    measure t.first + of_some measure t.second + of_some measure t.back + of_some measure t.again

-- of the packet that is taken, if it is
abbrev pub taken_by : ℕ → Step → ℕ
taken_by n (Ended t) = 0
taken_by n (Taken told what) = n

abbrev pub of_taken : (Outline → ℕ) → Happened → ℕ
of_taken measure h = taken_by (measure h.packet) h.step

-- of the packet that is told late or stray, if it is
abbrev pub astray_by : ℕ → Step → ℕ
astray_by n (Ended t) = 0
astray_by n (Taken told Begins) = 0
astray_by n (Taken told (Replaces t)) = 0
astray_by n (Taken told (Second began)) = 0
astray_by n (Taken told (Back began)) = 0
astray_by n (Taken told (Closes t)) = 0
astray_by n (Taken told Late) = n
astray_by n (Taken told Stray) = n

abbrev pub of_astray : (Outline → ℕ) → Happened → ℕ
of_astray measure h = astray_by (measure h.packet) h.step

-- a measure of the trip that ends, if one does
abbrev pub ended_by : (Trip → ℕ) → Step → ℕ
ended_by f (Ended t) = f t
ended_by f (Taken told Begins) = 0
ended_by f (Taken told (Replaces t)) = f t
ended_by f (Taken told (Second began)) = 0
ended_by f (Taken told (Back began)) = 0
ended_by f (Taken told (Closes t)) = f t
ended_by f (Taken told Late) = 0
ended_by f (Taken told Stray) = 0

abbrev pub of_ended : (Outline → ℕ) → Happened → ℕ
of_ended measure h = ended_by (of_copies measure) h.step

-- ---- how many trips

-- does a trip begin: 1 or 0
abbrev pub begun_by : Step → ℕ
begun_by (Ended t) = 0
begun_by (Taken told Begins) = 1
begun_by (Taken told (Replaces t)) = 1
begun_by (Taken told (Second began)) = 0
begun_by (Taken told (Back began)) = 0
begun_by (Taken told (Closes t)) = 0
begun_by (Taken told Late) = 0
begun_by (Taken told Stray) = 0

-- a trip of which a copy came back, and one of which none did: 1 or 0
abbrev pub came_back : Trip → ℕ
came_back t = if is_some t.back then 1 else 0

abbrev pub did_not : Trip → ℕ
did_not t = if is_some t.back then 0 else 1

-- trips that were sent, that ended with a copy that came back, and that ended without: lost ones
abbrev pub sent_trip : Happened → ℕ
sent_trip h = begun_by h.step

abbrev pub returned_trip : Happened → ℕ
returned_trip h = ended_by came_back h.step

abbrev pub lost_trip : Happened → ℕ
lost_trip h = ended_by did_not h.step
