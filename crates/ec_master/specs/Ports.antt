-- The frames of a cycle go out over ports one after the other, and what comes back of each is joined, until
-- one fails.
use Rattle.std.specs.Prelude.{◌≡◌, ℕ, Option, unwrap_or, List, [], ◌∷◌, length, map, Result, Ok, Err}
use Rattle.ec_wire.specs.Datagram.{DatagramRecord}
use Rattle.ec_merge.specs.Frames.{IsOwn, IsFault, joined_frame}
use Rattle.ec_merge.specs.declared.frames.JoinFault.{JoinFault}
use Rattle.ec_line.specs.Answered.{sent_of}
use Rattle.ec_map.specs.Item.{ItemRecord}
use Rattle.ec_ring.specs.declared.weather.Came.{Came}
use Rattle.ec_master.specs.Cut.{concat, frames_of}
use Rattle.ec_master.specs.Verdict.{verdict}
use Rattle.ec_master.specs.Work.{with_answers}
use Rattle.ec_ring.specs.declared.port.PortFault.{PortFault}
use Rattle.ec_master.specs.declared.cycle.CycleFault.{CycleFault}
use Rattle.ec_master.specs.declared.cycle.CycleFault.TheVariants.{Port, Stranger}
use Rattle.ec_master.specs.declared.verdict.Verdict.{Verdict}
use Rattle.ec_master.specs.declared.verdict.Verdict.TheVariants.{Good, Short, Over}

-- ---- one frame

-- a copy that came back, or the sent frame where it did not
abbrev pub came_or : Option (List DatagramRecord) → List DatagramRecord → List DatagramRecord
came_or copy sent = unwrap_or copy sent

-- what a sent frame comes to: its copies are joined, unless one is a stranger or the trip failed
abbrev pub ComesTo : List DatagramRecord → Result Came PortFault → Result (List DatagramRecord) CycleFault
    → Type 0
ComesTo sent (Err failed) answer = answer ≡ Err Port
ComesTo sent (Ok came) (Err fault) =
    (fault ≡ Stranger) × (stranger : JoinFault)
    × IsFault sent (came_or came.a sent) (came_or came.b sent) stranger
ComesTo sent (Ok came) (Ok joined) =
    IsOwn sent (came_or came.a sent) × IsOwn sent (came_or came.b sent)
    × (joined ≡ joined_frame sent (came_or came.a sent) (came_or came.b sent))

-- ---- the frames of a cycle

-- which trips there are: the ports before, the frame that is sent, what comes back, and the ports after
abbrev pub Trips : Type 0 → Type 1
Trips P = P → List DatagramRecord → Result Came PortFault → P → Type 0

-- a trip of a frame from these ports on, and what it comes to
pub record PortTrip {P : Type 0} (trips : Trips P) (before : P) (sent : List DatagramRecord)
    (answer : Result (List DatagramRecord) CycleFault) (later : P) : Type 0 where
  pub came : Result Came PortFault
  pub made : trips before sent came later
  pub comes : ComesTo sent came answer

-- what frames come to: each a joined frame, or the fault of the first that is not joined
abbrev pub Outcome : Type 0
Outcome = Result (List (List DatagramRecord)) CycleFault

-- a joined frame before what the others come to
abbrev pub with_first : List DatagramRecord → Outcome → Outcome
with_first joined (Ok rest) = Ok (joined ∷ rest)
with_first joined (Err fault) = Err fault

-- frames go out from these ports on, one after the other until one is not joined, and come to an outcome and
-- the ports after the last trip
unfoldable pub Sends : {P : Type 0} → Trips P → P → List (List DatagramRecord) → Outcome → P
    → Type 0
Sends trips before [] outcome later = (outcome ≡ Ok []) × (later ≡ before)
Sends {P} trips before (sent ∷ rest) outcome later =
    (answer : Result (List DatagramRecord) CycleFault) × (between : P)
    × PortTrip trips before sent answer between
    × (elim answer [
      | Err fault ↦ (outcome ≡ Err fault) × (later ≡ between)
      | Ok joined ↦ (others : Outcome) × Sends trips between rest others later
          × (outcome ≡ with_first joined others)
    ])

-- ---- the cycle

-- the frames of items go out, each is joined, and the items take their answers
pub record IsAnswered {P : Type 0} (trips : Trips P) (before : P) (items taken : List ItemRecord)
    (later : P) : Type 0 where
  pub joined : List (List DatagramRecord)
  pub sends : Sends trips before (map sent_of (frames_of items)) (Ok joined) later
  pub count : length (concat joined) ≡ length items
  pub taken_are : taken ≡ with_answers items (concat joined)

-- items take their answers on a good verdict, and are else as they were
abbrev pub taken_on : Verdict → List ItemRecord → List DatagramRecord → List ItemRecord
taken_on Good items answers = with_answers items answers
taken_on (Short k) items answers = items
taken_on (Over k) items answers = items

-- the joined frames are judged, and the items take them; a fault is answered, and the items are as they were
abbrev pub EndsIn : List ItemRecord → List ℕ → Outcome → Result Verdict CycleFault → List ItemRecord
    → Type 0
EndsIn items expected (Err fault) result later = (result ≡ Err fault) × (later ≡ items)
EndsIn items expected (Ok joined) result later =
    (result ≡ Ok (verdict items (concat joined) expected))
    × (later ≡ taken_on (verdict items (concat joined) expected) items (concat joined))

-- a cycle of items over ports: its frames go out, and its end is that of what they come to
pub record IsPortCycle {P : Type 0} (trips : Trips P) (before : P) (items : List ItemRecord)
    (expected : List ℕ) (result : Result Verdict CycleFault) (items_later : List ItemRecord) (later : P)
    : Type 0 where
  pub outcome : Outcome
  pub sends : Sends trips before (map sent_of (frames_of items)) outcome later
  pub ends : EndsIn items expected outcome result items_later
