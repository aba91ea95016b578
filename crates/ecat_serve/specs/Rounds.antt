-- A service is rounds: in each one packet comes in and is answered.
use Rattle.std.specs.Prelude.{◌≡◌, ◌⊎◌, ℕ, zero, suc, ◌+◌, List, take, Option, None, Some, Result, Ok, Err}
use Rattle.ec_wire.specs.Datagram.{DatagramRecord}
use Rattle.ec_wire.specs.Fault.{IsSpelt}
use Rattle.ec_wire.specs.declared.fault.Form.TheVariants.{Udp}
use Rattle.ec_ring.specs.declared.port.PortFault.{PortFault}
use Rattle.ecat_serve.specs.Answering.{Arrival, Replies, Walks, once_lost, spared}
use Rattle.ecat_serve.specs.Ends.{Calls, Sends}
use Rattle.ecat_serve.specs.State.{ServedState, moved_on, spoken}
use Rattle.ecat_serve.specs.declared.ends.Arrived.{Arrived}
use Rattle.ecat_serve.specs.declared.served.Counts.{Counts}
use Rattle.ecat_serve.specs.declared.served.Round.{Round}
use Rattle.ecat_serve.specs.declared.served.Round.TheVariants.{Frame, Dropped, Ended}

-- a line, and the ends that it is served at
pub record Serving (E : Type 0) : Type 0 where
  pub line : ServedState
  pub ends : E

abbrev pub serving : {E : Type 0} → ServedState → E → Serving E
serving line ends = record { line = line; ends = ends }

-- ---- one packet

-- a frame was answered, unless its send failed
abbrev pub round_of : Result (Unit {0}) PortFault → Result Round PortFault
round_of (Ok _) = Ok Frame
round_of (Err fault) = Err fault

-- a packet that is a frame in the UDP form: who sent it has spoken, the frame walks, and what arrives is sent
-- unless it is to be lost where it arrives
pub record IsAnswered {E : Type 0} (sends : Sends E) (arrived : Arrived) (packet : List ℕ)
    (before : Serving E) (result : Result Round PortFault) (later : Serving E) : Type 0 where
  pub frame : List DatagramRecord
  pub spelt : IsSpelt Udp packet frame
  pub walked : ServedState
  pub arrival : Arrival
  pub walks : Walks (spoken before.line arrived.at arrived.from) arrived.at frame arrival walked
  pub loses : later.line ≡ once_lost walked arrival
  pub sent : Result (Unit {0}) PortFault
  pub replies : Replies sends later.line (spared walked arrival) before.ends sent later.ends
  pub ends_as : result ≡ round_of sent

-- a packet that is none: it is dropped, and each slave takes its step and each application acts all the same
pub record IsDropped {E : Type 0} (packet : List ℕ) (before : Serving E) (result : Result Round PortFault)
    (later : Serving E) : Type 0 where
  pub no_frame : (frame : List DatagramRecord) → IsSpelt Udp packet frame → ⊥
  pub ends_as : result ≡ Ok Dropped
  pub leaves : later.line ≡ moved_on before.line before.line.ring
  pub stays : later.ends ≡ before.ends

-- ---- one round

-- what is done once the ends have answered a receive: nothing more where it failed, or where none is to come
abbrev pub GoesOn : {E : Type 0} → Sends E → Result (Option Arrived) PortFault → List ℕ → Serving E
    → Result Round PortFault → Serving E → Type 0
GoesOn sends (Err fault) room before result later = (result ≡ Err fault) × (later ≡ before)
GoesOn sends (Ok None) room before result later = (result ≡ Ok Ended) × (later ≡ before)
GoesOn sends (Ok (Some arrived)) room before result later =
    IsAnswered sends arrived (take arrived.count room) before result later
    ⊎ IsDropped (take arrived.count room) before result later

pub record IsRound {E : Type 0} (calls : Calls E) (before : Serving E) (result : Result Round PortFault)
    (later : Serving E) : Type 0 where
  pub found : Result (Option Arrived) PortFault
  pub room : List ℕ
  pub between : E
  pub received : calls.receives before.ends found room between
  pub goes_on : GoesOn calls.sends found room (serving before.line between) result later

-- ---- the service

abbrev pub one_frame_more : Counts → Counts
one_frame_more counts = record counts { frames = counts.frames + 1 }

abbrev pub one_dropped_more : Counts → Counts
one_dropped_more counts = record counts { dropped = counts.dropped + 1 }

-- rounds follow one another, so many at the most, until a call fails or no packet is to come; packets are
-- counted on from `counts`
unfoldable pub Serves : {E : Type 0} → Calls E → ℕ → Counts → Serving E → Result Counts PortFault → Serving E
    → Type 0
Serves calls zero counts before result later = (result ≡ Ok counts) × (later ≡ before)
Serves {E} calls (suc most) counts before result later =
    (round : Result Round PortFault) × (between : Serving E) × IsRound calls before round between
    × (elim round [
      | Err fault ↦ (result ≡ Err fault) × (later ≡ between)
      | Ok Ended ↦ (result ≡ Ok counts) × (later ≡ between)
      | Ok Frame ↦ Serves calls most (one_frame_more counts) between result later
      | Ok Dropped ↦ Serves calls most (one_dropped_more counts) between result later
    ])
