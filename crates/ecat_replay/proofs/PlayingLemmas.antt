-- The round that answers one frame sends a copy of it.
use Rattle.std.proofs.Common.{◌≡◌, ◌∙◌, ◌++◌, ℕ, List, [], inl, inr, sym, ap, subst, refl, false, take, length}
use Rattle.std.proofs.Common.{◌+◌, ◌≤◌, arith}
use Rattle.std.specs.Prelude.{Option, None, Some, Result, Ok, Err, IfOk}
use Rattle.std.specs.Result.{result_ok}
use Rattle.std.specs.declared.net.socket_addr.SocketAddr.{SocketAddr}
use Rattle.std.proofs.lemmas.List.{append-nil}
use Rattle.ec_wire.specs.Datagram.{DatagramRecord}
use Rattle.ec_wire.specs.Fault.{IsSpelt}
use Rattle.ec_wire.specs.Spelling.{IsFrameValue, body_length, spelling}
use Rattle.ec_wire.specs.declared.fault.Form.TheVariants.{Udp}
use Rattle.ec_wire.specs.declared.fault.WireFault.{WireFault}
use Rattle.ec_wire.specs.declared.frame.TheConstants.{PACKET_ROOM}
use Rattle.ec_wire.proofs.Laws.{length-spelling}
use Rattle.ec_ring.specs.declared.port.Port.{Port}
use Rattle.ec_ring.specs.declared.port.PortFault.{PortFault}
use Rattle.ecat_serve.specs.Answering.{Arrival, Replies, SendsTo, Walks, spared}
use Rattle.ecat_serve.specs.Ends.{calls_of}
use Rattle.ecat_serve.specs.Rounds.{GoesOn, IsAnswered, IsRound, Serving, serving}
use Rattle.ecat_serve.specs.State.{ServedState, peer_at, spoken}
use Rattle.ecat_serve.specs.declared.ends.Arrived.{Arrived}
use Rattle.ecat_serve.specs.declared.served.Round.{Round}
use Rattle.ecat_replay.specs.declared.player.OneFrame.{OneFrame}
use Rattle.ecat_replay.specs.Playing.{ComesBack, ComesBackBy, HasCome, IsRead, IsSent, receive_one}
use Rattle.ecat_replay.specs.Playing.{send_one}

-- no two frames have one spelling
abbrev pub OneSpelling : Type 0
OneSpelling = (rs ss : List DatagramRecord) (x y : List ℕ) → IsFrameValue rs → IsFrameValue ss
    → spelling rs ++ x ≡ spelling ss ++ y → (rs ≡ ss) × (x ≡ y)

-- the bytes of a frame spell it, and no other one
spelt : (frame : List DatagramRecord) → IsFrameValue frame → IsSpelt Udp (spelling frame) frame
spelt frame value =
    ([], record { value = value; split = sym (append-nil (spelling frame)) }, refl)

one-value : (bytes : List ℕ) (rs ss : List DatagramRecord) → OneSpelling
    → IsSpelt Udp bytes rs → IsSpelt Udp bytes ss → rs ≡ ss
one-value bytes rs ss one a b = (one rs ss a.0 b.0 a.1.value b.1.value (sym a.1.split ∙ b.1.split)).0

-- the room of a packet is enough for a frame
pub in_room : (frame : List DatagramRecord) (bytes : List ℕ) → IsFrameValue frame → bytes ≡ spelling frame
    → length bytes ≤ PACKET_ROOM
in_room frame bytes value is =
    let long : length bytes ≡ 2 + body_length frame = ap length is ∙ length-spelling frame in
    let room = value.room in
    omega (arith, long, room)

-- what the reader gives is what a packet is read as
pub is_read : (packet : List ℕ) (r : Result (List DatagramRecord) WireFault)
    → IfOk r (IsSpelt Udp packet)
    → ((frame : List DatagramRecord) → IsSpelt Udp packet frame → r ≡ Ok frame)
    → IsRead packet (result_ok r)
is_read packet (Ok frame) found only = record {
  found = found;
  all = λ other spells. ap result_ok (only other spells);
}
is_read packet (Err fault) found only = record {
  found = tt;
  all = λ other spells. ap result_ok (only other spells);
}

-- what is sent from the ends of one frame comes back
comes : (ends : OneFrame) (line : ServedState) (arrival : Arrival) (answer : Result (Unit {0}) PortFault)
    (later : OneFrame) → ends.came ≡ None → Replies send_one line arrival ends answer later
    → ComesBack line arrival later.came
comes ends line None answer later none replies = ap (λ (e : OneFrame). e.came) replies.1 ∙ none
comes ends line (Some arrived) answer later none replies = by (peer_at line arrived.1) replies
  where
    by : (peer : Option SocketAddr) → SendsTo send_one ends arrived.1 peer arrived.0 answer later
        → ComesBackBy peer arrived.0 later.came
    by None replies = ap (λ (e : OneFrame). e.came) replies.1 ∙ none
    by (Some peer) replies = replies

answered : OneSpelling → (before : ServedState) (ends : OneFrame) (frame : List DatagramRecord)
    (arrived : Arrived) (packet : List ℕ) (result : Result Round PortFault) (later : Serving OneFrame)
    → ends.came ≡ None → IsFrameValue frame → packet ≡ spelling frame
    → IsAnswered send_one arrived packet (serving before ends) result later
    → IsSent arrived.at frame before later.ends.came later.line
answered one before ends frame arrived packet result later none value packet_is is = record {
  speaker = arrived.from;
  arrival = is.arrival;
  walked = is.walked;
  walks = subst
      (λ (f : List DatagramRecord).
      Walks (spoken before arrived.at arrived.from) arrived.at f is.arrival is.walked)
      (one-value packet is.frame frame one is.spelt
      (subst (λ (bytes : List ℕ). IsSpelt Udp bytes frame) (sym packet_is) (spelt frame value)))
      is.walks;
  loses = is.loses;
  comes = comes ends later.line (spared is.walked is.arrival) is.sent later.ends none is.replies;
}

-- the round of a frame that has not come yet
pub sent_once : OneSpelling → (before : ServedState) (ends : OneFrame) (result : Result Round PortFault)
    (later : Serving OneFrame) → ends.has_come ≡ false → ends.came ≡ None → IsFrameValue ends.frame
    → IsRound (calls_of receive_one send_one) (serving before ends) result later
    → IsSent ends.at ends.frame before later.ends.came later.line
sent_once one before ends result later waits none value round =
    by (subst (λ (found : Result (Option Arrived) PortFault).
    GoesOn send_one found round.room (serving before round.between) result later) come.answers round.goes_on)
  where
    come : HasCome ends round.found round.room round.between
    come = round.received waits

    arrived : Arrived
    arrived = record { at = ends.at; from = come.speaker; count = length (spelling ends.frame) }

    empty : round.between.came ≡ None
    empty = ap (λ (e : OneFrame). e.came) come.keeps ∙ none

    by : GoesOn send_one (Ok (Some arrived)) round.room (serving before round.between) result later
        → IsSent ends.at ends.frame before later.ends.came later.line
    by (inl is) =
        answered one before round.between ends.frame arrived (take arrived.count round.room) result later
        empty value come.bytes is
    by (inr is) =
        absurd (is.no_frame ends.frame
        (subst (λ (bytes : List ℕ). IsSpelt Udp bytes ends.frame) (sym come.bytes) (spelt ends.frame value)))

pub sent_by : OneSpelling → (before : ServedState) (frame : List DatagramRecord) (from : Port)
    (ends : OneFrame) (result : Result Round PortFault) (later : Serving OneFrame)
    → ends ≡ record { frame = frame; at = from; has_come = false; came = None } → IsFrameValue frame
    → IsRound (calls_of receive_one send_one) (serving before ends) result later
    → IsSent from frame before later.ends.came later.line
sent_by one before frame from ends result later is value round =
    sent_once one before (record { frame = frame; at = from; has_come = false; came = None }) result later
    refl refl value
    (subst (λ (e : OneFrame). IsRound (calls_of receive_one send_one) (serving before e) result later) is
    round)
