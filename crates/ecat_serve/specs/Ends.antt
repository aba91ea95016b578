-- What the ends of a line are asked: which packets are received and which are sent, each told by the ends
-- before and behind; and at which ports the ends lie.
use Rattle.std.specs.Prelude.{◌+◌, ◌≤◌, Bool, true, false, List, ℕ, Option, None, Some, Result}
use Rattle.std.specs.Prelude.{Ok, Err, ⊤, if◌then◌else◌}
use Rattle.std.specs.IoError.{error_kind}
use Rattle.std.specs.declared.net.socket_addr.SocketAddr.{SocketAddr}
use Rattle.std.specs.declared.io.Error.{Error}
use Rattle.std.specs.declared.io.ErrorKind.{ErrorKind}
use Rattle.std.specs.declared.io.ErrorKind.TheVariants.{Interrupted, WouldBlock}
use Rattle.ec_ring.specs.declared.port.PortFault.{PortFault}
use Rattle.ec_ring.specs.declared.port.Port.{Port}
use Rattle.ec_ring.specs.declared.port.Port.TheVariants.{A, B}
use Rattle.ec_wire.specs.declared.frame.TheConstants.{PACKET_ROOM}
use Rattle.ecat_serve.specs.declared.ends.Arrived.{Arrived}
use Rattle.ecat_serve.specs.declared.ends.Waited.{Waited}
use Rattle.ecat_serve.specs.declared.ends.Waited.TheVariants as waited
use Rattle.ecat_serve.specs.declared.sockets.BindFault.{BindFault}
use Rattle.ecat_serve.specs.declared.sockets.BindFault.TheVariants as bind
use Rattle.ecat_serve.specs.declared.waiting.WaitFault.{WaitFault}
use Rattle.ecat_serve.specs.declared.waiting.WaitFault.TheVariants as wait

-- what a receive answers, and the bytes of its room behind it
abbrev pub Receives : Type 0 → Type 1
Receives E = E → Result (Option Arrived) PortFault → List ℕ → E → Type 0

-- an end, whom it sends to, the packet, and what the send answers
abbrev pub Sends : Type 0 → Type 1
Sends E = E → Port → SocketAddr → List ℕ → Result (Unit {0}) PortFault → E → Type 0

-- the calls of a line's ends: what their receives come to, and what their sends do
pub record Calls (E : Type 0) : Type 1 where
  pub receives : Receives E
  pub sends : Sends E

abbrev pub calls_of : {E : Type 0} → Receives E → Sends E → Calls E
calls_of receives sends = record { receives = receives; sends = sends }

-- of what comes at a socket nothing is stated, nor of what becomes of a packet that is sent: both are up to
-- the system
abbrev pub any_receive : {E : Type 0} → Receives E
any_receive before answer room later = ⊤

abbrev pub any_send : {E : Type 0} → Sends E
any_send before from to packet answer later = ⊤

-- a packet that came while ends were waited at lies in its room
abbrev pub has_room : Waited → Type 0
has_room (waited.Arrived arrived) = arrived.count ≤ PACKET_ROOM
has_room _ = ⊤

-- the end that is not this one
abbrev pub other : Port → Port
other A = B
other B = A

-- the port that an end of a line at this port asks the system for
abbrev pub asked_port : Port → ℕ → ℕ
asked_port A port = port
asked_port B port = port + 1

-- an error that says to try again: nothing is there yet, or a signal came before there was
abbrev pub says_again : ErrorKind → Bool
says_again WouldBlock = true
says_again Interrupted = true
says_again _ = false

-- what a receive at an end comes to: how many bytes came of whom; nothing where it may be tried again, and
-- else a fault
abbrev pub received : Port → Result (ℕ × SocketAddr) Error → Result (Option Arrived) PortFault
received at (Ok got) = Ok (Some (record { at = at; from = got.1; count = got.0 }))
received at (Err error) = if says_again (error_kind error) then Ok None else Err (record {})

-- why a line of sockets that has nothing to wait for could not be opened
abbrev pub unwaited : WaitFault → BindFault
unwaited wait.NoMemory = bind.NoMemory
unwaited wait.Refused = bind.NoSocket
