-- What the master's sockets give, and the copies that this is: a packet that was received is a copy exactly
-- where it spells a frame, and nothing else is one.
use Rattle.std.specs.Prelude.{◌≡◌, ℕ, List, Option, None, Some, IfSome}
use Rattle.ec_wire.specs.Datagram.{DatagramRecord}
use Rattle.ec_wire.specs.Fault.{IsSpelt}
use Rattle.ec_wire.specs.declared.fault.Form.TheVariants.{Udp}
use Rattle.ec_ring.specs.declared.weather.Came.{Came}
use Rattle.ecat_udp.specs.declared.line.Socket.{Socket}
use Rattle.ecat_udp.specs.declared.line.Socket.TheVariants.{MasterA, MasterB}

-- what receives give: the line before, the socket, a packet or none, and the line after
abbrev pub Gives : Type 0 → Type 1
Gives L = L → Socket → Option (List ℕ) → L → Type 0

-- the copy that a packet is, if it is one
abbrev pub IsCopyOf : Option (List ℕ) → Option (List DatagramRecord) → Type 0
IsCopyOf None copy = copy ≡ None
IsCopyOf (Some packet) copy =
    IfSome copy (IsSpelt Udp packet) × ((rs : List DatagramRecord) → IsSpelt Udp packet rs → copy ≡ Some rs)

-- a receive at a socket gave a packet or none, and this is the copy
pub record IsReceived {L : Type 0} (gives : Gives L) (at : Socket) (before : L)
    (copy : Option (List DatagramRecord)) (later : L) : Type 0 where
  pub packet : Option (List ℕ)
  pub gave : gives before at packet later
  pub is : IsCopyOf packet copy

-- the last two receives of a trip, at the master's port A and then at B, gave these copies
pub record AreReceived {L : Type 0} (gives : Gives L) (came : Came) (later : L) : Type 0 where
  pub sent : L
  pub between : L
  pub a : IsReceived gives MasterA sent came.a between
  pub b : IsReceived gives MasterB between came.b later
