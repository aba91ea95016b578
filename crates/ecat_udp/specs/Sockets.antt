-- Which socket belongs to a port of the master, at the master and at the line's end there, and where on this
-- machine each socket lies.
use Rattle.std.specs.Prelude.{◌≡◌, ℕ, ◌+◌, [], ◌∷◌}
use Rattle.std.specs.Net.Addr.{ipv4_octets}
use Rattle.std.specs.Net.Socket.{v4_ip}
use Rattle.std.specs.declared.net.socket_addr.SocketAddr.{SocketAddr}
use Rattle.std.specs.declared.net.socket_addr.SocketAddr.TheVariants.{V4, V6}
use Rattle.ec_ring.specs.declared.port.Port.{Port}
use Rattle.ec_ring.specs.declared.port.Port.TheVariants.{A, B}
use Rattle.ecat_udp.specs.declared.line.Socket.{Socket}
use Rattle.ecat_udp.specs.declared.line.Socket.TheVariants.{MasterA, MasterB, LineA, LineB}

abbrev pub master_at : Port → Socket
master_at A = MasterA
master_at B = MasterB

abbrev pub line_at : Port → Socket
line_at A = LineA
line_at B = LineB

-- the port that a socket of a line at this port asks the system for; 0 asks for any free one
abbrev pub asked_port : Socket → ℕ → ℕ
asked_port MasterA port = 0
asked_port MasterB port = 0
asked_port LineA port = port
asked_port LineB port = port + 1

-- an address of this machine alone, 127.0.0.1
abbrev pub IsOnLoopback : SocketAddr → Type 0
IsOnLoopback (V4 address) = ipv4_octets (v4_ip address) ≡ 127 ∷ 0 ∷ 0 ∷ 1 ∷ []
IsOnLoopback (V6 address) = ⊥
