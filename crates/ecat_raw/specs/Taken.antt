-- What is taken of the packets that come, and from whom it comes.
use Rattle.std.specs.Prelude.{◌≡◌, ◌⊎◌, ℕ, ◌+◌, ◌-◌, ◌≤◌, if◌then◌else◌, List, [], ◌∷◌, length, take, drop}
use Rattle.std.specs.Prelude.{slice_index}
use Rattle.std.specs.Prelude.{true, is_some}
use Rattle.std.specs.Prelude.{Option, None, Some}
use Rattle.std.specs.Net.Addr.{ipv6_segments, segments_of}
use Rattle.std.specs.Net.Socket.{IsPlainSocket, socket_ip}
use Rattle.std.specs.declared.net.ip_addr.IpAddr.TheVariants.{V6}
use Rattle.std.specs.declared.net.ipv6_addr.Ipv6Addr.{Ipv6Addr}
use Rattle.std.specs.declared.net.socket_addr.SocketAddr.{SocketAddr}
use Rattle.ec_wire.specs.declared.frame.TheConstants.{PACKET_ROOM}
use Rattle.ec_ring.specs.declared.port.Port.{Port}
use Rattle.ecat_serve.specs.declared.ends.Arrived.{Arrived}
use Rattle.ecat_raw.specs.Ethernet.{answering, cut, frame_in, header_in, is_marked, source_of, type_of, typed}

-- the bytes of a frame, as far as their room goes; none where there is no frame
abbrev pub taken : Option (List ℕ) → List ℕ
taken None = []
taken (Some frame) = take PACKET_ROOM frame

-- a packet that answers a master: it has both addresses and a type behind them (14 bytes without a tag), the
-- type is that of EtherCAT, and its source address says that it has passed a controller
pub record IsAnswer (packet : List ℕ) : Type 0 where
  pub whole : 14 ≤ length packet
  pub own : type_of (typed packet) ≡ 0x88a4
  pub passed : is_marked (source_of packet) ≡ true

-- what a master's port gives: no byte, or the frame of such a packet, without padding, as far as its room
-- goes
abbrev pub IsGiven : List ℕ → Type 0
IsGiven bytes = (bytes ≡ []) ⊎ ((packet : List ℕ) × IsAnswer packet
    × (bytes ≡ take PACKET_ROOM (cut (drop 2 (typed packet)))))

-- ---- who sent a packet

-- a byte with its bit 1 inverted
abbrev pub flipped : ℕ → ℕ
flipped byte = if is_marked byte then byte - 2 else byte + 2

-- the link-local address that an interface forms whose address stands in a packet as its source (RFC 4291,
-- appendix A: the modified EUI-64 form)
abbrev pub link_local : List ℕ → List ℕ
link_local packet =
    0xfe ∷ 0x80 ∷ 0 ∷ 0 ∷ 0 ∷ 0 ∷ 0 ∷ 0
    ∷ flipped (slice_index packet 6) ∷ slice_index packet 7 ∷ slice_index packet 8 ∷ 0xff
    ∷ 0xfe ∷ slice_index packet 9 ∷ slice_index packet 10 ∷ slice_index packet 11 ∷ []

-- who sent a packet: its source address as an IPv6 address, and the type of EtherCAT as the port
pub record IsSender (packet : List ℕ) (sender : SocketAddr) : Type 0 where
  pub ip : Ipv6Addr
  pub has : socket_ip sender ≡ V6 ip
  pub local : ipv6_segments ip ≡ segments_of (link_local packet)
  pub plain : IsPlainSocket sender 0x88a4

-- ---- what an end takes

-- the frame of a packet is taken at an end, and its answer goes under the packet's header
pub record IsArrival (at : Port) (packet : List ℕ) (arrived : Arrived) (room later : List ℕ) : Type 0 where
  pub framed : is_some (frame_in packet) ≡ true
  pub end : arrived.at ≡ at
  pub sent : IsSender packet arrived.from
  pub fits : arrived.count ≤ PACKET_ROOM
  pub bytes : take arrived.count room ≡ taken (frame_in packet)
  pub answer : later ≡ answering (header_in packet)

-- a packet with no frame changes nothing
abbrev pub IsTaken : Port → List ℕ → List ℕ → Option Arrived → List ℕ → List ℕ → Type 0
IsTaken at packet before None room later = (frame_in packet ≡ None) × (later ≡ before)
IsTaken at packet before (Some arrived) room later = IsArrival at packet arrived room later
