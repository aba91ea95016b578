-- What of a packet is EtherCAT (IEC 61158-4-12: the EtherCAT frame in an Ethernet frame and in UDP): the
-- bytes behind type 0x88A4, or in a UDP packet, to or from port 34980 or any other; behind each kind of
-- header.
use Rattle.std.specs.Prelude.{ℕ, ◌+◌, ◌*◌, ◌/◌, ◌%◌, ◌≤◌, Bool, not, ◌==◌, ◌&&◌, ◌||◌, nat_lt, Option, Some}
use Rattle.std.specs.Prelude.{None}
use Rattle.std.specs.Prelude.{List, length, min, slice_index, if◌then◌else◌}
use Rattle.ecat_capture.specs.Numbers.{half}
use Rattle.ecat_capture.specs.Links.{behind_type, payload_place, type_place}
use Rattle.ecat_capture.specs.declared.link.Link.{Link}
use Rattle.ecat_capture.specs.declared.order.Order.TheVariants.{Big}
use Rattle.ecat_capture.specs.declared.ethernet.Payload.{Payload}
use Rattle.ecat_capture.specs.declared.ethernet.Payload.TheVariants.{Ethernet, Udp, Fragment, Short}
use Rattle.ecat_capture.specs.declared.ethernet.Payload.TheVariants.{BadLength}
use Rattle.ecat_capture.specs.declared.ethernet.Payload.TheVariants.{Other, OtherUdp}

-- a VLAN tag stands at a place (IEEE 802.1Q: the types of a customer's tag and of a service's)
unfoldable pub is_tag : ℕ → List ℕ → Bool
is_tag at bytes =
    not (nat_lt (length bytes) (at + 2)) && ((half Big at bytes == 0x8100) || (half Big at bytes == 0x88a8))

-- the place of the type of what a packet carries, behind at most two tags: a tag stands where else the type
-- does, two bytes of it follow the header, and the next type follows these
unfoldable pub type_at : Link → List ℕ → ℕ
type_at link bytes =
    if not (is_tag (type_place link) bytes) then type_place link
    else if not (is_tag (payload_place link + 2) bytes) then payload_place link + 2
    else payload_place link + 6

-- a UDP header is to or from EtherCAT's port
unfoldable pub is_ours : ℕ → List ℕ → Bool
is_ours at bytes = (half Big at bytes == 34980) || (half Big (at + 2) bytes == 34980)

-- a whole UDP packet (RFC 768): its payload, as far as it was captured; one at other ports than EtherCAT's
-- may have a frame or not
unfoldable pub udp_payload : ℕ → List ℕ → Payload
udp_payload at bytes =
    if nat_lt (length bytes) (at + 8) then Short
    else if nat_lt (half Big (at + 4) bytes) 8 then (if is_ours at bytes then BadLength else Other)
    else if is_ours at bytes then Udp (at + 8) (min (at + half Big (at + 4) bytes) (length bytes))
    else OtherUdp (at + 8) (min (at + half Big (at + 4) bytes) (length bytes))

-- a piece of a UDP packet: the first piece shows its ports, of a later one they are not known
unfoldable pub udp_fragment : Bool → ℕ → List ℕ → Payload
udp_fragment is_first at bytes =
    if not is_first then Fragment
    else if nat_lt (length bytes) (at + 4) then Short
    else if is_ours at bytes then Fragment
    else Other

-- an IPv4 packet (RFC 791): UDP is protocol 17; more pieces follow, or the offset is not 0, in a piece
unfoldable pub ipv4_payload : ℕ → List ℕ → Payload
ipv4_payload at bytes =
    if nat_lt (length bytes) (at + 20) then Short
    else if not (slice_index bytes at / 16 == 4) then Other
    else if nat_lt (slice_index bytes at % 16) 5 then BadLength
    else if not (slice_index bytes (at + 9) == 17) then Other
    else if half Big (at + 6) bytes % 0x4000 == 0 then udp_payload (at + slice_index bytes at % 16 * 4) bytes
    else udp_fragment (half Big (at + 6) bytes % 0x2000 == 0) (at + slice_index bytes at % 16 * 4) bytes

-- the fragment header of an IPv6 packet (RFC 8200): a piece that is all of it is a whole packet
unfoldable pub ipv6_fragment : ℕ → List ℕ → Payload
ipv6_fragment at bytes =
    if nat_lt (length bytes) (at + 8) then Short
    else if not (slice_index bytes at == 17) then Other
    else if (half Big (at + 2) bytes / 8 == 0) && (half Big (at + 2) bytes % 2 == 0)
    then udp_payload (at + 8) bytes
    else udp_fragment (half Big (at + 2) bytes / 8 == 0) (at + 8) bytes

-- an IPv6 packet: UDP is next header 17, a fragment header 44; behind other extension headers nothing is
-- looked for
unfoldable pub ipv6_payload : ℕ → List ℕ → Payload
ipv6_payload at bytes =
    if nat_lt (length bytes) (at + 40) then Short
    else if not (slice_index bytes at / 16 == 6) then Other
    else if slice_index bytes (at + 6) == 17 then udp_payload (at + 40) bytes
    else if slice_index bytes (at + 6) == 44 then ipv6_fragment (at + 40) bytes
    else Other

-- what of a packet is EtherCAT, by the type at a place, and where what it carries begins
unfoldable pub payload_behind : ℕ → ℕ → List ℕ → Payload
payload_behind at from bytes =
    if nat_lt (length bytes) from then Short
    else if half Big at bytes == 0x88a4 then Ethernet from (length bytes)
    else if half Big at bytes == 0x0800 then ipv4_payload from bytes
    else if half Big at bytes == 0x86dd then ipv6_payload from bytes
    else Other

-- what of a packet is EtherCAT
abbrev pub payload_of : Link → List ℕ → Payload
payload_of link bytes = payload_behind (type_at link bytes) (behind_type link (type_at link bytes)) bytes

-- a payload lies within so many bytes
abbrev pub LiesWithin : ℕ → Payload → Type 0
LiesWithin size (Ethernet from to) = (from ≤ to) × (to ≤ size)
LiesWithin size (Udp from to) = (from ≤ to) × (to ≤ size)
LiesWithin size (OtherUdp from to) = (from ≤ to) × (to ≤ size)
LiesWithin size _ = Unit {0}

-- the type that an EtherCAT header tells, in the upper half of its second byte
abbrev pub frame_type : List ℕ → Option ℕ
frame_type bytes = if nat_lt (length bytes) 2 then None else Some (slice_index bytes 1 / 16)
