-- A frame on Ethernet (IEEE 802.3, the MAC frame; IEC 61158-4-12, the EtherCAT frame inside an Ethernet
-- frame): a header of destination, source and type, the frame, and zeros up to 60 bytes. Tags may stand
-- before the type (IEEE 802.1Q).
use Rattle.std.specs.Prelude.{ℕ, ◌+◌, ◌-◌, ◌/◌, ◌%◌, ◌==◌, ◌||◌, Bool, nat_lt, if◌then◌else◌}
use Rattle.std.specs.Prelude.{List, [], ◌∷◌, ◌++◌, length, take, drop, replicate, slice_index}
use Rattle.std.specs.Prelude.{Option, None, Some}
use Rattle.std.specs.Int.{w16, from_be_bytes}
use Rattle.ec_wire.specs.Fault.{frame_end}

-- ---- what goes out

-- the destination: every station
abbrev pub broadcast : List ℕ
broadcast = 0xff ∷ 0xff ∷ 0xff ∷ 0xff ∷ 0xff ∷ 0xff ∷ []

-- the header of what goes out from a source address, with the type 0x88A4
abbrev pub header_of : List ℕ → List ℕ
header_of source = broadcast ++ source ++ 0x88 ∷ 0xa4 ∷ []

-- zeros up to the least length of a packet without its check sequence
abbrev pub padded : List ℕ → List ℕ
padded packet = packet ++ replicate (60 - length packet) 0

-- the packet of a frame under a header
abbrev pub under : List ℕ → List ℕ → List ℕ
under header frame = padded (header ++ frame)

-- the packet of a frame that goes out from a source address
abbrev pub packet_of : List ℕ → List ℕ → List ℕ
packet_of source frame = under (header_of source) frame

-- ---- what comes in

-- a type or a tag's protocol, at the front of what follows the addresses
abbrev pub type_of : List ℕ → ℕ
type_of rest = if nat_lt (length rest) 2 then 0 else from_be_bytes w16 rest

-- a tag stands there: a customer's, 0x8100, or a provider's, 0x88A8
abbrev pub is_tag : List ℕ → Bool
is_tag rest = (type_of rest == 0x8100) || (type_of rest == 0x88a8)

-- without the tag that stands there, if one does
abbrev pub untagged : List ℕ → List ℕ
untagged rest = if is_tag rest then drop 4 rest else rest

-- a packet from its type on, behind the addresses and at most two tags
abbrev pub typed : List ℕ → List ℕ
typed packet = untagged (untagged (drop 12 packet))

-- padding is cut where the frame ends by its header; what ends before that is whole
abbrev pub cut : List ℕ → List ℕ
cut payload = take (frame_end payload) payload

-- the frame in a packet of the type 0x88A4
abbrev pub frame_in : List ℕ → Option (List ℕ)
frame_in packet = if type_of (typed packet) == 0x88a4 then Some (cut (drop 2 (typed packet))) else None

-- the header of a packet: all of it before the frame
abbrev pub header_in : List ℕ → List ℕ
header_in packet = take (length packet - length (drop 2 (typed packet))) packet

-- ---- what has passed a controller

-- bit 1 of a source address's first byte, which controllers set in what they pass on
abbrev pub is_marked : ℕ → Bool
is_marked byte = byte / 2 % 2 == 1

-- the byte with that bit set
abbrev pub marked : ℕ → ℕ
marked byte = if is_marked byte then byte else byte + 2

-- the first byte of a packet's source address
abbrev pub source_of : List ℕ → ℕ
source_of packet = slice_index packet 6

-- the header of the answer to what came under a header
abbrev pub answering : List ℕ → List ℕ
answering header = take 6 header ++ marked (source_of header) ∷ drop 7 header

-- the frame in a packet that is an answer: its source address has the bit
abbrev pub answer_in : List ℕ → Option (List ℕ)
answer_in packet = if is_marked (source_of packet) then frame_in packet else None
