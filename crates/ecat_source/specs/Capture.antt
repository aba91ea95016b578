-- A capture is a header and then records, end to end, each with the bytes of one packet (classic pcap,
-- little endian, with microseconds).
use Rattle.std.specs.Prelude.{◌≡◌, ℕ, ◌≤◌, List, [], ◌∷◌, ◌++◌, length, take, drop}
use Rattle.std.specs.Int.{w32, from_le_bytes}

-- the lengths of the header and of a record's head, and the greatest length of a packet
abbrev pub header_length : ℕ
header_length = 24

abbrev pub head_length : ℕ
head_length = 16

abbrev pub greatest_packet : ℕ
greatest_packet = 65535

-- bytes 0 to 3 are the magic number of this form
abbrev pub HasMagic : List ℕ → Type 0
HasMagic bytes = take 4 bytes ≡ 0xd4 ∷ 0xc3 ∷ 0xb2 ∷ 0xa1 ∷ []

-- bytes 4 to 7 are the version, 2.4
abbrev pub HasVersion : List ℕ → Type 0
HasVersion bytes = take 4 (drop 4 bytes) ≡ 2 ∷ 0 ∷ 4 ∷ 0 ∷ []

-- bytes 20 to 23 are the link type, 1 for Ethernet
abbrev pub HasLinkType : List ℕ → Type 0
HasLinkType bytes = take 4 (drop 20 bytes) ≡ 1 ∷ 0 ∷ 0 ∷ 0 ∷ []

-- a header: time zone, accuracy and greatest length, in bytes 8 to 19, may be anything
pub record IsHeader (bytes : List ℕ) : Type 0 where
  pub whole : length bytes ≡ header_length
  pub magic : HasMagic bytes
  pub version : HasVersion bytes
  pub link : HasLinkType bytes

-- how many bytes of the packet a record has stored, by bytes 8 to 11 of its head
abbrev pub stored_length : List ℕ → ℕ
stored_length bytes = from_le_bytes w32 (take 4 (drop 8 bytes))

-- a record of a packet: its head, whose times and original length may be anything, and the packet's bytes
pub record IsRecord (bytes packet : List ℕ) : Type 0 where
  pub head : head_length ≤ length bytes
  pub stored : stored_length bytes ≡ length packet
  pub fits : length packet ≤ greatest_packet
  pub packet_is : drop head_length bytes ≡ packet

-- records end to end, one for each packet
abbrev pub AreRecords : List ℕ → List (List ℕ) → Type 0
AreRecords bytes [] = bytes ≡ []
AreRecords bytes (packet ∷ packets) =
    (front rest : List ℕ) × (bytes ≡ front ++ rest) × IsRecord front packet
    × AreRecords rest packets

-- a header, and then a record for each packet
abbrev pub IsCapture : List ℕ → List (List ℕ) → Type 0
IsCapture bytes packets =
    (header rest : List ℕ) × (bytes ≡ header ++ rest) × IsHeader header × AreRecords rest packets
