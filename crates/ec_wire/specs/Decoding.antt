-- What the fields of a datagram say, read from the bytes that begin with it (IEC 61158-4-12, the
-- datagram structure): the way back from a spelling.
use Rattle.std.specs.Prelude.{ℕ, ◌/◌, ◌%◌, Bool, ◌==◌, List, take, drop, slice_index}
use Rattle.std.specs.Int.{w16, w32, from_le_bytes}
use Rattle.ec_wire.specs.Datagram.{DatagramRecord, command_of}

-- the field that has the data length, the circulating bit and the more bit
abbrev pub length_field : List ℕ → ℕ
length_field bytes = from_le_bytes w16 (drop 6 bytes)

-- bits 0 to 10: the number of data bytes
abbrev pub data_length : List ℕ → ℕ
data_length bytes = length_field bytes % 2048

-- bit 14
abbrev pub says_circulating : List ℕ → Bool
says_circulating bytes = length_field bytes / 16384 % 2 == 1

-- bit 15
abbrev pub says_more : List ℕ → Bool
says_more bytes = length_field bytes / 32768 == 1

-- the record of the datagram that the bytes begin with
unfoldable pub record_at : List ℕ → DatagramRecord
record_at bytes = record {
  command = command_of (slice_index bytes 0);
  index = slice_index bytes 1;
  address = from_le_bytes w32 (drop 2 bytes);
  circulating = says_circulating bytes;
  irq = from_le_bytes w16 (drop 8 bytes);
  payload = take (data_length bytes) (drop 10 bytes);
  counter = from_le_bytes w16 (drop (data_length bytes) (drop 10 bytes));
}
