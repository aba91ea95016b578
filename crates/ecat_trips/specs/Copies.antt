-- What a returned copy adds to those of its trip that came before (IEC 61158-4-12, the datagram structure).
use Rattle.std.specs.Prelude.{ℕ, ◌+◌, ◌*◌, ◌/◌, ◌%◌, ◌==◌, ◌&&◌, if◌then◌else◌, Bool, List, length}
use Rattle.std.specs.Prelude.{Option, None, Some, false, not, nat_lt, slice_set}
use Rattle.ec_wire.specs.Datagram.{DatagramRecord, nth}
use Rattle.ec_wire.specs.declared.command.Command.{Command}
use Rattle.ec_merge.specs.Rule.{distance, joined_count, joined_bits, joined_flag}
use Rattle.ec_merge.specs.Bytes.{joined_bytes}
use Rattle.ecat_trips.specs.Alike.{is_still, moves_adp, own_count}
use Rattle.ecat_trips.specs.Zipped.{zipped}

-- is the data of two datagrams as long
abbrev pub same_size_at : DatagramRecord → DatagramRecord → Bool
same_size_at sent d = length d.payload == length sent.payload

-- a datagram that came, with the data of the sent one where these are as long
abbrev pub with_data : DatagramRecord → DatagramRecord → DatagramRecord
with_data sent d = if same_size_at sent d then record d { payload = sent.payload } else d

-- a frame that came, with the number of the sent one, which the other copy bears otherwise
unfoldable pub with_number : List DatagramRecord → List DatagramRecord → List DatagramRecord
with_number sent frame =
    let k = own_count sent in
    if nat_lt k (length sent) && nat_lt k (length frame)
    then slice_set frame k (with_data (nth sent k) (nth frame k))
    else frame

-- the joined ADP below the address's ADO where slaves count it up, else the address
abbrev pub joined_address : Command → ℕ → ℕ → ℕ → ℕ
joined_address command sent a b =
    if moves_adp command then joined_count (sent % 65536) (a % 65536) (b % 65536) + 65536 * (a / 65536) else a

-- two copies of a datagram, joined: counters, and an ADP that slaves count up, have moved as far as in both
-- together, and a bit differs from the sent one where it does in some copy
abbrev pub joined_at : DatagramRecord → DatagramRecord → DatagramRecord → DatagramRecord
joined_at sent a b = record a {
  address = joined_address sent.command sent.address a.address b.address;
  circulating = joined_flag sent.circulating a.circulating b.circulating;
  irq = joined_bits sent.irq a.irq b.irq;
  payload = joined_bytes sent.payload a.payload b.payload;
  counter = joined_count sent.counter a.counter b.counter;
}

-- so all of them but the address and the data
abbrev pub with_fields : DatagramRecord → DatagramRecord → DatagramRecord → DatagramRecord
with_fields sent a b = record a {
  circulating = joined_flag sent.circulating a.circulating b.circulating;
  irq = joined_bits sent.irq a.irq b.irq;
  counter = joined_count sent.counter a.counter b.counter;
}

-- copies of one datagram have data of one length; else the first stays
abbrev pub joined_or : DatagramRecord → DatagramRecord → DatagramRecord → DatagramRecord
joined_or sent a b = if same_size_at sent a && same_size_at sent b then joined_at sent a b else a

-- two copies of a frame, joined
unfoldable pub joined : List DatagramRecord → List DatagramRecord → List DatagramRecord → List DatagramRecord
joined sent a b = zipped joined_or sent a b

-- what came, with another copy joined in; of none that one
abbrev pub joined_with : List DatagramRecord → List DatagramRecord → Option (List DatagramRecord)
    → List DatagramRecord
joined_with sent other None = other
joined_with sent other (Some came) = joined sent came other

-- did slaves process another copy and what came: over a closed ring one copy passes all slaves, and the other
-- comes back as it was sent
abbrev pub both_moved : List DatagramRecord → List DatagramRecord → Option (List DatagramRecord) → Bool
both_moved sent other None = false
both_moved sent other (Some came) = not (is_still sent came) && not (is_still sent other)

-- how far a datagram's counter has moved, modulo 65,536, and how far its ADP has grown
abbrev pub moved : DatagramRecord → DatagramRecord → ℕ
moved sent came = distance sent.counter came.counter

abbrev pub grown : DatagramRecord → DatagramRecord → ℕ
grown sent came = distance (sent.address % 65536) (came.address % 65536)
