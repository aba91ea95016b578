-- Two copies of a frame are joined datagram by datagram (IEC 61158-4-12, the datagram structure), unless one
-- of them is a stranger: a frame that cannot have come of the sent one.
use Rattle.std.specs.Prelude.{◌≡◌, ◌≢◌, ◌==◌, ℕ, ◌+◌, ◌*◌, ◌/◌, ◌%◌, ◌<◌, ◌≤◌, Bool, true, false}
use Rattle.std.specs.Prelude.{◌&&◌, if◌then◌else◌, List, [], ◌∷◌, length, Option, unwrap_or}
use Rattle.std.specs.Option.{option_copied}
use Rattle.std.specs.Borrow.{Bor}
use Rattle.ec_wire.specs.Command.{counts_adp}
use Rattle.ec_wire.specs.Datagram.{DatagramRecord, nth, code_of}
use Rattle.ec_wire.specs.declared.command.Command.{Command}
use Rattle.ec_merge.specs.declared.frames.JoinFault.{JoinFault}
use Rattle.ec_merge.specs.declared.frames.JoinFault.TheVariants.{StrangerA, StrangerB}
use Rattle.ec_merge.specs.Rule.{joined_count, joined_bits, joined_flag}
use Rattle.ec_merge.specs.Bytes.{joined_bytes}

-- a copy, for which the sent frame stands where it is missing
abbrev pub copy_or : {T : Type 0} → Option (Bor T) → T → T
copy_or copy sent = unwrap_or (option_copied copy) sent

-- ---- strangers

-- the part of an address that slaves leave as it is: the ADO alone where they count up the ADP, else all of
-- it
abbrev pub fixed_address : Command → ℕ → ℕ
fixed_address command address = if counts_adp command then address / 65536 else address

-- a copy may have come of this datagram: its command, index, data length and fixed address are the sent ones
abbrev pub belongs : DatagramRecord → DatagramRecord → Bool
belongs sent copy =
    code_of copy.command == code_of sent.command && copy.index == sent.index
    && length copy.payload == length sent.payload
    && fixed_address sent.command copy.address == fixed_address sent.command sent.address

-- no stranger: as many datagrams as were sent, and each may have come of the sent one
pub record IsOwn (sent copy : List DatagramRecord) : Type 0 where
  pub count : length copy ≡ length sent
  pub each : (k : ℕ) → k < length sent → belongs (nth sent k) (nth copy k) ≡ true

-- a stranger, whose datagram k is the first that differs: all before it may have come of the sent ones, it
-- may not, and where one frame ends at k the other does not
pub record IsStranger (sent copy : List DatagramRecord) (k : ℕ) : Type 0 where
  pub in_sent : k ≤ length sent
  pub in_copy : k ≤ length copy
  pub before : (i : ℕ) → i < k → belongs (nth sent i) (nth copy i) ≡ true
  pub here : k < length sent → k < length copy → belongs (nth sent k) (nth copy k) ≡ false
  pub one_goes_on : k ≡ length sent → k ≢ length copy

-- the stranger that a fault names, copy a before copy b
abbrev pub IsFault : List DatagramRecord → List DatagramRecord → List DatagramRecord → JoinFault → Type 0
IsFault sent a b (StrangerA k) = IsStranger sent a k
IsFault sent a b (StrangerB k) = IsOwn sent a × IsStranger sent b k

-- ---- joined frames

-- the joined ADP below the sent ADO where slaves count it up, else the sent address
abbrev pub joined_address : Command → ℕ → ℕ → ℕ → ℕ
joined_address command sent a b =
    if counts_adp command then joined_count (sent % 65536) (a % 65536) (b % 65536) + 65536 * (sent / 65536)
    else sent

-- copy a with its address joined
abbrev pub with_joined_address : DatagramRecord → DatagramRecord → DatagramRecord → DatagramRecord
with_joined_address sent a b =
    record a { address = joined_address sent.command sent.address a.address b.address }

-- copy a with all else joined that slaves change
abbrev pub with_joined_fields : DatagramRecord → DatagramRecord → DatagramRecord → DatagramRecord
with_joined_fields sent a b = record a {
  circulating = joined_flag sent.circulating a.circulating b.circulating;
  irq = joined_bits sent.irq a.irq b.irq;
  payload = joined_bytes sent.payload a.payload b.payload;
  counter = joined_count sent.counter a.counter b.counter;
}

-- a datagram of two copies
abbrev pub joined_record : DatagramRecord → DatagramRecord → DatagramRecord → DatagramRecord
joined_record sent a b = record {
  command = sent.command;
  index = sent.index;
  address = joined_address sent.command sent.address a.address b.address;
  circulating = joined_flag sent.circulating a.circulating b.circulating;
  irq = joined_bits sent.irq a.irq b.irq;
  payload = joined_bytes sent.payload a.payload b.payload;
  counter = joined_count sent.counter a.counter b.counter;
}

-- a frame of two copies
abbrev pub joined_frame : List DatagramRecord → List DatagramRecord → List DatagramRecord
    → List DatagramRecord
joined_frame [] xs ys = []
joined_frame (s ∷ ss) [] ys = []
joined_frame (s ∷ ss) (x ∷ xs) [] = []
joined_frame (s ∷ ss) (x ∷ xs) (y ∷ ys) = joined_record s x y ∷ joined_frame ss xs ys
