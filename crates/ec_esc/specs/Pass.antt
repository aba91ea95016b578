-- The pass of a frame through a controller. The command of a datagram says which memory bits its data take
-- and which data bits the memory takes; one rule carries that out (IEC 61158-4-12, processing of datagrams,
-- physical memory access and the FMMU). The next datagram finds the memory as it was left.
use Rattle.std.specs.Prelude.{◌≡◌, ℕ, ◌+◌, ◌-◌, ◌*◌, ◌/◌, ◌%◌, ◌<◌, Bool, true, false, ◌==◌, ◌&&◌, ◌||◌}
use Rattle.std.specs.Prelude.{if◌then◌else◌, Option, None, Some}
use Rattle.std.specs.Prelude.{List, [], ◌∷◌, length, slice_set}
use Rattle.ec_regs.specs.Bits.{bit, with_bits, AreBytes}
use Rattle.ec_regs.specs.declared.registers.TheConstants.{STATION_ADDRESS, AL_CONTROL}
use Rattle.ec_wire.specs.Command.{addressing, reads, writes, counts_adp}
use Rattle.ec_wire.specs.Datagram.{DatagramRecord, adp, ado, adp_of, ado_of, nth}
use Rattle.ec_wire.specs.declared.command.Addressing.{Addressing}
use Rattle.ec_wire.specs.declared.command.Addressing.TheVariants.{Nobody, AutoIncrement}
use Rattle.ec_wire.specs.declared.command.Addressing.TheVariants.{ConfiguredStation, All, Logical}
use Rattle.ec_wire.specs.declared.command.Command.{Command}
use Rattle.ec_areas.specs.Records.{fmmus_of, sync_managers_of}
use Rattle.ec_areas.specs.Logical.{read_places, write_map, names, reads_some, writes_some}
use Rattle.ec_regs.specs.AddressRange.{within}
use Rattle.ec_areas.specs.Ranges.{takes_writes, serves_physical_read, serves_physical_write}
use Rattle.ec_areas.specs.Ranges.{emptied_by, filled_by}
use Rattle.ec_esc.specs.State.{ControllerState, IsController, word_at}
use Rattle.ec_esc.specs.Writing.{settled, shown_after, with_emptied, with_filled}

-- ---- the range of a logical datagram begins at its address, and has a byte for each of its data

-- the memory bit of each data bit, where a readable pair names it
abbrev pub read_sources : ControllerState → ℕ → ℕ → Option ℕ
read_sources c address = read_places (sync_managers_of c.memory) (fmmus_of c.memory) (8 * address)

-- the data bit of each memory bit, where a writable pair names it
abbrev pub write_sources : ControllerState → ℕ → ℕ → ℕ → Option ℕ
write_sources c address count =
    write_map (sync_managers_of c.memory) (fmmus_of c.memory) (8 * address) (8 * count)

-- is there a readable pair in the range
abbrev pub serves_read : ControllerState → ℕ → ℕ → Bool
serves_read c address count =
    reads_some (sync_managers_of c.memory) (fmmus_of c.memory) (8 * address) (8 * count)

-- is there a writable one
abbrev pub serves_write : ControllerState → ℕ → ℕ → Bool
serves_write c address count =
    writes_some (sync_managers_of c.memory) (fmmus_of c.memory) (8 * address) (8 * count)

-- ---- the range of a physical datagram begins at its ADO

-- is a read of the range served, and which mailbox does it read out
abbrev pub serves_range_read : ControllerState → ℕ → ℕ → Bool
serves_range_read c from count = serves_physical_read (sync_managers_of c.memory) from count

abbrev pub read_mailbox : ControllerState → ℕ → ℕ → Option ℕ
read_mailbox c from count = emptied_by (sync_managers_of c.memory) from count

-- each data bit is taken from the bit of the range at its place
abbrev pub range_sources : ℕ → ℕ → Option ℕ
range_sources from i = Some (8 * from + i)

-- of all slaves those bits are taken that are 1, so that data become the or of themselves and the memories'
abbrev pub broadcast_sources : ControllerState → ℕ → ℕ → Option ℕ
broadcast_sources c from i = if bit c.memory (8 * from + i) == 1 then Some (8 * from + i) else None

-- is a write of the range served, and which mailbox does it fill
abbrev pub serves_range_write : ControllerState → ℕ → ℕ → Bool
serves_range_write c from count = serves_physical_write c.memory (sync_managers_of c.memory) from count

abbrev pub written_mailbox : ControllerState → ℕ → ℕ → Option ℕ
written_mailbox c from count = filled_by (sync_managers_of c.memory) from count

-- is the byte at an address in the range, and does it take writes by the memory on arrival
abbrev pub is_written : List ℕ → ℕ → ℕ → ℕ → Bool
is_written arrived from count address = within from count address && takes_writes arrived address

-- the data bit of each memory bit of the range whose byte is written
abbrev pub written_places : List ℕ → ℕ → ℕ → ℕ → Option ℕ
written_places arrived from count p =
    if is_written arrived from count (p / 8) then Some (p - 8 * from) else None

abbrev pub range_targets : ControllerState → ℕ → ℕ → ℕ → Option ℕ
range_targets c from count = written_places c.memory from count

-- ---- what a command does, by the address and the number of data bytes that come with it

-- is the controller addressed, by its place on the line or its station address
abbrev pub is_addressed : Addressing → ControllerState → ℕ → Bool
is_addressed Nobody c address = false
is_addressed AutoIncrement c address = adp_of address == 0
is_addressed ConfiguredStation c address = adp_of address == word_at c.memory STATION_ADDRESS
is_addressed All c address = true
is_addressed Logical c address = true

-- one way between the data and the memory: the bit that each bit of its end is taken from, what the working
-- counter gains, and the sync manager whose mailbox is emptied or filled
pub record Half : Type 0 where
  pub places : ℕ → Option ℕ
  pub gain : ℕ
  pub mail : Option ℕ

-- nothing goes that way
abbrev pub nothing : Half
nothing = record { places = λ _. None; gain = 0; mail = None }

-- what goes where it is served, else nothing
abbrev pub where_served : Bool → Half → Half
where_served served half = if served then half else nothing

-- what a read through FMMUs gives, and what a write takes; for a write the working counter gains n
abbrev pub mapped_read : ControllerState → ℕ → ℕ → Half
mapped_read c address count =
    where_served (serves_read c address count)
    (record { places = read_sources c address; gain = 1; mail = None })

abbrev pub mapped_write : ℕ → ControllerState → ℕ → ℕ → Half
mapped_write n c address count =
    where_served (serves_write c address count)
    (record { places = write_sources c address count; gain = n; mail = None })

-- what a read of a range gives that is served, from these places, and what a write of one takes
abbrev pub range_given : (ℕ → Option ℕ) → ControllerState → ℕ → ℕ → Half
range_given places c from count = record { places = places; gain = 1; mail = read_mailbox c from count }

abbrev pub range_taken : ℕ → ControllerState → ℕ → ℕ → Half
range_taken n c from count =
    record { places = range_targets c from count; gain = n; mail = written_mailbox c from count }

-- the same where the controller is addressed and the range is served, else nothing
abbrev pub range_read : Bool → (ℕ → Option ℕ) → ControllerState → ℕ → ℕ → Half
range_read is_addressed places c from count =
    where_served (is_addressed && serves_range_read c from count) (range_given places c from count)

abbrev pub range_write : Bool → ℕ → ControllerState → ℕ → ℕ → Half
range_write is_addressed n c from count =
    where_served (is_addressed && serves_range_write c from count) (range_taken n c from count)

-- what the data take, by whom the command addresses
abbrev pub read_half : Addressing → ControllerState → ℕ → ℕ → Half
read_half Logical c address count = mapped_read c address count
read_half All c address count =
    let from = ado_of address in range_read true (broadcast_sources c from) c from count
read_half a c address count =
    let from = ado_of address in range_read (is_addressed a c address) (range_sources from) c from count

-- what the memory takes; the working counter gains n
abbrev pub write_half : Addressing → ℕ → ControllerState → ℕ → ℕ → Half
write_half Logical n c address count = mapped_write n c address count
write_half a n c address count = range_write (is_addressed a c address) n c (ado_of address) count

-- both ways of a command; a write beside a read counts 2
pub record Effect : Type 0 where
  pub reading : Half
  pub writing : Half

-- what the working counter gains by both
abbrev pub gain_of : Effect → ℕ
gain_of e = e.reading.gain + e.writing.gain

-- one way alone
abbrev pub only_reads : Half → Effect
only_reads half = record { reading = half; writing = nothing }

abbrev pub only_writes : Half → Effect
only_writes half = record { reading = nothing; writing = half }

abbrev pub effect : Command → ControllerState → ℕ → ℕ → Effect
effect x c address count = record {
  reading = where_served (reads x) (read_half (addressing x) c address count);
  writing = where_served (writes x) (write_half (addressing x) (if reads x then 2 else 1) c address count);
}

-- is what the data take served, and what the memory takes, by whom the command addresses
abbrev pub serves_reading : Addressing → ControllerState → ℕ → ℕ → Bool
serves_reading Logical c address count = serves_read c address count
serves_reading a c address count = is_addressed a c address && serves_range_read c (ado_of address) count

abbrev pub serves_writing : Addressing → ControllerState → ℕ → ℕ → Bool
serves_writing Logical c address count = serves_write c address count
serves_writing a c address count = is_addressed a c address && serves_range_write c (ado_of address) count

-- ---- the rule

-- is some bit of the byte at an address taken
abbrev pub touches : (ℕ → Option ℕ) → ℕ → Bool
touches places address = names (λ b. places (8 * address + b)) 8

-- the working counter after it gained a number, modulo 65536
abbrev pub counter_after : DatagramRecord → ℕ → ℕ
counter_after d gain = (d.counter + gain) % 65536

-- the address, with the ADP one higher, modulo 65536, where each slave counts it up
abbrev pub address_after : DatagramRecord → ℕ
address_after d = if counts_adp d.command then (adp d + 1) % 65536 + 65536 * ado d else d.address

-- the datagram once its data took bits of the memory on arrival, and its counter gained what both ways count
abbrev pub served : Effect → ControllerState → DatagramRecord → DatagramRecord
served e c d = record d {
  payload = with_bits d.payload c.memory e.reading.places;
  counter = counter_after d (gain_of e);
}

-- the datagram as it leaves
abbrev pub datagram_after : Effect → ControllerState → DatagramRecord → DatagramRecord
datagram_after e c d = record (served e c d) { address = address_after d }

-- the controller once its memory took data bits: the statuses of sync managers that this switched, the
-- areas that it shows anew, the mailbox that it fills, and the mark of AL control
abbrev pub written_by : Half → List ℕ → ControllerState → ControllerState
written_by half payload c =
    let memory = settled c.memory (with_bits c.memory payload half.places) in
    let before = sync_managers_of c.memory in
    record {
      memory = with_filled half.mail memory;
      shown = shown_after (touches half.places) before (sync_managers_of memory) memory c.shown;
      written = c.written || touches half.places AL_CONTROL;
    }

-- the controller once its mailbox was read out
abbrev pub read_by : Half → ControllerState → ControllerState
read_by half c = record c { memory = with_emptied half.mail c.memory }

-- a datagram as it leaves a controller, and the controller then
pub record Passed : Type 0 where
  pub datagram : DatagramRecord
  pub state : ControllerState

-- the controller once both ways are done: the data that arrived are written
abbrev pub state_after : Effect → ControllerState → List ℕ → ControllerState
state_after e c payload = read_by e.reading (written_by e.writing payload c)

-- the rule: the data are read, and those that arrived are written
abbrev pub applied : Effect → ControllerState → DatagramRecord → Passed
applied e c d = record { datagram = datagram_after e c d; state = state_after e c d.payload }

-- the pass of one datagram
unfoldable pub pass : ControllerState → DatagramRecord → Passed
pass c d = applied (effect d.command c d.address (length d.payload)) c d

-- ---- one datagram of a frame

-- what arrives: a controller, data that are bytes, and a working counter of 16 bits
pub record Arrives (c : ControllerState) (d : DatagramRecord) : Type 0 where
  pub controller : IsController c
  pub payload : AreBytes d.payload
  pub counter : d.counter < 65536

-- the datagram at k of a frame is served, its address aside: the frame and the controller, before and after
pub record IsServed
    (e : Effect) (k : ℕ) (before : List DatagramRecord) (c : ControllerState)
    (after : List DatagramRecord) (left : ControllerState) : Type 0 where
  pub frame : after ≡ slice_set before k (served e c (nth before k))
  pub state : left ≡ state_after e c (nth before k).payload

-- ---- frames

-- a frame as it leaves a controller, and the controller then
pub record PassedFrame : Type 0 where
  pub frame : List DatagramRecord
  pub state : ControllerState

-- the datagrams pass from left to right, each on what the one before left
unfoldable pub frame_pass : ControllerState → List DatagramRecord → PassedFrame
frame_pass c [] = record { frame = []; state = c }
frame_pass c (d ∷ ds) =
    let first = pass c d in
    let rest = frame_pass first.state ds
    in record { frame = first.datagram ∷ rest.frame; state = rest.state }
