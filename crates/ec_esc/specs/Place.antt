-- A controller serves a frame datagram by datagram: what the one at a place asks for, what it is given, and
-- the frame once its data were filled or its working counter was counted up (IEC 61158-4-12, processing of
-- datagrams).
use Rattle.std.specs.Prelude.{ℕ, ◌+◌, ◌≤◌, Bool, true, Option, List, length, slice_set}
use Rattle.ec_regs.specs.Bits.{with_bits}
use Rattle.ec_regs.specs.declared.registers.TheConstants.{MEMORY_SIZE}
use Rattle.ec_wire.specs.Datagram.{DatagramRecord, nth, ado}
use Rattle.ec_esc.specs.Pass.{Half, Effect, mapped_read, mapped_write, range_read, range_write, range_taken}
use Rattle.ec_esc.specs.Pass.{range_sources, broadcast_sources, counter_after}
use Rattle.ec_esc.specs.Pass.{serves_read, serves_range_read, serves_range_write, read_mailbox}
use Rattle.ec_esc.specs.State.{ControllerState}

-- ---- what the datagram at k asks for

-- its address, its data, and how many bytes of data it has
abbrev pub address_at : List DatagramRecord → ℕ → ℕ
address_at frame k = (nth frame k).address

abbrev pub payload_at : List DatagramRecord → ℕ → List ℕ
payload_at frame k = (nth frame k).payload

abbrev pub size_at : List DatagramRecord → ℕ → ℕ
size_at frame k = length (nth frame k).payload

-- where its range begins, if it is a physical one
abbrev pub ado_at : List DatagramRecord → ℕ → ℕ
ado_at frame k = ado (nth frame k)

-- its range lies in the memory
abbrev pub IsInMemory : List DatagramRecord → ℕ → Type 0
IsInMemory frame k = ado_at frame k + size_at frame k ≤ MEMORY_SIZE

-- ---- what it is given, and what is taken

-- a read or a write of its range is served, and the mailbox that the read empties
abbrev pub serves_range_read_at : ControllerState → List DatagramRecord → ℕ → Bool
serves_range_read_at c frame k = serves_range_read c (ado_at frame k) (size_at frame k)

abbrev pub serves_range_write_at : ControllerState → List DatagramRecord → ℕ → Bool
serves_range_write_at c frame k = serves_range_write c (ado_at frame k) (size_at frame k)

abbrev pub read_mailbox_at : ControllerState → List DatagramRecord → ℕ → Option ℕ
read_mailbox_at c frame k = read_mailbox c (ado_at frame k) (size_at frame k)

-- a read and a broadcast read of its range, and a write of it, for which the working counter gains n
abbrev pub range_read_at : ControllerState → List DatagramRecord → ℕ → Half
range_read_at c frame k =
    range_read true (range_sources (ado_at frame k)) c (ado_at frame k) (size_at frame k)

abbrev pub broadcast_read_at : ControllerState → List DatagramRecord → ℕ → Half
broadcast_read_at c frame k =
    range_read true (broadcast_sources c (ado_at frame k)) c (ado_at frame k) (size_at frame k)

abbrev pub range_write_at : ℕ → ControllerState → List DatagramRecord → ℕ → Half
range_write_at n c frame k = range_write true n c (ado_at frame k) (size_at frame k)

-- a write of it that is served
abbrev pub range_taken_at : ℕ → ControllerState → List DatagramRecord → ℕ → Half
range_taken_at n c frame k = range_taken n c (ado_at frame k) (size_at frame k)

-- a read of its logical bytes through FMMUs, and a write of them
abbrev pub serves_read_at : ControllerState → List DatagramRecord → ℕ → Bool
serves_read_at c frame k = serves_read c (address_at frame k) (size_at frame k)

abbrev pub mapped_read_at : ControllerState → List DatagramRecord → ℕ → Half
mapped_read_at c frame k = mapped_read c (address_at frame k) (size_at frame k)

abbrev pub mapped_write_at : ℕ → ControllerState → List DatagramRecord → ℕ → Half
mapped_write_at n c frame k = mapped_write n c (address_at frame k) (size_at frame k)

-- an exchange of them
abbrev pub mapped_exchange_at : ControllerState → List DatagramRecord → ℕ → Effect
mapped_exchange_at c frame k =
    record { reading = mapped_read_at c frame k; writing = mapped_write_at 2 c frame k }

-- ---- the frame then

-- its data took these bits of a memory
abbrev pub filled_at : List DatagramRecord → ℕ → List ℕ → (ℕ → Option ℕ) → List DatagramRecord
filled_at frame k memory places =
    slice_set frame k (record (nth frame k) { payload = with_bits (nth frame k).payload memory places })

-- its working counter gained a number
abbrev pub counted_at : List DatagramRecord → ℕ → ℕ → List DatagramRecord
counted_at frame k gain =
    slice_set frame k (record (nth frame k) { counter = counter_after (nth frame k) gain })
