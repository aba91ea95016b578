-- What the pieces of a capture say: a header, an interface, a packet.
use Rattle.std.specs.Prelude.{ℕ, ◌+◌, ◌*◌, ◌/◌, Bool, Option, Some, None, List, [], ◌∷◌}
use Rattle.std.specs.Prelude.{if◌then◌else◌}
use Rattle.ecat_capture.specs.declared.fault.CaptureFaultKind.{CaptureFaultKind}

-- the fault of the first test that holds
abbrev pub first_of : List (Bool × CaptureFaultKind) → Option CaptureFaultKind
first_of [] = None
first_of (t ∷ ts) = if t.0 then Some t.1 else first_of ts

-- the greatest number of bytes that a packet may store, and how many of them are given
abbrev pub greatest_packet : ℕ
greatest_packet = 262144

abbrev pub kept_packet : ℕ
kept_packet = 65536

-- the greatest length of a block, and how many interfaces a section may describe
abbrev pub greatest_block : ℕ
greatest_block = 1048576

abbrev pub most_interfaces : ℕ
most_interfaces = 64

-- a length with the bytes that fill it up to a multiple of four
abbrev pub padded : ℕ → ℕ
padded count = (count + 3) / 4 * 4
