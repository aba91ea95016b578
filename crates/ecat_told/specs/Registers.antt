-- The registers of a slave that a capture tells byte by byte: the station address, AL status with its code,
-- and the records of FMMUs and sync managers (IEC 61158-4-12, registers of the data link layer).
use Rattle.std.specs.Prelude.{ℕ, ◌+◌, ◌-◌, ◌*◌, ◌/◌, ◌%◌, ◌==◌, ◌&&◌, ◌||◌, Bool, nat_le, nat_lt}
use Rattle.std.specs.Prelude.{if◌then◌else◌, Option, None, Some, List, slice_index_or}
use Rattle.std.specs.Int.{bit_at}
use Rattle.ecat_told.specs.declared.byte.Byte.{Byte}
use Rattle.ecat_told.specs.declared.byte.Byte.TheVariants.{Untold, Lost as LostByte, Guessed, Told}
use Rattle.ecat_told.specs.declared.byte.Gate.{Gate}
use Rattle.ecat_told.specs.declared.byte.Gate.TheVariants.{Open, Perhaps, Shut}
use Rattle.ecat_told.specs.declared.byte.How.{How}
use Rattle.ecat_told.specs.declared.byte.How.TheVariants.{Read, Written, MayBeWritten, Lost}

-- where the byte at an address is kept, if it is: 200 bytes, one after the other
unfoldable pub place_of : ℕ → Option ℕ
place_of address =
    if nat_le 0x0010 address && nat_lt address 0x0012 then Some (address - 0x0010)
    else if nat_le 0x0130 address && nat_lt address 0x0136 then Some (address - 0x0130 + 2)
    else if nat_le 0x0600 address && nat_lt address 0x0680 then Some (address - 0x0600 + 8)
    else if nat_le 0x0800 address && nat_lt address 0x0840 then Some (address - 0x0800 + 136)
    else None

-- does a run of so many bytes from an address on meet the registers from one to another
abbrev pub meets : ℕ → ℕ → ℕ → ℕ → Bool
meets address count from to = nat_lt address to && nat_lt from (address + count)

-- has a run of bytes one that is kept
unfoldable pub touches : ℕ → ℕ → Bool
touches address count =
    meets address count 0x0010 0x0012 || meets address count 0x0130 0x0136
    || meets address count 0x0600 0x0680 || meets address count 0x0800 0x0840

-- ---- what a write reaches

-- the switch of the sync manager whose record has this offset, in the kept bytes
abbrev pub switch_of : List Byte → ℕ → Byte
switch_of bytes offset = slice_index_or bytes (offset / 8 * 8 + 142) Untold

-- the first five bytes of a sync manager's record can't be written while it is enabled
abbrev pub gate_by : Byte → Gate
gate_by Untold = Perhaps
gate_by LostByte = Perhaps
gate_by (Guessed b) = if bit_at b 0 == 1 then Shut else Perhaps
gate_by (Told b) = if bit_at b 0 == 1 then Shut else Open

-- a sync manager's record by the offset of a byte in all of them: its status and the byte of its application
-- are not the master's to write, its enable bit always is
abbrev pub manager_gate : List Byte → ℕ → Gate
manager_gate bytes offset =
    if offset % 8 == 5 || offset % 8 == 7 then Shut
    else if offset % 8 == 6 then Open
    else gate_by (switch_of bytes offset)

-- may a master write the byte at an address: AL status it may not, all else but sync managers it may
unfoldable pub gate_at : List Byte → ℕ → Gate
gate_at bytes address =
    if nat_le 0x0130 address && nat_lt address 0x0136 then Shut
    else if nat_le 0x0800 address && nat_lt address 0x0840 then manager_gate bytes (address - 0x0800)
    else Open

-- ---- what a byte becomes

-- a byte that was read, or written, or may have been written by a datagram that carries this value
abbrev pub byte_after : How → Gate → ℕ → Byte → Byte
byte_after Read gate value old = Told value
byte_after Written Open value old = Told value
byte_after Written Perhaps value old = Guessed value
byte_after Written Shut value old = old
byte_after MayBeWritten Open value old = Guessed value
byte_after MayBeWritten Perhaps value old = Guessed value
byte_after MayBeWritten Shut value old = old
byte_after Lost Open value old = LostByte
byte_after Lost Perhaps value old = LostByte
byte_after Lost Shut value old = old
