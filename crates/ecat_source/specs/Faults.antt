-- Why bytes are refused where a capture's header or one of its records is to stand.
use Rattle.std.specs.Prelude.{ℕ, ◌+◌, ◌<◌, ◌≤◌, ◌⊎◌, List, [], length, IfSome, ⊤}
use Rattle.std.specs.Io.KnownBytes.{Consumes, IsAtEnd}
use Rattle.ecat_source.specs.Source.{CanFail}
use Rattle.ecat_source.specs.Input.{Input}
use Rattle.ecat_source.specs.Capture.{HasMagic, HasVersion, HasLinkType, stored_length, header_length}
use Rattle.ecat_source.specs.Capture.{head_length, greatest_packet}
use Rattle.ecat_source.specs.declared.buffer.InputFault.{InputFault}
use Rattle.ecat_source.specs.declared.buffer.InputFault.TheVariants as input
use Rattle.ecat_source.specs.declared.capture.PcapFault.{PcapFault}
use Rattle.ecat_source.specs.declared.capture.PcapFault.TheVariants.{Short, NotPcap, Version, LinkType}
use Rattle.ecat_source.specs.declared.capture.PcapFault.TheVariants.{TooLong, Read, NoMemory, Failed}

-- The bytes don't begin with a header: they end inside it, or else the first of the tests fails.
abbrev pub HeaderIsRefused : List ℕ → PcapFault → Type 0
HeaderIsRefused bytes Short = length bytes < header_length
HeaderIsRefused bytes NotPcap = (header_length ≤ length bytes) × (¬ HasMagic bytes)
HeaderIsRefused bytes Version = (header_length ≤ length bytes) × HasMagic bytes × (¬ HasVersion bytes)
HeaderIsRefused bytes LinkType = (header_length ≤ length bytes) × HasMagic bytes × HasVersion bytes
    × (¬ HasLinkType bytes)
HeaderIsRefused bytes TooLong = ⊥
HeaderIsRefused bytes Read = ⊥
HeaderIsRefused bytes NoMemory = ⊥
HeaderIsRefused bytes Failed = ⊥

-- a record begins and doesn't end: the bytes end inside its head or inside the packet
abbrev pub IsCut : List ℕ → Type 0
IsCut bytes =
    (0 < length bytes)
    × ((length bytes < head_length)
    ⊎ ((stored_length bytes ≤ greatest_packet) × (length bytes < head_length + stored_length bytes)))

-- The bytes don't begin with a record, and they are not at their end.
abbrev pub RecordIsRefused : List ℕ → PcapFault → Type 0
RecordIsRefused bytes Short = IsCut bytes
RecordIsRefused bytes NotPcap = ⊥
RecordIsRefused bytes Version = ⊥
RecordIsRefused bytes LinkType = ⊥
RecordIsRefused bytes TooLong = (head_length ≤ length bytes) × (greatest_packet < stored_length bytes)
RecordIsRefused bytes Read = ⊥
RecordIsRefused bytes NoMemory = ⊥
RecordIsRefused bytes Failed = ⊥

-- the bytes end before so many are there
abbrev pub EndsWithin : ℕ → List ℕ → PcapFault → Type 0
EndsWithin count bytes Short = length bytes < count
EndsWithin count bytes _ = ⊥

-- Why a call has failed that took bytes of an input: a read failed in that call, memory ran out, or the bytes
-- ahead are refused. That they end is known only while a failure of the source can be counted.
abbrev pub Explains : (List ℕ → PcapFault → Type 0) → Input → Input → PcapFault → Type 0
Explains refused old new Short = CanFail new.count → IfSome old.ahead (λ bytes. refused bytes Short)
Explains refused old new NotPcap = IfSome old.ahead (λ bytes. refused bytes NotPcap)
Explains refused old new Version = IfSome old.ahead (λ bytes. refused bytes Version)
Explains refused old new LinkType = IfSome old.ahead (λ bytes. refused bytes LinkType)
Explains refused old new TooLong = IfSome old.ahead (λ bytes. refused bytes TooLong)
Explains refused old new Read = old.count < new.count
Explains refused old new NoMemory = ⊤
Explains refused old new Failed = ⊥

-- the fault of a capture that an input's fault is
abbrev pub fault_of : InputFault → PcapFault
fault_of input.Read = Read
fault_of input.NoMemory = NoMemory

-- an input from which the bytes of a header or a record were taken
abbrev pub Takes : (List ℕ → Type 0) → Input → Input → Type 0
Takes P old new = (front : List ℕ) × P front × Consumes old.ahead new.ahead front

-- an input of which nothing was taken, since its bytes have ended
abbrev pub Ends : Input → Input → Type 0
Ends old new = Consumes old.ahead new.ahead [] × (CanFail new.count → IsAtEnd new.ahead)
