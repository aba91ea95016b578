-- How far a capture was read, what piece of it is taken next, and why none is.
use Rattle.std.specs.Prelude.{◌≡◌, ◌⊎◌, ℕ, ◌+◌, ◌<◌, ◌^◌, ◌-◌, Option, None, Some, Ok, Err, ⊤}
use Rattle.std.specs.Prelude.{List, [], ◌∷◌, ◌++◌, length, take, min, IfSome}
use Rattle.std.specs.Io.KnownBytes.{Consumes, IsAtEnd}
use Rattle.ecat_source.specs.Source.{CanFail}
use Rattle.ecat_capture.specs.Numbers.{word}
use Rattle.ecat_capture.specs.Input.{Input, ahead, run, place_behind, BeginsWith}
use Rattle.ecat_capture.specs.Pieces.{greatest_packet, kept_packet}
use Rattle.ecat_capture.specs.Classic.{IsHeader, IsRecord, IsCutRecord, format_of, header_fault}
use Rattle.ecat_capture.specs.Blocks.{IsBlock, IsCutBlock, block_order, length_fault, body_of, section_header}
use Rattle.ecat_capture.specs.declared.order.Order.{Order}
use Rattle.ecat_capture.specs.declared.order.Order.TheVariants.{Little}
use Rattle.ecat_capture.specs.declared.classic.Format.{Format}
use Rattle.ecat_capture.specs.declared.blocks.Interface.{Interface}
use Rattle.ecat_capture.specs.declared.blocks.Body.{Body}
use Rattle.ecat_capture.specs.declared.blocks.Body.TheVariants as body
use Rattle.ecat_capture.specs.declared.packet.Found.{Found}
use Rattle.ecat_capture.specs.declared.packet.Packet.{Packet}
use Rattle.ecat_capture.specs.declared.pieces.ByteRange.{ByteRange}
use Rattle.ecat_capture.specs.declared.capture.Stage.{Stage}
use Rattle.ecat_capture.specs.declared.capture.Stage.TheVariants.{Start, Records, Blocks, End, Fault}
use Rattle.ecat_capture.specs.declared.capture.Piece.{Piece}
use Rattle.ecat_capture.specs.declared.capture.Piece.TheVariants as piece
use Rattle.ecat_capture.specs.declared.capture.Step.{Step}
use Rattle.ecat_capture.specs.declared.capture.Step.TheVariants as step
use Rattle.ecat_capture.specs.declared.fault.CaptureFault.{CaptureFault}
use Rattle.ecat_capture.specs.declared.fault.CaptureFaultKind.{CaptureFaultKind}
use Rattle.ecat_capture.specs.declared.fault.CaptureFaultKind.TheVariants as fault
use Rattle.ecat_capture.specs.declared.window.InputFault.{InputFault}
use Rattle.ecat_capture.specs.declared.window.InputFault.TheVariants as input

-- what comes next in a capture, the interfaces that the section has described so far, the input, and how many
-- packets were given
pub record Progress : Type 0 where
  pub stage : Stage
  pub interfaces : List Interface
  pub input : Input
  pub number : ℕ

-- a block of a section that has described these interfaces, and what it says
pub record IsBody (section : Order) (interfaces : List Interface) (block : List ℕ)
    (says : Body) : Type 0 where
  pub order : Order
  pub is_block : IsBlock section block order
  pub body_is : body_of order interfaces block ≡ Ok says

-- The bytes are this piece: at the start a classic header, or a section header; then records, or blocks.
abbrev pub IsPiece : Stage → List Interface → Piece → List ℕ → Type 0
IsPiece Start interfaces (piece.Header format) bytes = IsHeader format bytes
IsPiece Start interfaces (piece.Block says) bytes =
    (word Little 0 bytes ≡ section_header) × IsBody Little [] bytes says
IsPiece (Records format) interfaces (piece.Record found) bytes = IsRecord format bytes found
IsPiece (Blocks order) interfaces (piece.Block says) bytes = IsBody order interfaces bytes says
IsPiece stage interfaces other bytes = ⊥

-- the stored bytes of a packet, of which the first 65,536 are given
abbrev pub stored_bytes : Found → List ℕ → List ℕ
stored_bytes found bytes = run found.from (found.from + min found.captured kept_packet) bytes

-- These are the bytes of the packet, where the piece has one.
abbrev pub PacketIs : Piece → List ℕ → List ℕ → Type 0
PacketIs (piece.Record found) bytes packet = packet ≡ stored_bytes found bytes
PacketIs (piece.Block (body.Packet found)) bytes packet = packet ≡ stored_bytes found bytes
PacketIs other bytes packet = Unit {0}

-- the bytes begin with the four that were loaded first
abbrev pub IsSameStart : List ℕ → List ℕ → Type 0
IsSameStart loaded bytes = word Little 0 bytes ≡ word Little 0 (take 4 loaded)

-- where the bytes of a packet lie in a block, if it stores one
abbrev pub stored_range : Body → ByteRange
stored_range (body.Packet found) = record {
  from = found.from;
  to = found.from + min found.captured kept_packet;
}
stored_range _ = record { from = 0; to = 0 }

-- an input from which these bytes were taken: a piece, and its packet is looked at
pub record Takes (P : List ℕ → Type 0) (what : Piece) (old new : Input) : Type 0 where
  pub front : List ℕ
  pub holds : P front
  pub taken : Consumes (ahead old) (ahead new) front
  pub packet : PacketIs what front new.packet
  pub place : new.place ≡ place_behind old.place (length front)

-- the bytes begin with a block that is none: its byte order, its length, or what it says
abbrev pub BlockIsRefused : Order → List Interface → CaptureFaultKind → List ℕ → Type 0
BlockIsRefused section interfaces kind bytes =
    ((block_order section bytes ≡ None) × (kind ≡ fault.ByteOrder))
    ⊎ ((order : Order) × (block_order section bytes ≡ Some order)
    × (length_fault (word order 4 bytes) ≡ Some kind))
    ⊎ ((order : Order) × IsBlock section bytes order × (body_of order interfaces bytes ≡ Err kind))

-- the bytes begin no capture: their first four are those of no kind, or the header or the first block is none
abbrev pub StartIsRefused : CaptureFaultKind → List ℕ → Type 0
StartIsRefused kind bytes =
    ((format_of (word Little 0 bytes) ≡ None) × (kind ≡ fault.NotCapture))
    ⊎ ((format : Format) × (format_of (word Little 0 bytes) ≡ Some format)
    × (header_fault format bytes ≡ Some kind))
    ⊎ ((word Little 0 bytes ≡ section_header) × BlockIsRefused Little [] kind bytes)

-- a record that no reader takes: it says that it stores too many bytes
abbrev pub RecordIsRefused : Format → CaptureFaultKind → List ℕ → Type 0
RecordIsRefused format kind bytes =
    (greatest_packet < word format.order 8 bytes) × (kind ≡ fault.TooLong)

-- The bytes begin with no piece, whatever follows them.
abbrev pub IsRefused : Stage → List Interface → CaptureFaultKind → List ℕ → Type 0
IsRefused Start interfaces kind bytes = StartIsRefused kind bytes
IsRefused (Records format) interfaces kind bytes = RecordIsRefused format kind bytes
IsRefused (Blocks order) interfaces kind bytes = BlockIsRefused order interfaces kind bytes
IsRefused End interfaces kind bytes = ⊥
IsRefused Fault interfaces kind bytes = ⊥

-- the bytes end inside the first four, the header or the first block
abbrev pub IsCutStart : List ℕ → Type 0
IsCutStart bytes =
    (length bytes < 4)
    ⊎ ((format : Format) × (format_of (word Little 0 bytes) ≡ Some format) × (length bytes < 24))
    ⊎ ((word Little 0 bytes ≡ section_header) × IsCutBlock Little bytes)

-- The bytes end inside a piece.
abbrev pub IsCut : Stage → List ℕ → Type 0
IsCut Start bytes = IsCutStart bytes
IsCut (Records format) bytes = IsCutRecord format bytes
IsCut (Blocks order) bytes = IsCutBlock order bytes
IsCut End bytes = ⊥
IsCut Fault bytes = ⊥

-- a fault that bytes have, whatever follows them
abbrev pub IsRefusal : CaptureFaultKind → Type 0
IsRefusal fault.Short = ⊥
IsRefusal fault.NoPacket = ⊥
IsRefusal fault.Read = ⊥
IsRefusal fault.NoMemory = ⊥
IsRefusal fault.Failed = ⊥
IsRefusal _ = Unit {0}

-- Why no piece was taken: the bytes ahead end inside it, or begin with none; a read failed in that call, or
-- memory ran out. That they end is known only while a failure of the source can be counted.
abbrev pub Explains : (List ℕ → Type 0) → (CaptureFaultKind → List ℕ → Type 0) → Input → Input
    → CaptureFaultKind → Type 0
Explains cut refused old new fault.Short = CanFail new.count → IfSome (ahead old) cut
Explains cut refused old new fault.Read = old.count < new.count
Explains cut refused old new fault.NoMemory = ⊤
Explains cut refused old new fault.NoPacket = ⊥
Explains cut refused old new fault.Failed = ⊥
Explains cut refused old new kind = (front : List ℕ) × refused kind front × BeginsWith (ahead old) front

-- why no piece was taken at a stage
abbrev pub BlamesAt : Stage → List Interface → Input → Input → CaptureFaultKind → Type 0
BlamesAt Fault interfaces old new kind = (kind ≡ fault.Failed) × (new ≡ old)
BlamesAt End interfaces old new kind = ⊥
BlamesAt stage interfaces old new kind = Explains (IsCut stage) (IsRefused stage interfaces) old new kind

-- why a call has failed: after a fault, for that alone
abbrev pub Blames : Progress → Progress → CaptureFaultKind → Type 0
Blames old new kind = BlamesAt old.stage old.interfaces old.input new.input kind

-- A record or a block would begin where the bytes end.
abbrev pub EndsAt : Stage → Input → Input → Type 0
EndsAt Start old new = ⊥
EndsAt Fault old new = ⊥
EndsAt End old new = new ≡ old
EndsAt stage old new = CanFail new.count → IsAtEnd (ahead old)

-- what was taken: a piece, or nothing at the end
abbrev pub TakesPiece : Stage → List Interface → Input → Input → Piece → Type 0
TakesPiece stage interfaces old new piece.End = EndsAt stage old new
TakesPiece stage interfaces old new what = Takes (IsPiece stage interfaces what) what old new

-- the fault of a capture that an input's fault is
abbrev pub fault_of : InputFault → CaptureFaultKind
fault_of input.Read = fault.Read
fault_of input.NoMemory = fault.NoMemory

-- what comes behind a piece
abbrev pub stage_behind : Stage → Piece → Stage
stage_behind stage (piece.Header format) = Records format
stage_behind stage (piece.Record found) = stage
stage_behind stage (piece.Block (body.Section order)) = Blocks order
stage_behind stage (piece.Block _) = stage
stage_behind stage piece.End = End

-- the interfaces that are described behind a piece: a section begins with none
abbrev pub interfaces_behind : List Interface → Piece → List Interface
interfaces_behind interfaces (piece.Block (body.Section order)) = []
interfaces_behind interfaces (piece.Block (body.Interface interface)) = interfaces ++ interface ∷ []
interfaces_behind interfaces other = interfaces

-- the number of the packet that follows so many; it stops at the greatest u64
abbrev pub next_number : ℕ → ℕ
next_number number = min (number + 1) (2 ^ 64 - 1)

-- how many packets were given behind a piece
abbrev pub number_behind : ℕ → Piece → ℕ
number_behind number (piece.Record found) = next_number number
number_behind number (piece.Block (body.Packet found)) = next_number number
number_behind number other = number

-- a packet as it is told, by its number
abbrev pub packet_told : ℕ → Found → Packet
packet_told number found = record {
  number = number;
  time = found.time;
  captured = found.captured;
  original = found.original;
  interface = found.interface;
  link = found.link;
}

-- what is told of a piece behind so many packets
abbrev pub step_of : ℕ → Piece → Step
step_of number (piece.Record found) = step.Packet (packet_told (next_number number) found)
step_of number (piece.Block (body.Packet found)) = step.Packet (packet_told (next_number number) found)
step_of number piece.End = step.End
step_of number other = step.Other

-- One piece was taken, and this was told of it.
pub record Steps (old new : Progress) (told : Step) : Type 0 where
  pub what : Piece
  pub takes : TakesPiece old.stage old.interfaces old.input new.input what
  pub told_is : told ≡ step_of old.number what
  pub stage : new.stage ≡ stage_behind old.stage what
  pub interfaces : new.interfaces ≡ interfaces_behind old.interfaces what
  pub number : new.number ≡ number_behind old.number what

-- Pieces that are no packets were taken, one after another.
pub data Passes : Progress → Progress → Type 0 where
  none : {old : Progress} → Passes old old
  more : {old between new : Progress} → Passes old between → Steps between new step.Other → Passes old new

-- what a step tells that finds a packet, or the end
abbrev pub step_to : Option Packet → Step
step_to None = step.End
step_to (Some packet) = step.Packet packet

-- Behind pieces that are no packets the next one was taken: a packet, or the end.
pub record Finds (old new : Progress) (found : Option Packet) : Type 0 where
  pub between : Progress
  pub passes : Passes old between
  pub last : Steps between new (step_to found)

-- Behind pieces that are no packets a step failed, or there were too many of them.
pub record FailsBehind (old new : Progress) (f : CaptureFault) : Type 0 where
  pub between : Progress
  pub passes : Passes old between
  pub blames : BlamesAt between.stage between.interfaces between.input new.input f.kind
  pub place : f.at ≡ between.input.place

-- why no packet was found
abbrev pub FailsToFind : Progress → Progress → CaptureFault → Type 0
FailsToFind old new f = (f.kind ≡ fault.NoPacket) ⊎ FailsBehind old new f
