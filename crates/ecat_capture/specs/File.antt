-- A capture is pieces, end to end, up to where the bytes end in front of a record or a block; its packets are
-- those of its records and blocks.
use Rattle.std.specs.Prelude.{◌≡◌, ℕ, Option, None, Some, ⊤, List, [], ◌∷◌, ◌++◌}
use Rattle.ecat_capture.specs.Progress.{Progress, IsPiece, Finds, stage_behind}
use Rattle.ecat_capture.specs.Progress.{interfaces_behind, stored_bytes}
use Rattle.ecat_capture.specs.declared.blocks.Interface.{Interface}
use Rattle.ecat_capture.specs.declared.blocks.Body.TheVariants as body
use Rattle.ecat_capture.specs.declared.classic.Format.{Format}
use Rattle.ecat_capture.specs.declared.packet.Found.{Found}
use Rattle.ecat_capture.specs.declared.packet.Time.{Time}
use Rattle.ecat_capture.specs.declared.packet.Packet.{Packet}
use Rattle.ecat_capture.specs.declared.capture.Stage.{Stage}
use Rattle.ecat_capture.specs.declared.capture.Stage.TheVariants.{Start, Records, Fault}
use Rattle.ecat_capture.specs.declared.capture.Piece.{Piece}
use Rattle.ecat_capture.specs.declared.capture.Piece.TheVariants as piece

-- a packet of a capture: when it was captured, how many of its bytes are stored, how long it was, and the
-- stored bytes, of which the first 65,536 are given
pub record Stored : Type 0 where
  pub time : Option Time
  pub captured : ℕ
  pub original : ℕ
  pub bytes : List ℕ

-- the packet that a record or a block stores
abbrev pub stored : Found → List ℕ → Stored
stored found bytes = record {
  time = found.time;
  captured = found.captured;
  original = found.original;
  bytes = stored_bytes found bytes;
}

-- the packet of a piece, if it has one
abbrev pub packets_of : Piece → List ℕ → List Stored
packets_of (piece.Record found) bytes = stored found bytes ∷ []
packets_of (piece.Block (body.Packet found)) bytes = stored found bytes ∷ []
packets_of other bytes = []

-- a capture may end here: behind its header, in front of a record or a block
abbrev pub MayEnd : Stage → Type 0
MayEnd Start = ⊥
MayEnd Fault = ⊥
MayEnd other = ⊤

-- From a stage on the bytes are pieces, end to end, and these are their packets.
pub data Holds : Stage → List Interface → List ℕ → List Stored → Type 0 where
  ends : {stage : Stage} {interfaces : List Interface} {bytes : List ℕ} {packets : List Stored}
      → MayEnd stage → bytes ≡ [] → packets ≡ [] → Holds stage interfaces bytes packets
  goes_on : {stage : Stage} {interfaces : List Interface} {bytes : List ℕ} {packets : List Stored}
      → (what : Piece) (front rest : List ℕ) (more : List Stored) → IsPiece stage interfaces what front
      → bytes ≡ front ++ rest → packets ≡ packets_of what front ++ more
      → Holds (stage_behind stage what) (interfaces_behind interfaces what) rest more
      → Holds stage interfaces bytes packets

-- The bytes are a capture with these packets.
abbrev pub IsCapture : List ℕ → List Stored → Type 0
IsCapture bytes packets = Holds Start [] bytes packets

-- The bytes are records of a classic capture, end to end, with these packets.
abbrev pub AreRecords : Format → List ℕ → List Stored → Type 0
AreRecords format bytes packets = Holds (Records format) [] bytes packets

-- a packet as a call tells it and lends its bytes
abbrev pub given : Packet → List ℕ → Stored
given packet bytes = record {
  time = packet.time;
  captured = packet.captured;
  original = packet.original;
  bytes = bytes;
}

-- Calls, one after another, have given these packets, and lent their bytes.
pub data Gives : Progress → List Stored → Progress → Type 0 where
  none : {old : Progress} → Gives old [] old
  more : {old between new : Progress} {packet : Packet} {packets : List Stored}
      → Finds old between (Some packet) → Gives between packets new
      → Gives old (given packet between.input.packet ∷ packets) new

-- Calls, one after another, have given these packets, and the last call the end.
pub record GivesAll (old : Progress) (packets : List Stored) (new : Progress) : Type 0 where
  pub last : Progress
  pub gives : Gives old packets last
  pub ended : Finds last new None
