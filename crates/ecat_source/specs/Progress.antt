-- How far a capture was read, what the next call takes of it, and why it takes nothing.
use Rattle.std.specs.Prelude.{◌≡◌, ◌⊎◌, ℕ, ◌<◌, Option, None, Some, Result, Ok, Err, List, [], ◌∷◌, ◌++◌, ⊤}
use Rattle.std.specs.Io.KnownBytes.{IsAtEnd}
use Rattle.ecat_source.specs.Source.{CanFail}
use Rattle.ecat_source.specs.Input.{Input}
use Rattle.ecat_source.specs.Capture.{IsHeader, IsRecord, IsCapture, AreRecords}
use Rattle.ecat_source.specs.Faults.{HeaderIsRefused, RecordIsRefused, Explains, Takes, Ends}
use Rattle.ecat_source.specs.declared.capture.Stage.{Stage}
use Rattle.ecat_source.specs.declared.capture.Stage.TheVariants.{Header, Records, End, Fault}
use Rattle.ecat_source.specs.declared.capture.Packet.{Packet}
use Rattle.ecat_source.specs.declared.capture.PcapFault.{PcapFault}
use Rattle.ecat_source.specs.declared.capture.PcapFault.TheVariants as faults

-- what comes next in a capture, and the input that it is read from
pub record Progress : Type 0 where
  pub stage : Stage
  pub input : Input

-- the bytes of the next packet: its record, and before the first one the header
abbrev pub IsNext : Stage → List ℕ → List ℕ → Type 0
IsNext Header packet front =
    (header rest : List ℕ) × (front ≡ header ++ rest) × IsHeader header × IsRecord rest packet
IsNext Records packet front = IsRecord front packet
IsNext End packet front = ⊥
IsNext Fault packet front = ⊥

-- A header was taken, and then the bytes have ended.
abbrev pub EndsBehindHeader : Input → Input → Type 0
EndsBehindHeader old new = Takes IsHeader old new × (CanFail new.count → IsAtEnd new.ahead)

-- The capture ends where a record would begin, and it stays at its end.
abbrev pub EndsAt : Stage → Input → Input → Type 0
EndsAt Header old new = EndsBehindHeader old new
EndsAt Records old new = Ends old new
EndsAt End old new = new ≡ old
EndsAt Fault old new = ⊥

-- The bytes are refused where the header, or behind it the first record, is to stand, or a later record.
abbrev pub IsRefused : Stage → List ℕ → PcapFault → Type 0
IsRefused Header bytes fault = HeaderIsRefused bytes fault
    ⊎ ((header rest : List ℕ) × (bytes ≡ header ++ rest) × IsHeader header × RecordIsRefused rest fault)
IsRefused Records bytes fault = RecordIsRefused bytes fault
IsRefused End bytes fault = ⊥
IsRefused Fault bytes fault = ⊥

-- why a call has failed: after a fault, for that alone
abbrev pub Blames : Stage → Input → Input → PcapFault → Type 0
Blames Header old new fault = Explains (IsRefused Header) old new fault
Blames Records old new fault = Explains (IsRefused Records) old new fault
Blames End old new fault = ⊥
Blames Fault old new fault = (fault ≡ faults.Failed) × (new ≡ old)

-- what comes after a call that gave this
abbrev pub stage_after : {P : Type 0} → Result (Option P) PcapFault → Stage
stage_after (Ok None) = End
stage_after (Ok (Some packet)) = Records
stage_after (Err fault) = Fault

-- the bytes from a stage on are those of a capture with these packets
abbrev pub StandsBefore : Stage → List ℕ → List (List ℕ) → Type 0
StandsBefore Header bytes packets = IsCapture bytes packets
StandsBefore Records bytes packets = AreRecords bytes packets
StandsBefore End bytes packets = (bytes ≡ []) × (packets ≡ [])
StandsBefore Fault bytes packets = ⊥

-- these packets, and nothing else, are ahead, and the source tells that
abbrev pub HasAhead : Progress → List (List ℕ) → Type 0
HasAhead progress packets =
    (bytes : List ℕ) × (progress.input.ahead ≡ Some bytes)
    × StandsBefore progress.stage bytes packets

-- a fault that a good capture can meet: a read failed in that call, or memory ran out
abbrev pub Hinders : Input → Input → PcapFault → Type 0
Hinders old new faults.Read = old.count < new.count
Hinders old new faults.NoMemory = ⊤
Hinders old new _ = ⊥

-- of the packets ahead the first is given, and then the others are ahead; or there is none
abbrev pub GivesFirst : List (List ℕ) → Progress → Result (Option Packet) PcapFault → Progress → Type 0
GivesFirst packets old (Ok None) new = (packets ≡ []) × HasAhead new []
GivesFirst packets old (Ok (Some packet)) new =
    (rest : List (List ℕ)) × (packets ≡ packet.bytes.items ∷ rest)
    × HasAhead new rest
GivesFirst packets old (Err fault) new = Hinders old.input new.input fault
