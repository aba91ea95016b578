-- What calls give one after another up to the end are the packets of the file.
use Rattle.std.proofs.Common.{◌≡◌, ℕ, List, [], ◌∷◌, ◌++◌, Option, Some, None}
use Rattle.std.proofs.Common.{refl, sym, ap, ◌∙◌, append-nil, append_assoc, subst}
use Rattle.std.specs.Io.KnownBytes.{Consumes}
use Rattle.ecat_source.specs.Source.{CanFail}
use Rattle.ecat_capture.specs.Input.{Input, ahead}
use Rattle.ecat_capture.specs.Progress.{Progress, Takes, TakesPiece, IsPiece, EndsAt, Passes}
use Rattle.ecat_capture.specs.Progress.{stage_behind, interfaces_behind, step_of, packet_told, next_number}
use Rattle.ecat_capture.specs.Progress.{stored_bytes}
use Rattle.ecat_capture.specs.declared.packet.Found.{Found}
use Rattle.ecat_capture.specs.Progress.Passes.{none, more}
use Rattle.ecat_capture.specs.File as file
use Rattle.ecat_capture.specs.File.{Stored, stored, packets_of, MayEnd, Holds, IsCapture, given, Gives, GivesAll}
use Rattle.ecat_capture.specs.File.Holds.{ends, goes_on}
use Rattle.ecat_capture.specs.declared.blocks.Interface.{Interface}
use Rattle.ecat_capture.specs.declared.blocks.Body.TheVariants as body
use Rattle.ecat_capture.specs.declared.packet.Packet.{Packet}
use Rattle.ecat_capture.specs.declared.capture.Stage.{Stage}
use Rattle.ecat_capture.specs.declared.capture.Stage.TheVariants.{Start, Records, Blocks, End, Fault}
use Rattle.ecat_capture.specs.declared.capture.Piece.{Piece}
use Rattle.ecat_capture.specs.declared.capture.Piece.TheVariants as piece
use Rattle.ecat_capture.specs.declared.capture.Step.TheVariants as step

-- the end was not found yet
abbrev pub IsOpen : Stage → Type 0
IsOpen End = ⊥
IsOpen other = Unit {0}

-- what is ahead behind bytes that were taken
rest_of : (old new : Option (List ℕ)) (bytes front : List ℕ) → old ≡ Some bytes → Consumes old new front
    → (rest : List ℕ) × (new ≡ Some rest) × (bytes ≡ front ++ rest)
rest_of None new bytes front is taken = absurd (cc is)
rest_of (Some xs) None bytes front is taken = absurd taken
rest_of (Some xs) (Some ys) bytes front is taken =
    let same : xs ≡ bytes = cc is in (ys, refl, sym same ∙ taken)

-- behind what was taken of a capture the rest of it is ahead: with the packets before it, it is the capture
pub record Leads (old new : Progress) (bytes : List ℕ) (before : List Stored) : Type 0 where
  rest : List ℕ
  ahead_is : ahead new.input ≡ Some rest
  holds : (others : List Stored) → Holds new.stage new.interfaces rest others
      → Holds old.stage old.interfaces bytes (before ++ others)
  still_open : IsOpen new.stage

-- a piece of it was taken
piece_leads : (old new : Progress) (bytes : List ℕ) (what : Piece) → ahead old.input ≡ Some bytes
    → (takes : Takes (IsPiece old.stage old.interfaces what) what old.input new.input)
    → new.stage ≡ stage_behind old.stage what → new.interfaces ≡ interfaces_behind old.interfaces what
    → IsOpen (stage_behind old.stage what)
    → Leads old new bytes (packets_of what takes.front)
piece_leads old new bytes what is takes stage interfaces unended =
    let behind = rest_of (ahead old.input) (ahead new.input) bytes takes.front is takes.taken in
    record {
      rest = behind.0;
      ahead_is = behind.1;
      holds = λ others held. goes_on what takes.front behind.0 others takes.holds behind.2 refl
          (rw (← stage, ← interfaces) held);
      still_open = rw stage unended;
    }

-- a step that was told so
other_leads : (old new : Progress) (bytes : List ℕ) (what : Piece) → ahead old.input ≡ Some bytes
    → IsOpen old.stage → TakesPiece old.stage old.interfaces old.input new.input what
    → step.Other ≡ step_of old.number what
    → new.stage ≡ stage_behind old.stage what → new.interfaces ≡ interfaces_behind old.interfaces what
    → Leads old new bytes []
other_leads old new bytes (piece.Header format) is unended takes told stage interfaces =
    piece_leads old new bytes (piece.Header format) is takes stage interfaces tt
other_leads old new bytes (piece.Record found) is unended takes told stage interfaces = absurd (cc told)
other_leads old new bytes (piece.Block (body.Section order)) is unended takes told stage interfaces =
    piece_leads old new bytes (piece.Block (body.Section order)) is takes stage interfaces tt
other_leads old new bytes (piece.Block (body.Interface one)) is unended takes told stage interfaces =
    piece_leads old new bytes (piece.Block (body.Interface one)) is takes stage interfaces unended
other_leads old new bytes (piece.Block (body.Packet found)) is unended takes told stage interfaces =
    absurd (cc told)
other_leads old new bytes (piece.Block body.Other) is unended takes told stage interfaces =
    piece_leads old new bytes (piece.Block body.Other) is takes stage interfaces unended
other_leads old new bytes piece.End is unended takes told stage interfaces = absurd (cc told)

-- one step behind another
Leads-then : (old mid new : Progress) (bytes : List ℕ) (first : List Stored) (second : List Stored)
    → (leads : Leads old mid bytes first) → Leads mid new leads.rest second
    → Leads old new bytes (first ++ second)
Leads-then old mid new bytes first second one two = record {
  rest = two.rest;
  ahead_is = two.ahead_is;
  holds = λ others held.
      rw (append_assoc first second others) (one.holds (second ++ others) (two.holds others held));
  still_open = two.still_open;
}

-- pieces that are no packets
passes_lead : (old new : Progress) (bytes : List ℕ) → ahead old.input ≡ Some bytes → IsOpen old.stage
    → Passes old new → Leads old new bytes []
passes_lead old new bytes is unended none = record {
  rest = bytes;
  ahead_is = is;
  holds = λ others held. held;
  still_open = unended;
}
passes_lead old new bytes is unended (more {between = between} passes steps) =
    let before = passes_lead old between bytes is unended passes in
    Leads-then old between new bytes [] [] before
    (other_leads between new before.rest steps.what before.ahead_is before.still_open steps.takes steps.told_is
    steps.stage steps.interfaces)

-- a packet as it is told is as it is stored
given_stored : (packet : Packet) (number : ℕ) (found : Found) (lent front : List ℕ)
    → packet ≡ packet_told number found → lent ≡ stored_bytes found front
    → given packet lent ≡ stored found front
given_stored packet number found lent front same bytes =
    ap (λ p. given p lent) same ∙ ap (given (packet_told number found)) bytes

-- a step that gave a packet
packet_leads : (old new : Progress) (bytes : List ℕ) (packet : Packet) (what : Piece)
    → ahead old.input ≡ Some bytes → IsOpen old.stage
    → TakesPiece old.stage old.interfaces old.input new.input what
    → step.Packet packet ≡ step_of old.number what
    → new.stage ≡ stage_behind old.stage what → new.interfaces ≡ interfaces_behind old.interfaces what
    → Leads old new bytes (given packet new.input.packet ∷ [])
packet_leads old new bytes packet (piece.Header format) is unended takes told stage interfaces =
    absurd (cc told)
packet_leads old new bytes packet (piece.Record found) is unended takes told stage interfaces =
    let same : packet ≡ packet_told (next_number old.number) found = cc told in
    subst (λ p. Leads old new bytes (p ∷ []))
    (sym (given_stored packet (next_number old.number) found new.input.packet takes.front same takes.packet))
    (piece_leads old new bytes (piece.Record found) is takes stage interfaces unended)
packet_leads old new bytes packet (piece.Block (body.Section order)) is unended takes told stage interfaces =
    absurd (cc told)
packet_leads old new bytes packet (piece.Block (body.Interface one)) is unended takes told stage interfaces =
    absurd (cc told)
packet_leads old new bytes packet (piece.Block (body.Packet found)) is unended takes told stage interfaces =
    let same : packet ≡ packet_told (next_number old.number) found = cc told in
    subst (λ p. Leads old new bytes (p ∷ []))
    (sym (given_stored packet (next_number old.number) found new.input.packet takes.front same takes.packet))
    (piece_leads old new bytes (piece.Block (body.Packet found)) is takes stage interfaces unended)
packet_leads old new bytes packet (piece.Block body.Other) is unended takes told stage interfaces =
    absurd (cc told)
packet_leads old new bytes packet piece.End is unended takes told stage interfaces = absurd (cc told)

-- calls that gave packets
gives_lead : (old new : Progress) (bytes : List ℕ) (packets : List Stored) → ahead old.input ≡ Some bytes
    → IsOpen old.stage → Gives old packets new → Leads old new bytes packets
gives_lead old new bytes [] is unended file.Gives.none = record {
  rest = bytes;
  ahead_is = is;
  holds = λ others held. held;
  still_open = unended;
}
gives_lead old new bytes (p ∷ ps) is unended (file.Gives.more {between = mid} {packet = packet} finds gives) =
    let passed = passes_lead old finds.between bytes is unended finds.passes in
    let one = packet_leads finds.between mid passed.rest packet finds.last.what passed.ahead_is
    passed.still_open finds.last.takes finds.last.told_is finds.last.stage finds.last.interfaces in
    let both = Leads-then old finds.between mid bytes [] (given packet mid.input.packet ∷ []) passed one in
    Leads-then old mid new bytes (given packet mid.input.packet ∷ []) ps both
    (gives_lead mid new both.rest ps both.ahead_is both.still_open gives)

-- where the bytes end, no packets are
nothing_left : (stage : Stage) (interfaces : List Interface) (old new : Input) (bytes : List ℕ)
    → ahead old ≡ Some bytes → IsOpen stage → CanFail new.count → EndsAt stage old new
    → Holds stage interfaces bytes []
nothing_left Start interfaces old new bytes is unended live end = absurd end
nothing_left (Records format) interfaces old new bytes is unended live end =
    ends tt (rw is at (end live)) refl
nothing_left (Blocks order) interfaces old new bytes is unended live end =
    ends tt (rw is at (end live)) refl
nothing_left End interfaces old new bytes is unended live end = absurd unended
nothing_left Fault interfaces old new bytes is unended live end = absurd end

-- a step that gave the end
end_holds : (old new : Progress) (bytes : List ℕ) (what : Piece) → ahead old.input ≡ Some bytes
    → IsOpen old.stage → CanFail new.input.count
    → TakesPiece old.stage old.interfaces old.input new.input what → step.End ≡ step_of old.number what
    → Holds old.stage old.interfaces bytes []
end_holds old new bytes (piece.Header format) is unended live takes told = absurd (cc told)
end_holds old new bytes (piece.Record found) is unended live takes told = absurd (cc told)
end_holds old new bytes (piece.Block (body.Section order)) is unended live takes told = absurd (cc told)
end_holds old new bytes (piece.Block (body.Interface one)) is unended live takes told = absurd (cc told)
end_holds old new bytes (piece.Block (body.Packet found)) is unended live takes told = absurd (cc told)
end_holds old new bytes (piece.Block body.Other) is unended live takes told = absurd (cc told)
end_holds old new bytes piece.End is unended live takes told =
    nothing_left old.stage old.interfaces old.input new.input bytes is unended live takes

-- all calls up to the end
pub gives_all : (old new : Progress) (bytes : List ℕ) (packets : List Stored) → ahead old.input ≡ Some bytes
    → IsOpen old.stage → CanFail new.input.count → GivesAll old packets new
    → Holds old.stage old.interfaces bytes packets
gives_all old new bytes packets is unended live all =
    let given = gives_lead old all.last bytes packets is unended all.gives in
    let finds = all.ended in
    let passed = passes_lead all.last finds.between given.rest given.ahead_is given.still_open finds.passes in
    let end = end_holds finds.between new passed.rest finds.last.what passed.ahead_is passed.still_open live
    finds.last.takes finds.last.told_is in
    rw (append-nil packets) at (given.holds [] (passed.holds [] end))

pub whole : (old new : Progress) (bytes : List ℕ) (packets : List Stored) → old.stage ≡ Start
    → old.interfaces ≡ [] → ahead old.input ≡ Some bytes → GivesAll old packets new
    → CanFail new.input.count → IsCapture bytes packets
whole old new bytes packets stage interfaces is all live =
    rw (stage, interfaces) at (gives_all old new bytes packets is (rw stage tt) live all)
