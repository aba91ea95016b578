-- Pieces, and what is no piece, by the bytes that were loaded in two goes: the first say how many are wanted.
use Rattle.std.proofs.Common.{◌≡◌, ℕ, ◌+◌, ◌<◌, ◌≤◌, List, Option, Some, None, IfSome, IfErr, Result, Ok, Err, take}
use Rattle.std.proofs.Common.{length, min, refl, arith, sym, ap, ◌∙◌, inl, inr}
use Rattle.std.proofs.lemmas.List.{take_all, length-take}
use Rattle.std.specs.Io.KnownBytes.{Consumes, Keeps}
use Rattle.ecat_source.specs.Source.{CanFail}
use Rattle.ecat_capture.specs.Numbers.{word}
use Rattle.ecat_capture.specs.Input.{Input, ahead, run, place_behind, BeginsWith, IsExhausted}
use Rattle.ecat_capture.specs.Pieces.{greatest_packet, kept_packet}
use Rattle.ecat_capture.specs.Classic.{IsCutRecord, format_of, record_of}
use Rattle.ecat_capture.specs.Blocks.{IsBlock, IsCutBlock, block_order, length_fault}
use Rattle.ecat_capture.specs.Progress.{Takes, PacketIs, IsSameStart, IsCutStart}
use Rattle.ecat_capture.specs.Progress.{IsRefusal, Explains, BlamesAt, TakesPiece, stored_range}
use Rattle.ecat_capture.specs.declared.order.Order.{Order}
use Rattle.ecat_capture.specs.declared.order.Order.TheVariants.{Little}
use Rattle.ecat_capture.specs.declared.classic.Format.{Format}
use Rattle.ecat_capture.specs.declared.blocks.Interface.{Interface}
use Rattle.ecat_capture.specs.declared.blocks.Body.{Body}
use Rattle.ecat_capture.specs.declared.blocks.Body.TheVariants as body
use Rattle.ecat_capture.specs.declared.packet.Found.{Found}
use Rattle.ecat_capture.specs.declared.capture.Stage.{Stage}
use Rattle.ecat_capture.specs.declared.capture.Stage.TheVariants.{Start, Records, Blocks, End, Fault}
use Rattle.ecat_capture.specs.declared.capture.Piece.{Piece}
use Rattle.ecat_capture.specs.declared.capture.Piece.TheVariants as piece
use Rattle.ecat_capture.specs.declared.capture.Step.{Step}
use Rattle.ecat_capture.specs.declared.fault.CaptureFault.{CaptureFault}
use Rattle.ecat_capture.specs.declared.fault.CaptureFaultKind.{CaptureFaultKind}
use Rattle.ecat_capture.specs.declared.fault.CaptureFaultKind.TheVariants as fault
use Rattle.ecat_capture.proofs.Consuming.{BeginsWith-of_kept, Consumes-of_kept, IfSome-exhausted}
use Rattle.ecat_capture.proofs.Fronts.{word-grown}

-- bytes that begin with no piece explain a fault that says so
pub Explains-refused : (cut : List ℕ → Type 0) (refused : CaptureFaultKind → List ℕ → Type 0)
    (old new : Input) (kind : CaptureFaultKind) (front : List ℕ) → IsRefusal kind → refused kind front
    → BeginsWith (ahead old) front → Explains cut refused old new kind
Explains-refused cut refused old new fault.Short front is refusal begins = absurd is
Explains-refused cut refused old new fault.NotCapture front is refusal begins = (front, refusal, begins)
Explains-refused cut refused old new fault.Version front is refusal begins = (front, refusal, begins)
Explains-refused cut refused old new fault.LinkType front is refusal begins = (front, refusal, begins)
Explains-refused cut refused old new fault.TooLong front is refusal begins = (front, refusal, begins)
Explains-refused cut refused old new fault.ByteOrder front is refusal begins = (front, refusal, begins)
Explains-refused cut refused old new fault.BlockLength front is refusal begins = (front, refusal, begins)
Explains-refused cut refused old new fault.Overrun front is refusal begins = (front, refusal, begins)
Explains-refused cut refused old new fault.Interface front is refusal begins = (front, refusal, begins)
Explains-refused cut refused old new fault.TooManyInterfaces front is refusal begins = (front, refusal, begins)
Explains-refused cut refused old new fault.TimeResolution front is refusal begins = (front, refusal, begins)
Explains-refused cut refused old new fault.NoPacket front is refusal begins = absurd is
Explains-refused cut refused old new fault.Read front is refusal begins = absurd is
Explains-refused cut refused old new fault.NoMemory front is refusal begins = absurd is
Explains-refused cut refused old new fault.Failed front is refusal begins = absurd is

-- An explanation from a later input is one from an earlier one with the same bytes ahead, by weaker words.
module _ (cut cut' : List ℕ → Type 0) (refused refused' : CaptureFaultKind → List ℕ → Type 0)
    (old mid new : Input) (same : Keeps (ahead old) (ahead mid)) (fewer : old.count ≤ mid.count)
    (weaker : (bytes : List ℕ) → cut bytes → cut' bytes)
    (weaker' : (kind : CaptureFaultKind) (front : List ℕ) → refused kind front → refused' kind front) where
  earlier : (old mid : Option (List ℕ)) → Keeps old mid → IfSome mid cut → IfSome old cut'
  earlier None mid keeps is = tt
  earlier (Some os) None keeps is = absurd keeps
  earlier (Some os) (Some ms) keeps is = rw (← keeps) (weaker ms is)

  no_front : (kind : CaptureFaultKind) → ((front : List ℕ) × refused kind front × BeginsWith (ahead mid) front)
      → (front : List ℕ) × refused' kind front × BeginsWith (ahead old) front
  no_front kind is = (is.0, weaker' kind is.0 is.1, BeginsWith-of_kept (ahead old) (ahead mid) is.0 same is.2)

  pub Explains-weaker : (kind : CaptureFaultKind) → Explains cut refused mid new kind
      → Explains cut' refused' old new kind
  Explains-weaker fault.Short is = λ live. earlier (ahead old) (ahead mid) same (is live)
  Explains-weaker fault.NotCapture is = no_front fault.NotCapture is
  Explains-weaker fault.Version is = no_front fault.Version is
  Explains-weaker fault.LinkType is = no_front fault.LinkType is
  Explains-weaker fault.TooLong is = no_front fault.TooLong is
  Explains-weaker fault.ByteOrder is = no_front fault.ByteOrder is
  Explains-weaker fault.BlockLength is = no_front fault.BlockLength is
  Explains-weaker fault.Overrun is = no_front fault.Overrun is
  Explains-weaker fault.Interface is = no_front fault.Interface is
  Explains-weaker fault.TooManyInterfaces is = no_front fault.TooManyInterfaces is
  Explains-weaker fault.TimeResolution is = no_front fault.TimeResolution is
  Explains-weaker fault.NoPacket is = is
  Explains-weaker fault.Read is = omega arith
  Explains-weaker fault.NoMemory is = tt
  Explains-weaker fault.Failed is = is

-- more of an input was loaded
module _ (old mid : Input) (same : Keeps (ahead old) (ahead mid))
    (front : take (length old.loaded) mid.loaded ≡ old.loaded)
    (more : length old.loaded ≤ length mid.loaded) where
  -- a number in the bytes that were loaded first
  pub word-first : (order : Order) (at n m : ℕ) → at + 4 ≤ n → n ≤ m → n ≤ length old.loaded
      → word order at (take m mid.loaded) ≡ word order at (take n old.loaded)
  word-first order at n m within longer there =
      word-grown order at n m old.loaded mid.loaded within longer there front more

  -- that number in all that is loaded
  pub word-all : (order : Order) (at n : ℕ) → at + 4 ≤ n → n ≤ length old.loaded
      → word order at mid.loaded ≡ word order at (take n old.loaded)
  word-all order at n within there =
      let all : take (length mid.loaded) mid.loaded ≡ mid.loaded = take_all _ _ (omega arith) in
      ap (word order at) (sym all) ∙ word-first order at n (length mid.loaded) within (omega arith) there

  -- what is all that is ahead
  pub ended : (P : List ℕ → Type 0) → IsExhausted mid → CanFail mid.count → P mid.loaded
      → IfSome (ahead old) P
  ended P end live holds = IfSome-exhausted P (ahead old) mid.rest mid.loaded same (end live) holds

  -- the first bytes that are loaded now begin what was ahead
  pub begins-first : (bytes : List ℕ) → BeginsWith (ahead mid) bytes → BeginsWith (ahead old) bytes
  begins-first bytes begins = BeginsWith-of_kept (ahead old) (ahead mid) bytes same begins

  -- a header that ends too early
  pub header-cut : (format : Format) → 4 ≤ length old.loaded
      → format_of (word Little 0 (take 4 old.loaded)) ≡ Some format → length mid.loaded < 24
      → IsExhausted mid → CanFail mid.count → IfSome (ahead old) IsCutStart
  header-cut format there magic few end live =
      ended IsCutStart end live
      (inr (inl (format, ap format_of (word-all Little 0 4 (omega arith) there) ∙ magic, few)))

  -- a record that ends too early
  pub record-cut : (format : Format) (captured : ℕ) → 16 ≤ length old.loaded
      → word format.order 8 (take 16 old.loaded) ≡ captured → captured ≤ greatest_packet
      → length mid.loaded < 16 + captured → IsExhausted mid → CanFail mid.count
      → IfSome (ahead old) (IsCutRecord format)
  record-cut format captured there says fits few end live =
      let is : word format.order 8 mid.loaded ≡ captured =
      word-all format.order 8 16 (omega arith) there ∙ says in
      ended (IsCutRecord format) end live (omega arith, inr (omega arith, omega arith))

  -- the order of a block, which its first twelve bytes tell
  pub block_order-first : (section : Order) (m : ℕ) → 12 ≤ m → 12 ≤ length old.loaded
      → block_order section (take m mid.loaded) ≡ block_order section (take 12 old.loaded)
  unfolding block_order
  block_order-first section m longer there =
      rw (word-first Little 0 12 m (omega arith) longer there, word-first Little 8 12 m (omega arith) longer there)
      refl

  pub block_order-all : (section : Order) → 12 ≤ length old.loaded
      → block_order section mid.loaded ≡ block_order section (take 12 old.loaded)
  block_order-all section there =
      let all : take (length mid.loaded) mid.loaded ≡ mid.loaded = take_all _ _ (omega arith) in
      ap (block_order section) (sym all)
      ∙ block_order-first section (length mid.loaded) (omega arith) there

  -- the first four bytes are still those
  pub same_start : (m : ℕ) → 4 ≤ m → 4 ≤ length old.loaded → IsSameStart old.loaded (take m mid.loaded)
  same_start m longer there = word-first Little 0 4 m (omega arith) longer there

  pub same_start-all : 4 ≤ length old.loaded → IsSameStart old.loaded mid.loaded
  same_start-all there = word-all Little 0 4 (omega arith) there

  -- a block that ends too early
  pub block-cut : (section order : Order) (size : ℕ) → 12 ≤ length old.loaded
      → block_order section (take 12 old.loaded) ≡ Some order → word order 4 (take 12 old.loaded) ≡ size
      → length_fault size ≡ None → length mid.loaded < size → IsExhausted mid → CanFail mid.count
      → IfSome (ahead old) (λ bytes. IsSameStart old.loaded bytes × IsCutBlock section bytes)
  block-cut section order size there order_is says good few end live =
      let is : word order 4 mid.loaded ≡ size = word-all order 4 12 (omega arith) there ∙ says in
      ended (λ bytes. IsSameStart old.loaded bytes × IsCutBlock section bytes) end live (
        same_start-all (omega arith),
        (
          omega arith,
          inr (order, block_order-all section there ∙ order_is, ap length_fault is ∙ good, omega arith),
        ),
      )

  -- a whole block
  pub block-whole : (section order : Order) (size : ℕ) → 12 ≤ length old.loaded → 12 ≤ size
      → block_order section (take 12 old.loaded) ≡ Some order → word order 4 (take 12 old.loaded) ≡ size
      → length_fault size ≡ None → size ≤ length mid.loaded → IsBlock section (take size mid.loaded) order
  block-whole section order size there some order_is says good many =
      let whole : length (take size mid.loaded) ≡ size = simp length-take (omega arith) in
      record {
        order_is = block_order-first section size some there ∙ order_is;
        good = ap length_fault whole ∙ good;
        length_is = word-first order 4 12 size (omega arith) some there ∙ says ∙ sym whole;
      }

  -- what was taken of the loaded bytes
  pub takes-front : (P : List ℕ → Type 0) (what : Piece) (new : Input) (size : ℕ) → size ≤ length mid.loaded
      → P (take size mid.loaded) → PacketIs what (take size mid.loaded) new.packet
      → Consumes (ahead mid) (ahead new) (take size mid.loaded) → mid.place ≡ old.place
      → new.place ≡ place_behind mid.place size → Takes P what old new
  takes-front P what new size many holds packet taken place place' =
      let whole : length (take size mid.loaded) ≡ size = simp length-take (omega arith) in
      record {
        front = take size mid.loaded;
        holds = holds;
        taken = Consumes-of_kept (ahead old) (ahead mid) (ahead new) (take size mid.loaded) same taken;
        packet = packet;
        place = place' ∙ ap (λ p. place_behind p size) place ∙ ap (place_behind old.place) (sym whole);
      }

-- the packet of a record lies behind its head
pub record-packet : (format : Format) (bytes packet : List ℕ) (found : Found) (captured : ℕ)
    → found ≡ record_of format bytes → word format.order 8 bytes ≡ captured
    → packet ≡ run 16 (16 + min captured kept_packet) bytes → PacketIs (piece.Record found) bytes packet
unfolding record_of
record-packet format bytes packet found captured is says packet_is = rw (is, says) packet_is

-- a block that no piece could be kept of: only an interface needs memory
pub NoMemory-blames : (stage : Stage) (interfaces : List Interface) (interface : Interface) (old new new' : Input)
    → TakesPiece stage interfaces old new' (piece.Block (body.Interface interface))
    → BlamesAt stage interfaces old new fault.NoMemory
NoMemory-blames Start interfaces interface old new new' takes = tt
NoMemory-blames (Records format) interfaces interface old new new' takes = tt
NoMemory-blames (Blocks order) interfaces interface old new new' takes = tt
NoMemory-blames End interfaces interface old new new' takes = absurd takes.holds
NoMemory-blames Fault interfaces interface old new new' takes = absurd takes.holds

-- the packet of a block lies where its body says
pub body-packet : (says : Body) (bytes packet : List ℕ)
    → packet ≡ run (stored_range says).from (stored_range says).to bytes
    → PacketIs (piece.Block says) bytes packet
body-packet (body.Section order) bytes packet is = tt
body-packet (body.Interface interface) bytes packet is = tt
body-packet (body.Packet found) bytes packet is = is
body-packet body.Other bytes packet is = tt

-- one answer has one piece
pub same_piece : (result : Result Piece CaptureFaultKind) (a b : Piece) → result ≡ Ok a → result ≡ Ok b → a ≡ b
same_piece result a b first second = cc

-- what failed behind a piece that was taken is blamed on memory
pub accept-blames : (result : Result Step CaptureFault) (stage : Stage) (interfaces : List Interface)
    (old new new' : Input) (what : Piece) → TakesPiece stage interfaces old new' what
    → IfErr result (λ f. (f.kind ≡ fault.NoMemory) × (interface : Interface)
    × (what ≡ piece.Block (body.Interface interface)))
    → IfErr result (λ f. BlamesAt stage interfaces old new f.kind)
accept-blames (Ok told) stage interfaces old new new' what takes is = tt
accept-blames (Err f) stage interfaces old new new' what takes is =
    rw is.0 (NoMemory-blames stage interfaces is.1 old new new' (rw is.2 at takes))
