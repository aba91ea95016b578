-- Over the bytes of a capture each call gives the first of its packets: no two captures have the same bytes,
-- and no fault is found in one.
use Rattle.std.proofs.Common.{◌≡◌, ℕ, ◌+◌, ◌≤◌, List, [], ◌∷◌, ◌++◌, take, drop, length, Option, Some, None}
use Rattle.std.proofs.Common.{Ok, Err, Result, refl, arith, sym, ap, ◌∙◌, inl, inr}
use Rattle.std.proofs.lemmas.List.{append_assoc, take_at, drop_at, length-drop, length-append}
use Rattle.std.specs.Prelude.{IfOk, IfErr, IfSome}
use Rattle.std.specs.Io.KnownBytes.{Consumes}
use Rattle.ecat_source.specs.Source.{CanFail}
use Rattle.ecat_source.specs.Input.{Input}
use Rattle.ecat_source.specs.Capture.{IsHeader, IsRecord, AreRecords, stored_length, head_length}
use Rattle.ecat_source.specs.Capture.{greatest_packet}
use Rattle.ecat_source.specs.Faults.{HeaderIsRefused, RecordIsRefused, Explains, Takes}
use Rattle.ecat_source.specs.Progress.{Progress, IsNext, EndsAt, IsRefused, Blames, StandsBefore, HasAhead}
use Rattle.ecat_source.specs.Progress.{Hinders, GivesFirst, stage_after}
use Rattle.ecat_source.specs.declared.capture.Packet.{Packet}
use Rattle.ecat_source.specs.declared.capture.Stage.{Stage}
use Rattle.ecat_source.specs.declared.capture.Stage.TheVariants.{Header, Records, End, Fault}
use Rattle.ecat_source.specs.declared.capture.PcapFault.{PcapFault}
use Rattle.ecat_source.specs.declared.capture.PcapFault.TheVariants as faults
use Rattle.ecat_source.proofs.Fronts.{stored_length-append, magic-append, version-append, link-append}

-- two fronts of one length, with the same bytes in all
append_inj : (a b x y : List ℕ) → length a ≡ length b → a ++ x ≡ b ++ y → (a ≡ b) × (x ≡ y)
append_inj a b x y len same = (
  sym (take_at a x (length b) len) ∙ ap (take (length b)) same ∙ take_at b y (length b) refl,
  sym (drop_at a x (length b) len) ∙ ap (drop (length b)) same ∙ drop_at b y (length b) refl,
)

-- a record has its head and the stored bytes
length-record : (front packet : List ℕ) → IsRecord front packet → length front ≡ head_length + length packet
length-record front packet is = omega (arith, is.head, ap length is.packet_is, length-drop head_length front)

-- two records in front of the same bytes are one
same_record : (a b p q x y : List ℕ) → IsRecord a p → IsRecord b q → a ++ x ≡ b ++ y → (p ≡ q) × (x ≡ y)
same_record a b p q x y first second same =
    let lengths : length p ≡ length q = sym first.stored ∙ sym (stored_length-append a x first.head)
    ∙ ap stored_length same ∙ stored_length-append b y second.head ∙ second.stored in
    let fronts = append_inj a b x y (omega (arith, length-record a p first, length-record b q second)) same in
    (sym first.packet_is ∙ ap (drop head_length) fronts.0 ∙ second.packet_is, fronts.1)

-- there are bytes where a record is
some_record : (front packet rest : List ℕ) → IsRecord front packet → front ++ rest ≡ [] → ⊥
some_record front packet rest is none = omega (arith, is.head, ap length none, length-append front rest)

-- what the first of several records says of the bytes
first_record : (bytes packet : List ℕ) (packets : List (List ℕ)) → AreRecords bytes (packet ∷ packets)
    → (stored_length bytes ≡ length packet) × (head_length + length packet ≤ length bytes)
    × (length packet ≤ greatest_packet)
first_record bytes packet packets are =
    let is = are.3 in (
      ap stored_length are.2 ∙ stored_length-append are.0 are.1 is.head ∙ is.stored,
      omega (arith, ap length are.2, length-append are.0 are.1, length-record are.0 packet is),
      is.fits,
    )

-- in front of records no record is refused
unrefused_records : (bytes : List ℕ) (packets : List (List ℕ)) (fault : PcapFault) → AreRecords bytes packets
    → RecordIsRefused bytes fault → ⊥
unrefused_records bytes [] faults.Short are refused = omega (arith, ap length are, refused.0)
unrefused_records bytes (p ∷ ps) faults.Short are refused =
    let first = first_record bytes p ps are in
    elim refused.1
    [ inl low ↦ omega (arith, first.1, low) | inr ends ↦ omega (arith, first.0, first.1, ends.1) ]
unrefused_records bytes packets faults.NotPcap are refused = refused
unrefused_records bytes packets faults.Version are refused = refused
unrefused_records bytes packets faults.LinkType are refused = refused
unrefused_records bytes [] faults.TooLong are refused = omega (arith, ap length are, refused.0)
unrefused_records bytes (p ∷ ps) faults.TooLong are refused =
    let first = first_record bytes p ps are in omega (arith, first.0, first.2, refused.1)
unrefused_records bytes packets faults.Read are refused = refused
unrefused_records bytes packets faults.NoMemory are refused = refused
unrefused_records bytes packets faults.Failed are refused = refused

-- in front of a header no header is refused
unrefused_header : (header rest : List ℕ) (fault : PcapFault) → IsHeader header
    → HeaderIsRefused (header ++ rest) fault → ⊥
unrefused_header header rest faults.Short is refused =
    omega (arith, is.whole, refused, length-append header rest)
unrefused_header header rest faults.NotPcap is refused =
    refused.1 (magic-append header rest is.whole ∙ is.magic)
unrefused_header header rest faults.Version is refused =
    refused.2 (version-append header rest is.whole ∙ is.version)
unrefused_header header rest faults.LinkType is refused =
    refused.3 (link-append header rest is.whole ∙ is.link)
unrefused_header header rest faults.TooLong is refused = refused
unrefused_header header rest faults.Read is refused = refused
unrefused_header header rest faults.NoMemory is refused = refused
unrefused_header header rest faults.Failed is refused = refused

-- no capture is refused
unrefused : (stage : Stage) (bytes : List ℕ) (packets : List (List ℕ)) (fault : PcapFault)
    → StandsBefore stage bytes packets → IsRefused stage bytes fault → ⊥
unrefused Header bytes packets fault stands refused =
    elim refused [
      | inl header ↦ unrefused_header stands.0 stands.1 fault stands.3 (rw stands.2 at header)
      | inr behind ↦
          let fronts = append_inj stands.0 behind.0 stands.1 behind.1 (stands.3.whole ∙ sym behind.3.whole)
          (sym stands.2 ∙ behind.2) in
          unrefused_records stands.1 packets fault stands.4 (rw (← fronts.1) at behind.4)
    ]
unrefused Records bytes packets fault stands refused = unrefused_records bytes packets fault stands refused
unrefused End bytes packets fault stands refused = refused
unrefused Fault bytes packets fault stands refused = refused

-- what was taken of records is the first of them
rest_records : (bytes front rest packet : List ℕ) (packets : List (List ℕ)) → AreRecords bytes packets
    → IsRecord front packet → bytes ≡ front ++ rest → (others : List (List ℕ)) × (packets ≡ packet ∷ others)
    × AreRecords rest others
rest_records bytes front rest packet [] are is same =
    absurd (some_record front packet rest is (sym same ∙ are))
rest_records bytes front rest packet (p ∷ ps) are is same =
    let first = same_record are.0 front p packet are.1 rest are.3 is (sym are.2 ∙ same) in
    (ps, ap (λ q. q ∷ ps) first.0, rw (← first.1) are.4)

-- where no bytes are, no records are
no_records : (packets : List (List ℕ)) → AreRecords [] packets → packets ≡ []
no_records [] are = refl
no_records (p ∷ ps) are = absurd (some_record are.0 p are.1 are.3 (sym are.2))

-- what a call took of a capture is its first packet
rest_packets : (stage : Stage) (bytes front rest packet : List ℕ) (packets : List (List ℕ))
    → StandsBefore stage bytes packets → IsNext stage packet front → bytes ≡ front ++ rest
    → (others : List (List ℕ)) × (packets ≡ packet ∷ others) × AreRecords rest others
rest_packets Header bytes front rest packet packets stands next same =
    let split : bytes ≡ next.0 ++ (next.1 ++ rest) =
    same ∙ ap (λ f. f ++ rest) next.2 ∙ append_assoc next.0 next.1 rest in
    let fronts = append_inj stands.0 next.0 stands.1 (next.1 ++ rest) (stands.3.whole ∙ sym next.3.whole)
    (sym stands.2 ∙ split) in
    rest_records stands.1 next.1 rest packet packets stands.4 next.4 fronts.1
rest_packets Records bytes front rest packet packets stands next same =
    rest_records bytes front rest packet packets stands next same
rest_packets End bytes front rest packet packets stands next same = absurd next
rest_packets Fault bytes front rest packet packets stands next same = absurd next

-- the bytes that are left of known bytes
left_of : (old new : Option (List ℕ)) (bytes front : List ℕ) → old ≡ Some bytes → Consumes old new front
    → (rest : List ℕ) × (new ≡ Some rest) × (bytes ≡ front ++ rest)
left_of None new bytes front known taken = cc
left_of (Some os) None bytes front known taken = absurd taken
left_of (Some os) (Some ns) bytes front known taken = (ns, refl, cc)

-- where a capture ends, no packet is ahead
ends_packets : (stage : Stage) (old new : Input) (bytes : List ℕ) (packets : List (List ℕ))
    → old.ahead ≡ Some bytes → CanFail new.count → StandsBefore stage bytes packets → EndsAt stage old new
    → (packets ≡ []) × (new.ahead ≡ Some [])
ends_packets Header old new bytes packets known live stands ends =
    let header = ends.0 in
    let left = left_of old.ahead new.ahead bytes header.0 known header.2 in
    let none : left.0 ≡ [] = rw left.1 at (ends.1 live) in
    let fronts = append_inj stands.0 header.0 stands.1 left.0 (stands.3.whole ∙ sym header.1.whole)
    (sym stands.2 ∙ left.2) in
    (no_records packets (rw (fronts.1, none) at stands.4), left.1 ∙ ap Some none)
ends_packets Records old new bytes packets known live stands ends =
    let left = left_of old.ahead new.ahead bytes [] known ends.0 in
    let none : left.0 ≡ [] = rw left.1 at (ends.1 live) in
    (no_records packets (rw (left.2, none) at stands), left.1 ∙ ap Some none)
ends_packets End old new bytes packets known live stands ends =
    (stands.1, ap (λ (i : Input). i.ahead) ends ∙ known ∙ ap Some stands.0)
ends_packets Fault old new bytes packets known live stands ends = absurd ends

-- what explains that bytes of a capture were not taken
hindered_reading : (stage : Stage) (old new : Input) (bytes : List ℕ) (packets : List (List ℕ))
    (fault : PcapFault) → old.ahead ≡ Some bytes → CanFail new.count → StandsBefore stage bytes packets
    → Explains (IsRefused stage) old new fault → Hinders old new fault
hindered_reading stage old new bytes packets faults.Short known live stands explains =
    unrefused stage bytes packets faults.Short stands (rw known at (explains live))
hindered_reading stage old new bytes packets faults.NotPcap known live stands explains =
    unrefused stage bytes packets faults.NotPcap stands (rw known at explains)
hindered_reading stage old new bytes packets faults.Version known live stands explains =
    unrefused stage bytes packets faults.Version stands (rw known at explains)
hindered_reading stage old new bytes packets faults.LinkType known live stands explains =
    unrefused stage bytes packets faults.LinkType stands (rw known at explains)
hindered_reading stage old new bytes packets faults.TooLong known live stands explains =
    unrefused stage bytes packets faults.TooLong stands (rw known at explains)
hindered_reading stage old new bytes packets faults.Read known live stands explains = explains
hindered_reading stage old new bytes packets faults.NoMemory known live stands explains = tt
hindered_reading stage old new bytes packets faults.Failed known live stands explains = explains

-- why a call over a capture fails
hindered : (stage : Stage) (old new : Input) (bytes : List ℕ) (packets : List (List ℕ)) (fault : PcapFault)
    → old.ahead ≡ Some bytes → CanFail new.count → StandsBefore stage bytes packets
    → Blames stage old new fault → Hinders old new fault
hindered Header old new bytes packets fault known live stands blames =
    hindered_reading Header old new bytes packets fault known live stands blames
hindered Records old new bytes packets fault known live stands blames =
    hindered_reading Records old new bytes packets fault known live stands blames
hindered End old new bytes packets fault known live stands blames = absurd blames
hindered Fault old new bytes packets fault known live stands blames = absurd stands

-- A call that meets the clauses of `next` gives the first of the packets ahead.
pub gives_first : (packets : List (List ℕ)) (old new : Progress) (result : Result (Option Packet) PcapFault)
    → new.stage ≡ stage_after result
    → IfOk result
    (λ found. IfSome found (λ packet. Takes (IsNext old.stage packet.bytes.items) old.input new.input))
    → (result ≡ Ok None → EndsAt old.stage old.input new.input)
    → IfErr result (Blames old.stage old.input new.input) → HasAhead old packets → CanFail new.input.count
    → GivesFirst packets old result new
gives_first packets old new (Ok None) stage taken ends blames has live =
    let ended = ends_packets old.stage old.input new.input has.0 packets has.1 live has.2 (ends refl) in
    (ended.0, ([], ended.1, rw stage (refl, refl)))
gives_first packets old new (Ok (Some packet)) stage taken ends blames has live =
    let left = left_of old.input.ahead new.input.ahead has.0 taken.0 has.1 taken.2 in
    let others = rest_packets old.stage has.0 taken.0 left.0 packet.bytes.items packets has.2 taken.1
    left.2 in
    (others.0, others.1, (left.0, left.1, rw stage others.2))
gives_first packets old new (Err fault) stage taken ends blames has live =
    hindered old.stage old.input new.input has.0 packets fault has.1 live has.2 blames
