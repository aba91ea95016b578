-- What is known of bytes by a front that was taken from them.
use Rattle.std.proofs.Common.{◌≡◌, ℕ, ◌+◌, ◌*◌, ◌≤◌, ◌<◌, List, ◌++◌, take, drop, length, get_or, Option}
use Rattle.std.proofs.Common.{Some, None, refl, arith, sym, ap, ◌∙◌, inr}
use Rattle.std.proofs.lemmas.List.{get_or-take, get_or-drop, drop-append-le, take-append-le, length-drop}
use Rattle.std.proofs.lemmas.List.{length-append, drop_at}
use Rattle.std.specs.Prelude.{IfSome}
use Rattle.std.specs.Int.{w32, from_le_bytes}
use Rattle.std.specs.Io.KnownBytes.{Consumes}
use Rattle.ecat_source.specs.Input.{Input}
use Rattle.ecat_source.specs.Capture.{IsHeader, IsRecord, stored_length, header_length, head_length}
use Rattle.ecat_source.specs.Capture.{greatest_packet}
use Rattle.ecat_source.specs.Faults.{HeaderIsRefused, RecordIsRefused, IsCut, EndsWithin, Explains, Takes}
use Rattle.ecat_source.specs.Progress.{IsNext}
use Rattle.ecat_source.specs.declared.capture.Stage.TheVariants.{Header}
use Rattle.ecat_source.specs.declared.capture.PcapFault.{PcapFault}
use Rattle.ecat_source.specs.declared.capture.PcapFault.TheVariants.{Short, NotPcap, Version, LinkType}
use Rattle.ecat_source.specs.declared.capture.PcapFault.TheVariants.{TooLong, Read, NoMemory, Failed}
use Rattle.ecat_source.proofs.Consuming.{Consumes-append}

-- a fact of every longer list than the front holds of the known bytes that it was taken from
by_front : (P : List ℕ → Type 0) (old new : Option (List ℕ)) (front : List ℕ) → Consumes old new front
    → ((rest : List ℕ) → P (front ++ rest)) → IfSome old P
by_front P None new front taken holds = tt
by_front P (Some os) None front taken holds = absurd taken
by_front P (Some os) (Some ns) front taken holds = rw taken (holds ns)

-- a field of the front is that field of all bytes
field-append : (at count : ℕ) (front rest : List ℕ) → at + count ≤ length front
    → take count (drop at (front ++ rest)) ≡ take count (drop at front)
field-append at count front rest within =
    let reached : at ≤ length front = omega arith in
    let left : count ≤ length (drop at front) = simp length-drop (omega arith) in
    rw (drop-append-le at front rest reached, take-append-le count (drop at front) rest left) refl

-- the fields of a header are those of all bytes that it begins
pub magic-append : (front rest : List ℕ) → length front ≡ header_length
    → take 4 (front ++ rest) ≡ take 4 front
magic-append front rest whole = take-append-le 4 front rest (omega arith)

pub version-append : (front rest : List ℕ) → length front ≡ header_length
    → take 4 (drop 4 (front ++ rest)) ≡ take 4 (drop 4 front)
version-append front rest whole = field-append 4 4 front rest (omega arith)

pub link-append : (front rest : List ℕ) → length front ≡ header_length
    → take 4 (drop 20 (front ++ rest)) ≡ take 4 (drop 20 front)
link-append front rest whole = field-append 20 4 front rest (omega arith)

module _ (front : List ℕ) (whole : length front ≡ header_length) where
  long : (rest : List ℕ) → header_length ≤ length (front ++ rest)
  long rest = simp length-append (omega arith)

  -- 24 bytes that are no header explain why the bytes that begin with them are refused
  pub Explains-from_header : (old new : Input) (fault : PcapFault) → Consumes old.ahead new.ahead front
      → HeaderIsRefused front fault → Explains HeaderIsRefused old new fault
  Explains-from_header old new Short taken refused = absurd (omega arith)
  Explains-from_header old new NotPcap taken refused =
      by_front _ _ _ front taken
      (λ rest. (long rest, λ has. refused.1 (sym (magic-append front rest whole) ∙ has)))
  Explains-from_header old new Version taken refused =
      by_front _ _ _ front taken
      (λ rest. (
        long rest,
        magic-append front rest whole ∙ refused.1,
        λ has. refused.2 (sym (version-append front rest whole) ∙ has),
      ))
  Explains-from_header old new LinkType taken refused =
      by_front _ _ _ front taken
      (λ rest. (
        long rest,
        magic-append front rest whole ∙ refused.1,
        version-append front rest whole
            ∙ refused.2,
        λ has. refused.3 (sym (link-append front rest whole) ∙ has),
      ))
  Explains-from_header old new TooLong taken refused = absurd refused
  Explains-from_header old new Read taken refused = absurd refused
  Explains-from_header old new NoMemory taken refused = tt
  Explains-from_header old new Failed taken refused = refused

-- a byte of a field
field-at : (xs : List ℕ) (at n : ℕ) → n < 4 → get_or (take 4 (drop at xs)) n 0 ≡ get_or xs (at + n) 0
field-at xs at n low = rw (get_or-take 4 (drop at xs) n 0 low, get_or-drop) refl

-- the stored length by its bytes
pub stored_length-bytes : (head : List ℕ)
    → stored_length head ≡ get_or head 8 0 + get_or head 9 0 * 256 + get_or head 10 0 * 65536
    + get_or head 11 0 * 16777216
stored_length-bytes head =
    omega (
      arith,
      field-at head 8 0 (omega arith),
      field-at head 8 1 (omega arith),
      field-at head 8 2 (omega arith),
      field-at head 8 3 (omega arith),
    )

-- the stored length of a record is that of all bytes that it begins
pub stored_length-append : (front rest : List ℕ) → head_length ≤ length front
    → stored_length (front ++ rest) ≡ stored_length front
stored_length-append front rest head = ap (from_le_bytes w32) (field-append 8 4 front rest (omega arith))

module _ (head : List ℕ) (whole : length head ≡ head_length) where
  -- a head, and as many bytes as it says
  pub IsRecord-from_parts : (packet : List ℕ) → stored_length head ≡ length packet
      → length packet ≤ greatest_packet → IsRecord (head ++ packet) packet
  IsRecord-from_parts packet says fits = record {
    head = simp length-append (omega arith);
    stored = stored_length-append head packet (omega arith) ∙ says;
    fits = fits;
    packet_is = drop_at head packet head_length whole;
  }

  -- the bytes behind a head end within the packet
  cut : (old between : Option (List ℕ)) → Consumes old between head → stored_length head ≤ greatest_packet
      → IfSome between (λ bytes. length bytes < stored_length head) → IfSome old IsCut
  cut None between taken fits ends = tt
  cut (Some os) None taken fits ends = absurd taken
  cut (Some os) (Some bs) taken fits ends =
      let len : length (head ++ bs) ≡ head_length + length bs =
      length-append head bs ∙ ap (λ n. n + length bs) whole in
      rw (taken, stored_length-append head bs (omega arith)) (omega arith, inr (fits, omega arith))

  -- known bytes behind a head that nothing refuses
  unrefused : (old between : Option (List ℕ)) (P : List ℕ → Type 0) → Consumes old between head
      → IfSome between (λ _. ⊥) → IfSome old P
  unrefused None between P taken refused = tt
  unrefused (Some os) None P taken refused = absurd taken
  unrefused (Some os) (Some bs) P taken refused = absurd refused

  -- why the bytes of a packet couldn't be taken behind its head
  pub Explains-from_head : (old between new : Input) (fault : PcapFault)
      → Consumes old.ahead between.ahead head → old.count ≤ between.count
      → stored_length head ≤ greatest_packet
      → Explains (EndsWithin (stored_length head)) between new fault → Explains RecordIsRefused old new fault
  Explains-from_head old between new Short taken monotone fits explains =
      λ live. cut old.ahead between.ahead taken fits (explains live)
  Explains-from_head old between new NotPcap taken monotone fits explains =
      unrefused old.ahead between.ahead (λ bytes. RecordIsRefused bytes NotPcap) taken explains
  Explains-from_head old between new Version taken monotone fits explains =
      unrefused old.ahead between.ahead (λ bytes. RecordIsRefused bytes Version) taken explains
  Explains-from_head old between new LinkType taken monotone fits explains =
      unrefused old.ahead between.ahead (λ bytes. RecordIsRefused bytes LinkType) taken explains
  Explains-from_head old between new TooLong taken monotone fits explains =
      unrefused old.ahead between.ahead (λ bytes. RecordIsRefused bytes TooLong) taken explains
  Explains-from_head old between new Read taken monotone fits explains = omega arith
  Explains-from_head old between new NoMemory taken monotone fits explains = tt
  Explains-from_head old between new Failed taken monotone fits explains = explains

-- a header and the record behind it are the bytes of the first packet
pub Takes-behind_header : (old between new : Input) (packet : List ℕ) → Takes IsHeader old between
    → Takes (λ front. IsRecord front packet) between new → Takes (IsNext Header packet) old new
Takes-behind_header old between new packet first second = (
  first.0 ++ second.0,
  (first.0, second.0, refl, first.1, second.1),
  Consumes-append old.ahead between.ahead new.ahead first.0 second.0 first.2 second.2,
)
