-- The datagrams of items that are put into a room one behind the other.
use Rattle.std.proofs.Common.{◌≡◌, ℕ, suc, ◌+◌, ◌<◌, ◌≤◌, Bool, true, false, not, List, [], ◌∷◌, ◌++◌}
use Rattle.std.proofs.Common.{length, map, drop, get_or, subst, sym, ap, ◌∙◌, arith, inl, inr}
use Rattle.std.specs.Int.{w16, w32, to_le_bytes}
use Rattle.std.proofs.lemmas.Bool.{cases_lt}
use Rattle.std.proofs.lemmas.List.{append_assoc, append-nil, length-append}
use Rattle.std.proofs.lemmas.List.Sums.{sum_by-cons}
use Rattle.ec_wire.specs.Datagram.{DatagramRecord, datagram_length, code_of}
use Rattle.ec_wire.specs.Spelling.{datagram, is_nil, body, body_length, header, spelling, length_word}
use Rattle.ec_wire.proofs.Laws.{length-body, length-spelling}
use Rattle.ec_line.specs.After.{Entry}
use Rattle.ec_line.specs.Answered.{sent_of}
use Rattle.ec_map.specs.Item.{ItemRecord}
use Rattle.rummymaple.specs.Cut.{between}
use Rattle.rummymaple.specs.Items.{asked, AreTaken}
use Rattle.rummymaple.specs.Join.{IsPut}
use Rattle.rummymaple.specs.Room.{IsWritten}
use Rattle.rummymaple.specs.declared.item.Item.{Item}
use Rattle.rummymaple.proofs.CutLemmas.{no_item, entry_at, bytes_at, between-cons, between-none}

-- ---- one datagram

-- its parts behind what is written, one after the other, are its bytes behind what is written
pub parts-datagram : (written : List ℕ) (more : Bool) (r : DatagramRecord)
    → (((((written ++ code_of r.command ∷ r.index ∷ []) ++ to_le_bytes w32 r.address)
    ++ to_le_bytes w16 (length_word more r)) ++ to_le_bytes w16 r.irq) ++ r.payload)
    ++ to_le_bytes w16 r.counter
    ≡ written ++ datagram more r
unfolding datagram
parts-datagram written more r =
    let p1 = code_of r.command ∷ r.index ∷ [] in
    let p2 = to_le_bytes w32 r.address in
    let p3 = to_le_bytes w16 (length_word more r) in
    let p4 = to_le_bytes w16 r.irq in
    let p6 = to_le_bytes w16 r.counter in
    ap (λ l. ((((l ++ p3) ++ p4) ++ r.payload) ++ p6)) (append_assoc written p1 p2)
    ∙ ap (λ l. (((l ++ p4) ++ r.payload) ++ p6)) (append_assoc written (p1 ++ p2) p3)
    ∙ ap (λ l. ((l ++ r.payload) ++ p6)) (append_assoc written (p1 ++ p2 ++ p3) p4)
    ∙ ap (λ l. l ++ p6) (append_assoc written (p1 ++ p2 ++ p3 ++ p4) r.payload)
    ∙ append_assoc written (p1 ++ p2 ++ p3 ++ p4 ++ r.payload) p6

-- so they are where each part is that of the datagram
pub written-datagram : (written before room : List ℕ) (at : ℕ) (more : Bool) (r : DatagramRecord) (code : ℕ)
    (address field payload counter : List ℕ) → code ≡ code_of r.command → address ≡ to_le_bytes w32 r.address
    → field ≡ to_le_bytes w16 (length_word more r) → payload ≡ r.payload
    → counter ≡ to_le_bytes w16 r.counter
    → IsWritten
    ((((((written ++ code ∷ r.index ∷ []) ++ address) ++ field) ++ to_le_bytes w16 r.irq) ++ payload)
    ++ counter) before at room
    → IsWritten (written ++ datagram more r) before at room
written-datagram written before room at more r code address field payload counter same_code same_address
    same_field same_payload same_counter is =
    subst (λ l. IsWritten l before at room)
    (rw (same_code, same_address, same_field, same_payload, same_counter) (parts-datagram written more r)) is

-- ---- the items of a frame

-- the room is written up to `at`, and with the datagrams of the items from k on it is the frame's spelling
pub record IsSpelling (image : List ℕ) (items : List Item) (first end k at : ℕ) (before room : List ℕ)
    : Type 0 where
  pub written : List ℕ
  pub is : IsWritten written before at room
  pub rest : written ++ body (sent_of (between k end (map (asked image) items)))
      ≡ spelling (sent_of (between first end (map (asked image) items)))

-- so what is written and what is left have as many bytes as the frame
spelling-bytes : (image : List ℕ) (items : List Item) (first end k at : ℕ) (before room : List ℕ)
    → IsSpelling image items first end k at before room
    → at + body_length (sent_of (between k end (map (asked image) items)))
    ≡ 2 + body_length (sent_of (between first end (map (asked image) items)))
spelling-bytes image items first end k at before room is =
    let left : List DatagramRecord = sent_of (between k end (map (asked image) items)) in
    let frame : List DatagramRecord = sent_of (between first end (map (asked image) items)) in
    omega (
      arith,
      is.is.at_is,
      length-body left,
      length-append is.written (body left),
      ap length is.rest,
      length-spelling frame,
    )

-- the header is written
pub spelling-first : (image : List ℕ) (items : List Item) (first end at : ℕ) (before room written : List ℕ)
    → written ≡ header (body_length (sent_of (between first end (map (asked image) items))))
    → IsWritten written before at room → IsSpelling image items first end first at before room
unfolding spelling
spelling-first image items first end at before room written same is =
    let frame : List DatagramRecord = sent_of (between first end (map (asked image) items)) in
    record {
      written = written;
      is = is;
      rest = ap (λ l. l ++ body frame) same;
    }

-- another datagram follows exactly where there is another item
more-follows : (image : List ℕ) (items : List Item) (k end : ℕ) (more : Bool) → suc k ≤ end
    → end ≤ length items → (suc k < end → more ≡ true) → (end ≤ suc k → more ≡ false)
    → more ≡ not (is_nil (sent_of (between (suc k) end (map (asked image) items))))
more-follows image items k end more ordered inside if_more if_last =
    let asks : List ItemRecord = map (asked image) items in
    elim (cases_lt (suc k) end) [
      | inl before ↦
          if_more before
          ∙ ap (λ es. not (is_nil (sent_of es)))
          (sym (between-cons image items (suc k) end before (omega (arith, before, inside))))
      | inr behind ↦
          let last : end ≡ suc k = omega (arith, ordered, behind) in
          if_last behind ∙ ap (λ es. not (is_nil (sent_of es)))
          (sym (ap (λ n. between (suc k) n asks) last ∙ between-none asks (suc k)))
    ]

-- what is left takes the next datagram and what is left then
pub bytes-left : (image : List ℕ) (items : List Item) (k end : ℕ) → k < end → end ≤ length items
    → body_length (sent_of (between k end (map (asked image) items)))
    ≡ datagram_length (entry_at image items k).sent
    + body_length (sent_of (between (suc k) end (map (asked image) items)))
bytes-left image items k end ordered inside =
    let later : List Entry = between (suc k) end (map (asked image) items) in
    ap (λ es. body_length (sent_of es))
    (between-cons image items k end ordered (omega (arith, ordered, inside)))
    ∙ sum_by-cons datagram_length (entry_at image items k).sent (sent_of later)

-- there is room for the next datagram
pub spelling-room : (image : List ℕ) (items : List Item) (first end k at : ℕ) (before room : List ℕ)
    → AreTaken (length image) items → k < end → end ≤ length items
    → IsSpelling image items first end k at before room
    → at + (12 + (get_or items k no_item).length)
    ≤ 2 + body_length (sent_of (between first end (map (asked image) items)))
spelling-room image items first end k at before room are ordered inside is =
    omega (
      arith,
      spelling-bytes image items first end k at before room is,
      bytes-left image items k end ordered inside,
      bytes_at image items k are (omega (arith, ordered, inside)),
    )

-- one more datagram is written
pub spelling-more : (image : List ℕ) (items : List Item) (first end k at next : ℕ)
    (before room later : List ℕ) (more : Bool) → k < end → end ≤ length items
    → (suc k < end → more ≡ true) → (end ≤ suc k → more ≡ false)
    → IsSpelling image items first end k at before room
    → ((written before : List ℕ) → IsWritten written before at room
    → IsWritten (written ++ datagram more (entry_at image items k).sent) before next later)
    → IsSpelling image items first end (suc k) next before later
spelling-more image items first end k at next before room later more ordered inside if_more if_last is put =
    let asks : List ItemRecord = map (asked image) items in
    let e : Entry = entry_at image items k in
    let left : List Entry = between (suc k) end asks in
    let follows : more ≡ not (is_nil (sent_of left)) =
    more-follows image items k end more (omega (arith, ordered)) inside if_more if_last in
    record {
      written = is.written ++ datagram more e.sent;
      is = put is.written before is.is;
      rest = append_assoc is.written (datagram more e.sent) (body (sent_of left))
          ∙ ap (λ b. is.written ++ (datagram b e.sent ++ body (sent_of left))) follows
          ∙ ap (λ es. is.written ++ body (sent_of es))
          (sym (between-cons image items k end ordered (omega (arith, ordered, inside))))
          ∙ is.rest;
    }

-- all are written
pub spelling-end : (image : List ℕ) (items : List Item) (first end k at : ℕ) (before room : List ℕ)
    → k ≡ end → length room ≡ length before → IsSpelling image items first end k at before room
    → IsPut (spelling (sent_of (between first end (map (asked image) items)))) before
    (2 + body_length (sent_of (between first end (map (asked image) items)))) room
spelling-end image items first end k at before room all size is =
    let asks : List ItemRecord = map (asked image) items in
    let frame : List DatagramRecord = sent_of (between first end asks) in
    let none : between k end asks ≡ [] = ap (λ n. between k n asks) (sym all) ∙ between-none asks k in
    let whole : is.written ≡ spelling frame =
    sym (append-nil is.written) ∙ ap (λ es. is.written ++ body (sent_of es)) (sym none) ∙ is.rest in
    let long : at ≡ length (spelling frame) = is.is.at_is ∙ ap length whole in
    record {
      count_is = sym (length-spelling frame);
      fits = fits (is.is.room_is) (is.is.at_is) long;
      bytes_are = is.is.room_is ∙ ap (λ l. l ++ drop at before) whole
          ∙ ap (λ n. spelling frame ++ drop n before) long;
    }
  where
    fits : room ≡ is.written ++ drop at before → at ≡ length is.written
        → at ≡ length (spelling (sent_of (between first end (map (asked image) items))))
        → length (spelling (sent_of (between first end (map (asked image) items)))) ≤ length before
    fits room_is at_is long =
        omega (
          arith,
          size,
          ap length room_is,
          length-append is.written (drop at before),
          at_is,
          long,
        )
