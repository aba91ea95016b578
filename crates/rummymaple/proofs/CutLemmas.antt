-- Frames that fill up with the datagrams of items, one after the other.
use Rattle.std.proofs.Common.{◌≡◌, ℕ, suc, ◌+◌, ◌-◌, ◌<◌, ◌≤◌, sym, ap, refl, ◌∙◌, arith}
use Rattle.std.proofs.Common.{List, [], ◌∷◌, ◌++◌, length, map, take, drop, get_or, None, drop-cons, subst}
use Rattle.std.proofs.Math.Nat.{add-zero}
use Rattle.std.specs.Prelude.{slice_range}
use Rattle.ec_line.specs.After.{Entry}
use Rattle.ec_line.specs.Answered.{sent_of}
use Rattle.ec_wire.specs.Datagram.{datagram_length}
use Rattle.ec_wire.specs.Spelling.{body_length}
use Rattle.ec_wire.specs.declared.layout.TheConstants.{MAX_LENGTH}
use Rattle.std.proofs.lemmas.List.{get_or-map, length-map, length-take-le, length-drop, take_more, drop_all}
use Rattle.std.proofs.lemmas.List.{get_or-drop}
use Rattle.std.proofs.lemmas.List.Sums.{sum_by-cons}
use Rattle.std.proofs.lemmas.Option.{slice_get-get_or}
use Rattle.ec_map.specs.Item.{ItemRecord}
use Rattle.ec_master.specs.Cut.{entry_of, entries_from, filled, frame_at}
use Rattle.ec_master.proofs.Laws.{entries-cons, body_length-more, fits-more, fits-no_more}
use Rattle.ec_master.proofs.Laws.{filled-more, filled-full, filled-none}
use Rattle.rummymaple.specs.Cut.{between, IsCarried}
use Rattle.rummymaple.specs.Items.{asked, refusal, AreTaken}
use Rattle.rummymaple.specs.declared.item.Item.{Item}
use Rattle.rummymaple.proofs.ItemLemmas.{taken}

-- ---- numbered items

-- none is left
entries-none : (k : ℕ) (items : List ItemRecord) → length items ≤ k → entries_from k (drop k items) ≡ []
unfolding entries_from
entries-none k items h = ap (entries_from k) (drop_all k items h)

-- the numbers go on
entries-append : (k : ℕ) (xs : List ItemRecord) (r : ItemRecord)
    → entries_from k (xs ++ r ∷ []) ≡ entries_from k xs ++ entry_of r (k + length xs) ∷ []
unfolding entries_from
entries-append k [] r = ap (λ n. entry_of r n ∷ []) (sym (add-zero k))
entries-append k (x ∷ xs) r = ap (λ es. entry_of x k ∷ es) (entries-append (suc k) xs r
    ∙ ap (λ n. entries_from (suc k) xs ++ entry_of r n ∷ []) (next k (length xs)))
  where
    next : (k n : ℕ) → suc k + n ≡ k + suc n
    next k n = omega arith

-- ---- items over an image

-- what stands for an item that is not there
abbrev pub no_item : Item
no_item = record {
  address = 0;
  offset = 0;
  length = 0;
  kind = 0;
  expected = 0;
  sent = 0;
  came = 0;
  passed = 0;
}

-- the item with a number, over an image, and its datagram
abbrev pub asked_at : List ℕ → List Item → ℕ → ItemRecord
asked_at image items k = asked image (get_or items k no_item)

abbrev pub entry_at : List ℕ → List Item → ℕ → Entry
entry_at image items k = entry_of (asked_at image items k) k

asked_is : (image : List ℕ) (items : List Item) (k : ℕ) → k < length items
    → get_or (map (asked image) items) k (asked image no_item) ≡ asked_at image items k
asked_is image items k inside = get_or-map (asked image) items k no_item (asked image no_item) inside

pub entries-asked : (image : List ℕ) (items : List Item) (k : ℕ) → k < length items
    → entries_from k (drop k (map (asked image) items))
    ≡ entry_at image items k ∷ entries_from (suc k) (drop (suc k) (map (asked image) items))
entries-asked image items k inside =
    let all : length (map (asked image) items) ≡ length items = length-map items (asked image) in
    let there : k < length (map (asked image) items) = omega (arith, inside, all) in
    entries-cons k (map (asked image) items) (asked image no_item) there
    ∙ ap (λ (r : ItemRecord). entry_of r k ∷ entries_from (suc k) (drop (suc k) (map (asked image) items)))
    (asked_is image items k inside)

-- it is taken
pub taken_at : (size : ℕ) (items : List Item) (k : ℕ) → AreTaken size items → k < length items
    → refusal size (get_or items k no_item) ≡ None
taken_at size items k taken inside =
    taken k (get_or items k no_item) (slice_get-get_or items k no_item inside)

-- the bytes of its datagram
pub bytes_at : (image : List ℕ) (items : List Item) (k : ℕ) → AreTaken (length image) items
    → k < length items
    → datagram_length (entry_at image items k).sent ≡ 12 + (get_or items k no_item).length
bytes_at image items k are inside =
    let i : Item = get_or items k no_item in
    let place : i.offset + i.length ≤ length image = (taken _ i (taken_at _ items k are inside)).place in
    let count : i.offset + i.length - i.offset ≡ i.length = omega arith in
    ap (λ n. 12 + n)
    (length-take-le (i.offset + i.length - i.offset) (drop i.offset image)
    (omega (arith, place, length-drop i.offset image)) ∙ count)

-- ---- the items between two numbers

-- with the next one behind them
between-more : (image : List ℕ) (items : List Item) (first k : ℕ) → first ≤ k → k < length items
    → between first (suc k) (map (asked image) items)
    ≡ between first k (map (asked image) items) ++ entry_at image items k ∷ []
between-more image items first k ordered inside =
    let asks : List ItemRecord = map (asked image) items in
    let left : List ItemRecord = drop first asks in
    let n : ℕ = k - first in
    let all : length asks ≡ length items = length-map items (asked image) in
    let behind : length left ≡ length asks - first = length-drop first asks in
    let there : n < length left = omega (arith, ordered, inside, all, behind) in
    let one : suc k - first ≡ n + 1 = omega (arith, ordered) in
    let last : get_or left n (asked image no_item) ≡ asked_at image items k =
    get_or-drop first asks n (asked image no_item)
    ∙ ap (λ j. get_or asks j (asked image no_item)) (omega (arith, ordered))
    ∙ asked_is image items k inside in
    let long : first + length (take n left) ≡ k =
    ap (λ m. first + m) (length-take-le n left (omega (arith, there))) ∙ omega (arith, ordered) in
    ap (λ m. entries_from first (take m left)) one
    ∙ ap (entries_from first) (take_more left n (asked image no_item) there)
    ∙ ap (λ (r : ItemRecord). entries_from first (take n left ++ r ∷ [])) last
    ∙ entries-append first (take n left) (asked_at image items k)
    ∙ ap (λ m. entries_from first (take n left) ++ entry_of (asked_at image items k) m ∷ []) long

-- from the first of them on
pub between-cons : (image : List ℕ) (items : List Item) (k end : ℕ) → k < end → k < length items
    → between k end (map (asked image) items)
    ≡ entry_at image items k ∷ between (suc k) end (map (asked image) items)
unfolding entries_from
between-cons image items k end ordered inside =
    let asks : List ItemRecord = map (asked image) items in
    let there : k < length asks = omega (arith, inside, length-map items (asked image)) in
    let one : end - k ≡ suc (end - suc k) = omega (arith, ordered) in
    ap (λ m. entries_from k (take m (drop k asks))) one
    ∙ ap (λ l. entries_from k (take (suc (end - suc k)) l)) (drop-cons asks k (asked image no_item) there)
    ∙ ap (λ (r : ItemRecord). entry_of r k ∷ between (suc k) end asks) (asked_is image items k inside)

-- none
pub between-none : (asks : List ItemRecord) (k : ℕ) → between k k asks ≡ []
unfolding entries_from
between-none asks k = ap (λ m. entries_from k (take m (drop k asks))) none
  where
    none : k - k ≡ 0
    none = omega arith

-- how many they are
pub length-entries : (k : ℕ) (rs : List ItemRecord) → length (entries_from k rs) ≡ length rs
unfolding entries_from
length-entries k [] = refl
length-entries k (r ∷ rs) = ap suc (length-entries (suc k) rs)

pub between-count : (image : List ℕ) (items : List Item) (first count : ℕ) → first + count ≤ length items
    → length (sent_of (between first (first + count) (map (asked image) items))) ≡ count
between-count image items first count inside =
    let asks : List ItemRecord = map (asked image) items in
    let n : first + count - first ≡ count = omega arith in
    let room : first + count - first ≤ length (drop first asks) =
    omega (arith, inside, length-map items (asked image), length-drop first asks) in
    length-map (between first (first + count) asks) (λ (e : Entry). e.sent)
    ∙ length-entries first (slice_range asks first (first + count))
    ∙ length-take-le (first + count - first) (drop first asks) room ∙ n

-- ---- a frame that is being filled

-- the items from `first` up to k are on the frame, and filling it up with the others gives the first frame
pub record IsFilling (image : List ℕ) (items : List Item) (first k bytes : ℕ) : Type 0 where
  pub ordered : first < k
  pub bytes_are : bytes ≡ body_length (sent_of (between first k (map (asked image) items)))
  pub fits : bytes ≤ MAX_LENGTH
  pub rest : filled (between first k (map (asked image) items))
      (entries_from k (drop k (map (asked image) items)))
      ≡ frame_at first (map (asked image) items)

-- the first one is on it
pub filling-first : (image : List ℕ) (items : List Item) (first : ℕ) → AreTaken (length image) items
    → first < length items
    → IsFilling image items first (suc first) (12 + (get_or items first no_item).length)
filling-first image items first are inside =
    let asks : List ItemRecord = map (asked image) items in
    let e : Entry = entry_at image items first in
    let one : between first (suc first) asks ≡ e ∷ [] =
    between-cons image items first (suc first) (omega arith) inside
    ∙ ap (λ (es : List Entry). e ∷ es) (between-none asks (suc first)) in
    let i : Item = get_or items first no_item in
    let most : i.length ≤ 1486 = (taken _ i (taken_at _ items first are inside)).most in
    record {
      ordered = omega arith;
      bytes_are = sym (ap (λ es. body_length (sent_of es)) one
          ∙ sum_by-cons datagram_length e.sent [] ∙ add-zero (datagram_length e.sent)
          ∙ bytes_at image items first are inside);
      fits = omega (arith, most);
      rest = ap (λ es. filled es (entries_from (suc first) (drop (suc first) asks))) one
          ∙ sym (first-frame e first asks (entries-asked image items first inside));
    }
  where
    first-frame : (e : Entry) (first : ℕ) (asks : List ItemRecord)
        → entries_from first (drop first asks) ≡ e ∷ entries_from (suc first) (drop (suc first) asks)
        → frame_at first asks ≡ filled (e ∷ []) (entries_from (suc first) (drop (suc first) asks))
    first-frame e first asks cut = rw cut refl

-- one more fits on it
pub filling-more : (image : List ℕ) (items : List Item) (first k bytes : ℕ) → AreTaken (length image) items
    → k < length items → IsFilling image items first k bytes
    → bytes + (12 + (get_or items k no_item).length) ≤ MAX_LENGTH
    → IsFilling image items first (suc k) (bytes + (12 + (get_or items k no_item).length))
filling-more image items first k bytes are inside is room =
    let asks : List ItemRecord = map (asked image) items in
    let e : Entry = entry_at image items k in
    let frame : List Entry = between first k asks in
    let left : List Entry = entries_from (suc k) (drop (suc k) asks) in
    let grown : between first (suc k) asks ≡ frame ++ e ∷ [] =
    between-more image items first k (omega (arith, is.ordered)) inside in
    let size : datagram_length e.sent ≡ 12 + (get_or items k no_item).length =
    bytes_at image items k are inside in
    let total : body_length (sent_of frame) + datagram_length e.sent
    ≡ bytes + (12 + (get_or items k no_item).length) = omega (arith, is.bytes_are, size) in
    record {
      ordered = omega (arith, is.ordered);
      bytes_are = sym (ap (λ es. body_length (sent_of es)) grown ∙ body_length-more frame e ∙ total);
      fits = room;
      rest = ap (λ es. filled es left) grown
          ∙ sym (filled-more frame left e (fits-more frame e (omega (arith, total, room))))
          ∙ ap (filled frame) (sym (entries-asked image items k inside)) ∙ is.rest;
    }

-- what a filled frame carries
carried : (image : List ℕ) (items : List Item) (first k bytes : ℕ) → k ≤ length items
    → IsFilling image items first k bytes
    → frame_at first (map (asked image) items) ≡ between first k (map (asked image) items)
    → IsCarried items image first (record { items = k - first; bytes = bytes })
carried image items first k bytes inside is whole =
    let asks : List ItemRecord = map (asked image) items in
    let end : first + (k - first) ≡ k = omega (arith, is.ordered) in
    record {
      some = omega (arith, is.ordered);
      inside = omega (arith, inside, end);
      items_are = whole ∙ ap (λ n. between first n asks) (sym end);
      bytes_are = is.bytes_are ∙ ap (λ es. body_length (sent_of es)) (sym whole);
      fits = is.fits;
    }

-- one more does not fit on it
pub filling-full : (image : List ℕ) (items : List Item) (first k bytes : ℕ) → AreTaken (length image) items
    → k < length items → IsFilling image items first k bytes
    → MAX_LENGTH < bytes + (12 + (get_or items k no_item).length)
    → IsCarried items image first (record { items = k - first; bytes = bytes })
filling-full image items first k bytes are inside is full =
    let asks : List ItemRecord = map (asked image) items in
    let e : Entry = entry_at image items k in
    let frame : List Entry = between first k asks in
    let size : datagram_length e.sent ≡ 12 + (get_or items k no_item).length =
    bytes_at image items k are inside in
    let over : MAX_LENGTH < body_length (sent_of frame) + datagram_length e.sent =
    omega (arith, full, is.bytes_are, size) in
    carried image items first k bytes (omega (arith, inside)) is
    (sym is.rest ∙ ap (filled frame) (entries-asked image items k inside)
    ∙ filled-full frame (entries_from (suc k) (drop (suc k) asks)) e (fits-no_more frame e over))

-- there is none more
pub filling-end : (image : List ℕ) (items : List Item) (first k bytes : ℕ) → k ≡ length items
    → IsFilling image items first k bytes
    → IsCarried items image first (record { items = length items - first; bytes = bytes })
filling-end image items first k bytes all is =
    let asks : List ItemRecord = map (asked image) items in
    let frame : List Entry = between first k asks in
    subst (λ n. IsCarried items image first (record { items = n - first; bytes = bytes })) all
    (carried image items first k bytes (omega (arith, all)) is
    (sym is.rest
    ∙ ap (filled frame) (entries-none k asks (omega (arith, all, length-map items (asked image))))
    ∙ filled-none frame))
