-- A frame in place: the datagram at an index as it lies in the cells, and what a datagram of the same
-- length in its place makes of the frame.
use Rattle.std.proofs.Common.{◌≡◌, ℕ, zero, suc, ◌+◌, ◌-◌, ◌*◌, ◌/◌, ◌%◌, ◌==◌, ◌<◌, ◌≤◌, false, List, []}
use Rattle.std.proofs.Common.{◌∷◌, ◌++◌, length, take, drop, get_or, set, refl, sym, ap, ◌∙◌, subst, arith}
use Rattle.std.proofs.Common.{add-zero, nat_lt, true≢false}
use Rattle.std.proofs.lemmas.Bool.Decides.{nat_tests}
use Rattle.std.proofs.lemmas.List.{append_assoc, length-append, length-drop, length-take-le, take_at, drop_at}
use Rattle.std.proofs.lemmas.List.{drop-drop, take-append-drop, get_or-drop}
use Rattle.std.proofs.lemmas.List.Sums.{sum_by-drop_more, sum_by-take-drop}
use Rattle.std.proofs.lemmas.List.Elements.{All-get_or, All-set}
use Rattle.std.proofs.Math.Seq.{take-append_seam, drop-append_seam}
use Rattle.std.specs.Int.{w16, w32, to_le_bytes, from_le_bytes}
use Rattle.std.proofs.lemmas.Nat.{from_le_bytes-to_le_bytes_2, from_le_bytes-to_le_bytes_4}
use Rattle.ec_wire.proofs.DatagramLemmas.{data_length-datagram, length_field-datagram, length_word-parts}
use Rattle.ec_wire.specs.Datagram.{DatagramRecord, datagram_length, nth, blank, Fits, code_of}
use Rattle.ec_wire.specs.Spelling.{datagram, is_nil, body, body_length, header, spelling, front}
use Rattle.ec_wire.specs.Frame.{records_at, start_of, Keeps}
use Rattle.ec_wire.proofs.SpellingLemmas.{more_behind, body_length-cons, length-datagram, length-front}
use Rattle.ec_wire.proofs.SpellingLemmas.{length-spelling, body-at, body-set, body_length-set}
use Rattle.ec_wire.proofs.SpellingLemmas.{starts_from-set, get_or-starts_from, length-starts_from}

-- the frame as it lies in the cells: what stands before the datagram at an index, it, what stands behind it,
-- and the unused cells
pub split-at : (cells : List ℕ) (size : ℕ) (starts : List ℕ) (rs : List DatagramRecord) (k : ℕ)
    → Keeps cells size starts rs → k < length rs
    → cells ≡ (header (body_length rs) ++ front (take k rs))
    ++ (datagram (more_behind k rs) (nth rs k) ++ (body (drop (suc k) rs) ++ drop size cells))
unfolding spelling
split-at cells size starts rs k kept h =
    let piece = datagram (more_behind k rs) (nth rs k) in
    let behind = body (drop (suc k) rs) in
    sym (take-append-drop size cells)
    ∙ ap (λ xs. xs ++ drop size cells)
    (kept.bytes ∙ ap (λ xs. header (body_length rs) ++ xs) (body-at rs k blank h)
    ∙ sym (append_assoc (header (body_length rs)) (front (take k rs)) (piece ++ behind)))
    ∙ append_assoc (header (body_length rs) ++ front (take k rs)) (piece ++ behind) (drop size cells)
    ∙ ap (λ xs. (header (body_length rs) ++ front (take k rs)) ++ xs)
    (append_assoc piece behind (drop size cells))

-- what stands before the datagram at an index is as long as its start says
length-before : (n : ℕ) (rs : List DatagramRecord) (k : ℕ)
    → length (header n ++ front (take k rs)) ≡ start_of rs k
length-before n rs k = let f = length-front (take k rs) in omega arith

-- the datagram at an index lies at its start
pub drop-start : (cells : List ℕ) (size : ℕ) (starts : List ℕ) (rs : List DatagramRecord) (k : ℕ)
    → Keeps cells size starts rs → k < length rs
    → drop (start_of rs k) cells ≡ datagram (more_behind k rs) (nth rs k)
    ++ (body (drop (suc k) rs) ++ drop size cells)
drop-start cells size starts rs k kept h =
    ap (λ xs. drop (start_of rs k) xs) (split-at cells size starts rs k kept h)
    ∙ drop_at (header (body_length rs) ++ front (take k rs))
    (datagram (more_behind k rs) (nth rs k) ++ (body (drop (suc k) rs) ++ drop size cells)) (start_of rs k)
    (length-before (body_length rs) rs k)

-- what stands before it
pub take-start : (cells : List ℕ) (size : ℕ) (starts : List ℕ) (rs : List DatagramRecord) (k : ℕ)
    → Keeps cells size starts rs → k < length rs
    → take (start_of rs k) cells ≡ header (body_length rs) ++ front (take k rs)
take-start cells size starts rs k kept h =
    ap (λ xs. take (start_of rs k) xs) (split-at cells size starts rs k kept h)
    ∙ take_at (header (body_length rs) ++ front (take k rs))
    (datagram (more_behind k rs) (nth rs k) ++ (body (drop (suc k) rs) ++ drop size cells)) (start_of rs k)
    (length-before (body_length rs) rs k)

-- what stands behind it
pub drop-end : (cells : List ℕ) (size : ℕ) (starts : List ℕ) (rs : List DatagramRecord) (k : ℕ)
    → Keeps cells size starts rs → k < length rs
    → drop (start_of rs k + datagram_length (nth rs k)) cells ≡ body (drop (suc k) rs) ++ drop size cells
drop-end cells size starts rs k kept h =
    sym (drop-drop (datagram_length (nth rs k)) (start_of rs k) cells)
    ∙ ap (λ xs. drop (datagram_length (nth rs k)) xs) (drop-start cells size starts rs k kept h)
    ∙ drop_at (datagram (more_behind k rs) (nth rs k)) (body (drop (suc k) rs) ++ drop size cells)
    (datagram_length (nth rs k)) (length-datagram (more_behind k rs) (nth rs k))

-- it ends within the frame
pub start-room : (cells : List ℕ) (size : ℕ) (starts : List ℕ) (rs : List DatagramRecord) (k : ℕ)
    → Keeps cells size starts rs → k < length rs → start_of rs k + datagram_length (nth rs k) ≤ size
start-room cells size starts rs k kept h =
    let whole = sum_by-take-drop datagram_length rs k in
    let next = sum_by-drop_more datagram_length rs k blank h in
    omega (arith, kept.size_is)

-- a start is kept beside the bytes
pub start-kept : (cells : List ℕ) (size : ℕ) (starts : List ℕ) (rs : List DatagramRecord) (k : ℕ)
    → Keeps cells size starts rs → k < length rs → get_or starts k 0 ≡ start_of rs k
start-kept cells size starts rs k kept h = ap (λ xs. get_or xs k 0) kept.starts_are
    ∙ get_or-starts_from rs 2 k h

-- as many starts as datagrams
pub length-kept : (cells : List ℕ) (size : ℕ) (starts : List ℕ) (rs : List DatagramRecord)
    → Keeps cells size starts rs → length starts ≡ length rs
length-kept cells size starts rs kept = ap length kept.starts_are ∙ length-starts_from rs 2

-- another datagram of the same length in its place
pub Keeps-set : (cells cells' : List ℕ) (size : ℕ) (starts : List ℕ) (rs : List DatagramRecord) (k : ℕ)
    (r : DatagramRecord) → Keeps cells size starts rs → k < length rs → Fits r
    → length r.payload ≡ length (nth rs k).payload
    → cells' ≡ take (start_of rs k) cells
    ++ (datagram (more_behind k rs) r ++ drop (start_of rs k + datagram_length (nth rs k)) cells)
    → Keeps cells' size starts (set rs k r)
unfolding spelling
Keeps-set cells cells' size starts rs k r kept h fits same made =
    let long : datagram_length r ≡ datagram_length (nth rs k) = ap (λ n. 12 + n) same in
    let total : body_length (set rs k r) ≡ body_length rs = body_length-set rs k r blank h long in
    let before = header (body_length rs) ++ front (take k rs) in
    let piece = datagram (more_behind k rs) r in
    let behind = body (drop (suc k) rs) in
    let tail = drop size cells in
    let parts : cells' ≡ before ++ (piece ++ (behind ++ tail)) =
    made ∙ ap (λ xs. xs ++ (piece ++ drop (start_of rs k + datagram_length (nth rs k)) cells))
    (take-start cells size starts rs k kept h)
    ∙ ap (λ xs. before ++ (piece ++ xs)) (drop-end cells size starts rs k kept h) in
    let spelt : spelling (set rs k r) ≡ before ++ (piece ++ behind) =
    ap (λ n. header n ++ body (set rs k r)) total
    ∙ ap (λ xs. header (body_length rs) ++ xs) (body-set rs k r h)
    ∙ sym (append_assoc (header (body_length rs)) (front (take k rs)) (piece ++ behind)) in
    let whole : cells' ≡ spelling (set rs k r) ++ tail =
    parts ∙ ap (λ xs. before ++ xs) (sym (append_assoc piece behind tail))
    ∙ sym (append_assoc before (piece ++ behind) tail) ∙ ap (λ xs. xs ++ tail) (sym spelt) in
    let size_of : length (spelling (set rs k r)) ≡ size = length-spelling (set rs k r) ∙ ap (λ n. 2 + n) total
    ∙ sym kept.size_is in
    record {
      value = record {
        some = not_nil rs k kept.value.some;
        fits = All-set Fits rs k r fits kept.value.fits;
        room = rw total kept.value.room;
      };
      bytes = ap (λ xs. take size xs) whole ∙ take_at (spelling (set rs k r)) tail size size_of;
      starts_are = kept.starts_are ∙ sym (starts_from-set rs 2 k r blank h long);
      size_is = kept.size_is ∙ ap (λ n. 2 + n) (sym total);
      cells_are = ap length whole ∙ length-append (spelling (set rs k r)) tail
          ∙ ap (λ n. n + length tail) size_of ∙ ap (λ n. size + n) (length-drop size cells)
          ∙ fill kept.cells_are (ap (λ n. 2 + n) refl);
    }
  where
    not_nil : (xs : List DatagramRecord) (j : ℕ) → is_nil xs ≡ false → is_nil (set xs j r) ≡ false
    not_nil [] j e = e
    not_nil (x ∷ xs) zero e = refl
    not_nil (x ∷ xs) (suc j) e = refl

    fill : length cells ≡ 1500 → 2 + body_length rs ≡ 2 + body_length rs → size + (length cells - size) ≡ 1500
    fill e _ = let room = kept.value.room in let whole = kept.size_is in omega (arith, e)

-- a frame keeps the records that are seen of it
pub Keeps-view : {cells starts : List ℕ} {size : ℕ} {rs : List DatagramRecord}
    → Keeps cells size starts (records_at cells starts) → records_at cells starts ≡ rs
    → Keeps cells size starts rs
Keeps-view {cells} {starts} {size} {rs} kept e = let P : List DatagramRecord
    → Type 0 = λ xs. Keeps cells size starts xs in subst P e kept

-- what the cells hold of the datagram at an index, from a place in it on
pub drop-in : (cells : List ℕ) (size : ℕ) (starts : List ℕ) (rs : List DatagramRecord) (k at n : ℕ)
    → Keeps cells size starts rs → k < length rs → at ≡ start_of rs k + n
    → drop at cells
    ≡ drop n (datagram (more_behind k rs) (nth rs k) ++ (body (drop (suc k) rs) ++ drop size cells))
drop-in cells size starts rs k at n kept h e =
    ap (λ m. drop m cells) e ∙ sym (drop-drop n (start_of rs k) cells)
    ∙ ap (λ xs. drop n xs) (drop-start cells size starts rs k kept h)

-- the length field of the datagram at an index
pub field-length : (cells : List ℕ) (size : ℕ) (starts : List ℕ) (rs : List DatagramRecord) (k at : ℕ)
    → Keeps cells size starts rs → k < length rs → at ≡ start_of rs k + 6
    → from_le_bytes w16 (drop at cells) % 2048 ≡ length (nth rs k).payload
field-length cells size starts rs k at kept h e =
    ap (λ xs. from_le_bytes w16 xs % 2048) (drop-in cells size starts rs k at 6 kept h e)
    ∙ data_length-datagram (more_behind k rs) (nth rs k) (body (drop (suc k) rs) ++ drop size cells)
    (All-get_or Fits rs k blank h kept.value.fits)

-- the data and the working counter of the datagram at an index, with what follows
pub field-data : (cells : List ℕ) (size : ℕ) (starts : List ℕ) (rs : List DatagramRecord) (k at : ℕ)
    → Keeps cells size starts rs → k < length rs → at ≡ start_of rs k + 10
    → drop at cells
    ≡ (nth rs k).payload
    ++ (to_le_bytes w16 (nth rs k).counter ++ (body (drop (suc k) rs) ++ drop size cells))
unfolding datagram
field-data cells size starts rs k at kept h e = drop-in cells size starts rs k at 10 kept h e
    ∙ append_assoc (nth rs k).payload (to_le_bytes w16 (nth rs k).counter)
    (body (drop (suc k) rs) ++ drop size cells)

-- the working counter of the datagram at an index
pub field-counter : (cells : List ℕ) (size : ℕ) (starts : List ℕ) (rs : List DatagramRecord) (k at : ℕ)
    → Keeps cells size starts rs → k < length rs → at ≡ start_of rs k + 10 + length (nth rs k).payload
    → from_le_bytes w16 (drop at cells) ≡ (nth rs k).counter
field-counter cells size starts rs k at kept h e =
    ap (λ m. from_le_bytes w16 (drop m cells)) e
    ∙ ap (from_le_bytes w16) (sym (drop-drop (length (nth rs k).payload) (start_of rs k + 10) cells)
    ∙ ap (λ xs. drop (length (nth rs k).payload) xs)
    (field-data cells size starts rs k (start_of rs k + 10) kept h refl)
    ∙ drop-append_seam (nth rs k).payload _)
    ∙ from_le_bytes-to_le_bytes_2 (nth rs k).counter (All-get_or Fits rs k blank h kept.value.fits).counter

-- a part inside a part of a list is replaced
pub replaced : (before inside part part' behind after cells : List ℕ) (at : ℕ)
    → cells ≡ before ++ ((inside ++ (part ++ behind)) ++ after) → length part' ≡ length part
    → at ≡ length before + length inside
    → take at cells ++ (part' ++ drop (at + length part') cells)
    ≡ before ++ ((inside ++ (part' ++ behind)) ++ after)
replaced before inside part part' behind after cells at e same place =
    let flat : cells ≡ (before ++ inside) ++ (part ++ (behind ++ after)) =
    e ∙ ap (λ xs. before ++ xs)
    (append_assoc inside (part ++ behind) after ∙ ap (λ xs. inside ++ xs) (append_assoc part behind after))
    ∙ sym (append_assoc before inside (part ++ (behind ++ after))) in
    let front_is : take at cells ≡ before ++ inside =
    ap (λ xs. take at xs) flat
    ∙ take_at (before ++ inside) (part ++ (behind ++ after)) at (length-append before inside ∙ sym place) in
    let rest_is : drop (at + length part') cells ≡ behind ++ after = ap (λ n. drop (at + n) cells) same
    ∙ sym (drop-drop (length part) at cells) ∙ ap (λ xs. drop (length part) (drop at xs)) flat
    ∙ ap (λ xs. drop (length part) xs)
    (drop_at (before ++ inside) (part ++ (behind ++ after)) at (length-append before inside ∙ sym place))
    ∙ drop-append_seam part (behind ++ after) in
    ap (λ xs. xs ++ (part' ++ drop (at + length part') cells)) front_is
    ∙ ap (λ xs. (before ++ inside) ++ (part' ++ xs)) rest_is
    ∙ append_assoc before inside (part' ++ (behind ++ after))
    ∙ ap (λ xs. before ++ xs) (ap (λ xs. inside ++ xs) (sym (append_assoc part' behind after))
    ∙ sym (append_assoc inside (part' ++ behind) after))

-- One field of the datagram at an index is replaced: `inside` stands before it in the datagram, and `behind`
-- after it.
pub Keeps-field : (cells cells' : List ℕ) (size : ℕ) (starts : List ℕ) (rs : List DatagramRecord) (k : ℕ)
    (r : DatagramRecord) (inside part part' behind : List ℕ) (at : ℕ) → Keeps cells size starts rs
    → k < length rs → Fits r → length r.payload ≡ length (nth rs k).payload
    → datagram (more_behind k rs) (nth rs k) ≡ inside ++ (part ++ behind)
    → datagram (more_behind k rs) r ≡ inside ++ (part' ++ behind) → length part' ≡ length part
    → at ≡ start_of rs k + length inside
    → cells' ≡ take at cells ++ (part' ++ drop (at + length part') cells)
    → Keeps cells' size starts (set rs k r)
Keeps-field cells cells' size starts rs k r inside part part' behind at kept h fits same was is size_same
    place made =
    let s = start_of rs k in
    let after = drop (s + datagram_length (nth rs k)) cells in
    let room = start-room cells size starts rs k kept h in
    let now : cells ≡ take s cells ++ ((inside ++ (part ++ behind)) ++ after) =
    sym (take-append-drop s cells)
    ∙ ap (λ xs. take s cells ++ xs)
    (drop-start cells size starts rs k kept h
    ∙ ap (λ xs. datagram (more_behind k rs) (nth rs k) ++ xs) (sym (drop-end cells size starts rs k kept h))
    ∙ ap (λ xs. xs ++ after) was) in
    let front_long : length (take s cells) ≡ s =
    length-take-le s cells (omega (arith, kept.cells_are, kept.value.room, kept.size_is)) in
    Keeps-set cells cells' size starts rs k r kept h fits same
    (made ∙ replaced (take s cells) inside part part' behind after cells at now size_same
    (place ∙ ap (λ n. n + length inside) (sym front_long))
    ∙ ap (λ xs. take s cells ++ (xs ++ after)) (sym is))

-- each datagram takes at least twelve bytes
pub twelve_each : (rs : List DatagramRecord) → 12 * length rs ≤ body_length rs
twelve_each [] = omega arith
twelve_each (r ∷ rs) = omega (arith, twelve_each rs, body_length-cons r rs)

-- so a frame has at most 124
pub count-kept : (cells : List ℕ) (size : ℕ) (starts : List ℕ) (rs : List DatagramRecord)
    → Keeps cells size starts rs → length rs ≤ 124
count-kept cells size starts rs kept = omega (arith, twelve_each rs, kept.value.room)

-- the data of the datagram at an index
pub data-part : (cells : List ℕ) (size : ℕ) (starts : List ℕ) (rs : List DatagramRecord) (k at end : ℕ)
    → Keeps cells size starts rs → k < length rs → at ≡ start_of rs k + 10
    → end ≡ at + length (nth rs k).payload → take (end - at) (drop at cells) ≡ (nth rs k).payload
data-part cells size starts rs k at end kept h place till =
    let long : end - at ≡ length (nth rs k).payload = omega arith in
    ap (λ n. take n (drop at cells)) long
    ∙ ap (λ xs. take (length (nth rs k).payload) xs) (field-data cells size starts rs k at kept h place)
    ∙ take-append_seam (nth rs k).payload _

-- whether more datagrams stand behind an index
pub more_behind-lt : (rs : List DatagramRecord) (k : ℕ) → nat_lt (k + 1) (length rs) ≡ more_behind k rs
more_behind-lt [] k = grind (arith, nat_tests)
more_behind-lt (r ∷ []) zero = refl
more_behind-lt (r ∷ s ∷ rs) zero = grind (arith, nat_tests)
more_behind-lt (r ∷ rs) (suc k) = let again = more_behind-lt rs k in grind (arith, nat_tests)

-- the other fields of the datagram at an index
pub field-command : (cells : List ℕ) (size : ℕ) (starts : List ℕ) (rs : List DatagramRecord) (k at : ℕ)
    → Keeps cells size starts rs → k < length rs → at ≡ start_of rs k
    → get_or cells at 0 ≡ code_of (nth rs k).command
unfolding datagram
field-command cells size starts rs k at kept h e =
    ap (λ n. get_or cells n 0) (e ∙ sym (add-zero (start_of rs k)))
    ∙ sym (get_or-drop (start_of rs k) cells 0 0)
    ∙ ap (λ xs. get_or xs 0 0) (drop-start cells size starts rs k kept h)

pub field-index : (cells : List ℕ) (size : ℕ) (starts : List ℕ) (rs : List DatagramRecord) (k at : ℕ)
    → Keeps cells size starts rs → k < length rs → at ≡ start_of rs k + 1
    → get_or cells at 0 ≡ (nth rs k).index
unfolding datagram
field-index cells size starts rs k at kept h e =
    ap (λ n. get_or cells n 0) e ∙ sym (get_or-drop (start_of rs k) cells 1 0)
    ∙ ap (λ xs. get_or xs 1 0) (drop-start cells size starts rs k kept h)

pub field-address : (cells : List ℕ) (size : ℕ) (starts : List ℕ) (rs : List DatagramRecord) (k at : ℕ)
    → Keeps cells size starts rs → k < length rs → at ≡ start_of rs k + 2
    → from_le_bytes w32 (drop at cells) ≡ (nth rs k).address
unfolding datagram
field-address cells size starts rs k at kept h e =
    ap (from_le_bytes w32) (drop-in cells size starts rs k at 2 kept h e)
    ∙ from_le_bytes-to_le_bytes_4 (nth rs k).address (All-get_or Fits rs k blank h kept.value.fits).address

pub field-circulating : (cells : List ℕ) (size : ℕ) (starts : List ℕ) (rs : List DatagramRecord) (k at : ℕ)
    → Keeps cells size starts rs → k < length rs → at ≡ start_of rs k + 6
    → (from_le_bytes w16 (drop at cells) / 16384 % 2 == 1) ≡ (nth rs k).circulating
field-circulating cells size starts rs k at kept h e =
    let r = nth rs k in
    let f = All-get_or Fits rs k blank h kept.value.fits in
    ap (λ xs. from_le_bytes w16 xs / 16384 % 2 == 1) (drop-in cells size starts rs k at 6 kept h e)
    ∙ ap (λ n. n / 16384 % 2 == 1)
    (length_field-datagram (more_behind k rs) r (body (drop (suc k) rs) ++ drop size cells) f)
    ∙ (length_word-parts (more_behind k rs) r.circulating (length r.payload) f.payload).1

pub field-irq : (cells : List ℕ) (size : ℕ) (starts : List ℕ) (rs : List DatagramRecord) (k at : ℕ)
    → Keeps cells size starts rs → k < length rs → at ≡ start_of rs k + 8
    → from_le_bytes w16 (drop at cells) ≡ (nth rs k).irq
unfolding datagram
field-irq cells size starts rs k at kept h e =
    ap (from_le_bytes w16) (drop-in cells size starts rs k at 8 kept h e)
    ∙ from_le_bytes-to_le_bytes_2 (nth rs k).irq (All-get_or Fits rs k blank h kept.value.fits).irq

-- a frame has a datagram
pub some-kept : (cells : List ℕ) (size : ℕ) (starts : List ℕ) (rs : List DatagramRecord)
    → Keeps cells size starts rs → 0 < length rs
some-kept cells size starts rs kept = not_empty rs kept.value.some
  where
    not_empty : (xs : List DatagramRecord) → is_nil xs ≡ false → 0 < length xs
    not_empty [] e = absurd (true≢false e)
    not_empty (x ∷ xs) e = omega arith
