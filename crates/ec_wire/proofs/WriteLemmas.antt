-- Bytes that are written one part after another, and the frames that are made so.
use Rattle.std.proofs.Common.{◌≡◌, ℕ, zero, suc, ◌+◌, ◌-◌, ◌<◌, ◌≤◌, Bool, true, false, not, List, [], ◌∷◌, ◌++◌}
use Rattle.std.proofs.Common.{length, take, drop, refl, sym, ap, ◌∙◌, arith, add_assoc, add-zero}
use Rattle.std.specs.Int.{w16, w32, to_le_bytes}
use Rattle.std.proofs.lemmas.List.{append_assoc, length-append, length-drop, length-take-le, take_at, drop_at}
use Rattle.std.proofs.lemmas.List.{drop-drop, append-nil, take_all, take_more}
use Rattle.std.proofs.Math.ListN.{drop_of_length-le}
use Rattle.std.proofs.lemmas.List.Concat.{flat_map-cons}
use Rattle.std.proofs.lemmas.Grind.{flat_map-append}
use Rattle.std.proofs.lemmas.List.Elements.{All-push, All-cons, All-nil, All-take}
use Rattle.std.proofs.lemmas.List.Sums.{sum_by_push, sum_by-take-drop}
use Rattle.ec_wire.specs.Datagram.{DatagramRecord, datagram_length, nth, blank, Fits, code_of}
use Rattle.ec_wire.specs.Spelling.{datagram, is_nil, body, body_length, header, spelling, IsFrameValue, front}
use Rattle.ec_wire.specs.Spelling.{length_word}
use Rattle.ec_wire.specs.Frame.{starts_from, start_of, Keeps}
use Rattle.ec_wire.specs.declared.layout.TheConstants.{MAX_LENGTH}
use Rattle.ec_wire.proofs.SpellingLemmas.{length-datagram, length-front, length-spelling, body_length-cons}
use Rattle.ec_wire.proofs.SpellingLemmas.{more_behind}
use Rattle.ec_wire.proofs.FrameLemmas.{split-at, replaced, start-room}

-- these bytes are xs with the bytes from `at` on overwritten by `part`
abbrev pub overwritten : ℕ → List ℕ → List ℕ → List ℕ
overwritten at part xs = take at xs ++ (part ++ drop (at + length part) xs)

-- two parts end to end are one
pub overwritten-more : (at : ℕ) (p q xs ys zs : List ℕ) → at + length p ≤ length xs → ys ≡ overwritten at p xs
    → zs ≡ overwritten (at + length p) q ys → zs ≡ overwritten at (p ++ q) xs
overwritten-more at p q xs ys zs room first second =
    let front_long : length (take at xs) ≡ at = length-take-le at xs (omega arith) in
    let both : length (take at xs ++ p) ≡ at + length p =
    length-append (take at xs) p ∙ ap (λ n. n + length p) front_long in
    let flat : ys ≡ (take at xs ++ p) ++ drop (at + length p) xs =
    first ∙ sym (append_assoc (take at xs) p (drop (at + length p) xs)) in
    let before : take (at + length p) ys ≡ take at xs ++ p = ap (λ l. take (at + length p) l) flat
    ∙ take_at (take at xs ++ p) (drop (at + length p) xs) (at + length p) both in
    let behind : drop (at + length p + length q) ys ≡ drop (at + length (p ++ q)) xs =
    sym (drop-drop (length q) (at + length p) ys) ∙ ap (λ l. drop (length q) (drop (at + length p) l)) flat
    ∙ ap (λ l. drop (length q) l) (drop_at (take at xs ++ p) (drop (at + length p) xs) (at + length p) both)
    ∙ drop-drop (length q) (at + length p) xs
    ∙ ap (λ n. drop n xs) (sum_is at (length p) (length q) (length (p ++ q)) (length-append p q)) in
    second ∙ ap (λ l. l ++ (q ++ drop (at + length p + length q) ys)) before
    ∙ ap (λ l. (take at xs ++ p) ++ (q ++ l)) behind
    ∙ append_assoc (take at xs) p (q ++ drop (at + length (p ++ q)) xs)
    ∙ ap (λ l. take at xs ++ l) (sym (append_assoc p q (drop (at + length (p ++ q)) xs)))
  where
    sum_is : (a m n k : ℕ) → k ≡ m + n → a + m + n ≡ a + k
    sum_is a m n k e = omega arith

-- overwriting keeps the length
pub length-overwritten : (at : ℕ) (p xs : List ℕ) → at + length p ≤ length xs
    → length (overwritten at p xs) ≡ length xs
length-overwritten at p xs room =
    simp (length-append, length-take-le at xs (omega arith), length-drop) (omega arith)

-- a datagram's fields written one after another are its bytes
pub overwritten-datagram : (at : ℕ) (more : Bool) (r : DatagramRecord) (c0 c1 c2 c3 c4 c5 c6 : List ℕ)
    → at + datagram_length r ≤ length c0 → c1 ≡ overwritten at (code_of r.command ∷ r.index ∷ []) c0
    → c2 ≡ overwritten (at + 2) (to_le_bytes w32 r.address) c1
    → c3 ≡ overwritten (at + 6) (to_le_bytes w16 (length_word more r)) c2
    → c4 ≡ overwritten (at + 8) (to_le_bytes w16 r.irq) c3 → c5 ≡ overwritten (at + 10) r.payload c4
    → c6 ≡ overwritten (at + 10 + length r.payload) (to_le_bytes w16 r.counter) c5
    → c6 ≡ take at c0 ++ (datagram more r ++ drop (at + datagram_length r) c0)
unfolding datagram
overwritten-datagram at more r c0 c1 c2 c3 c4 c5 c6 room e1 e2 e3 e4 e5 e6 =
    let p1 = code_of r.command ∷ r.index ∷ [] in
    let p2 = to_le_bytes w32 r.address in
    let p3 = to_le_bytes w16 (length_word more r) in
    let p4 = to_le_bytes w16 r.irq in
    let s2 = overwritten-more at p1 p2 c0 c1 c2 (omega arith) e1 e2 in
    let s3 = overwritten-more at (p1 ++ p2) p3 c0 c2 c3 (omega arith) s2 e3 in
    let s4 = overwritten-more at (p1 ++ p2 ++ p3) p4 c0 c3 c4 (omega arith) s3 e4 in
    let s5 = overwritten-more at (p1 ++ p2 ++ p3 ++ p4) r.payload c0 c4 c5 (omega arith) s4 e5 in
    let long : length (p1 ++ p2 ++ p3 ++ p4 ++ r.payload) ≡ 10 + length r.payload =
    length-append (p1 ++ p2 ++ p3 ++ p4) r.payload in
    let place : at + 10 + length r.payload ≡ at + length (p1 ++ p2 ++ p3 ++ p4 ++ r.payload) = omega arith in
    let s6 = overwritten-more at (p1 ++ p2 ++ p3 ++ p4 ++ r.payload) (to_le_bytes w16 r.counter) c0 c5 c6
    (omega arith) s5 (e6 ∙ ap (λ n. overwritten n (to_le_bytes w16 r.counter) c5) place) in
    s6 ∙ ap (λ n. take at c0 ++ (datagram more r ++ drop (at + n) c0)) (length-datagram more r)

-- the datagrams before one at the end each say that more follow
pub body-push : (rs : List DatagramRecord) (r : DatagramRecord)
    → body (rs ++ r ∷ []) ≡ front rs ++ datagram false r
body-push [] r = append-nil (datagram false r)
body-push (x ∷ rs) r =
    ap (λ b. datagram b x ++ body (rs ++ r ∷ [])) (ap not (some rs))
    ∙ ap (λ xs. datagram true x ++ xs) (body-push rs r)
    ∙ sym (append_assoc (datagram true x) (front rs) (datagram false r))
    ∙ ap (λ xs. xs ++ datagram false r) (sym (flat_map-cons (datagram true) x rs))
  where
    some : (xs : List DatagramRecord) → is_nil (xs ++ r ∷ []) ≡ false
    some [] = refl
    some (y ∷ ys) = refl

-- one more that says so
pub front-push : (rs : List DatagramRecord) (r : DatagramRecord)
    → front (rs ++ r ∷ []) ≡ front rs ++ datagram true r
front-push rs r = flat_map-append (datagram true) rs (r ∷ [])
    ∙ ap (λ xs. front rs ++ xs) (flat_map-cons (datagram true) r [] ∙ append-nil (datagram true r))

-- the starts with one more datagram
pub starts_from-push : (rs : List DatagramRecord) (from : ℕ) (r : DatagramRecord)
    → starts_from from (rs ++ r ∷ []) ≡ starts_from from rs ++ (from + body_length rs) ∷ []
starts_from-push [] from r = ap (λ n. n ∷ []) (sym (add-zero from))
starts_from-push (x ∷ rs) from r =
    ap (λ xs. from ∷ xs)
    (starts_from-push rs (from + datagram_length x) r
    ∙ ap (λ n. starts_from (from + datagram_length x) rs ++ n ∷ [])
    (add_assoc from (datagram_length x) (body_length rs) ∙ ap (λ n. from + n) (sym (body_length-cons x rs))))

-- a frame by its bytes: a header and a body, with anything behind
pub Keeps-made : (cells : List ℕ) (size : ℕ) (starts : List ℕ) (rs : List DatagramRecord) (behind : List ℕ)
    → IsFrameValue rs → cells ≡ header (body_length rs) ++ (body rs ++ behind) → starts ≡ starts_from 2 rs
    → size ≡ 2 + body_length rs → length cells ≡ 1500 → Keeps cells size starts rs
unfolding spelling
Keeps-made cells size starts rs behind value bytes starts_are size_is cells_are =
    let whole : cells ≡ spelling rs ++ behind =
    bytes ∙ sym (append_assoc (header (body_length rs)) (body rs) behind) in
    record {
      value = value;
      bytes = ap (λ xs. take size xs) whole
          ∙ take_at (spelling rs) behind size (length-spelling rs ∙ sym size_is);
      starts_are = starts_are;
      size_is = size_is;
      cells_are = cells_are;
    }

-- Cells that begin with the bytes of a frame that is kept keep it, whatever stood there before.
pub Keeps-copied : (cells before copied : List ℕ) (size : ℕ) (starts starts' : List ℕ)
    (rs : List DatagramRecord) (bytes : List ℕ) → Keeps cells size starts rs → bytes ≡ spelling rs
    → length before ≡ 1500 → copied ≡ overwritten 0 bytes before → starts' ≡ starts
    → Keeps copied size starts' rs
unfolding spelling
Keeps-copied cells before copied size starts starts' rs bytes kept spelt long made same =
    let long_is : length bytes ≡ size = ap length spelt ∙ length-spelling rs ∙ sym kept.size_is in
    let behind = drop (0 + length bytes) before in
    let fits : 0 + length bytes ≤ length before =
    omega (arith, kept.value.room, kept.size_is) in
    Keeps-made copied size starts' rs behind kept.value
    (made ∙ ap (λ xs. xs ++ behind) spelt ∙ append_assoc (header (body_length rs)) (body rs) behind)
    (same ∙ kept.starts_are) kept.size_is
    (ap length made ∙ length-overwritten 0 bytes before fits ∙ long)

-- a list that ends with a datagram is not empty
pub is_nil-push : (xs : List DatagramRecord) (r : DatagramRecord) → is_nil (xs ++ r ∷ []) ≡ false
is_nil-push [] r = refl
is_nil-push (y ∷ ys) r = refl

-- overwriting from the front of bytes that begin with a header
header-over : (n m : ℕ) (xs cells : List ℕ) → cells ≡ header n ++ xs
    → overwritten 0 (header m) cells ≡ header m ++ xs
header-over n m xs cells e = ap (λ l. overwritten 0 (header m) l) e

-- the frame of one datagram
pub Keeps-of : (c0 c1 c2 starts : List ℕ) (r : DatagramRecord) → length c0 ≡ 1500 → Fits r
    → datagram_length r ≤ MAX_LENGTH → c1 ≡ overwritten 0 (header (datagram_length r)) c0
    → c2 ≡ take 2 c1 ++ (datagram false r ++ drop (2 + datagram_length r) c1) → starts ≡ 2 ∷ []
    → Keeps c2 (2 + datagram_length r) starts (r ∷ [])
Keeps-of c0 c1 c2 starts r long fits room e1 e2 es =
    let total : body_length (r ∷ []) ≡ datagram_length r =
    body_length-cons r [] ∙ add-zero (datagram_length r) in
    let rest = drop (2 + datagram_length r) c1 in
    let parts : c2 ≡ header (datagram_length r) ++ (datagram false r ++ rest) =
    e2 ∙ ap (λ xs. take 2 xs ++ (datagram false r ++ rest)) e1 in
    let one : body (r ∷ []) ≡ datagram false r = body-push [] r in
    let c1_long : length c1 ≡ 1500 =
    ap length e1 ∙ length-overwritten 0 (header (datagram_length r)) c0 (omega arith) ∙ long in
    let c2_long : length c2 ≡ 1500 = e2_length c1_long in
    Keeps-made c2 (2 + datagram_length r) starts (r ∷ []) rest
    (record { some = refl; fits = All-cons Fits r [] fits (All-nil Fits); room = rw total room })
    (parts ∙ ap (λ n. header n ++ (datagram false r ++ rest)) (sym total)
    ∙ ap (λ xs. header (body_length (r ∷ [])) ++ (xs ++ rest)) (sym one)) es (ap (λ n. 2 + n) (sym total))
    c2_long
  where
    e2_length : length c1 ≡ 1500 → length c2 ≡ 1500
    e2_length h =
        ap length e2 ∙ ap (λ n. length (take 2 c1 ++ (datagram false r ++ drop (2 + n) c1)))
        (sym (length-datagram false r))
        ∙ length-overwritten 2 (datagram false r) c1 (let d = length-datagram false r in omega arith) ∙ h

-- the bytes round a datagram's length field do not say whether more follow
field-more : (more : Bool) (r : DatagramRecord)
    → datagram more r ≡ take 6 (datagram false r)
    ++ (to_le_bytes w16 (length_word more r) ++ drop 8 (datagram false r))
unfolding datagram
field-more more r = refl

-- a list up to its last element and that
last-split : (rs : List DatagramRecord) (k : ℕ) → k + 1 ≡ length rs → rs ≡ take k rs ++ nth rs k ∷ []
last-split rs k e = sym (take_all (k + 1) rs (omega arith)) ∙ take_more rs k blank (omega arith)

-- nothing stands behind the last
last-behind : (rs : List DatagramRecord) (k : ℕ) → k + 1 ≡ length rs → drop (suc k) rs ≡ []
last-behind rs k e = let behind : length rs ≤ suc k = omega arith in drop_of_length-le rs behind

-- the frame whose last datagram says that more follow
with_more : (c0 c1 : List ℕ) (size : ℕ) (starts : List ℕ) (rs : List DatagramRecord) (k : ℕ)
    → Keeps c0 size starts rs → k + 1 ≡ length rs
    → c1 ≡ overwritten (start_of rs k + 6) (to_le_bytes w16 (length_word true (nth rs k))) c0
    → c1 ≡ (header (body_length rs) ++ front rs) ++ drop size c0
unfolding datagram
with_more c0 c1 size starts rs k kept last e1 =
    let h : k < length rs = omega arith in
    let before = header (body_length rs) ++ front (take k rs) in
    let r = nth rs k in
    let tail = drop size c0 in
    let none : drop (suc k) rs ≡ [] = last-behind rs k last in
    let now : c0 ≡ before ++ (datagram false r ++ tail) = split-at c0 size starts rs k kept h
    ∙ ap (λ xs. before ++ (datagram (not (is_nil xs)) r ++ (body xs ++ tail))) none in
    let long : length before ≡ start_of rs k = length-append (header (body_length rs)) (front (take k rs))
    ∙ ap (λ n. 2 + n) (length-front (take k rs)) in
    let changed : overwritten (start_of rs k + 6) (to_le_bytes w16 (length_word true r)) c0
    ≡ before ++ (datagram true r ++ tail) =
    replaced before (take 6 (datagram false r)) (to_le_bytes w16 (length_word false r))
    (to_le_bytes w16 (length_word true r)) (drop 8 (datagram false r)) tail c0 (start_of rs k + 6)
    (now ∙ ap (λ xs. before ++ (xs ++ tail)) (field-more false r)) refl (ap (λ n. n + 6) (sym long))
    ∙ ap (λ xs. before ++ (xs ++ tail)) (sym (field-more true r)) in
    let whole : front rs ≡ front (take k rs) ++ datagram true r =
    ap front (last-split rs k last) ∙ front-push (take k rs) r in
    e1 ∙ changed ∙ sym (append_assoc before (datagram true r) tail)
    ∙ ap (λ xs. xs ++ tail) (append_assoc (header (body_length rs)) (front (take k rs)) (datagram true r)
    ∙ ap (λ xs. header (body_length rs) ++ xs) (sym whole))

-- the frame with one more datagram at its end
pub Keeps-push : (c0 c1 c2 c3 : List ℕ) (size : ℕ) (starts starts' : List ℕ) (rs : List DatagramRecord)
    (k : ℕ) (r : DatagramRecord) → Keeps c0 size starts rs → k + 1 ≡ length rs → Fits r
    → size + datagram_length r ≤ 1500
    → c1 ≡ overwritten (start_of rs k + 6) (to_le_bytes w16 (length_word true (nth rs k))) c0
    → c2 ≡ take size c1 ++ (datagram false r ++ drop (size + datagram_length r) c1)
    → c3 ≡ overwritten 0 (header (size + datagram_length r - 2)) c2 → starts' ≡ starts ++ size ∷ []
    → Keeps c3 (size + datagram_length r) starts' (rs ++ r ∷ [])
Keeps-push c0 c1 c2 c3 size starts starts' rs k r kept last fits room e1 e2 e3 es =
    let bl = body_length rs in
    let dl = datagram_length r in
    let total : body_length (rs ++ r ∷ []) ≡ bl + dl = sum_by_push datagram_length rs r in
    let first : c1 ≡ (header bl ++ front rs) ++ drop size c0 =
    with_more c0 c1 size starts rs k kept last e1 in
    let before_long : length (header bl ++ front rs) ≡ size = length-append (header bl) (front rs)
    ∙ ap (λ n. 2 + n) (length-front rs) ∙ sym kept.size_is in
    let before : take size c1 ≡ header bl ++ front rs =
    ap (λ xs. take size xs) first ∙ take_at (header bl ++ front rs) (drop size c0) size before_long in
    let rest = drop (size + dl) c1 in
    let second : c2 ≡ header bl ++ (front rs ++ (datagram false r ++ rest)) =
    e2 ∙ ap (λ xs. xs ++ (datagram false r ++ rest)) before
    ∙ append_assoc (header bl) (front rs) (datagram false r ++ rest) in
    let number : size + dl - 2 ≡ bl + dl = minus_two kept.size_is in
    let third : c3 ≡ header (bl + dl) ++ (front rs ++ (datagram false r ++ rest)) =
    e3 ∙ ap (λ n. overwritten 0 (header n) c2) number
    ∙ header-over bl (bl + dl) (front rs ++ (datagram false r ++ rest)) c2 second in
    let spelt : front rs ++ (datagram false r ++ rest) ≡ body (rs ++ r ∷ []) ++ rest =
    sym (append_assoc (front rs) (datagram false r) rest) ∙ ap (λ xs. xs ++ rest) (sym (body-push rs r)) in
    let in_cells : start_of rs k + 8 ≤ 1500 = let piece = start-room c0 size starts rs k kept (omega arith) in
    omega (arith, kept.size_is, kept.value.room) in
    let c1_long : length c1 ≡ 1500 =
    ap length e1 ∙ length-overwritten (start_of rs k + 6) (to_le_bytes w16 (length_word true (nth rs k))) c0
    (omega (arith, kept.cells_are)) ∙ kept.cells_are in
    let c2_long : length c2 ≡ 1500 =
    ap length e2 ∙ ap (λ n. length (take size c1 ++ (datagram false r ++ drop (size + n) c1)))
    (sym (length-datagram false r))
    ∙ length-overwritten size (datagram false r) c1 (let d = length-datagram false r in omega arith)
    ∙ c1_long in
    let c3_long : length c3 ≡ 1500 =
    ap length e3 ∙ length-overwritten 0 (header (size + dl - 2)) c2 (omega arith) ∙ c2_long in
    Keeps-made c3 (size + dl) starts' (rs ++ r ∷ []) rest
    (record {
      some = is_nil-push rs r;
      fits = All-push Fits rs r kept.value.fits fits;
      room = rw total (omega (arith, kept.size_is));
    })
    (third ∙ ap (λ n. header n ++ (front rs ++ (datagram false r ++ rest))) (sym total)
    ∙ ap (λ xs. header (body_length (rs ++ r ∷ [])) ++ xs) spelt)
    (es ∙ ap (λ xs. xs ++ size ∷ []) kept.starts_are ∙ ap (λ n. starts_from 2 rs ++ n ∷ []) kept.size_is
    ∙ sym (starts_from-push rs 2 r))
    (ap (λ n. n + dl) kept.size_is ∙ add_assoc 2 bl dl ∙ ap (λ n. 2 + n) (sym total)) c3_long
  where
    minus_two : size ≡ 2 + body_length rs → size + datagram_length r - 2 ≡ body_length rs + datagram_length r
    minus_two e = omega arith

-- the starts of some datagrams at the front
take-starts_from : (k : ℕ) (rs : List DatagramRecord) (from : ℕ)
    → take k (starts_from from rs) ≡ starts_from from (take k rs)
take-starts_from zero rs from = refl
take-starts_from (suc k) [] from = refl
take-starts_from (suc k) (r ∷ rs) from =
    ap (λ xs. from ∷ xs) (take-starts_from k rs (from + datagram_length r))

-- a datagram before the last says that more follow
says_more-before : (rs : List DatagramRecord) (j : ℕ) → j + 1 < length rs → more_behind j rs ≡ true
says_more-before rs j h = ap not (some (drop (suc j) rs) (omega (arith, length-drop (suc j) rs)))
  where
    some : (xs : List DatagramRecord) → 0 < length xs → is_nil xs ≡ false
    some [] h = absurd (omega arith)
    some (x ∷ xs) h = refl

-- the frame without its last datagram
pub Keeps-pop : (c0 c1 c2 : List ℕ) (size : ℕ) (starts starts' : List ℕ) (rs : List DatagramRecord) (j : ℕ)
    → Keeps c0 size starts rs → j + 2 ≡ length rs
    → c1 ≡ overwritten (start_of rs j + 6) (to_le_bytes w16 (length_word false (nth rs j))) c0
    → c2 ≡ overwritten 0 (header (start_of rs (j + 1) - 2)) c1 → starts' ≡ take (j + 1) starts
    → Keeps c2 (start_of rs (j + 1)) starts' (take (j + 1) rs)
unfolding datagram
Keeps-pop c0 c1 c2 size starts starts' rs j kept last e1 e2 es =
    let bl = body_length rs in
    let r = nth rs j in
    let fewer = take (j + 1) rs in
    let h : j < length rs = omega arith in
    let before = header bl ++ front (take j rs) in
    let rest = body (drop (suc j) rs) ++ drop size c0 in
    let now : c0 ≡ before ++ (datagram true r ++ rest) =
    split-at c0 size starts rs j kept h
    ∙ ap (λ b. before ++ (datagram b r ++ rest)) (says_more-before rs j (omega arith)) in
    let long : length before ≡ start_of rs j = length-append (header bl) (front (take j rs))
    ∙ ap (λ n. 2 + n) (length-front (take j rs)) in
    let changed : overwritten (start_of rs j + 6) (to_le_bytes w16 (length_word false r)) c0
    ≡ before ++ (datagram false r ++ rest) =
    replaced before (take 6 (datagram false r)) (to_le_bytes w16 (length_word true r))
    (to_le_bytes w16 (length_word false r)) (drop 8 (datagram false r)) rest c0 (start_of rs j + 6)
    (now ∙ ap (λ xs. before ++ (xs ++ rest)) (field-more true r)) refl (ap (λ n. n + 6) (sym long))
    ∙ ap (λ xs. before ++ (xs ++ rest)) (sym (field-more false r)) in
    let parts : fewer ≡ take j rs ++ r ∷ [] = take_more rs j blank h in
    let bodies : body fewer ≡ front (take j rs) ++ datagram false r =
    ap body parts ∙ body-push (take j rs) r in
    let first : c1 ≡ header bl ++ (body fewer ++ rest) =
    e1 ∙ changed ∙ append_assoc (header bl) (front (take j rs)) (datagram false r ++ rest)
    ∙ ap (λ xs. header bl ++ xs)
    (sym (append_assoc (front (take j rs)) (datagram false r) rest) ∙ ap (λ xs. xs ++ rest) (sym bodies)) in
    let number : start_of rs (j + 1) - 2 ≡ body_length fewer = omega arith in
    let second : c2 ≡ header (body_length fewer) ++ (body fewer ++ rest) =
    e2 ∙ ap (λ n. overwritten 0 (header n) c1) number ∙ header-over bl (body_length fewer) (body fewer ++ rest) c1 first in
    let whole = sum_by-take-drop datagram_length rs (j + 1) in
    let in_cells : start_of rs j + 8 ≤ 1500 = let piece = start-room c0 size starts rs j kept h in
    omega (arith, kept.size_is, kept.value.room) in
    let c1_long : length c1 ≡ 1500 =
    ap length e1 ∙ length-overwritten (start_of rs j + 6) (to_le_bytes w16 (length_word false r)) c0
    (omega (arith, kept.cells_are)) ∙ kept.cells_are in
    let c2_long : length c2 ≡ 1500 =
    ap length e2 ∙ length-overwritten 0 (header (start_of rs (j + 1) - 2)) c1 (omega arith) ∙ c1_long in
    Keeps-made c2 (start_of rs (j + 1)) starts' fewer rest
    (record {
      some = ap is_nil parts ∙ is_nil-push (take j rs) r;
      fits = All-take Fits (j + 1) rs kept.value.fits;
      room = omega (arith, kept.value.room, whole);
    })
    second (es ∙ ap (λ xs. take (j + 1) xs) kept.starts_are ∙ take-starts_from (j + 1) rs 2) refl c2_long
