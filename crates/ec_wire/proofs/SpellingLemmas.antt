-- A frame's bytes by its datagrams: their lengths, the records that they give back, and the datagram
-- at an index with what stands before and behind it.
use Rattle.std.proofs.Common.{◌≡◌, ℕ, zero, suc, ◌+◌, ◌<◌, Bool, true, false, not, List, [], ◌∷◌, ◌++◌}
use Rattle.std.proofs.Common.{length, take, drop, get_or, set, map, refl, sym, ap, ◌∙◌, subst, arith}
use Rattle.std.proofs.Common.{add_assoc}
use Rattle.std.specs.Prelude.{All}
use Rattle.std.specs.Int.{w16, to_le_bytes}
use Rattle.std.proofs.lemmas.List.{append_assoc, length-append, take-append-drop, set-get_or}
use Rattle.std.proofs.lemmas.List.Concat.{flat_map-cons}
use Rattle.std.proofs.lemmas.List.Sums.{sum_by-cons, sum_by-set}
use Rattle.std.proofs.lemmas.List.Elements.{All-head, All-tail}
use Rattle.std.proofs.Math.Seq.{drop-append_seam}
use Rattle.ec_wire.specs.Datagram.{DatagramRecord, datagram_length, Fits}
use Rattle.ec_wire.specs.Decoding.{record_at}
use Rattle.ec_wire.specs.Spelling.{datagram, is_nil, body, body_length, header, spelling, front}
use Rattle.ec_wire.specs.Frame.{starts_from, records_at, Keeps}
use Rattle.ec_wire.proofs.DatagramLemmas.{record_at-datagram}

-- a datagram's bytes are its length
pub length-datagram : (more : Bool) (r : DatagramRecord) → length (datagram more r) ≡ datagram_length r
unfolding datagram
length-datagram more r =
    let two : length (r.payload ++ to_le_bytes w16 r.counter) ≡ length r.payload + 2 =
    length-append r.payload (to_le_bytes w16 r.counter) in
    omega arith

-- the length of all datagrams, one by one
pub body_length-cons : (r : DatagramRecord) (rs : List DatagramRecord)
    → body_length (r ∷ rs) ≡ datagram_length r + body_length rs
body_length-cons r rs = sum_by-cons datagram_length r rs

-- the body is as long as its datagrams
pub length-body : (rs : List DatagramRecord) → length (body rs) ≡ body_length rs
length-body [] = refl
length-body (r ∷ rs) = length-append (datagram (not (is_nil rs)) r) (body rs)
    ∙ ap (λ n. n + length (body rs)) (length-datagram _ r) ∙ ap (λ n. datagram_length r + n) (length-body rs)
    ∙ sym (body_length-cons r rs)

-- datagrams that each say that more follow are as long as their body
pub length-front : (rs : List DatagramRecord) → length (front rs) ≡ body_length rs
length-front [] = refl
length-front (r ∷ rs) = ap length (flat_map-cons (datagram true) r rs)
    ∙ length-append (datagram true r) (front rs) ∙ ap (λ n. n + length (front rs)) (length-datagram true r)
    ∙ ap (λ n. datagram_length r + n) (length-front rs) ∙ sym (body_length-cons r rs)

-- a spelling's length
pub length-spelling : (rs : List DatagramRecord) → length (spelling rs) ≡ 2 + body_length rs
unfolding spelling
length-spelling rs = let b = length-body rs in omega arith

-- the records at the places where a body's datagrams begin, behind some bytes
pub records_at-body : (before behind : List ℕ) (rs : List DatagramRecord) → All Fits rs
    → records_at (before ++ (body rs ++ behind)) (starts_from (length before) rs) ≡ rs
unfolding records_at
records_at-body before behind [] fits = refl
records_at-body before behind (r ∷ rs) fits =
    let more = not (is_nil rs) in
    let here : record_at (drop (length before) (before ++ ((datagram more r ++ body rs) ++ behind))) ≡ r =
    ap record_at (drop-append_seam before ((datagram more r ++ body rs) ++ behind)
    ∙ append_assoc (datagram more r) (body rs) behind)
    ∙ record_at-datagram more r (body rs ++ behind) (All-head Fits r rs fits) in
    let regroup : before ++ ((datagram more r ++ body rs) ++ behind) ≡ (before ++ datagram more r)
    ++ (body rs ++ behind) = ap (λ xs. before ++ xs) (append_assoc (datagram more r) (body rs) behind)
    ∙ sym (append_assoc before (datagram more r) (body rs ++ behind)) in
    let size : length before + datagram_length r ≡ length (before ++ datagram more r) =
    sym (length-append before (datagram more r) ∙ ap (λ n. length before + n) (length-datagram more r)) in
    let rest : map (λ start. record_at (drop start (before ++ ((datagram more r ++ body rs) ++ behind))))
    (starts_from (length before + datagram_length r) rs) ≡ rs =
    ap (λ xs. map (λ start. record_at (drop start xs)) (starts_from (length before + datagram_length r) rs))
    regroup
    ∙ ap (λ n. map (λ start. record_at (drop start ((before ++ datagram more r) ++ (body rs ++ behind))))
    (starts_from n rs)) size
    ∙ records_at-body (before ++ datagram more r) behind rs (All-tail Fits r rs fits) in
    rw (here, rest) refl

-- the list behind an index has an element or none, as the list with that element replaced
abbrev pub more_behind : ℕ → List DatagramRecord → Bool
more_behind k rs = not (is_nil (drop (suc k) rs))

-- a body with the datagram at an index replaced: what stands before it, it, and what stands behind it
pub body-set : (rs : List DatagramRecord) (k : ℕ) (r : DatagramRecord) → k < length rs
    → body (set rs k r) ≡ front (take k rs) ++ (datagram (more_behind k rs) r ++ body (drop (suc k) rs))
body-set [] k r h = absurd (omega arith)
body-set (x ∷ rs) zero r h = refl
body-set (x ∷ rs) (suc k) r h =
    let again = body-set rs k r (omega arith) in
    ap (λ b. datagram (not b) x ++ body (set rs k r)) (is_nil-set rs k)
    ∙ ap (λ b. datagram (not b) x ++ body (set rs k r)) (not_nil rs k (omega arith))
    ∙ ap (λ xs. datagram true x ++ xs) again
    ∙ sym (append_assoc (datagram true x) (front (take k rs)) _)
    ∙ ap (λ xs. xs ++ (datagram (more_behind k rs) r ++ body (drop (suc k) rs)))
    (sym (flat_map-cons (datagram true) x (take k rs)))
  where
    is_nil-set : (rs : List DatagramRecord) (k : ℕ) → is_nil (set rs k r) ≡ is_nil rs
    is_nil-set [] k = refl
    is_nil-set (y ∷ ys) zero = refl
    is_nil-set (y ∷ ys) (suc k) = refl

    not_nil : (rs : List DatagramRecord) (k : ℕ) → k < length rs → is_nil rs ≡ false
    not_nil [] k h = absurd (omega arith)
    not_nil (y ∷ ys) k h = refl

-- the same of the datagram that stands there
pub body-at : (rs : List DatagramRecord) (k : ℕ) (d : DatagramRecord) → k < length rs
    → body rs ≡ front (take k rs) ++ (datagram (more_behind k rs) (get_or rs k d) ++ body (drop (suc k) rs))
body-at rs k d h = ap body (sym (set-get_or rs k d)) ∙ body-set rs k (get_or rs k d) h

-- where the datagram at an index begins
pub get_or-starts_from : (rs : List DatagramRecord) (from k : ℕ) → k < length rs
    → get_or (starts_from from rs) k 0 ≡ from + body_length (take k rs)
get_or-starts_from [] from k h = absurd (omega arith)
get_or-starts_from (r ∷ rs) from zero h = omega arith
get_or-starts_from (r ∷ rs) from (suc k) h = get_or-starts_from rs (from + datagram_length r) k (omega arith)
    ∙ add_assoc from (datagram_length r) (body_length (take k rs))
    ∙ ap (λ n. from + n) (sym (body_length-cons r (take k rs)))

-- as many starts as datagrams
pub length-starts_from : (rs : List DatagramRecord) (from : ℕ) → length (starts_from from rs) ≡ length rs
length-starts_from [] from = refl
length-starts_from (r ∷ rs) from = ap suc (length-starts_from rs (from + datagram_length r))

-- a datagram of the same length leaves the starts
pub starts_from-set : (rs : List DatagramRecord) (from k : ℕ) (r d : DatagramRecord) → k < length rs
    → datagram_length r ≡ datagram_length (get_or rs k d)
    → starts_from from (set rs k r) ≡ starts_from from rs
starts_from-set [] from k r d h e = refl
starts_from-set (x ∷ rs) from zero r d h e = ap (λ n. from ∷ starts_from (from + n) rs) e
starts_from-set (x ∷ rs) from (suc k) r d h e =
    ap (λ xs. from ∷ xs) (starts_from-set rs (from + datagram_length x) k r d (omega arith) e)

-- and the length of all
pub body_length-set : (rs : List DatagramRecord) (k : ℕ) (r d : DatagramRecord) → k < length rs
    → datagram_length r ≡ datagram_length (get_or rs k d) → body_length (set rs k r) ≡ body_length rs
body_length-set rs k r d h e = let s = sum_by-set datagram_length rs k r d h in omega arith

-- a frame of these records keeps them
pub records_at-keeps : (cells : List ℕ) (size : ℕ) (starts : List ℕ) (rs : List DatagramRecord)
    → Keeps cells size starts rs → records_at cells starts ≡ rs
unfolding spelling
records_at-keeps cells size starts rs kept =
    let whole : cells ≡ header (body_length rs) ++ (body rs ++ drop size cells) =
    sym (take-append-drop size cells) ∙ ap (λ xs. xs ++ drop size cells) kept.bytes
    ∙ append_assoc (header (body_length rs)) (body rs) (drop size cells) in
    ap (λ xs. records_at xs starts) whole
    ∙ ap (λ xs. records_at (header (body_length rs) ++ (body rs ++ drop size cells)) xs) kept.starts_are
    ∙ records_at-body (header (body_length rs)) (drop size cells) rs kept.value.fits

-- what keeps some records keeps those that are seen
pub Keeps-seen : (cells : List ℕ) (size : ℕ) (starts : List ℕ) (rs : List DatagramRecord)
    → Keeps cells size starts rs → Keeps cells size starts (records_at cells starts)
Keeps-seen cells size starts rs kept = let P : List DatagramRecord → Type 0 = λ xs. Keeps cells size starts xs
    in subst P (sym (records_at-keeps cells size starts rs kept)) kept
