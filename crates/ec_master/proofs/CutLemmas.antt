-- The first frame of entries and what is left of them.
use Rattle.std.proofs.Common.{◌≡◌, ℕ, suc, ◌+◌, ◌<◌, ◌≤◌, Bool, true, false, if◌then◌else◌, sym, ap, refl}
use Rattle.std.proofs.Common.{◌∙◌, arith, inl, inr}
use Rattle.std.proofs.Common.{List, [], ◌∷◌, ◌++◌, length, drop, append_assoc, length-append, suc-add}
use Rattle.std.proofs.Common.{add-suc, add-zero, get_or, drop-cons}
use Rattle.ec_line.specs.After.{Entry}
use Rattle.ec_line.specs.Answered.{sent_of}
use Rattle.ec_wire.specs.Datagram.{DatagramRecord, datagram_length}
use Rattle.ec_wire.specs.Spelling.{body_length}
use Rattle.ec_wire.specs.declared.layout.TheConstants.{MAX_LENGTH}
use Rattle.std.proofs.lemmas.Bool.{le-leb, lt-leb, true≢false, cases_lt}
use Rattle.std.proofs.lemmas.List.Sums.{sum_by-append}
use Rattle.ec_map.specs.Item.{ItemRecord}
use Rattle.ec_master.specs.Cut.{entry_of, entries_from, fits_frame, filled, cut_onto, cut}

-- what does not go onto the first frame
pub rest_of : List Entry → List Entry → List Entry
rest_of frame [] = []
rest_of frame (e ∷ es) = if fits_frame (frame ++ e ∷ []) then rest_of (frame ++ e ∷ []) es else e ∷ es

pub cut_onto-filled : (frame es : List Entry) → cut_onto frame es ≡ filled frame es ∷ cut (rest_of frame es)
unfolding cut_onto filled rest_of cut
cut_onto-filled frame [] = refl
cut_onto-filled frame (e ∷ es) =
    by_fit (fits_frame (frame ++ e ∷ [])) frame e es (cut_onto-filled (frame ++ e ∷ []) es)
  where
    by_fit : (fits : Bool) (frame : List Entry) (e : Entry) (es : List Entry)
        → cut_onto (frame ++ e ∷ []) es ≡ filled (frame ++ e ∷ []) es ∷ cut (rest_of (frame ++ e ∷ []) es)
        → (if fits then cut_onto (frame ++ e ∷ []) es else frame ∷ cut_onto (e ∷ []) es)
        ≡ (if fits then filled (frame ++ e ∷ []) es else frame)
        ∷ cut (if fits then rest_of (frame ++ e ∷ []) es else e ∷ es)
    by_fit true frame e es more = more
    by_fit false frame e es more = refl

pub filled-whole : (frame es : List Entry) → filled frame es ++ rest_of frame es ≡ frame ++ es
unfolding filled rest_of
filled-whole frame [] = refl
filled-whole frame (e ∷ es) =
    by_fit (fits_frame (frame ++ e ∷ [])) frame e es (filled-whole (frame ++ e ∷ []) es)
  where
    by_fit : (fits : Bool) (frame : List Entry) (e : Entry) (es : List Entry)
        → filled (frame ++ e ∷ []) es ++ rest_of (frame ++ e ∷ []) es ≡ (frame ++ e ∷ []) ++ es
        → (if fits then filled (frame ++ e ∷ []) es else frame)
        ++ (if fits then rest_of (frame ++ e ∷ []) es else e ∷ es)
        ≡ frame ++ e ∷ es
    by_fit true frame e es more = more ∙ append_assoc frame (e ∷ []) es
    by_fit false frame e es more = refl

-- ---- numbered entries

pub length-entries : (k : ℕ) (items : List ItemRecord) → length (entries_from k items) ≡ length items
unfolding entries_from
length-entries k [] = refl
length-entries k (r ∷ rs) = ap suc (length-entries (suc k) rs)

-- the first of entries, or another one, and all but the first
abbrev pub first_or : Entry → List Entry → Entry
first_or e [] = e
first_or e (x ∷ xs) = x

abbrev pub behind : List Entry → List Entry
behind [] = []
behind (e ∷ es) = es

-- what is left of them once a part is taken
pub entries-split : (front : List Entry) (k : ℕ) (items : List ItemRecord) (back : List Entry)
    → front ++ back ≡ entries_from k items
    → back ≡ entries_from (k + length front) (drop (length front) items)
unfolding entries_from
entries-split [] k items back e = rw (add-zero k) e
entries-split (f ∷ front) k [] back e = absurd (cc)
entries-split (f ∷ front) k (r ∷ rs) back e =
    rw (add-suc k (length front))
    (rw (suc-add k (length front)) at (entries-split front (suc k) rs back (ap behind e)))

-- the entry with the first number
pub entries-cons : (k : ℕ) (items : List ItemRecord) (e : ItemRecord) → k < length items
    → entries_from k (drop k items) ≡ entry_of (get_or items k e) k
    ∷ entries_from (suc k) (drop (suc k) items)
unfolding entries_from
entries-cons k items e h = ap (entries_from k) (drop-cons items k e h)

-- ---- filling up

pub sent_of-more : (es : List Entry) (e : Entry) → sent_of (es ++ e ∷ []) ≡ sent_of es ++ e.sent ∷ []
sent_of-more [] e = refl
sent_of-more (x ∷ xs) e = ap (λ (ds : List DatagramRecord). x.sent ∷ ds) (sent_of-more xs e)

pub body_length-more : (es : List Entry) (e : Entry)
    → body_length (sent_of (es ++ e ∷ [])) ≡ body_length (sent_of es) + datagram_length e.sent
body_length-more es e =
    ap body_length (sent_of-more es e) ∙ sum_by-append datagram_length (sent_of es) (e.sent ∷ [])
    ∙ ap (λ n. body_length (sent_of es) + n) (omega arith)

pub fits-more : (es : List Entry) (e : Entry) → body_length (sent_of es) + datagram_length e.sent ≤ MAX_LENGTH
    → fits_frame (es ++ e ∷ []) ≡ true
fits-more es e room = le-leb _ _ (omega (arith, room, body_length-more es e))

pub fits-no_more : (es : List Entry) (e : Entry)
    → MAX_LENGTH < body_length (sent_of es) + datagram_length e.sent
    → fits_frame (es ++ e ∷ []) ≡ false
fits-no_more es e full = lt-leb _ _ (omega (arith, full, body_length-more es e))

pub filled-more : (frame es : List Entry) (e : Entry) → fits_frame (frame ++ e ∷ []) ≡ true
    → filled frame (e ∷ es) ≡ filled (frame ++ e ∷ []) es
unfolding filled
filled-more frame es e fits = rw fits refl

pub filled-full : (frame es : List Entry) (e : Entry) → fits_frame (frame ++ e ∷ []) ≡ false
    → filled frame (e ∷ es) ≡ frame
unfolding filled
filled-full frame es e fits = rw fits refl

pub filled-none : (frame : List Entry) → filled frame [] ≡ frame
unfolding filled
filled-none frame = refl

-- what is no error is within the limit
pub not_full : (n limit : ℕ) → (limit < n → false ≡ true) → n ≤ limit
not_full n limit full = elim (cases_lt limit n) [
  | inl over ↦ absurd (true≢false (sym (full over)))
  | inr within ↦ within
]

-- what is begun stays
pub filled-some : (frame es : List Entry) → 1 ≤ length frame → 1 ≤ length (filled frame es)
unfolding filled
filled-some frame [] some = some
filled-some frame (e ∷ es) some =
    by_fit (fits_frame (frame ++ e ∷ []))
    (filled-some (frame ++ e ∷ []) es (omega (arith, some, length-append frame (e ∷ []))))
  where
    by_fit : (fits : Bool) → 1 ≤ length (filled (frame ++ e ∷ []) es)
        → 1 ≤ length (if fits then filled (frame ++ e ∷ []) es else frame)
    by_fit true more = more
    by_fit false more = some
