-- The laws that crates above cite: on the numbered entries of a work, and on frames that fill up with them.
use Rattle.std.proofs.Common.{◌≡◌, ℕ, suc, ◌+◌, ◌<◌, ◌≤◌, true, false, List, [], ◌∷◌, ◌++◌, length, drop}
use Rattle.std.proofs.Common.{get_or, set, map, take}
use Rattle.ec_wire.specs.Datagram.{datagram_length}
use Rattle.ec_wire.specs.Spelling.{body_length}
use Rattle.ec_wire.specs.declared.layout.TheConstants.{MAX_LENGTH}
use Rattle.ec_line.specs.After.{Entry}
use Rattle.ec_line.specs.Answered.{sent_of}
use Rattle.ec_map.specs.Item.{ItemRecord}
use Rattle.ec_master.specs.Cut.{entry_of, entries_from, fits_frame, filled}
use Rattle.ec_master.proofs.CutLemmas as cutting
use Rattle.ec_master.proofs.WorkLemmas as work

-- the entries of the items from one on are its own and those of the items behind it
pub entries-cons : (k : ℕ) (items : List ItemRecord) (e : ItemRecord) → k < length items
    → entries_from k (drop k items) ≡ entry_of (get_or items k e) k
    ∷ entries_from (suc k) (drop (suc k) items)
entries-cons = cutting.entries-cons

-- a frame with one more datagram is longer by that one
pub body_length-more : (es : List Entry) (e : Entry)
    → body_length (sent_of (es ++ e ∷ [])) ≡ body_length (sent_of es) + datagram_length e.sent
body_length-more = cutting.body_length-more

-- one more fits where there is room for it
pub fits-more : (es : List Entry) (e : Entry) → body_length (sent_of es) + datagram_length e.sent ≤ MAX_LENGTH
    → fits_frame (es ++ e ∷ []) ≡ true
fits-more = cutting.fits-more

-- and does not where there is none
pub fits-no_more : (es : List Entry) (e : Entry)
    → MAX_LENGTH < body_length (sent_of es) + datagram_length e.sent
    → fits_frame (es ++ e ∷ []) ≡ false
fits-no_more = cutting.fits-no_more

-- a frame takes the next entry where it fits
pub filled-more : (frame es : List Entry) (e : Entry) → fits_frame (frame ++ e ∷ []) ≡ true
    → filled frame (e ∷ es) ≡ filled (frame ++ e ∷ []) es
filled-more = cutting.filled-more

-- it is full where the next does not fit
pub filled-full : (frame es : List Entry) (e : Entry) → fits_frame (frame ++ e ∷ []) ≡ false
    → filled frame (e ∷ es) ≡ frame
filled-full = cutting.filled-full

-- and stays as it is where none is left
pub filled-none : (frame : List Entry) → filled frame [] ≡ frame
filled-none = cutting.filled-none

-- ---- items that are changed one after the other, by the same function

-- one more is changed
pub set-changed : (f : ItemRecord → ItemRecord) (k : ℕ) (rs : List ItemRecord) (e : ItemRecord) → k < length rs
    → set (map f (take k rs) ++ drop k rs) k (f (get_or rs k e)) ≡ map f (take (suc k) rs) ++ drop (suc k) rs
set-changed = work.set-changed

-- the next one is as it was
pub get-changed : (f : ItemRecord → ItemRecord) (k : ℕ) (rs : List ItemRecord) (e : ItemRecord)
    → get_or (map f (take k rs) ++ drop k rs) k e ≡ get_or rs k e
get-changed = work.get-changed

-- there are as many
pub length-changed : (f : ItemRecord → ItemRecord) (k : ℕ) (rs : List ItemRecord)
    → length (map f (take k rs) ++ drop k rs) ≡ length rs
length-changed = work.length-changed
