-- How the items of a work are cut into frames: in their order, each with its number as index, as many onto a
-- frame as it holds (IEC 61158-4-12, the datagram structure).
use Rattle.std.specs.Prelude.{◌≡◌, ◌≢◌, ℕ, suc, Bool, true, false, nat_le, if◌then◌else◌}
use Rattle.std.specs.Prelude.{List, [], ◌∷◌, ◌++◌, take, drop}
use Rattle.std.specs.List.{AllByRecursion}
use Rattle.ec_wire.specs.Datagram.{DatagramRecord}
use Rattle.ec_wire.specs.Spelling.{body_length}
use Rattle.ec_wire.specs.declared.layout.TheConstants.{MAX_LENGTH}
use Rattle.ec_line.specs.After.{Entry}
use Rattle.ec_line.specs.Answered.{sent_of}
use Rattle.ec_line.specs.Request.{OnWay}
use Rattle.ec_map.specs.Item.{ItemRecord, datagram_of}
use Rattle.ec_map.specs.Share.{request_of}

-- lists put end to end
abbrev pub concat : {S : Type 0} → List (List S) → List S
concat [] = []
concat (x ∷ xs) = x ++ concat xs

-- an item and its datagram, whose index is a number
abbrev pub entry_of : ItemRecord → ℕ → Entry
entry_of r k = record { request = request_of r; sent = datagram_of r k }

-- items and their datagrams, numbered on from k
unfoldable pub entries_from : ℕ → List ItemRecord → List Entry
entries_from k [] = []
entries_from k (r ∷ rs) = entry_of r k ∷ entries_from (suc k) rs

-- do datagrams fit into one frame
abbrev pub fits_frame : List Entry → Bool
fits_frame es = nat_le (body_length (sent_of es)) MAX_LENGTH

-- entries are put onto a frame while they fit, else onto a new one
unfoldable pub cut_onto : List Entry → List Entry → List (List Entry)
cut_onto frame [] = frame ∷ []
cut_onto frame (e ∷ es) =
    if fits_frame (frame ++ e ∷ []) then cut_onto (frame ++ e ∷ []) es else frame ∷ cut_onto (e ∷ []) es

-- the frame that is so begun, as it goes out
unfoldable pub filled : List Entry → List Entry → List Entry
filled frame [] = frame
filled frame (e ∷ es) = if fits_frame (frame ++ e ∷ []) then filled (frame ++ e ∷ []) es else frame

-- the first frame of entries
abbrev pub first_frame : List Entry → List Entry
first_frame [] = []
first_frame (e ∷ es) = filled (e ∷ []) es

unfoldable pub cut : List Entry → List (List Entry)
cut [] = []
cut (e ∷ es) = cut_onto (e ∷ []) es

-- the frame that begins with an item
abbrev pub frame_at : ℕ → List ItemRecord → List Entry
frame_at k items = first_frame (entries_from k (drop k items))

-- the frames of a work
abbrev pub frames_of : List ItemRecord → List (List Entry)
frames_of items = cut (entries_from 0 items)

-- ---- the same without an order of doing

-- the first datagram of each frame would not have fitted onto the frame before it
abbrev pub AreFull : List (List Entry) → Type 0
AreFull [] = Unit {0}
AreFull (f ∷ []) = Unit {0}
AreFull (f ∷ g ∷ fs) = (fits_frame (f ++ take 1 g) ≡ false) × AreFull (g ∷ fs)

-- entries are divided into consecutive frames, none empty, each of which fits and would not with the next one
pub record IsCut (es : List Entry) (frames : List (List Entry)) : Type 0 where
  pub whole : concat frames ≡ es
  pub some : AllByRecursion (λ f. f ≢ []) frames
  pub fit : AllByRecursion (λ f. fits_frame f ≡ true) frames
  pub full : AreFull frames

-- a frame of items: the entries' datagrams, each of its request, and none circulating
pub record IsFrameOf (es : List Entry) (sent : List DatagramRecord) : Type 0 where
  pub datagrams : sent ≡ sent_of es
  pub way : AllByRecursion (λ e. OnWay e.request e.sent) es
  pub not_circulating : AllByRecursion (λ e. e.sent.circulating ≡ false) es
