-- The frames of a work are the one division of its entries into consecutive frames, none empty, each of which
-- fits and would not with the next entry.
use Rattle.std.proofs.Common.{◌≡◌, ◌≢◌, ℕ, suc, ◌+◌, ◌≤◌, Bool, true, false, if◌then◌else◌}
use Rattle.std.proofs.Common.{List, [], ◌∷◌, ◌++◌, take, append_assoc, append-nil, sym, ap, refl, ◌∙◌, arith}
use Rattle.std.specs.List.{AllByRecursion}
use Rattle.std.proofs.lemmas.Bool.{le-leb, leb-true}
use Rattle.std.proofs.lemmas.List.{map-append}
use Rattle.std.proofs.lemmas.List.Sums.{sum_by-append}
use Rattle.ec_wire.specs.Datagram.{datagram_length}
use Rattle.ec_wire.specs.Spelling.{body_length}
use Rattle.ec_wire.specs.declared.layout.TheConstants.{MAX_LENGTH}
use Rattle.ec_line.specs.After.{Entry}
use Rattle.ec_line.specs.Answered.{sent_of}
use Rattle.ec_map.specs.Item.{ItemRecord, IsItem}
use Rattle.ec_map.proofs.Laws.{item_most}
use Rattle.ec_master.specs.Cut.{concat, entry_of, entries_from, fits_frame, cut_onto, cut, AreFull, IsCut}
use Rattle.ec_master.proofs.SlaveLemmas.{concat-cut}

-- ---- the cut is a division

-- each alone fits into a frame
abbrev pub EachFits : List Entry → Type 0
EachFits es = AllByRecursion (λ e. fits_frame (e ∷ []) ≡ true) es

-- does the first of frames begin with this entry
abbrev pub BeginsWith : Entry → List (List Entry) → Type 0
BeginsWith e [] = ⊥
BeginsWith e (f ∷ fs) = take 1 f ≡ e ∷ []

cut_onto-begins : (e : Entry) (xs es : List Entry) → BeginsWith e (cut_onto (e ∷ xs) es)
unfolding cut_onto
cut_onto-begins e xs [] = refl
cut_onto-begins e xs (y ∷ ys) =
    by_fit (fits_frame (e ∷ xs ++ y ∷ [])) (cut_onto-begins e (xs ++ y ∷ []) ys)
  where
    by_fit : (fits : Bool) → BeginsWith e (cut_onto (e ∷ xs ++ y ∷ []) ys)
        → BeginsWith e (if fits then cut_onto (e ∷ xs ++ y ∷ []) ys else (e ∷ xs) ∷ cut_onto (y ∷ []) ys)
    by_fit true more = more
    by_fit false more = refl

-- a frame that goes out before others is full where it has no room for the entry with which they begin
full-before : (f : List Entry) (e : Entry) (fs : List (List Entry)) → fits_frame (f ++ e ∷ []) ≡ false
    → BeginsWith e fs → AreFull fs → AreFull (f ∷ fs)
full-before f e [] no_room begins full = absurd begins
full-before f e (g ∷ gs) no_room begins full =
    (ap (λ (l : List Entry). fits_frame (f ++ l)) begins ∙ no_room, full)

-- what is not empty is still not with one more
not_empty-more : (xs : List Entry) (e : Entry) → xs ++ e ∷ [] ≢ []
not_empty-more [] e h = absurd (cc)
not_empty-more (x ∷ xs) e h = absurd (cc)

-- the facts of frames, but for what they have together
record AreFrames (frames : List (List Entry)) : Type 0 where
  pub some : AllByRecursion (λ f. f ≢ []) frames
  pub fit : AllByRecursion (λ f. fits_frame f ≡ true) frames
  pub full : AreFull frames

cut_onto-frames : (frame es : List Entry) → frame ≢ [] → fits_frame frame ≡ true → EachFits es
    → AreFrames (cut_onto frame es)
unfolding cut_onto
cut_onto-frames frame [] some fits each = record { some = (some, tt); fit = (fits, tt); full = tt }
cut_onto-frames frame (e ∷ es) some fits each =
    by_fit (fits_frame (frame ++ e ∷ []))
    (λ more. cut_onto-frames (frame ++ e ∷ []) es (not_empty-more frame e) more each.1)
    (λ no_room. no_room)
    (cut_onto-frames (e ∷ []) es (λ h. absurd (cc)) each.0 each.1)
  where
    by_fit : (b : Bool) → (b ≡ true → AreFrames (cut_onto (frame ++ e ∷ []) es))
        → (b ≡ false → fits_frame (frame ++ e ∷ []) ≡ false)
        → AreFrames (cut_onto (e ∷ []) es)
        → AreFrames (if b then cut_onto (frame ++ e ∷ []) es else frame ∷ cut_onto (e ∷ []) es)
    by_fit true more no_room rest = more refl
    by_fit false more no_room rest = record {
      some = (some, rest.some);
      fit = (fits, rest.fit);
      full = full-before frame e (cut_onto (e ∷ []) es) (no_room refl) (cut_onto-begins e [] es) rest.full;
    }

cut-frames : (es : List Entry) → EachFits es → AreFrames (cut es)
unfolding cut
cut-frames [] each = record { some = tt; fit = tt; full = tt }
cut-frames (e ∷ es) each = cut_onto-frames (e ∷ []) es (λ h. absurd (cc)) each.0 each.1

pub cut-IsCut : (es : List Entry) → EachFits es → IsCut es (cut es)
cut-IsCut es each =
    let frames = cut-frames es each in
    record { whole = concat-cut es; some = frames.some; fit = frames.fit; full = frames.full }

-- ---- it is the only one

body_length-append : (xs ys : List Entry)
    → body_length (sent_of (xs ++ ys)) ≡ body_length (sent_of xs) + body_length (sent_of ys)
body_length-append xs ys =
    ap body_length (map-append (λ (e : Entry). e.sent) xs ys)
    ∙ sum_by-append datagram_length (sent_of xs) (sent_of ys)

-- what fits with more behind it fits
fits-front : (xs ys : List Entry) → fits_frame (xs ++ ys) ≡ true → fits_frame xs ≡ true
fits-front xs ys fits =
    let all : body_length (sent_of (xs ++ ys)) ≤ MAX_LENGTH = leb-true _ _ fits in
    le-leb _ _ (omega (arith, all, body_length-append xs ys))

-- entries that fit go onto the frame
cut_onto-fits : (frame es rest : List Entry) → fits_frame (frame ++ es) ≡ true
    → cut_onto frame (es ++ rest) ≡ cut_onto (frame ++ es) rest
unfolding cut_onto
cut_onto-fits frame [] rest fits = rw (append-nil frame) refl
cut_onto-fits frame (e ∷ es) rest fits =
    let whole : fits_frame ((frame ++ e ∷ []) ++ es) ≡ true =
    ap fits_frame (append_assoc frame (e ∷ []) es) ∙ fits in
    let one : fits_frame (frame ++ e ∷ []) ≡ true = fits-front (frame ++ e ∷ []) es whole in
    let more : cut_onto (frame ++ e ∷ []) (es ++ rest) ≡ cut_onto (frame ++ e ∷ es) rest =
    cut_onto-fits (frame ++ e ∷ []) es rest whole
    ∙ ap (λ (l : List Entry). cut_onto l rest) (append_assoc frame (e ∷ []) es) in
    rw one more

pub cut-only : (frames : List (List Entry)) → AllByRecursion (λ f. f ≢ []) frames
    → AllByRecursion (λ f. fits_frame f ≡ true) frames → AreFull frames → frames ≡ cut (concat frames)
unfolding cut cut_onto
cut-only [] some fit full = refl
cut-only ([] ∷ fs) some fit full = absurd (some.0 refl)
cut-only ((e ∷ es) ∷ []) some fit full = sym (cut_onto-fits (e ∷ []) es [] fit.0)
cut-only ((e ∷ es) ∷ [] ∷ gs) some fit full = absurd (some.1.0 refl)
cut-only ((e ∷ es) ∷ (x ∷ xs) ∷ gs) some fit full =
    let behind : List Entry = xs ++ concat gs in
    let no_room : fits_frame ((e ∷ es) ++ x ∷ []) ≡ false = full.0 in
    let next : cut_onto (e ∷ es) (x ∷ behind) ≡ (e ∷ es) ∷ cut_onto (x ∷ []) behind = rw no_room refl in
    ap (λ (l : List (List Entry)). (e ∷ es) ∷ l) (cut-only ((x ∷ xs) ∷ gs) some.1 fit.1 full.1)
    ∙ sym next ∙ sym (cut_onto-fits (e ∷ []) es (x ∷ behind) fit.0)

pub IsCut-cut : (es : List Entry) (frames : List (List Entry)) → IsCut es frames → frames ≡ cut es
IsCut-cut es frames is = cut-only frames is.some is.fit is.full ∙ ap cut is.whole

-- ---- an item fits into a frame

item-fits : (k : ℕ) (r : ItemRecord) → IsItem r → fits_frame (entry_of r k ∷ []) ≡ true
item-fits k r item = le-leb _ _ (omega (arith, item_most r item))

pub items-fit : (k : ℕ) (items : List ItemRecord) → AllByRecursion IsItem items
    → EachFits (entries_from k items)
unfolding entries_from
items-fit k [] items = tt
items-fit k (r ∷ rs) items = (item-fits k r items.0, items-fit (suc k) rs items.1)
