-- What a joined frame gives the items that it answers, one datagram after the other.
use Rattle.std.proofs.Common.{◌≡◌, ℕ, zero, suc, ◌+◌, ◌<◌, ◌≤◌, ◌∙◌, arith, ap, sym, refl, suc-add, zero-add}
use Rattle.std.proofs.Common.{List, [], ◌∷◌, ◌++◌, length, map, take, drop, get_or, set, drop-cons, Bool, true}
use Rattle.std.proofs.Common.{false, cond, eqb, ◌&&◌, length-append, ne_of_lt, le_of_lt}
use Rattle.std.proofs.lemmas.Bool.{and_parts, eqb-true, eq-eqb, ne_eqb, lt-ltb, le-ltb}
use Rattle.std.proofs.lemmas.List.{get_or-map, length-map, length-take-le, length-drop}
use Rattle.std.proofs.lemmas.Option.{slice_get-get_or}
use Rattle.ec_wire.specs.Command.{reads}
use Rattle.ec_wire.specs.Datagram.{DatagramRecord, nth, code_of, blank}
use Rattle.ec_wire.specs.Kind.{command_of}
use Rattle.ec_merge.specs.Rule.{distance}
use Rattle.ec_map.specs.Item.{ItemRecord}
use Rattle.ec_master.specs.Verdict.{verdict_from}
use Rattle.ec_master.specs.declared.verdict.Verdict.TheVariants.{Good, Short, Over}
use Rattle.rummymaple.specs.Answers.{answers, came_back, with_counts, with_counts_at, stored_item, stored}
use Rattle.rummymaple.specs.Answers.{AreAnswered}
use Rattle.rummymaple.specs.Items.{asked, kind_named}
use Rattle.rummymaple.specs.declared.item.Item.{Item}
use Rattle.rummymaple.proofs.CutLemmas.{no_item}

-- ---- which item a datagram answers

-- it has as many data as the item
answers-size : (i : Item) (k : ℕ) (d : DatagramRecord) → answers i k d ≡ true → length d.payload ≡ i.length
answers-size i k d h =
    eqb-true _ _ (and_parts (eqb (code_of d.command) i.kind && eqb d.index k) (eqb (length d.payload) i.length) h).1

-- so has that of the item with a number
pub size_at : (items : List Item) (first j : ℕ) (frame : List DatagramRecord) → AreAnswered items first frame
    → j < length frame → first + j < length items
    → length (nth frame j).payload ≡ (get_or items (first + j) no_item).length
size_at items first j frame answered in_frame in_items =
    answers-size (get_or items (first + j) no_item) (first + j) (nth frame j)
    (answered.each j (get_or items (first + j) no_item) in_frame
    (slice_get-get_or items (first + j) no_item in_items))

-- ---- what came back

pub with_counts-none : (rs : List Item) → with_counts rs [] ≡ rs
with_counts-none [] = refl
with_counts-none (r ∷ rs) = refl

pub length-with_counts : (rs : List Item) (ds : List DatagramRecord)
    → length (with_counts rs ds) ≡ length rs
length-with_counts [] ds = refl
length-with_counts (r ∷ rs) [] = refl
length-with_counts (r ∷ rs) (d ∷ ds) = ap suc (length-with_counts rs ds)

pub length-with_counts_at : (k : ℕ) (rs : List Item) (ds : List DatagramRecord)
    → length (with_counts_at k rs ds) ≡ length rs
length-with_counts_at zero rs ds = length-with_counts rs ds
length-with_counts_at (suc k) [] ds = refl
length-with_counts_at (suc k) (r ∷ rs) ds = ap suc (length-with_counts_at k rs ds)

pub with_counts_at-none : (k : ℕ) (rs : List Item) → with_counts_at k rs [] ≡ rs
with_counts_at-none zero rs = with_counts-none rs
with_counts_at-none (suc k) [] = refl
with_counts_at-none (suc k) (r ∷ rs) = ap (λ (xs : List Item). r ∷ xs) (with_counts_at-none k rs)

-- an item that has no answer yet is as it was
pub get-with_counts : (j : ℕ) (rs : List Item) (ds : List DatagramRecord) (e : Item)
    → get_or (with_counts rs (take j ds)) j e ≡ get_or rs j e
get-with_counts j [] ds e = refl
get-with_counts zero (r ∷ rs) ds e = refl
get-with_counts (suc j) (r ∷ rs) [] e = refl
get-with_counts (suc j) (r ∷ rs) (d ∷ ds) e = get-with_counts j rs ds e

pub get-with_counts_at : (k j : ℕ) (rs : List Item) (ds : List DatagramRecord) (e : Item)
    → get_or (with_counts_at k rs (take j ds)) (k + j) e ≡ get_or rs (k + j) e
get-with_counts_at zero j rs ds e = rw (zero-add j) (get-with_counts j rs ds e)
get-with_counts_at (suc k) j [] ds e = refl
get-with_counts_at (suc k) j (r ∷ rs) ds e = rw (suc-add k j) (get-with_counts_at k j rs ds e)

-- it takes its answer
pub set-with_counts : (j : ℕ) (rs : List Item) (ds : List DatagramRecord) (e : Item)
    → j < length rs → j < length ds
    → set (with_counts rs (take j ds)) j (came_back (get_or rs j e) (nth ds j))
    ≡ with_counts rs (take (suc j) ds)
set-with_counts j [] ds e h i = absurd (omega (arith, h))
set-with_counts j (r ∷ rs) [] e h i = absurd (omega (arith, i))
set-with_counts zero (r ∷ rs) (d ∷ ds) e h i =
    ap (λ (xs : List Item). came_back r d ∷ xs) (sym (with_counts-none rs))
set-with_counts (suc j) (r ∷ rs) (d ∷ ds) e h i =
    ap (λ (xs : List Item). came_back r d ∷ xs)
    (set-with_counts j rs ds e (omega (arith, h)) (omega (arith, i)))

pub set-with_counts_at : (k j : ℕ) (rs : List Item) (ds : List DatagramRecord) (e : Item)
    → k + j < length rs
    → j < length ds
    → set (with_counts_at k rs (take j ds)) (k + j) (came_back (get_or rs (k + j) e) (nth ds j))
    ≡ with_counts_at k rs (take (suc j) ds)
set-with_counts_at zero j rs ds e h i = rw (zero-add j) (set-with_counts j rs ds e (omega (arith, h)) i)
set-with_counts_at (suc k) j [] ds e h i = absurd (omega (arith, h))
set-with_counts_at (suc k) j (r ∷ rs) ds e h i =
    rw (suc-add k j)
    (ap (λ (xs : List Item). r ∷ xs) (set-with_counts_at k j rs ds e (omega (arith, h)) i))

-- ---- the verdict

pub verdict-as_expected : (k : ℕ) (r : ItemRecord) (d : DatagramRecord) (e : ℕ) (rs : List ItemRecord)
    (ds : List DatagramRecord) (es : List ℕ)
    → distance r.counter d.counter ≡ e
    → verdict_from k (r ∷ rs) (d ∷ ds) (e ∷ es) ≡ verdict_from (suc k) rs ds es
unfolding verdict_from
verdict-as_expected k r d e rs ds es same = rw (eq-eqb (distance r.counter d.counter) e same) refl

pub verdict-short : (k : ℕ) (r : ItemRecord) (d : DatagramRecord) (e : ℕ) (rs : List ItemRecord)
    (ds : List DatagramRecord) (es : List ℕ)
    → distance r.counter d.counter < e → verdict_from k (r ∷ rs) (d ∷ ds) (e ∷ es) ≡ Short k
unfolding verdict_from
verdict-short k r d e rs ds es less =
    rw (ne_eqb (distance r.counter d.counter) e (ne_of_lt less), lt-ltb (distance r.counter d.counter) e less) refl

pub verdict-over : (k : ℕ) (r : ItemRecord) (d : DatagramRecord) (e : ℕ) (rs : List ItemRecord)
    (ds : List DatagramRecord) (es : List ℕ)
    → e < distance r.counter d.counter → verdict_from k (r ∷ rs) (d ∷ ds) (e ∷ es) ≡ Over k
unfolding verdict_from
verdict-over k r d e rs ds es more =
    rw (
      ne_eqb (distance r.counter d.counter) e (λ same. ne_of_lt more (sym same)),
      le-ltb (distance r.counter d.counter) e (le_of_lt more),
    ) refl

pub verdict-end : (k : ℕ) (rs : List ItemRecord) (es : List ℕ) → verdict_from k rs [] es ≡ Good
unfolding verdict_from
verdict-end k [] es = refl
verdict-end k (r ∷ rs) es = refl

-- what stands of the verdict at an item and its datagram
pub verdict-here : (items : List Item) (k j : ℕ) (frame : List DatagramRecord) → k < length items
    → j < length frame
    → verdict_from k (drop k (map (asked []) items)) (drop j frame) (drop k (map (λ i. i.expected) items))
    ≡ verdict_from k (asked [] (get_or items k no_item) ∷ drop (suc k) (map (asked []) items))
    (nth frame j ∷ drop (suc j) frame)
    ((get_or items k no_item).expected ∷ drop (suc k) (map (λ i. i.expected) items))
verdict-here items k j frame in_items in_frame =
    let i : Item = get_or items k no_item in
    let rs : List ItemRecord = map (asked []) items in
    let es : List ℕ = map (λ (i : Item). i.expected) items in
    let items_here : drop k rs ≡ asked [] i ∷ drop (suc k) rs =
    drop-cons rs k (asked [] no_item) (omega (arith, in_items, length-map items (asked [])))
    ∙ ap (λ (r : ItemRecord). r ∷ drop (suc k) rs) (get_or-map (asked []) items k no_item (asked [] no_item) in_items)
    in
    let frame_here : drop j frame ≡ nth frame j ∷ drop (suc j) frame = drop-cons frame j blank in_frame in
    let expected_here : drop k es ≡ i.expected ∷ drop (suc k) es =
    drop-cons es k 0 (omega (arith, in_items, length-map items (λ (i : Item). i.expected)))
    ∙ ap (λ (e : ℕ). e ∷ drop (suc k) es) (get_or-map (λ (i : Item). i.expected) items k no_item 0 in_items) in
    λ t. verdict_from k (items_here t) (frame_here t) (expected_here t)

-- ---- the data

pub stored-here : (items : List Item) (k j : ℕ) (frame : List DatagramRecord) (image : List ℕ)
    → k < length items → j < length frame
    → stored (drop k items) (drop j frame) image
    ≡ stored (drop (suc k) items) (drop (suc j) frame)
    (stored_item (get_or items k no_item) (nth frame j) image)
unfolding stored
stored-here items k j frame image in_items in_frame =
    rw (drop-cons items k no_item in_items, drop-cons frame j blank in_frame) refl

pub stored-end : (items : List Item) (image : List ℕ) → stored items [] image ≡ image
unfolding stored
stored-end [] image = refl
stored-end (i ∷ items) image = refl

pub length-placed : (b : Bool) (from count : ℕ) (bytes image : List ℕ) → from + count ≤ length image
    → length bytes ≡ count
    → length (cond b (take from image ++ (bytes ++ drop (from + count) image)) image) ≡ length image
length-placed false from count bytes image place size = refl
length-placed true from count bytes image place size =
    omega (
      arith,
      place,
      size,
      length-append (take from image) (bytes ++ drop (from + count) image),
      length-append bytes (drop (from + count) image),
      length-take-le from image (omega (arith, place)),
      length-drop (from + count) image,
    )

-- the image keeps its length
pub length-stored_item : (i : Item) (d : DatagramRecord) (image : List ℕ) → i.offset + i.length ≤ length image
    → length d.payload ≡ i.length → length (stored_item i d image) ≡ length image
length-stored_item i d image place size =
    length-placed (reads (command_of (kind_named i.kind))) i.offset i.length d.payload image place size
