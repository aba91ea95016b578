-- The image behind stored answers, byte for byte: that of the last item that reads into it, or as it was.
use Rattle.std.proofs.Common.{◌≡◌, ℕ, zero, suc, ◌+◌, ◌-◌, ◌<◌, ◌≤◌, ◌∙◌, arith, ap, sym, refl, Bool, true, false}
use Rattle.std.proofs.Common.{cond, inl, inr, List, [], ◌∷◌, ◌++◌, length, take, drop, get_or, length-drop}
use Rattle.std.proofs.Common.{Some, subst, unwrap_or, length-append}
use Rattle.std.proofs.lemmas.Bool.{cases_lt}
use Rattle.std.proofs.lemmas.List.{get_or_append_left, get_or-append_right, get_or-take, get_or-drop}
use Rattle.std.proofs.lemmas.List.{length-take-le, drop-drop, ext_get_or}
use Rattle.std.proofs.lemmas.Option.{slice_get-get_or, slice_get_past, slice_get_within, get_or_from_slice_get}
use Rattle.std.specs.List.{slice_range, slice_get}
use Rattle.ec_wire.specs.Command.{reads}
use Rattle.ec_wire.specs.Datagram.{DatagramRecord, nth}
use Rattle.ec_wire.specs.Kind.{command_of}
use Rattle.ec_map.specs.Item.{ItemRecord, is_broadcast}
use Rattle.ec_ring.specs.declared.weather.Came.{Came}
use Rattle.ec_master.specs.Cut.{concat}
use Rattle.ec_master.specs.Work.{with_answer, with_answers}
use Rattle.rummymaple.specs.Answers.{stored_item, stored, AreAnswered}
use Rattle.rummymaple.specs.Cycle.{AreCalls}
use Rattle.rummymaple.specs.Image.{ReadsInto, IsLastInto, HasAnswers, AreStored}
use Rattle.rummymaple.specs.Items.{kind_named, AreTaken}
use Rattle.rummymaple.specs.Turn.{taken_item, taken_over}
use Rattle.rummymaple.specs.declared.item.Item.{Item}
use Rattle.rummymaple.proofs.AnswerLemmas.{length-stored_item, size_at, stored-end}
use Rattle.rummymaple.proofs.CutLemmas.{no_item, taken_at}
use Rattle.rummymaple.proofs.ItemLemmas.{taken}
use Rattle.rummymaple.proofs.TurnLemmas.{length-taken_item}

-- ---- bytes that are put in the place of others

-- the image with such bytes from an offset on
abbrev pub put : ℕ → ℕ → List ℕ → List ℕ → List ℕ
put from count bytes image = take from image ++ (bytes ++ drop (from + count) image)

put-in : (from count at : ℕ) (bytes image : List ℕ) → from + count ≤ length image → length bytes ≡ count
    → from ≤ at → at < from + count → get_or (put from count bytes image) at 0 ≡ get_or bytes (at - from) 0
put-in from count at bytes image place size after within =
    get_or-append_right (take from image) (bytes ++ drop (from + count) image) from at 0
    (length-take-le from image (omega (arith, place))) after
    ∙ get_or_append_left bytes (drop (from + count) image) 0 (at - from) (omega (arith, size, after, within))

put-before : (from count at : ℕ) (bytes image : List ℕ) → from + count ≤ length image → at < from
    → get_or (put from count bytes image) at 0 ≡ get_or image at 0
put-before from count at bytes image place early =
    get_or_append_left (take from image) (bytes ++ drop (from + count) image) 0 at
    (omega (arith, early, length-take-le from image (omega (arith, place))))
    ∙ get_or-take from image at 0 early

put-behind : (from count at : ℕ) (bytes image : List ℕ) → from + count ≤ length image
    → length bytes ≡ count → from + count ≤ at → get_or (put from count bytes image) at 0 ≡ get_or image at 0
put-behind from count at bytes image place size late =
    let there : from + count + (at - from - count) ≡ at = omega (arith, late) in
    get_or-append_right (take from image) (bytes ++ drop (from + count) image) from at 0
    (length-take-le from image (omega (arith, place))) (omega (arith, late))
    ∙ get_or-append_right bytes (drop (from + count) image) count (at - from) 0 size (omega (arith, late))
    ∙ get_or-drop (from + count) image (at - from - count) 0
    ∙ ap (λ n. get_or image n 0) there

-- whichever test says so
put-into : (b : Bool) (from count at : ℕ) (bytes image : List ℕ) → from + count ≤ length image
    → length bytes ≡ count → b ≡ true → from ≤ at → at < from + count
    → get_or (cond b (put from count bytes image) image) at 0 ≡ get_or bytes (at - from) 0
put-into b from count at bytes image place size is after within =
    rw is (put-in from count at bytes image place size after within)

put-beside : (b : Bool) (from count at : ℕ) (bytes image : List ℕ) → from + count ≤ length image
    → length bytes ≡ count → (b ≡ true → from ≤ at → at < from + count → ⊥)
    → get_or (cond b (put from count bytes image) image) at 0 ≡ get_or image at 0
put-beside false from count at bytes image place size other = refl
put-beside true from count at bytes image place size other =
    elim (cases_lt at from) [
      | inl early ↦ put-before from count at bytes image place early
      | inr after ↦
          elim (cases_lt at (from + count)) [
            | inl within ↦ absurd (other refl after within)
            | inr late ↦ put-behind from count at bytes image place size late
          ]
    ]

-- ---- the data of one item after the other

-- each datagram has as many data as its item, and each item lies in the image
abbrev pub AreFit : ℕ → List Item → List DatagramRecord → Type 0
AreFit size [] ds = Unit {0}
AreFit size (i ∷ is) [] = Unit {0}
AreFit size (i ∷ is) (d ∷ ds) =
    (length d.payload ≡ i.length) × (i.offset + i.length ≤ size) × AreFit size is ds

-- an item's answer stands where it reads
stored-into : (i : Item) (d : DatagramRecord) (image : List ℕ) (at : ℕ) → length d.payload ≡ i.length
    → i.offset + i.length ≤ length image → ReadsInto i at
    → get_or (stored_item i d image) at 0 ≡ get_or d.payload (at - i.offset) 0
stored-into i d image at size place into =
    put-into (reads (command_of (kind_named i.kind))) i.offset i.length at d.payload image place size into.kind
    into.from into.until

stored-beside : (i : Item) (d : DatagramRecord) (image : List ℕ) (at : ℕ) → length d.payload ≡ i.length
    → i.offset + i.length ≤ length image → (ReadsInto i at → ⊥)
    → get_or (stored_item i d image) at 0 ≡ get_or image at 0
stored-beside i d image at size place other =
    put-beside (reads (command_of (kind_named i.kind))) i.offset i.length at d.payload image place size
    (λ kind from until. other (record { kind = kind; from = from; until = until }))

pub length-stored : (size : ℕ) (items : List Item) (ds : List DatagramRecord) (image : List ℕ)
    → size ≡ length image → AreFit size items ds → length (stored items ds image) ≡ length image
unfolding stored
length-stored size [] ds image whole fit = refl
length-stored size (i ∷ items) [] image whole fit = refl
length-stored size (i ∷ items) (d ∷ ds) image whole fit =
    let same : length (stored_item i d image) ≡ length image =
    length-stored_item i d image (omega (arith, fit.1, whole)) fit.0 in
    length-stored size items ds (stored_item i d image) (whole ∙ sym same) fit.2 ∙ same

-- a byte into which none reads is as it was
pub stored-none : (size : ℕ) (items : List Item) (ds : List DatagramRecord) (image : List ℕ) (at : ℕ)
    → size ≡ length image → AreFit size items ds
    → ((k : ℕ) → k < length items → ReadsInto (get_or items k no_item) at → ⊥)
    → get_or (stored items ds image) at 0 ≡ get_or image at 0
unfolding stored
stored-none size [] ds image at whole fit none = refl
stored-none size (i ∷ items) [] image at whole fit none = refl
stored-none size (i ∷ items) (d ∷ ds) image at whole fit none =
    let place : i.offset + i.length ≤ length image = omega (arith, fit.1, whole) in
    stored-none size items ds (stored_item i d image) at
    (whole ∙ sym (length-stored_item i d image place fit.0)) fit.2
    (λ k inside. none (suc k) (omega (arith, inside)))
    ∙ stored-beside i d image at fit.0 place (none zero (omega arith))

-- and one into which some read is that of the last of them
pub stored-last : (size : ℕ) (items : List Item) (ds : List DatagramRecord) (image : List ℕ) (at k : ℕ)
    → size ≡ length image → AreFit size items ds → k < length items → k < length ds
    → ReadsInto (get_or items k no_item) at
    → ((m : ℕ) → k < m → m < length items → ReadsInto (get_or items m no_item) at → ⊥)
    → get_or (stored items ds image) at 0
    ≡ get_or (nth ds k).payload (at - (get_or items k no_item).offset) 0
unfolding stored
stored-last size [] ds image at k whole fit inside answered into after = absurd (omega (arith, inside))
stored-last size (i ∷ items) [] image at k whole fit inside answered into after =
    absurd (omega (arith, answered))
stored-last size (i ∷ items) (d ∷ ds) image at zero whole fit inside answered into after =
    let place : i.offset + i.length ≤ length image = omega (arith, fit.1, whole) in
    stored-none size items ds (stored_item i d image) at
    (whole ∙ sym (length-stored_item i d image place fit.0)) fit.2
    (λ k inside. after (suc k) (omega arith) (omega (arith, inside)))
    ∙ stored-into i d image at fit.0 place into
stored-last size (i ∷ items) (d ∷ ds) image at (suc k) whole fit inside answered into after =
    let place : i.offset + i.length ≤ length image = omega (arith, fit.1, whole) in
    stored-last size items ds (stored_item i d image) at k
    (whole ∙ sym (length-stored_item i d image place fit.0)) fit.2 (omega (arith, inside))
    (omega (arith, answered)) into
    (λ m behind inside. after (suc m) (omega (arith, behind)) (omega (arith, inside)))

-- ---- data that waited

-- the waiting bytes of a place
pub length-range : (from count : ℕ) (waiting : List ℕ) → from + count ≤ length waiting
    → length (slice_range waiting from (from + count)) ≡ count
length-range from count waiting place =
    let n : from + count - from ≡ count = omega arith in
    length-take-le (from + count - from) (drop from waiting)
    (omega (arith, place, length-drop from waiting)) ∙ n

get_or-range : (from count at : ℕ) (waiting : List ℕ) → from ≤ at → at < from + count
    → get_or (slice_range waiting from (from + count)) (at - from) 0 ≡ get_or waiting at 0
get_or-range from count at waiting after within =
    let there : from + (at - from) ≡ at = omega (arith, after) in
    get_or-take (from + count - from) (drop from waiting) (at - from) 0 (omega (arith, after, within))
    ∙ get_or-drop from waiting (at - from) 0 ∙ ap (λ n. get_or waiting n 0) there

taken-into : (i : Item) (waiting image : List ℕ) (at : ℕ) → i.offset + i.length ≤ length image
    → i.offset + i.length ≤ length waiting → ReadsInto i at
    → get_or (taken_item i waiting image) at 0 ≡ get_or waiting at 0
taken-into i waiting image at place waits into =
    put-into (reads (command_of (kind_named i.kind))) i.offset i.length at
    (slice_range waiting i.offset (i.offset + i.length)) image place
    (length-range i.offset i.length waiting waits) into.kind into.from into.until
    ∙ get_or-range i.offset i.length at waiting into.from into.until

taken-beside : (i : Item) (waiting image : List ℕ) (at : ℕ) → i.offset + i.length ≤ length image
    → i.offset + i.length ≤ length waiting → (ReadsInto i at → ⊥)
    → get_or (taken_item i waiting image) at 0 ≡ get_or image at 0
taken-beside i waiting image at place waits other =
    put-beside (reads (command_of (kind_named i.kind))) i.offset i.length at
    (slice_range waiting i.offset (i.offset + i.length)) image place
    (length-range i.offset i.length waiting waits)
    (λ kind from until. other (record { kind = kind; from = from; until = until }))

-- each item lies in the image
abbrev pub AreInside : ℕ → List Item → Type 0
AreInside size [] = Unit {0}
AreInside size (i ∷ is) = (i.offset + i.length ≤ size) × AreInside size is

pub length-taken_over : (size : ℕ) (items : List Item) (waiting image : List ℕ) → size ≡ length image
    → size ≡ length waiting → AreInside size items → length (taken_over items waiting image) ≡ length image
unfolding taken_over
length-taken_over size [] waiting image whole waits inside = refl
length-taken_over size (i ∷ items) waiting image whole waits inside =
    let same : length (taken_item i waiting image) ≡ length image =
    length-taken_item i waiting image (omega (arith, inside.0, whole)) (omega (arith, inside.0, waits)) in
    length-taken_over size items waiting (taken_item i waiting image) (whole ∙ sym same) waits inside.1 ∙ same

pub taken-none : (size : ℕ) (items : List Item) (waiting image : List ℕ) (at : ℕ) → size ≡ length image
    → size ≡ length waiting → AreInside size items
    → ((k : ℕ) → k < length items → ReadsInto (get_or items k no_item) at → ⊥)
    → get_or (taken_over items waiting image) at 0 ≡ get_or image at 0
unfolding taken_over
taken-none size [] waiting image at whole waits inside none = refl
taken-none size (i ∷ items) waiting image at whole waits inside none =
    let place : i.offset + i.length ≤ length image = omega (arith, inside.0, whole) in
    let wait : i.offset + i.length ≤ length waiting = omega (arith, inside.0, waits) in
    taken-none size items waiting (taken_item i waiting image) at
    (whole ∙ sym (length-taken_item i waiting image place wait)) waits inside.1
    (λ k there. none (suc k) (omega (arith, there)))
    ∙ taken-beside i waiting image at place wait (none zero (omega arith))

pub taken-last : (size : ℕ) (items : List Item) (waiting image : List ℕ) (at k : ℕ) → size ≡ length image
    → size ≡ length waiting → AreInside size items → k < length items → ReadsInto (get_or items k no_item) at
    → ((m : ℕ) → k < m → m < length items → ReadsInto (get_or items m no_item) at → ⊥)
    → get_or (taken_over items waiting image) at 0 ≡ get_or waiting at 0
unfolding taken_over
taken-last size [] waiting image at k whole waits inside there into after = absurd (omega (arith, there))
taken-last size (i ∷ items) waiting image at zero whole waits inside there into after =
    let place : i.offset + i.length ≤ length image = omega (arith, inside.0, whole) in
    let wait : i.offset + i.length ≤ length waiting = omega (arith, inside.0, waits) in
    taken-none size items waiting (taken_item i waiting image) at
    (whole ∙ sym (length-taken_item i waiting image place wait)) waits inside.1
    (λ k there. after (suc k) (omega arith) (omega (arith, there)))
    ∙ taken-into i waiting image at place wait into
taken-last size (i ∷ items) waiting image at (suc k) whole waits inside there into after =
    let place : i.offset + i.length ≤ length image = omega (arith, inside.0, whole) in
    let wait : i.offset + i.length ≤ length waiting = omega (arith, inside.0, waits) in
    taken-last size items waiting (taken_item i waiting image) at k
    (whole ∙ sym (length-taken_item i waiting image place wait)) waits inside.1 (omega (arith, there)) into
    (λ m behind there. after (suc m) (omega (arith, behind)) (omega (arith, there)))

-- ---- the answers of items

-- an item with an answer has its data
answer-payload : (r : ItemRecord) (d : DatagramRecord) → (with_answer r d).payload ≡ d.payload
answer-payload r d =
    by_kind (is_broadcast r.kind) (record r { payload = d.payload; counter = d.counter }) _
  where
    by_kind : (b : Bool) (r : ItemRecord) (adp : ℕ) → (cond b (record r { adp = adp }) r).payload ≡ r.payload
    by_kind false r adp = refl
    by_kind true r adp = refl

answered-payload : (rs : List ItemRecord) (ds : List DatagramRecord) (k : ℕ) (r : ItemRecord) → k < length ds
    → slice_get (with_answers rs ds) k ≡ Some r → (nth ds k).payload ≡ r.payload
answered-payload [] ds k r there is = absurd (cc)
answered-payload (q ∷ rs) [] k r there is = absurd (omega (arith, there))
answered-payload (q ∷ rs) (d ∷ ds) zero r there is =
    sym (answer-payload q d) ∙ ap (λ o. (unwrap_or o r).payload) is
answered-payload (q ∷ rs) (d ∷ ds) (suc k) r there is = answered-payload rs ds k r (omega (arith, there)) is

-- an item that fits has its place, and its datagram as many data
pub record Fit (size : ℕ) (i : Item) (d : DatagramRecord) : Type 0 where
  pub count : length d.payload ≡ i.length
  pub place : i.offset + i.length ≤ size

fit-at : (size : ℕ) (items : List Item) (ds : List DatagramRecord) (k : ℕ) → AreFit size items ds
    → k < length items → k < length ds → Fit size (get_or items k no_item) (nth ds k)
fit-at size [] ds k fit inside there = absurd (omega (arith, inside))
fit-at size (i ∷ items) [] k fit inside there = absurd (omega (arith, there))
fit-at size (i ∷ items) (d ∷ ds) zero fit inside there = record { count = fit.0; place = fit.1 }
fit-at size (i ∷ items) (d ∷ ds) (suc k) fit inside there =
    fit-at size items ds k fit.2 (omega (arith, inside)) (omega (arith, there))

-- what the bytes of an image are behind the answers of items
pub record AreBytes (items : List Item) (ds : List DatagramRecord) (before later : List ℕ) : Type 0 where
  pub size : length later ≡ length before
  pub fit : AreFit (length before) items ds
  pub all : length items ≤ length ds
  pub last : (at k : ℕ) → k < length items → ReadsInto (get_or items k no_item) at
      → ((m : ℕ) → k < m → m < length items → ReadsInto (get_or items m no_item) at → ⊥)
      → get_or later at 0 ≡ get_or (nth ds k).payload (at - (get_or items k no_item).offset) 0
  pub none : (at : ℕ) → ((k : ℕ) → k < length items → ReadsInto (get_or items k no_item) at → ⊥)
      → get_or later at 0 ≡ get_or before at 0

-- an item by its number
last-at : (items : List Item) (ds : List DatagramRecord) (before later : List ℕ) (at k : ℕ) (i : Item)
    → AreBytes items ds before later → IsLastInto items at k i
    → get_or later at 0 ≡ get_or (nth ds k).payload (at - i.offset) 0
last-at items ds before later at k i are is =
    let inside : k < length items = slice_get_within items k i is.there in
    let i_is : get_or items k no_item ≡ i = get_or_from_slice_get items k i no_item is.there in
    are.last at k inside (subst (λ (i : Item). ReadsInto i at) (sym i_is) is.here)
    (λ m behind within. is.after m (get_or items m no_item) behind (slice_get-get_or items m no_item within))
    ∙ ap (λ (i : Item). get_or (nth ds k).payload (at - i.offset) 0) i_is

fit-of : (items : List Item) (ds : List DatagramRecord) (before later : List ℕ) (k : ℕ) (i : Item)
    → AreBytes items ds before later → slice_get items k ≡ Some i → Fit (length before) i (nth ds k)
fit-of items ds before later k i are is =
    let inside : k < length items = slice_get_within items k i is in
    subst (λ (i : Item). Fit (length before) i (nth ds k)) (get_or_from_slice_get items k i no_item is)
    (fit-at (length before) items ds k are.fit inside (omega (arith, inside, are.all)))

-- such an image has the answers
pub has-answers : (items : List Item) (asks : List ItemRecord) (ds : List DatagramRecord)
    (before later : List ℕ) → AreBytes items ds before later
    → HasAnswers items (with_answers asks ds) before later
has-answers items asks ds before later are = record {
  size = are.size;
  whole = λ k i r there answer last.
      let fit : Fit (length before) i (nth ds k) = fit-of items ds before later k i are there in
      let inside : k < length items = slice_get_within items k i there in
      let same : (nth ds k).payload ≡ r.payload =
      answered-payload asks ds k r (omega (arith, inside, are.all)) answer in
      let count : length (slice_range later i.offset (i.offset + i.length)) ≡ i.length =
      length-range i.offset i.length later (omega (arith, fit.place, are.size)) in
      ext_get_or 0 (slice_range later i.offset (i.offset + i.length)) (nth ds k).payload
      (count ∙ sym fit.count)
      (λ n within.
      let before_end : i.offset + n < i.offset + i.length = omega (arith, within, count) in
      let back : i.offset + n - i.offset ≡ n = omega arith in
      ap (λ m. get_or (slice_range later i.offset (i.offset + i.length)) m 0) (sym back)
      ∙ get_or-range i.offset i.length (i.offset + n) later (omega arith) before_end
      ∙ last-at items ds before later (i.offset + n) k i are (last (i.offset + n) (omega arith) before_end)
      ∙ ap (λ m. get_or (nth ds k).payload m 0) back)
      ∙ same;
  byte = λ at k i r last answer.
      let fit : Fit (length before) i (nth ds k) = fit-of items ds before later k i are last.there in
      let inside : k < length items = slice_get_within items k i last.there in
      let same : (nth ds k).payload ≡ r.payload =
      answered-payload asks ds k r (omega (arith, inside, are.all)) answer in
      slice_get-get_or later at 0 (omega (arith, last.here.until, fit.place, are.size))
      ∙ ap Some (last-at items ds before later at k i are last)
      ∙ sym (slice_get-get_or (nth ds k).payload (at - i.offset) 0
      (omega (arith, last.here.from, last.here.until, fit.count)))
      ∙ ap (λ (payload : List ℕ). slice_get payload (at - i.offset)) same;
  rest = λ at none.
      elim (cases_lt at (length before)) [
        | inl within ↦
            slice_get-get_or later at 0 (omega (arith, within, are.size))
            ∙ ap Some (are.none at (λ k inside. none k (get_or items k no_item)
            (slice_get-get_or items k no_item inside)))
            ∙ sym (slice_get-get_or before at 0 within)
        | inr past ↦
            slice_get_past later at (omega (arith, past, are.size)) ∙ sym (slice_get_past before at past)
      ];
}

-- ---- frames that are stored one after the other

-- the data of one frame, and then those of others
pub stored-append : (items : List Item) (ds more : List DatagramRecord) (image : List ℕ)
    → stored items (ds ++ more) image ≡ stored (drop (length ds) items) more (stored items ds image)
unfolding stored
stored-append items [] more image = sym (ap (stored items more) (stored-end items image))
stored-append [] (d ∷ ds) more image = refl
stored-append (i ∷ items) (d ∷ ds) more image = stored-append items ds more (stored_item i d image)

pub fit-none : (size : ℕ) (items : List Item) → AreFit size items []
fit-none size [] = tt
fit-none size (i ∷ items) = tt

pub fit-append : (size : ℕ) (items : List Item) (ds more : List DatagramRecord) → AreFit size items ds
    → AreFit size (drop (length ds) items) more → AreFit size items (ds ++ more)
fit-append size items [] more fit rest = rest
fit-append size [] (d ∷ ds) more fit rest = tt
fit-append size (i ∷ items) (d ∷ ds) more fit rest =
    (fit.0, fit.1, fit-append size items ds more fit.2 rest)

fit-from : (size : ℕ) (items : List Item) (ds : List DatagramRecord)
    → ((k : ℕ) → k < length items → k < length ds → Fit size (get_or items k no_item) (nth ds k))
    → AreFit size items ds
fit-from size [] ds each = tt
fit-from size (i ∷ items) [] each = tt
fit-from size (i ∷ items) (d ∷ ds) each =
    let first = each zero (omega arith) (omega arith) in (
      first.count,
      first.place,
      fit-from size items ds (λ k inside there. each (suc k) (omega (arith, inside)) (omega (arith, there))),
    )

-- the answers of items that are taken fit
fit-answered : (size : ℕ) (items : List Item) (k : ℕ) (ds : List DatagramRecord) → AreTaken size items
    → AreAnswered items k ds → AreFit size (drop k items) ds
fit-answered size items k ds are answered =
    fit-from size (drop k items) ds
    (λ j inside there.
    let within : k + j < length items = omega (arith, there, answered.there) in
    let i_is : get_or (drop k items) j no_item ≡ get_or items (k + j) no_item = get_or-drop k items j no_item in
    subst (λ (i : Item). Fit size i (nth ds j)) (sym i_is)
    (record {
      count = size_at items k j ds answered there within;
      place = (taken size (get_or items (k + j) no_item) (taken_at size items (k + j) are within)).place;
    }))

-- what stored frames come to
pub record Stores (items : List Item) (ds : List DatagramRecord) (before later : List ℕ) : Type 0 where
  pub fit : AreFit (length before) items ds
  pub is : later ≡ stored items ds before

pub stores-all : (items : List Item) (k : ℕ) (joined : List (List DatagramRecord)) (before later : List ℕ)
    → AreStored items k joined before later → Stores (drop k items) (concat joined) before later
unfolding AreStored
stores-all items k [] before later same = record {
  fit = fit-none (length before) (drop k items);
  is = same ∙ sym (stored-end (drop k items) before);
}
stores-all items k (j ∷ js) before later are =
    let between : List ℕ = are.0 in
    let fit : AreFit (length before) (drop k items) j = fit-answered (length before) items k j are.1.0 are.1.1 in
    let here : between ≡ stored (drop k items) j before = are.1.2 in
    let size : length between ≡ length before =
    ap length here ∙ length-stored (length before) (drop k items) j before refl fit in
    let more : Stores (drop (k + length j) items) (concat js) between later =
    stores-all items (k + length j) js between later are.2 in
    let past : drop (length j) (drop k items) ≡ drop (k + length j) items = drop-drop (length j) k items in
    let rest : AreFit (length before) (drop (length j) (drop k items)) (concat js) =
    rw (past, sym size) more.fit in
    record {
      fit = fit-append (length before) (drop k items) j (concat js) fit rest;
      is =
          more.is ∙ ap (stored (drop (k + length j) items) (concat js)) here
          ∙ ap (λ (is : List Item). stored is (concat js) (stored (drop k items) j before)) (sym past)
          ∙ sym (stored-append (drop k items) j (concat js) before);
    }

-- calls that are all made answer each item
pub calls-all : (asks : List ItemRecord) (k : ℕ) (came : List Came) (joined : List (List DatagramRecord))
    → AreCalls asks k came joined → length asks ≤ k + length (concat joined)
unfolding AreCalls
calls-all asks k [] [] calls = omega (arith, calls)
calls-all asks k [] (j ∷ js) calls = absurd calls
calls-all asks k (c ∷ cs) [] calls = absurd calls
calls-all asks k (c ∷ cs) (j ∷ js) calls =
    omega (arith, calls-all asks (k + length j) cs js calls.2, length-append j (concat js))

-- the bytes of the image behind them
pub stored-bytes : (items : List Item) (ds : List DatagramRecord) (before later : List ℕ)
    → length items ≤ length ds → Stores items ds before later → AreBytes items ds before later
stored-bytes items ds before later all stores =
    let size : ℕ = length before in
    record {
      size = ap length stores.is ∙ length-stored size items ds before refl stores.fit;
      fit = stores.fit;
      all = all;
      last = λ at k inside into after.
          ap (λ (image : List ℕ). get_or image at 0) stores.is
          ∙ stored-last size items ds before at k refl stores.fit inside (omega (arith, inside, all)) into after;
      none = λ at none.
          ap (λ (image : List ℕ). get_or image at 0) stores.is
          ∙ stored-none size items ds before at refl stores.fit none;
    }
