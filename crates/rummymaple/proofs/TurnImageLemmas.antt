-- The image behind a cycle by turns: the data of all frames wait, and go over into the image behind the last.
use Rattle.std.proofs.Common.{◌≡◌, ℕ, zero, suc, ◌+◌, ◌<◌, ◌≤◌, ◌∙◌, arith, ap, sym, refl, inl, inr}
use Rattle.std.proofs.Common.{List, [], ◌∷◌, ◌++◌, length, map, drop, get_or, length-drop, length-append}
use Rattle.std.proofs.Common.{subst}
use Rattle.std.proofs.lemmas.Bool.{cases_eq, cases_lt, eq-eqb}
use Rattle.std.proofs.lemmas.List.{length-map, drop-map, drop-drop, append-nil}
use Rattle.std.proofs.lemmas.Option.{slice_get_within}
use Rattle.ec_wire.specs.Datagram.{DatagramRecord}
use Rattle.ec_merge.specs.Frames.{IsOwn, joined_frame}
use Rattle.ec_merge.proofs.Laws.{length-joined, same_size}
use Rattle.ec_line.specs.After.{Entry}
use Rattle.ec_line.specs.Answered.{sent_of}
use Rattle.ec_map.specs.Item.{ItemRecord}
use Rattle.ec_ring.specs.declared.weather.Came.{Came}
use Rattle.ec_master.specs.Cut.{concat, entries_from, frame_at}
use Rattle.ec_master.specs.Work.{no_item as no_request, with_answers}
use Rattle.ec_master.specs.declared.verdict.Verdict.TheVariants.{Good}
use Rattle.ec_master.proofs.Laws.{entries-cons}
use Rattle.rummymaple.specs.Answers.{stored_item, stored, with_counts_at}
use Rattle.ec_wire.specs.declared.fault.Form.{Form}
use Rattle.rummymaple.specs.Copies.{Packets}
use Rattle.rummymaple.specs.Cycle.{AreCalls, IsJoinOf}
use Rattle.rummymaple.specs.Image.{HasAnswers}
use Rattle.rummymaple.specs.Items.{asked, AreTaken}
use Rattle.rummymaple.specs.Turn.{Held, judged, taken_item, taken_over}
use Rattle.rummymaple.specs.Turns.{AreTurns, AreGoodTurns}
use Rattle.rummymaple.specs.declared.item.Item.{Item}
use Rattle.rummymaple.proofs.AnswerLemmas.{length-with_counts_at}
use Rattle.rummymaple.proofs.CutLemmas.{length-entries}
use Rattle.rummymaple.proofs.CycleLemmas.{filled-whole, length-joined_frame}
use Rattle.rummymaple.proofs.ImageLemmas.{AreFit, AreInside, AreBytes, fit-append, fit-none, stored-append}
use Rattle.rummymaple.proofs.ImageLemmas.{length-range}
use Rattle.rummymaple.proofs.ImageLemmas.{stored-last, taken-last, taken-none, length-stored}
use Rattle.rummymaple.proofs.ImageLemmas.{length-taken_over, calls-all}
use Rattle.rummymaple.proofs.ImageLemmas.{has-answers}
use Rattle.rummymaple.proofs.ItemLemmas.{taken}
use Rattle.rummymaple.proofs.PacketLemmas.{Ready, ready}
use Rattle.rummymaple.proofs.TurnLemmas.{same-image, map-with_counts_at, turns-calls, taken_over-end}

-- ---- what is stored does not hang on what came back

-- an item as if nothing had come back
abbrev pub unanswered : Item → Item
unanswered i = record i { came = 0; passed = 0 }

stored-unanswered : (items : List Item) (ds : List DatagramRecord) (image : List ℕ)
    → stored (map unanswered items) ds image ≡ stored items ds image
unfolding stored
stored-unanswered [] ds image = refl
stored-unanswered (i ∷ items) [] image = refl
stored-unanswered (i ∷ items) (d ∷ ds) image = stored-unanswered items ds (stored_item i d image)

taken-unanswered : (items : List Item) (waiting image : List ℕ)
    → taken_over (map unanswered items) waiting image ≡ taken_over items waiting image
unfolding taken_over
taken-unanswered [] waiting image = refl
taken-unanswered (i ∷ items) waiting image = taken-unanswered items waiting (taken_item i waiting image)

-- with counts the items are the same
same-items : (first : ℕ) (items : List Item) (ds : List DatagramRecord)
    → map unanswered (with_counts_at first items ds) ≡ map unanswered items
same-items first items ds = map-with_counts_at unanswered (λ i d. refl) first items ds

stored-same : (first k : ℕ) (items : List Item) (counts ds : List DatagramRecord) (image : List ℕ)
    → stored (drop k (with_counts_at first items counts)) ds image ≡ stored (drop k items) ds image
stored-same first k items counts ds image =
    let later : List Item = with_counts_at first items counts in
    sym (stored-unanswered (drop k later) ds image)
    ∙ ap (λ (is : List Item). stored is ds image) (sym (drop-map unanswered k later))
    ∙ ap (λ (is : List Item). stored (drop k is) ds image) (same-items first items counts)
    ∙ ap (λ (is : List Item). stored is ds image) (drop-map unanswered k items)
    ∙ stored-unanswered (drop k items) ds image

taken-same : (first : ℕ) (items : List Item) (counts : List DatagramRecord) (waiting image : List ℕ)
    → taken_over (with_counts_at first items counts) waiting image ≡ taken_over items waiting image
taken-same first items counts waiting image =
    sym (taken-unanswered (with_counts_at first items counts) waiting image)
    ∙ ap (λ (is : List Item). taken_over is waiting image) (same-items first items counts)
    ∙ taken-unanswered items waiting image

-- ---- the answers of calls fit

inside-drop : (size k : ℕ) (items : List Item) → AreInside size items → AreInside size (drop k items)
inside-drop size zero items inside = inside
inside-drop size (suc k) [] inside = inside
inside-drop size (suc k) (i ∷ items) inside = inside-drop size k items inside.1

pub inside-taken : (size : ℕ) (items : List Item) → AreTaken size items → AreInside size items
inside-taken size [] are = tt
inside-taken size (i ∷ items) are =
    ((taken size i (are zero i refl)).place, inside-taken size items (λ k j is. are (suc k) j is))

-- a datagram has as many data as its item's place
length-asked : (image : List ℕ) (i : Item) → i.offset + i.length ≤ length image
    → length (asked image i).payload ≡ i.length
length-asked image i place = length-range i.offset i.length image place

sent-fit : (image : List ℕ) (items : List Item) (k : ℕ) → AreInside (length image) items
    → AreFit (length image) items (sent_of (entries_from k (map (asked image) items)))
unfolding entries_from
sent-fit image [] k inside = tt
sent-fit image (i ∷ items) k inside =
    (length-asked image i inside.0, inside.0, sent-fit image items (suc k) inside.1)

fit-front : (size : ℕ) (items : List Item) (front back : List Entry)
    → AreFit size items (sent_of (front ++ back)) → AreFit size items (sent_of front)
fit-front size items [] back fit = fit-none size items
fit-front size [] (e ∷ front) back fit = tt
fit-front size (i ∷ items) (e ∷ front) back fit = (fit.0, fit.1, fit-front size items front back fit.2)

-- the frame that begins with an item is the front of those that are left
frame-front : (k : ℕ) (asks : List ItemRecord) → k < length asks
    → (back : List Entry) × (frame_at k asks ++ back ≡ entries_from k (drop k asks))
frame-front k asks inside =
    rw (entries-cons k asks no_request inside) (_, filled-whole (_ ∷ []) _)

frame-count : (k : ℕ) (asks : List ItemRecord) → k < length asks → k + length (frame_at k asks) ≤ length asks
frame-count k asks inside =
    let front = frame-front k asks inside in
    omega (
      arith,
      inside,
      length-append (frame_at k asks) front.0,
      ap length front.1,
      length-entries k (drop k asks),
      length-drop k asks,
    )

-- a joined frame has as many data as the sent one
own-behind : (s x : DatagramRecord) (ss xs : List DatagramRecord) → IsOwn (s ∷ ss) (x ∷ xs) → IsOwn ss xs
own-behind s x ss xs own = record {
  count = omega (arith, own.count);
  each = λ k inside. own.each (suc k) (omega (arith, inside));
}

fit-joined : (size : ℕ) (items : List Item) (s x y : List DatagramRecord) → IsOwn s x → IsOwn s y
    → AreFit size items s → AreFit size items (joined_frame s x y)
fit-joined size items [] x y own_x own_y fit = fit
fit-joined size items (s ∷ ss) [] y own_x own_y fit = absurd (omega (arith, own_x.count))
fit-joined size items (s ∷ ss) (x ∷ xs) [] own_x own_y fit = absurd (omega (arith, own_y.count))
fit-joined size [] (s ∷ ss) (x ∷ xs) (y ∷ ys) own_x own_y fit = tt
fit-joined size (i ∷ items) (s ∷ ss) (x ∷ xs) (y ∷ ys) own_x own_y fit = (
  length-joined s.payload x.payload y.payload (same_size s x (own_x.each zero (omega arith)))
      (same_size s y (own_y.each zero (omega arith)))
      ∙ fit.0,
  fit.1,
  fit-joined size items ss xs ys (own-behind s x ss xs own_x) (own-behind s y ss ys own_y) fit.2,
)

-- what came back of the frame that begins with an item
pub record IsWithin (image : List ℕ) (items : List Item) (k : ℕ) (joined : List DatagramRecord) : Type 0 where
  pub count : k + length joined ≤ length items
  pub fit : AreFit (length image) (drop k items) joined

join-within : (image : List ℕ) (items : List Item) (k : ℕ) (came : Came) (joined : List DatagramRecord)
    → k < length items → AreInside (length image) items
    → IsJoinOf (sent_of (frame_at k (map (asked image) items))) came joined → IsWithin image items k joined
join-within image items k came joined there inside join =
    let asks : List ItemRecord = map (asked image) items in
    let frame : List Entry = frame_at k asks in
    let here : k < length asks = omega (arith, there, length-map items (asked image)) in
    let front = frame-front k asks here in
    let size : length joined ≡ length frame =
    ap length join.joined_is
    ∙ length-joined_frame (sent_of frame) _ _ join.own_a.count join.own_b.count
    ∙ length-map frame (λ (e : Entry). e.sent) in
    let whole : frame ++ front.0 ≡ entries_from k (map (asked image) (drop k items)) =
    front.1 ∙ ap (entries_from k) (drop-map (asked image) k items) in
    let all : AreFit (length image) (drop k items) (sent_of (frame ++ front.0)) =
    subst (λ (es : List Entry). AreFit (length image) (drop k items) (sent_of es)) (sym whole)
    (sent-fit image (drop k items) k (inside-drop (length image) k items inside)) in
    let sent : AreFit (length image) (drop k items) (sent_of frame) =
    fit-front (length image) (drop k items) frame front.0 all in
    record {
      count = omega (arith, frame-count k asks here, size, length-map items (asked image));
      fit = subst (AreFit (length image) (drop k items)) (sym join.joined_is)
          (fit-joined (length image) (drop k items) (sent_of frame) _ _ join.own_a join.own_b sent);
    }

pub calls-fit : (image : List ℕ) (items : List Item) (k : ℕ) (came : List Came)
    (joined : List (List DatagramRecord)) → AreInside (length image) items
    → AreCalls (map (asked image) items) k came joined
    → AreFit (length image) (drop k items) (concat joined)
unfolding AreCalls
calls-fit image items k [] [] inside calls = fit-none (length image) (drop k items)
calls-fit image items k [] (j ∷ js) inside calls = absurd calls
calls-fit image items k (c ∷ cs) [] inside calls = absurd calls
calls-fit image items k (c ∷ cs) (j ∷ js) inside calls =
    let there : k < length items = omega (arith, calls.0, length-map items (asked image)) in
    let first : IsWithin image items k j = join-within image items k c j there inside calls.1 in
    fit-append (length image) (drop k items) j (concat js) first.fit
    (rw (drop-drop (length j) k items) (calls-fit image items (k + length j) cs js inside calls.2))

-- ---- turns

-- behind the last item there are no more
past-turns : (h : Held) (cs : List Came) (js : List (List DatagramRecord)) (later : Held)
    → AreTurns h cs js later → length h.items ≤ h.cycle.first → (concat js ≡ []) × (later ≡ h)
unfolding AreTurns
past-turns h [] [] later turns past = (refl, turns.1)
past-turns h [] (j ∷ js) later turns past = absurd turns
past-turns h (c ∷ cs) [] later turns past = absurd turns
past-turns h (c ∷ cs) (j ∷ js) later turns past = absurd (omega (arith, turns.0, past))

-- behind the last frame the data go over
last-image : (h : Held) (frame : List DatagramRecord) → h.cycle.first + length frame ≡ length h.items
    → (judged h frame Good).image
    ≡ taken_over h.items (stored (drop h.cycle.first h.items) frame h.waiting) h.image
last-image h frame last = rw (eq-eqb (h.cycle.first + length frame) (length h.items) last) refl

-- all data that waited go over
pub turns-image : (h : Held) (cs : List Came) (js : List (List DatagramRecord)) (later : Held)
    → AreTurns h cs js later → h.cycle.first < length h.items → AreInside (length h.image) h.items
    → later.image
    ≡ taken_over h.items (stored (drop h.cycle.first h.items) (concat js) h.waiting) h.image
unfolding AreTurns
turns-image h [] [] later turns there inside = absurd (omega (arith, turns.0, there))
turns-image h [] (j ∷ js) later turns there inside = absurd turns
turns-image h (c ∷ cs) [] later turns there inside = absurd turns
turns-image h (c ∷ cs) (j ∷ js) later turns there inside =
    let first : ℕ = h.cycle.first in
    let k : ℕ = first + length j in
    let next : Held = judged h j Good in
    let within : IsWithin h.image h.items first j =
    join-within h.image h.items first c j there inside turns.1 in
    let size : length next.items ≡ length h.items = length-with_counts_at first h.items j in
    elim (cases_eq k (length h.items)) [
      | inl last ↦
          let past = past-turns next cs js later turns.3 (omega (arith, last, size)) in
          ap (λ (h : Held). h.image) past.1 ∙ last-image h j last
          ∙ ap (λ (ds : List DatagramRecord).
          taken_over h.items (stored (drop first h.items) ds h.waiting) h.image)
          (sym (ap (λ (ds : List DatagramRecord). j ++ ds) past.0 ∙ append-nil j))
      | inr other ↦
          let same : next.image ≡ h.image = same-image h j other in
          let inside_next : AreInside (length next.image) next.items =
          inside-same (length next.image) first h.items j (rw same inside) in
          turns-image next cs js later turns.3 (omega (arith, within.count, other, size)) inside_next
          ∙ taken-same first h.items j (stored (drop k next.items) (concat js) next.waiting) next.image
          ∙ ap (λ (waiting : List ℕ). taken_over h.items waiting next.image)
          (stored-same first k h.items j (concat js) next.waiting
          ∙ ap (λ (is : List Item). stored is (concat js) next.waiting)
          (sym (drop-drop (length j) first h.items))
          ∙ sym (stored-append (drop first h.items) j (concat js) h.waiting))
          ∙ ap (taken_over h.items (stored (drop first h.items) (concat (j ∷ js)) h.waiting)) same
    ]
  where
    inside-same : (size first : ℕ) (items : List Item) (ds : List DatagramRecord) → AreInside size items
        → AreInside size (with_counts_at first items ds)
    inside-same size zero [] ds inside = tt
    inside-same size zero (i ∷ items) [] inside = inside
    inside-same size zero (i ∷ items) (d ∷ ds) inside = (inside.0, inside-same size zero items ds inside.1)
    inside-same size (suc first) [] ds inside = tt
    inside-same size (suc first) (i ∷ items) ds inside = (inside.0, inside-same size first items ds inside.1)

-- of turns from the first item on
whole-image : (h : Held) (cs : List Came) (js : List (List DatagramRecord)) (later : Held)
    → AreTurns h cs js later → h.cycle.first ≡ 0 → AreInside (length h.image) h.items
    → later.image ≡ taken_over h.items (stored h.items (concat js) h.waiting) h.image
whole-image h cs js later turns begun inside =
    elim (cases_lt 0 (length h.items)) [
      | inl some ↦
          subst (λ first.
          later.image ≡ taken_over h.items (stored (drop first h.items) (concat js) h.waiting) h.image)
          begun (turns-image h cs js later turns (omega (arith, begun, some)) inside)
      | inr none ↦
          ap (λ (h : Held). h.image) (past-turns h cs js later turns (omega (arith, begun, none))).1
          ∙ sym (no-items h.items (stored h.items (concat js) h.waiting) h.image none)
    ]
  where
    no-items : (items : List Item) (waiting image : List ℕ) → length items ≤ 0
        → taken_over items waiting image ≡ image
    no-items [] waiting image none = taken_over-end waiting image
    no-items (i ∷ items) waiting image none = absurd (omega (arith, none))

pub turns-bytes : (h : Held) (cs : List Came) (js : List (List DatagramRecord)) (later : Held)
    → AreTurns h cs js later → h.cycle.first ≡ 0 → AreTaken (length h.image) h.items
    → length h.waiting ≡ length h.image → AreBytes h.items (concat js) h.image later.image
turns-bytes h cs js later turns begun are waits =
    let size : ℕ = length h.image in
    let ds : List DatagramRecord = concat js in
    let asks : List ItemRecord = map (asked h.image) h.items in
    let inside : AreInside size h.items = inside-taken size h.items are in
    let calls : AreCalls asks 0 cs js =
    subst (λ k. AreCalls asks k cs js) begun (turns-calls h cs js later turns) in
    let fit : AreFit size h.items ds = calls-fit h.image h.items 0 cs js inside calls in
    let all : length h.items ≤ length ds =
    omega (arith, calls-all asks 0 cs js calls, length-map h.items (asked h.image)) in
    let waiting : List ℕ = stored h.items ds h.waiting in
    let waiting_size : size ≡ length waiting =
    sym (length-stored size h.items ds h.waiting (sym waits) fit ∙ waits) in
    let is : later.image ≡ taken_over h.items waiting h.image =
    whole-image h cs js later turns begun inside in
    record {
      size = ap length is ∙ length-taken_over size h.items waiting h.image refl waiting_size inside;
      fit = fit;
      all = all;
      last = λ at k there into after.
          ap (λ (image : List ℕ). get_or image at 0) is
          ∙ taken-last size h.items waiting h.image at k refl waiting_size inside there into after
          ∙ stored-last size h.items ds h.waiting at k (sym waits) fit there (omega (arith, there, all)) into
          after;
      none = λ at none.
          ap (λ (image : List ℕ). get_or image at 0) is
          ∙ taken-none size h.items waiting h.image at refl waiting_size inside none;
    }

-- so the image has the answers
pub turns-answers : (h : Held) (cs : List Came) (js : List (List DatagramRecord)) (later : Held)
    → AreTurns h cs js later → h.cycle.first ≡ 0 → AreTaken (length h.image) h.items
    → length h.waiting ≡ length h.image
    → HasAnswers h.items (with_answers (map (asked h.image) h.items) (concat js)) h.image later.image
turns-answers h cs js later turns begun are waits =
    has-answers h.items (map (asked h.image) h.items) (concat js) h.image later.image
    (turns-bytes h cs js later turns begun are waits)

-- ---- turns that are told to be good

-- an image has the answers of no items
no-answers : (items : List Item) (answered : List ItemRecord) (image : List ℕ) → length items ≤ 0
    → HasAnswers items answered image image
no-answers items answered image none = record {
  size = refl;
  whole = λ k i r there answer last. absurd (omega (arith, none, slice_get_within items k i there));
  byte = λ at k i r last answer. absurd (omega (arith, none, slice_get_within items k i last.there));
  rest = λ at beside. refl;
}

pub told-answers : (form : Form) (h : Held) (packets : List Packets) (cs : List Came)
    (js : List (List DatagramRecord)) (later : Held) → AreGoodTurns form h packets later
    → h.cycle.first ≡ 0 → AreTurns h cs js later
    → HasAnswers h.items (with_answers (map (asked h.image) h.items) (concat js)) h.image later.image
unfolding AreGoodTurns
told-answers form h [] cs js later told begun turns =
    subst
    (λ (later : Held).
    HasAnswers h.items (with_answers (map (asked h.image) h.items) (concat js)) h.image later.image)
    (sym told.1) (no-answers h.items _ h.image (omega (arith, told.0, begun)))
told-answers form h (p ∷ ps) cs js later told begun turns =
    let are : Ready h = ready form h p told.1 told.2 in
    turns-answers h cs js later turns begun are.taken are.waits
