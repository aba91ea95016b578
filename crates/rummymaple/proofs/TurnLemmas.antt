-- A cycle by turns is one by calls; and the data that wait go into the image one item after the other.
use Rattle.std.proofs.Common.{◌≡◌, ℕ, zero, suc, ◌+◌, ◌<◌, ◌≤◌, ◌∙◌, arith, ap, sym, refl, subst}
use Rattle.std.proofs.Common.{eqb}
use Rattle.std.proofs.Common.{false, inl, inr, List, [], ◌∷◌, length, map, drop, get_or, drop-cons}
use Rattle.std.proofs.lemmas.Bool.{cases_eq, ne_eqb}
use Rattle.std.proofs.lemmas.List.{length-map, length-take-le, length-drop}
use Rattle.std.specs.List.{slice_range}
use Rattle.std.proofs.Common.{◌-◌}
use Rattle.ec_wire.specs.Command.{reads}
use Rattle.ec_wire.specs.Kind.{command_of}
use Rattle.ec_wire.specs.Datagram.{DatagramRecord}
use Rattle.ec_map.specs.Item.{ItemRecord}
use Rattle.ec_ring.specs.declared.weather.Came.{Came}
use Rattle.ec_master.specs.Verdict.{verdict_from}
use Rattle.ec_master.specs.declared.verdict.Verdict.TheVariants.{Good}
use Rattle.rummymaple.specs.Answers.{came_back, with_counts, with_counts_at, verdict_on}
use Rattle.rummymaple.specs.Cycle.{AreCalls, AreGood}
use Rattle.rummymaple.specs.Items.{asked, kind_named}
use Rattle.rummymaple.specs.Turn.{Held, judged, taken_item, taken_over}
use Rattle.rummymaple.specs.Turns.{AreTurns}
use Rattle.rummymaple.specs.declared.item.Item.{Item}
use Rattle.rummymaple.proofs.AnswerLemmas.{length-with_counts_at, length-placed}
use Rattle.rummymaple.proofs.CutLemmas.{no_item}

-- ---- the data that wait

pub taken_over-here : (items : List Item) (k : ℕ) (waiting image : List ℕ) → k < length items
    → taken_over (drop k items) waiting image
    ≡ taken_over (drop (suc k) items) waiting (taken_item (get_or items k no_item) waiting image)
unfolding taken_over
taken_over-here items k waiting image inside = rw (drop-cons items k no_item inside) refl

pub taken_over-end : (waiting image : List ℕ) → taken_over [] waiting image ≡ image
unfolding taken_over
taken_over-end waiting image = refl

-- the image keeps its length
pub length-taken_item : (i : Item) (waiting image : List ℕ) → i.offset + i.length ≤ length image
    → i.offset + i.length ≤ length waiting → length (taken_item i waiting image) ≡ length image
length-taken_item i waiting image place waits =
    let size : length (slice_range waiting i.offset (i.offset + i.length)) ≡ i.length =
    omega (
      arith,
      waits,
      length-take-le (i.offset + i.length - i.offset) (drop i.offset waiting)
          (omega (arith, waits, length-drop i.offset waiting)),
    ) in
    length-placed (reads (command_of (kind_named i.kind))) i.offset i.length
    (slice_range waiting i.offset (i.offset + i.length)) image place size

-- ---- what came back does not change what is asked

map-with_counts : {A : Type 0} (f : Item → A)
    (same : (i : Item) (d : DatagramRecord) → f (came_back i d) ≡ f i) (items : List Item)
    (ds : List DatagramRecord) → map f (with_counts items ds) ≡ map f items
map-with_counts f same [] ds = refl
map-with_counts f same (i ∷ items) [] = refl
map-with_counts f same (i ∷ items) (d ∷ ds) = λ t. same i d t ∷ map-with_counts f same items ds t

pub map-with_counts_at : {A : Type 0} (f : Item → A)
    (same : (i : Item) (d : DatagramRecord) → f (came_back i d) ≡ f i) (k : ℕ) (items : List Item)
    (ds : List DatagramRecord) → map f (with_counts_at k items ds) ≡ map f items
map-with_counts_at f same zero items ds = map-with_counts f same items ds
map-with_counts_at f same (suc k) [] ds = refl
map-with_counts_at f same (suc k) (i ∷ items) ds = ap (λ xs. f i ∷ xs) (map-with_counts_at f same k items ds)

pub asked-with_counts_at : (image : List ℕ) (k : ℕ) (items : List Item) (ds : List DatagramRecord)
    → map (asked image) (with_counts_at k items ds) ≡ map (asked image) items
asked-with_counts_at image k items ds = map-with_counts_at (asked image) (λ i d. refl) k items ds

pub expected-with_counts_at : (k : ℕ) (items : List Item) (ds : List DatagramRecord)
    → map (λ i. i.expected) (with_counts_at k items ds) ≡ map (λ i. i.expected) items
expected-with_counts_at k items ds = map-with_counts_at (λ (i : Item). i.expected) (λ i d. refl) k items ds

-- verdicts hang on what is asked and expected alone
pub good-same : (later items : List Item) (k : ℕ) (joined : List (List DatagramRecord))
    → map (asked []) later ≡ map (asked []) items
    → map (λ i. i.expected) later ≡ map (λ i. i.expected) items → AreGood later k joined
    → AreGood items k joined
unfolding AreGood
good-same later items k [] asked_same expected_same good = good
good-same later items k (j ∷ js) asked_same expected_same good =
    let verdict_same : verdict_on later k j ≡ verdict_on items k j =
    λ t. verdict_from k (drop k (asked_same t)) j (drop k (expected_same t)) in
    (sym verdict_same ∙ good.0, good-same later items (k + length j) js asked_same expected_same good.1)

-- ---- turns are calls

-- behind the last item there are no more
past-calls : (h : Held) (cs : List Came) (js : List (List DatagramRecord)) (later : Held)
    (rs : List ItemRecord) (k : ℕ) → AreTurns h cs js later → length h.items ≤ h.cycle.first → length rs ≤ k
    → AreCalls rs k cs js
unfolding AreTurns AreCalls
past-calls h [] [] later rs k turns past end = end
past-calls h [] (j ∷ js) later rs k turns past end = absurd turns
past-calls h (c ∷ cs) [] later rs k turns past end = absurd turns
past-calls h (c ∷ cs) (j ∷ js) later rs k turns past end = absurd (omega (arith, turns.0, past))

-- unless it is the last one, the image is as it was behind a good frame
pub same-image : (h : Held) (frame : List DatagramRecord)
    → (h.cycle.first + length frame ≡ length h.items → ⊥) → (judged h frame Good).image ≡ h.image
same-image h frame other =
    let test : eqb (h.cycle.first + length frame) (length h.items) ≡ false =
    ne_eqb (h.cycle.first + length frame) (length h.items) other in
    rw test refl

pub turns-calls : (h : Held) (cs : List Came) (js : List (List DatagramRecord)) (later : Held)
    → AreTurns h cs js later → AreCalls (map (asked h.image) h.items) h.cycle.first cs js
unfolding AreTurns AreCalls
turns-calls h [] [] later turns = omega (arith, turns.0, length-map h.items (asked h.image))
turns-calls h [] (j ∷ js) later turns = absurd turns
turns-calls h (c ∷ cs) [] later turns = absurd turns
turns-calls h (c ∷ cs) (j ∷ js) later turns =
    let k : ℕ = h.cycle.first + length j in
    let next : Held = judged h j Good in
    let size : length (map (asked h.image) h.items) ≡ length h.items = length-map h.items (asked h.image) in
    let more : AreCalls (map (asked next.image) next.items) k cs js =
    turns-calls next cs js later turns.3 in (
      omega (arith, turns.0, size),
      turns.1,
      elim (cases_eq k (length h.items)) [
        | inl last ↦
            past-calls next cs js later (map (asked h.image) h.items) k turns.3
            (omega (arith, last, length-with_counts_at h.cycle.first h.items j)) (omega (arith, last, size))
        | inr other ↦
            subst (λ (rs : List ItemRecord). AreCalls rs k cs js)
            (ap (λ (image : List ℕ). map (asked image) next.items) (same-image h j other)
            ∙ asked-with_counts_at h.image h.cycle.first h.items j) more
      ],
    )

pub turns-good : (h : Held) (cs : List Came) (js : List (List DatagramRecord)) (later : Held)
    → AreTurns h cs js later → AreGood h.items h.cycle.first js
unfolding AreTurns AreGood
turns-good h [] [] later turns = tt
turns-good h [] (j ∷ js) later turns = absurd turns
turns-good h (c ∷ cs) [] later turns = tt
turns-good h (c ∷ cs) (j ∷ js) later turns =
    let next : Held = judged h j Good in (
      turns.2,
      good-same next.items h.items (h.cycle.first + length j) js
          (asked-with_counts_at [] h.cycle.first h.items j) (expected-with_counts_at h.cycle.first h.items j)
          (turns-good next cs js later turns.3),
    )
