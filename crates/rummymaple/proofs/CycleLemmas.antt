-- The calls of a cycle, one frame after the other, are the frames of the cut, and good verdicts on each are
-- one on all.
use Rattle.std.proofs.Common.{◌≡◌, ℕ, suc, ◌+◌, ◌<◌, Bool, true, false, cond, if◌then◌else◌, sym, ap}
use Rattle.std.proofs.Common.{refl, ◌∙◌, arith, eqb, List, [], ◌∷◌, ◌++◌, length, map, drop, get_or, Ok, subst}
use Rattle.std.proofs.Common.{append_assoc, suc-add, add-suc, add-zero, ltb}
use Rattle.std.specs.List.{AllByRecursion}
use Rattle.std.proofs.lemmas.List.{length-map, drop_all, drop-drop}
use Rattle.ec_wire.specs.Datagram.{DatagramRecord}
use Rattle.ec_merge.specs.Frames.{joined_frame}
use Rattle.ec_merge.specs.Rule.{distance}
use Rattle.ec_line.specs.After.{Entry}
use Rattle.ec_line.specs.Answered.{sent_of}
use Rattle.ec_map.specs.Item.{ItemRecord}
use Rattle.ec_ring.specs.declared.weather.Came.{Came}
use Rattle.ec_master.specs.Cut.{concat, entry_of, entries_from, fits_frame, filled, cut_onto, cut, frame_at}
use Rattle.ec_master.specs.Ports.{Sends, IsPortCycle, taken_on}
use Rattle.ec_master.specs.Given.{in_turn}
use Rattle.ec_master.specs.Verdict.{verdict, verdict_from}
use Rattle.ec_master.specs.Work.{with_answers, no_item}
use Rattle.ec_master.specs.declared.verdict.Verdict.{Verdict}
use Rattle.ec_master.specs.declared.verdict.Verdict.TheVariants.{Good, Short, Over}
use Rattle.rummymaple.specs.Cycle.{AreCalls, AreGood, as_ports_give}
use Rattle.rummymaple.specs.Items.{asked}
use Rattle.rummymaple.specs.declared.item.Item.{Item}
use Rattle.rummymaple.proofs.AnswerLemmas.{verdict-end}
use Rattle.ec_master.proofs.Laws.{entries-cons}

-- what holds of what is made of each holds of all that is made
pub each-of_map : {S T : Type 0} (P : T → Type 0) (f : S → T) (xs : List S)
    → AllByRecursion (λ (x : S). P (f x)) xs → AllByRecursion P (map f xs)
each-of_map P f [] all = tt
each-of_map P f (x ∷ xs) all = (all.0, each-of_map P f xs all.1)

-- ---- the first frame of entries and what is left of them

-- what does not go onto the first frame
pub rest_of : List Entry → List Entry → List Entry
rest_of frame [] = []
rest_of frame (e ∷ es) = if fits_frame (frame ++ e ∷ []) then rest_of (frame ++ e ∷ []) es else e ∷ es

pub cut_onto-filled : (frame es : List Entry) → cut_onto frame es ≡ filled frame es ∷ cut (rest_of frame es)
unfolding cut_onto filled rest_of cut
cut_onto-filled frame [] = refl
cut_onto-filled frame (e ∷ es) =
    by_fit (fits_frame (frame ++ e ∷ [])) frame e es (cut_onto-filled (frame ++ e ∷ []) es)
  where
    by_fit : (fits : Bool) (frame : List Entry) (e : Entry) (es : List Entry)
        → cut_onto (frame ++ e ∷ []) es ≡ filled (frame ++ e ∷ []) es ∷ cut (rest_of (frame ++ e ∷ []) es)
        → (if fits then cut_onto (frame ++ e ∷ []) es else frame ∷ cut_onto (e ∷ []) es)
        ≡ (if fits then filled (frame ++ e ∷ []) es else frame)
        ∷ cut (if fits then rest_of (frame ++ e ∷ []) es else e ∷ es)
    by_fit true frame e es more = more
    by_fit false frame e es more = refl

pub filled-whole : (frame es : List Entry) → filled frame es ++ rest_of frame es ≡ frame ++ es
unfolding filled rest_of
filled-whole frame [] = refl
filled-whole frame (e ∷ es) =
    by_fit (fits_frame (frame ++ e ∷ [])) frame e es (filled-whole (frame ++ e ∷ []) es)
  where
    by_fit : (fits : Bool) (frame : List Entry) (e : Entry) (es : List Entry)
        → filled (frame ++ e ∷ []) es ++ rest_of (frame ++ e ∷ []) es ≡ (frame ++ e ∷ []) ++ es
        → (if fits then filled (frame ++ e ∷ []) es else frame)
        ++ (if fits then rest_of (frame ++ e ∷ []) es else e ∷ es)
        ≡ frame ++ e ∷ es
    by_fit true frame e es more = more ∙ append_assoc frame (e ∷ []) es
    by_fit false frame e es more = refl

-- ---- numbered entries

abbrev pub behind : List Entry → List Entry
behind [] = []
behind (e ∷ es) = es

-- what is left of them once a part is taken
pub entries-split : (front : List Entry) (k : ℕ) (items : List ItemRecord) (back : List Entry)
    → front ++ back ≡ entries_from k items
    → back ≡ entries_from (k + length front) (drop (length front) items)
unfolding entries_from
entries-split [] k items back e = rw (add-zero k) e
entries-split (f ∷ front) k [] back e = absurd (cc)
entries-split (f ∷ front) k (r ∷ rs) back e =
    rw (add-suc k (length front))
    (rw (suc-add k (length front)) at (entries-split front (suc k) rs back (ap behind e)))

-- ---- the frames of the calls

-- a joined frame has as many datagrams as the sent one
pub length-joined_frame : (s a b : List DatagramRecord) → length a ≡ length s → length b ≡ length s
    → length (joined_frame s a b) ≡ length s
length-joined_frame [] a b ha hb = refl
length-joined_frame (s ∷ ss) [] b ha hb = absurd (omega (arith, ha))
length-joined_frame (s ∷ ss) (x ∷ xs) [] ha hb = absurd (omega (arith, hb))
length-joined_frame (s ∷ ss) (x ∷ xs) (y ∷ ys) ha hb =
    ap suc (length-joined_frame ss xs ys (omega (arith, ha)) (omega (arith, hb)))

-- the frame that begins with an item goes before those of what it leaves
cut-frame_at : (k : ℕ) (items : List ItemRecord) → k < length items
    → cut (entries_from k (drop k items))
    ≡ frame_at k items
    ∷ cut (entries_from (k + length (frame_at k items)) (drop (k + length (frame_at k items)) items))
unfolding cut
cut-frame_at k items inside =
    let e : Entry = entry_of (get_or items k no_item) k in
    let es : List Entry = entries_from (suc k) (drop (suc k) items) in
    let here : entries_from k (drop k items) ≡ e ∷ es = entries-cons k items no_item inside in
    let first : List Entry = filled (e ∷ []) es in
    let frame : frame_at k items ≡ first = rw here refl in
    let whole : first ++ rest_of (e ∷ []) es ≡ entries_from k (drop k items) =
    filled-whole (e ∷ []) es ∙ sym here in
    let left : rest_of (e ∷ []) es ≡ entries_from (k + length first) (drop (length first) (drop k items)) =
    entries-split first k (drop k items) (rest_of (e ∷ []) es) whole in
    let past : drop (length first) (drop k items) ≡ drop (k + length first) items =
    drop-drop (length first) k items in
    let rest : rest_of (e ∷ []) es ≡ entries_from (k + length first) (drop (k + length first) items) =
    left ∙ ap (entries_from (k + length first)) past in
    let all : cut (e ∷ es) ≡ first ∷ cut (entries_from (k + length first) (drop (k + length first) items)) =
    cut_onto-filled (e ∷ []) es ∙ ap (λ (xs : List Entry). first ∷ cut xs) rest in
    rw (frame, here) all

none_sent : (k : ℕ) → Sends in_turn [] (map sent_of (cut (entries_from k []))) (Ok []) []
unfolding Sends entries_from cut
none_sent k = (refl, refl)

-- frames of calls that come to joined frames are sent over ports that give what came
calls-send : (items : List ItemRecord) (k : ℕ) (came : List Came) (joined : List (List DatagramRecord))
    → AreCalls items k came joined
    → Sends in_turn (as_ports_give came) (map sent_of (cut (entries_from k (drop k items)))) (Ok joined) []
unfolding AreCalls Sends
calls-send items k [] [] calls =
    let none : drop k items ≡ [] = drop_all k items calls in
    rw none (none_sent k)
calls-send items k [] (j ∷ js) calls = absurd calls
calls-send items k (c ∷ cs) [] calls = absurd calls
calls-send items k (c ∷ cs) (j ∷ js) calls =
    let frame : List Entry = frame_at k items in
    let join = calls.1 in
    let size : length j ≡ length frame =
    ap length join.joined_is
    ∙ length-joined_frame (sent_of frame) _ _ join.own_a.count join.own_b.count
    ∙ length-map frame (λ (e : Entry). e.sent) in
    let more : Sends in_turn (as_ports_give cs)
    (map sent_of (cut (entries_from (k + length j) (drop (k + length j) items)))) (Ok js) []
    = calls-send items (k + length j) cs js calls.2 in
    let next : Sends in_turn (as_ports_give cs)
    (map sent_of (cut (entries_from (k + length frame) (drop (k + length frame) items)))) (Ok js) []
    = subst (λ (n : ℕ). Sends in_turn (as_ports_give cs)
    (map sent_of (cut (entries_from (k + n) (drop (k + n) items)))) (Ok js) []) size more in
    rw (cut-frame_at k items calls.0) (
      Ok j,
      as_ports_give cs,
      record { came = Ok c; made = refl; comes = (join.own_a, join.own_b, join.joined_is) },
      (Ok js, next, refl),
    )

-- ---- the verdicts

-- a good verdict on the first counters, and one on the others, are a good one on all
verdict-append : (k : ℕ) (rs : List ItemRecord) (ds more : List DatagramRecord) (es : List ℕ)
    → verdict_from k rs ds es ≡ Good
    → verdict_from (k + length ds) (drop (length ds) rs) more (drop (length ds) es) ≡ Good
    → verdict_from k rs (ds ++ more) es ≡ Good
unfolding verdict_from
verdict-append k rs [] more es first rest = rw (add-zero k) at rest
verdict-append k [] (d ∷ ds) more es first rest = refl
verdict-append k (r ∷ rs) (d ∷ ds) more [] first rest = refl
verdict-append k (r ∷ rs) (d ∷ ds) more (e ∷ es) first rest =
    let next : k + suc (length ds) ≡ suc k + length ds = omega arith in
    by_count (eqb (distance r.counter d.counter) e) first
    (λ first.
    verdict-append (suc k) rs ds more es first
    (subst (λ (n : ℕ). verdict_from n (drop (length ds) rs) more (drop (length ds) es) ≡ Good) next rest))
  where
    by_count : (same : Bool)
        → cond same (verdict_from (suc k) rs ds es)
        (cond (ltb (distance r.counter d.counter) e) (Short k) (Over k)) ≡ Good
        → (verdict_from (suc k) rs ds es ≡ Good → verdict_from (suc k) rs (ds ++ more) es ≡ Good)
        → cond same (verdict_from (suc k) rs (ds ++ more) es)
        (cond (ltb (distance r.counter d.counter) e) (Short k) (Over k)) ≡ Good
    by_count true first all = all first
    by_count false first all = first

verdicts-good : (items : List Item) (k : ℕ) (joined : List (List DatagramRecord)) → AreGood items k joined
    → verdict_from k (drop k (map (asked []) items)) (concat joined) (drop k (map (λ i. i.expected) items)) ≡ Good
unfolding AreGood
verdicts-good items k [] good =
    verdict-end k (drop k (map (asked []) items)) (drop k (map (λ (i : Item). i.expected) items))
verdicts-good items k (j ∷ js) good =
    verdict-append k _ j (concat js) _ good.0
    (rw (drop-drop (length j) k (map (asked []) items), drop-drop (length j) k (map (λ (i : Item). i.expected) items))
    (verdicts-good items (k + length j) js good.1))

-- a verdict does not hang on the image
verdict-image : (image : List ℕ) (items : List Item) (k : ℕ) (ds : List DatagramRecord) (es : List ℕ)
    → verdict_from k (map (asked image) items) ds es ≡ verdict_from k (map (asked []) items) ds es
unfolding verdict_from
verdict-image image [] k ds es = refl
verdict-image image (i ∷ items) k [] es = refl
verdict-image image (i ∷ items) k (d ∷ ds) [] = refl
verdict-image image (i ∷ items) k (d ∷ ds) (e ∷ es) =
    ap (λ (v : Verdict). cond (eqb (distance i.sent d.counter) e) v
    (cond (ltb (distance i.sent d.counter) e) (Short k) (Over k)))
    (verdict-image image items (suc k) ds es)

-- calls in their order, with good verdicts, are a good cycle over ports that give what came
pub calls-cycle : (items : List Item) (image : List ℕ) (came : List Came) (joined : List (List DatagramRecord))
    → AreCalls (map (asked image) items) 0 came joined → AreGood items 0 joined
    → IsPortCycle in_turn (as_ports_give came) (map (asked image) items) (map (λ i. i.expected) items) (Ok Good)
    (with_answers (map (asked image) items) (concat joined)) []
calls-cycle items image came joined calls good =
    let rs : List ItemRecord = map (asked image) items in
    let es : List ℕ = map (λ (i : Item). i.expected) items in
    let judged : verdict rs (concat joined) es ≡ Good =
    verdict-image image items 0 (concat joined) es ∙ verdicts-good items 0 joined good in
    record {
      outcome = Ok joined;
      sends = calls-send rs 0 came joined calls;
      ends = (
        ap Ok (sym judged),
        ap (λ (v : Verdict). taken_on v rs (concat joined)) (sym judged),
      );
    }
