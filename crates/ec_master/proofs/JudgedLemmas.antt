-- The verdict, counter by counter.
use Rattle.std.proofs.Common.{◌≡◌, ℕ, zero, suc, ◌+◌, ◌<◌, ◌∙◌, ap, sym, subst, refl, arith, false}
use Rattle.std.proofs.Common.{List, [], ◌∷◌, length, map, drop, get_or, drop-cons, length-append}
use Rattle.std.proofs.lemmas.Bool.{eq-eqb, ne_eqb, lt-ltb, le-ltb}
use native.Mathlib.Nat.{ne_of_lt, le_of_lt}
use Rattle.ec_wire.specs.Datagram.{DatagramRecord, nth, blank}
use Rattle.std.specs.List.{AllByRecursion}
use Rattle.ec_merge.specs.Rule.{distance}
use Rattle.ec_esc.specs.State.{ControllerState}
use Rattle.ec_line.specs.After.{Entry}
use Rattle.ec_line.specs.Answered.{sent_of}
use Rattle.ec_line.specs.Request.{OnWay}
use Rattle.ec_line.specs.Run.{trips_run}
use Rattle.ec_line.specs.Trip.{Trip, passed, joined_of}
use Rattle.ec_regs.proofs.Laws.{each-both}
use Rattle.ec_map.specs.Item.{ItemRecord, IsItem}
use Rattle.ec_ring.specs.Ring.{RingState, line_of}
use Rattle.ec_ring.specs.Travel.{trip_of}
use Rattle.ec_ring.specs.Weather.{calm}
use Rattle.ec_ring.specs.declared.links.Links.{Links}
use Rattle.ec_ring.specs.declared.weather.Weather.{Weather}
use Rattle.ec_wire.specs.declared.kind.Kind.{Kind}
use Rattle.ec_wire.specs.declared.kind.Kind.TheVariants.{Lrd, Lwr, Lrw, Brd, Fprd, Fpwr}
use Rattle.ec_master.specs.Cut.{concat, cut, entries_from, frames_of}
use Rattle.ec_master.specs.Travelled.{trips_of, answers_under}
use Rattle.ec_map.specs.Share.{expected_of}
use Rattle.ec_master.specs.Certificate.{verdict_under}
use Rattle.ec_master.specs.Verdict.{verdict, verdict_from}
use Rattle.ec_master.proofs.CutLemmas.{length-entries}
use Rattle.ec_master.proofs.SlaveLemmas.{concat-cut, each-concat, entries-on_way}
use Rattle.ec_master.proofs.TravelLemmas.{joined_sizes, sizes-count, length-sent_of, entries-not_circulating}
use Rattle.ec_master.specs.Work.{with_answer, with_answers, nth_item, no_item}
use Rattle.ec_master.specs.declared.verdict.Verdict.{Verdict}
use Rattle.ec_master.specs.declared.verdict.Verdict.TheVariants.{Good, Short, Over}

-- an answer's counter is the item's then
counter_by : (kind : Kind) (address : ℕ) (payload : List ℕ) (counter adp : ℕ) (d : DatagramRecord)
    → (with_answer
    (record { kind = kind; address = address; payload = payload; counter = counter; adp = adp }) d).counter
    ≡ d.counter
counter_by Lrd address payload counter adp d = refl
counter_by Lwr address payload counter adp d = refl
counter_by Lrw address payload counter adp d = refl
counter_by Brd address payload counter adp d = refl
counter_by Fprd address payload counter adp d = refl
counter_by Fpwr address payload counter adp d = refl

pub counter-with_answers : (k : ℕ) (rs : List ItemRecord) (ds : List DatagramRecord) → k < length rs
    → length ds ≡ length rs
    → (nth_item (with_answers rs ds) k).counter ≡ (nth ds k).counter
counter-with_answers k [] ds inside size = absurd (omega (arith, inside))
counter-with_answers k (r ∷ rs) [] inside size = absurd (omega (arith, size))
counter-with_answers zero (r ∷ rs) (d ∷ ds) inside size =
    counter_by r.kind r.address r.payload r.counter r.adp d
counter-with_answers (suc k) (r ∷ rs) (d ∷ ds) inside size =
    counter-with_answers k rs ds (omega (arith, inside)) (omega (arith, size))

-- what stands of the verdict at number k
pub verdict_at : (k : ℕ) (rs : List ItemRecord) (ds : List DatagramRecord) (es : List ℕ) → k < length rs
    → length ds ≡ length rs
    → length es ≡ length rs
    → verdict_from k (drop k rs) (drop k ds) (drop k es)
    ≡ verdict_from k (nth_item rs k ∷ drop (suc k) rs) (nth ds k ∷ drop (suc k) ds)
    (get_or es k 0 ∷ drop (suc k) es)
verdict_at k rs ds es inside one two =
    (λ i. verdict_from k (drop-cons rs k no_item inside i)
    (drop-cons ds k blank (omega (arith, inside, one)) i)
    (drop-cons es k 0 (omega (arith, inside, two)) i))

pub verdict-as_expected : (k : ℕ) (r : ItemRecord) (d : DatagramRecord) (e : ℕ) (rs : List ItemRecord)
    (ds : List DatagramRecord) (es : List ℕ)
    → distance r.counter d.counter ≡ e
    → verdict_from k (r ∷ rs) (d ∷ ds) (e ∷ es) ≡ verdict_from (suc k) rs ds es
unfolding verdict_from
verdict-as_expected k r d e rs ds es same = rw (eq-eqb (distance r.counter d.counter) e same) refl

pub verdict-short : (k : ℕ) (r : ItemRecord) (d : DatagramRecord) (e : ℕ) (rs : List ItemRecord)
    (ds : List DatagramRecord) (es : List ℕ)
    → distance r.counter d.counter < e → verdict_from k (r ∷ rs) (d ∷ ds) (e ∷ es) ≡ Short k
unfolding verdict_from
verdict-short k r d e rs ds es less =
    rw (ne_eqb (distance r.counter d.counter) e (ne_of_lt less), lt-ltb (distance r.counter d.counter) e less) refl

pub verdict-over : (k : ℕ) (r : ItemRecord) (d : DatagramRecord) (e : ℕ) (rs : List ItemRecord)
    (ds : List DatagramRecord) (es : List ℕ)
    → e < distance r.counter d.counter → verdict_from k (r ∷ rs) (d ∷ ds) (e ∷ es) ≡ Over k
unfolding verdict_from
verdict-over k r d e rs ds es more =
    rw (
      ne_eqb (distance r.counter d.counter) e (λ same. ne_of_lt more (sym same)),
      le-ltb (distance r.counter d.counter) e (le_of_lt more),
    ) refl

pub verdict-none : (k : ℕ) (ds : List DatagramRecord) (es : List ℕ) → verdict_from k [] ds es ≡ Good
unfolding verdict_from
verdict-none k ds es = refl

-- number k: what stands there of the verdict, and that its count is that of the items
pub record StandsAt (items taken : List ItemRecord) (answers : List DatagramRecord) (es : List ℕ)
    (k : ℕ) : Type 0 where
  pub here : verdict_from k (drop k items) (drop k answers) (drop k es)
      ≡ verdict_from k (nth_item items k ∷ drop (suc k) items) (nth answers k ∷ drop (suc k) answers)
      (get_or es k 0 ∷ drop (suc k) es)
  pub counted : distance (nth_item items k).counter (nth_item taken k).counter
      ≡ distance (nth_item items k).counter (nth answers k).counter

pub stands : (items taken : List ItemRecord) (answers : List DatagramRecord) (es : List ℕ) (k : ℕ)
    → k < length items
    → length answers ≡ length items → length es ≡ length items → taken ≡ with_answers items answers
    → StandsAt items taken answers es k
stands items taken answers es k inside size expected same = record {
  here = verdict_at k items answers es inside size expected;
  counted =
      ap (λ (rs : List ItemRecord). distance (nth_item items k).counter (nth_item rs k).counter) same
      ∙ ap (distance (nth_item items k).counter) (counter-with_answers k items answers inside size);
}

-- ---- as many answers as items

-- datagrams of items, none circulating
abbrev pub Sent : List Entry → Type 0
Sent es =
    AllByRecursion (λ e. OnWay e.request e.sent) es × AllByRecursion (λ e. e.sent.circulating ≡ false) es

trip-count : (w : Weather) (f : List Entry) (n : ℕ) (line : List ControllerState) → Sent f
    → length (joined_of (trip_of w f n) (passed (trip_of w f n) line)) ≡ length f
trip-count w f n line sent =
    sizes-count (sent_of f) _
    (joined_sizes w f (sent_of f) n line (record { datagrams = refl; way = sent.0; not_circulating = sent.1 }))
    ∙ length-sent_of f

trips-count : (ws : List Weather) (links : Links) (n : ℕ) (fs : List (List Entry))
    (line : List ControllerState) → AllByRecursion Sent fs
    → length (concat (trips_run (trips_of ws links n fs) line).joined) ≡ length (concat fs)
unfolding trips_of trips_run
trips-count ws links n [] line sent = refl
trips-count [] links n (f ∷ fs) line sent =
    let t : Trip = trip_of (calm links) f n in
    let later : List ControllerState = (passed t line).line in
    length-append (joined_of t (passed t line)) (concat (trips_run (trips_of [] links n fs) later).joined)
    ∙ (λ i. trip-count (calm links) f n line sent.0 i + trips-count [] links n fs later sent.1 i)
    ∙ sym (length-append f (concat fs))
trips-count (w ∷ ws) links n (f ∷ fs) line sent =
    let t : Trip = trip_of w f n in
    let later : List ControllerState = (passed t line).line in
    length-append (joined_of t (passed t line)) (concat (trips_run (trips_of ws links n fs) later).joined)
    ∙ (λ i. trip-count w f n line sent.0 i + trips-count ws links n fs later sent.1 i)
    ∙ sym (length-append f (concat fs))

pub frames-sent : (items : List ItemRecord) → AllByRecursion IsItem items → AllByRecursion Sent (frames_of items)
frames-sent items are =
    let es : List Entry = entries_from 0 items in
    let W : Entry → Type 0 = λ e. OnWay e.request e.sent in
    let C : Entry → Type 0 = λ e. e.sent.circulating ≡ false in
    each-both (λ f. AllByRecursion W f) (λ f. AllByRecursion C f) Sent (cut es) (λ f way calm. (way, calm))
    (each-concat W (cut es)
    (subst (λ (l : List Entry). AllByRecursion W l) (sym (concat-cut es)) (entries-on_way 0 items are)))
    (each-concat C (cut es)
    (subst (λ (l : List Entry). AllByRecursion C l) (sym (concat-cut es)) (entries-not_circulating 0 items)))

pub answers-count : (ws : List Weather) (r : RingState) (items : List ItemRecord) → AllByRecursion IsItem items
    → length (answers_under ws r items) ≡ length items
answers-count ws r items are =
    trips-count ws r.links (length r.slaves) (frames_of items) (line_of r) (frames-sent items are)
    ∙ ap (λ (es : List Entry). length es) (concat-cut (entries_from 0 items)) ∙ length-entries 0 items

-- ---- the verdict on a cycle

pub judged : (ws : List Weather) (r : RingState) (items : List ItemRecord) (expected : List ℕ)
    (taken : List ItemRecord) (v : Verdict)
    → AllByRecursion IsItem items → expected ≡ map (expected_of (line_of r)) items
    → taken ≡ with_answers items (answers_under ws r items)
    → ((answers : List DatagramRecord) → length answers ≡ length items → taken ≡ with_answers items answers
    → v ≡ verdict items answers expected)
    → v ≡ verdict_under ws r items
judged ws r items expected taken v are counts same by =
    by (answers_under ws r items) (answers-count ws r items are) same
    ∙ ap (verdict items (answers_under ws r items)) counts
