-- The verdict of a cycle is that of the counts of passes; what a good one says of the counters; and that it
-- is good where each slave is passed once.
use Rattle.std.proofs.Common.{◌≡◌, ℕ, zero, suc, ◌+◌, ◌*◌, ◌%◌, ◌<◌, ◌≤◌, ◌||◌}
use Rattle.std.proofs.Common.{Bool, true, false, cond, eqb, ltb}
use Rattle.std.proofs.Common.{List, [], ◌∷◌, ◌++◌, length, map, take, drop, Option, None, Some}
use Rattle.std.proofs.Common.{sym, subst, ◌∙◌, ap, refl, arith}
use Rattle.std.specs.Prelude.{is_none, unwrap_or}
use Rattle.std.specs.List.{AllByRecursion, sum_by}
use Rattle.std.proofs.lemmas.Bool.{eqb-true, eq-eqb}
use Rattle.std.proofs.lemmas.List.{length-append, length-take, length-drop, take-append-drop, drop_all}
use Rattle.std.proofs.lemmas.List.Sums.{sum_by-cons}
use Rattle.ec_wire.specs.Datagram.{DatagramRecord}
use Rattle.ec_merge.specs.Rule.{distance}
use Rattle.ec_esc.specs.State.{ControllerState}
use Rattle.ec_line.specs.After.{Entry}
use Rattle.ec_line.specs.Answered.{AnsweredFrame}
use Rattle.ec_line.specs.Claims.{gain}
use Rattle.ec_line.specs.Moving.{CountsReturned}
use Rattle.ec_line.specs.Run.{AnsweredTrips, CountsWhole, CountsWholeAll}
use Rattle.ec_line.specs.Trip.{Trip, returned}
use Rattle.ec_line.proofs.Laws.{trips_answered, sum_bound}
use Rattle.ec_map.specs.Item.{ItemRecord, IsItem}
use Rattle.ec_map.specs.Share.{share, expected_of, request_of}
use Rattle.ec_ring.specs.Links.{is_up, last_down}
use Rattle.ec_ring.specs.Reach.{front, back, arrival_a, arrival_b}
use Rattle.ec_ring.specs.Ring.{RingState, line_of}
use Rattle.ec_ring.specs.Travel.{trip_of}
use Rattle.ec_ring.specs.declared.links.Links.{Links}
use Rattle.ec_ring.specs.declared.port.Port.{Port}
use Rattle.ec_ring.specs.declared.port.Port.TheVariants.{A, B}
use Rattle.ec_ring.specs.declared.weather.Weather.{Weather}
use Rattle.ec_ring.proofs.Laws.{front-is-back, lost-front, lost-back, length-controllers}
use Rattle.ec_master.specs.Certificate.{carriers, count_of, whole_count, counts_from, verdict_by_counts}
use Rattle.ec_master.specs.Certificate.{verdict_under, IsOneDown}
use Rattle.ec_master.specs.Cut.{concat, entries_from, frames_of}
use Rattle.ec_master.specs.Travelled.{trips_of, trips_under, run_under}
use Rattle.ec_master.specs.Travelled.{weathers_of, weathers_under}
use Rattle.ec_ring.specs.Weather.{calm}
use Rattle.ec_master.specs.Unordered.{IsAccepted}
use Rattle.ec_master.specs.Verdict.{verdict_from, verdict}
use Rattle.ec_master.specs.declared.verdict.Verdict.{Verdict}
use Rattle.ec_master.specs.declared.verdict.Verdict.TheVariants.{Good, Short, Over}
use Rattle.ec_master.proofs.SlaveLemmas.{concat-cut, entries-trips_of, trips_ready}

-- ---- trips, entry by entry

-- each entry's counter has moved as those count whom the copies passed that came back of its trip
abbrev pub CountsBy : List ControllerState → List Entry → List Trip → List DatagramRecord → Type 0
CountsBy line [] [] [] = Unit {0}
CountsBy line (e ∷ es) (t ∷ ts) (g ∷ gs) =
    (g.counter ≡ (e.sent.counter + sum_by (gain e.request) (returned t line)) % 65536)
    × CountsBy line es ts gs
CountsBy line _ _ _ = ⊥

counts-first : (line : List ControllerState) (t : Trip) (es rest : List Entry) (us : List Trip)
    (gs hs : List DatagramRecord) → CountsWhole es (returned t line) gs → CountsBy line rest us hs
    → CountsBy line (es ++ rest) (map (λ (e : Entry). t) es ++ us) (gs ++ hs)
counts-first line t [] rest us [] hs first behind = behind
counts-first line t [] rest us (g ∷ gs) hs first behind = absurd first
counts-first line t (e ∷ es) rest us [] hs first behind = absurd first
counts-first line t (e ∷ es) rest us (g ∷ gs) hs first behind =
    (first.0, counts-first line t es rest us gs hs first.1 behind)

-- the entries of trips, end to end
abbrev pub entries_carried : List Trip → List Entry
entries_carried ts = concat (map (λ (t : Trip). t.entries) ts)

pub counts-each : (line : List ControllerState) (ts : List Trip) (joined : List (List DatagramRecord))
    → CountsReturned ts line joined → CountsBy line (entries_carried ts) (carriers ts) (concat joined)
unfolding carriers
counts-each line [] [] counts = tt
counts-each line [] (g ∷ gs) counts = absurd counts
counts-each line (t ∷ ts) [] counts = absurd counts
counts-each line (t ∷ ts) (g ∷ gs) counts =
    counts-first line t t.entries (entries_carried ts) (carriers ts) g (concat gs) counts.0
    (counts-each line ts gs counts.1)

-- the counters of answers
counts-answered : (es : List Entry) (xs : List ControllerState) (gs : List DatagramRecord)
    → AnsweredFrame es xs gs → CountsWhole es xs gs
counts-answered [] xs [] answered = tt
counts-answered [] xs (g ∷ gs) answered = absurd answered
counts-answered (e ∷ es) xs [] answered = absurd answered
counts-answered (e ∷ es) xs (g ∷ gs) answered = (answered.0.counter, counts-answered es xs gs answered.1)

pub counts-returned : (ts : List Trip) (line : List ControllerState) (joined : List (List DatagramRecord))
    → AnsweredTrips ts (λ t. returned t line) joined → CountsReturned ts line joined
counts-returned [] line [] answered = tt
counts-returned [] line (g ∷ gs) answered = absurd answered
counts-returned (t ∷ ts) line [] answered = absurd answered
counts-returned (t ∷ ts) line (g ∷ gs) answered =
    (counts-answered t.entries (returned t line) g answered.0, counts-returned ts line gs answered.1)

-- ---- counts

-- sums of the same numbers
pub sum-same : {S : Type 0} (f g : S → ℕ) (xs : List S) → ((x : S) → f x ≡ g x) → sum_by f xs ≡ sum_by g xs
sum-same f g [] same = refl
sum-same f g (x ∷ xs) same =
    omega (arith, sum_by-cons f x xs, sum_by-cons g x xs, same x, sum-same f g xs same)

length-if : {S : Type 0} (b : Bool) (xs : List S) → length (cond b [] xs) ≤ length xs
length-if true xs = omega arith
length-if false xs = omega arith

length-returned : (t : Trip) (xs : List ControllerState) → length (returned t xs) ≤ 2 * length xs
length-returned t xs =
    let a : length (cond t.lost_a [] (take t.front xs)) ≤ length (take t.front xs) =
    length-if t.lost_a (take t.front xs) in
    let b : length (cond t.lost_b [] (drop t.back xs)) ≤ length (drop t.back xs) =
    length-if t.lost_b (drop t.back xs) in
    let both = length-append (cond t.lost_a [] (take t.front xs)) (cond t.lost_b [] (drop t.back xs)) in
    omega (arith, both, a, b, length-take t.front xs, length-drop t.back xs)

-- a counter has moved by the count
pub count-moved : (r : ItemRecord) (t : Trip) (line : List ControllerState) (counter : ℕ)
    → length line ≤ 256 → IsItem r → counter ≡ (r.counter + count_of r t line) % 65536
    → distance r.counter counter ≡ count_of r t line
count-moved r t line counter room item counted =
    let bound : count_of r t line ≤ 3 * length (returned t line) =
    sum_bound (request_of r) (returned t line) in
    let size = length-returned t line in
    let small : r.counter < 65536 = item.counter in
    omega (arith, counted, bound, size, small, room)

expected-whole : (r : ItemRecord) (line : List ControllerState) → length line ≤ 256
    → expected_of line r ≡ whole_count r line
expected-whole r line room =
    let bound : whole_count r line ≤ 3 * length line = sum_bound (request_of r) line in
    omega (arith, bound, room)

-- ---- the verdict by counts

verdict-counts-from : (j k : ℕ) (items : List ItemRecord) (us : List Trip) (gs : List DatagramRecord)
    (line : List ControllerState) → length line ≤ 256 → AllByRecursion IsItem items
    → CountsBy line (entries_from j items) us gs
    → verdict_from k items gs (map (expected_of line) items) ≡ counts_from k items us line
unfolding verdict_from counts_from entries_from
verdict-counts-from j k [] us gs line room items counts = refl
verdict-counts-from j k (r ∷ rs) [] gs line room items counts = absurd counts
verdict-counts-from j k (r ∷ rs) (u ∷ us) [] line room items counts = absurd counts
verdict-counts-from j k (r ∷ rs) (u ∷ us) (g ∷ gs) line room items counts =
    let m : ℕ = distance r.counter g.counter in
    let e : ℕ = expected_of line r in
    let count : ℕ = count_of r u line in
    let whole : ℕ = whole_count r line in
    let rest : Verdict = verdict_from (suc k) rs gs (map (expected_of line) rs) in
    let V : ℕ → ℕ → Verdict → Verdict = λ a b v. cond (eqb a b) v (cond (ltb a b) (Short k) (Over k)) in
    ap (λ (a : ℕ). V a e rest) (count-moved r u line g.counter room items.0 counts.0)
    ∙ ap (λ (b : ℕ). V count b rest) (expected-whole r line room)
    ∙ ap (λ (v : Verdict). V count whole v)
    (verdict-counts-from (suc j) (suc k) rs us gs line room items.1 counts.1)

-- the entries of a work's trips
pub entries_under : (ws : List Weather) (r : RingState) (items : List ItemRecord)
    → entries_carried (trips_under ws r items) ≡ entries_from 0 items
entries_under ws r items =
    ap (λ (l : List (List Entry)). concat l) (entries-trips_of ws r.links (length r.slaves) (frames_of items))
    ∙ concat-cut (entries_from 0 items)

-- each answer is that of those that came back
pub returned_answers : (ws : List Weather) (r : RingState) (items : List ItemRecord)
    → IsAccepted r.slaves items
    → AllByRecursion IsItem items
    → AnsweredTrips (trips_under ws r items) (λ t. returned t (line_of r)) (run_under ws r items).joined
returned_answers ws r items accepted are_items =
    let line : List ControllerState = line_of r in
    let ready = trips_ready ws r items accepted are_items in
    trips_answered (trips_under ws r items) line ready

pub line_room : (r : RingState) → length r.slaves ≤ 256 → length (line_of r) ≤ 256
line_room r room = omega (arith, length-controllers r.slaves, room)

-- the verdict on frames whose counters have moved so is that by counts
pub verdict-moved : (ws : List Weather) (r : RingState) (items : List ItemRecord)
    (joined : List (List DatagramRecord)) → length r.slaves ≤ 256 → AllByRecursion IsItem items
    → CountsReturned (trips_under ws r items) (line_of r) joined
    → verdict items (concat joined) (map (expected_of (line_of r)) items)
    ≡ verdict_by_counts (trips_under ws r items) items (line_of r)
verdict-moved ws r items joined room are_items counts =
    let line : List ControllerState = line_of r in
    let ts : List Trip = trips_under ws r items in
    verdict-counts-from 0 0 items (carriers ts) (concat joined) line (line_room r room) are_items
    (subst (λ (es : List Entry). CountsBy line es (carriers ts) (concat joined)) (entries_under ws r items)
    (counts-each line ts joined counts))

returned_counts : (ws : List Weather) (r : RingState) (items : List ItemRecord)
    → IsAccepted r.slaves items → AllByRecursion IsItem items
    → CountsReturned (trips_under ws r items) (line_of r) (run_under ws r items).joined
returned_counts ws r items accepted are_items =
    counts-returned (trips_under ws r items) (line_of r) (run_under ws r items).joined
    (returned_answers ws r items accepted are_items)

pub verdict-counts : (ws : List Weather) (r : RingState) (items : List ItemRecord) → length r.slaves ≤ 256
    → IsAccepted r.slaves items → AllByRecursion IsItem items
    → verdict_under ws r items ≡ verdict_by_counts (trips_under ws r items) items (line_of r)
verdict-counts ws r items room accepted are_items =
    verdict-moved ws r items (run_under ws r items).joined room are_items
    (returned_counts ws r items accepted are_items)

-- ---- a good verdict

-- those of a trip that came back gain as much as the whole line
abbrev pub CountsEqual : List ControllerState → Entry → Trip → Type 0
CountsEqual line e t = sum_by (gain e.request) (returned t line) ≡ sum_by (gain e.request) line

abbrev EqualBy : List ControllerState → List Entry → List Trip → Type 0
EqualBy line [] [] = Unit {0}
EqualBy line (e ∷ es) (t ∷ ts) = CountsEqual line e t × EqualBy line es ts
EqualBy line _ _ = ⊥

good-step : (b c : Bool) (v : Verdict) (k : ℕ) → cond b v (cond c (Short k) (Over k)) ≡ Good
    → (b ≡ true) × (v ≡ Good)
good-step true c v k good = (refl, good)
good-step false true v k good = absurd (cc)
good-step false false v k good = absurd (cc)

good-equal : (j k : ℕ) (items : List ItemRecord) (us : List Trip) (gs : List DatagramRecord)
    (line : List ControllerState) → AllByRecursion IsItem items
    → CountsBy line (entries_from j items) us gs → counts_from k items us line ≡ Good
    → EqualBy line (entries_from j items) us
unfolding counts_from entries_from
good-equal j k [] [] gs line items counts good = tt
good-equal j k [] (u ∷ us) gs line items counts good = absurd counts
good-equal j k (r ∷ rs) [] gs line items counts good = absurd counts
good-equal j k (r ∷ rs) (u ∷ us) [] line items counts good = absurd counts
good-equal j k (r ∷ rs) (u ∷ us) (g ∷ gs) line items counts good =
    let count : ℕ = count_of r u line in
    let whole : ℕ = whole_count r line in
    let step = good-step (eqb count whole) (ltb count whole) (counts_from (suc k) rs us line) k good in
    let same : count ≡ whole = eqb-true count whole step.0 in (
      same,
      good-equal (suc j) (suc k) rs us gs line items.1 counts.1 step.1,
    )

equal-split : (line : List ControllerState) (t : Trip) (es rest : List Entry) (us : List Trip)
    → EqualBy line (es ++ rest) (map (λ (e : Entry). t) es ++ us)
    → AllByRecursion (λ e. CountsEqual line e t) es × EqualBy line rest us
equal-split line t [] rest us equal = (tt, equal)
equal-split line t (e ∷ es) rest us equal =
    let more = equal-split line t es rest us equal.1 in ((equal.0, more.0), more.1)

equal-trips : (line : List ControllerState) (ts : List Trip) → EqualBy line (entries_carried ts) (carriers ts)
    → AllByRecursion (λ t. AllByRecursion (λ e. CountsEqual line e t) t.entries) ts
unfolding carriers
equal-trips line [] equal = tt
equal-trips line (t ∷ ts) equal =
    let parts = equal-split line t t.entries (entries_carried ts) (carriers ts) equal in
    (parts.0, equal-trips line ts parts.1)

counts-frame : (line : List ControllerState) (t : Trip) (es : List Entry) (gs : List DatagramRecord)
    → CountsWhole es (returned t line) gs → AllByRecursion (λ e. CountsEqual line e t) es
    → CountsWhole es line gs
counts-frame line t [] [] counts equal = tt
counts-frame line t [] (g ∷ gs) counts equal = absurd counts
counts-frame line t (e ∷ es) [] counts equal = absurd counts
counts-frame line t (e ∷ es) (g ∷ gs) counts equal = (
  counts.0 ∙ ap (λ (n : ℕ). (e.sent.counter + n) % 65536) equal.0,
  counts-frame line t es gs counts.1 equal.1,
)

counts-trips : (line : List ControllerState) (ts : List Trip) (joined : List (List DatagramRecord))
    → CountsReturned ts line joined
    → AllByRecursion (λ t. AllByRecursion (λ e. CountsEqual line e t) t.entries) ts
    → CountsWholeAll ts line joined
counts-trips line [] [] counts equal = tt
counts-trips line [] (g ∷ gs) counts equal = absurd counts
counts-trips line (t ∷ ts) [] counts equal = absurd counts
counts-trips line (t ∷ ts) (g ∷ gs) counts equal =
    (counts-frame line t t.entries g counts.0 equal.0, counts-trips line ts gs counts.1 equal.1)

-- where the verdict by counts is good the counters have moved as the whole line counts
pub good_moved : (ws : List Weather) (r : RingState) (items : List ItemRecord)
    (joined : List (List DatagramRecord)) → AllByRecursion IsItem items
    → CountsReturned (trips_under ws r items) (line_of r) joined
    → verdict_by_counts (trips_under ws r items) items (line_of r) ≡ Good
    → CountsWholeAll (trips_under ws r items) (line_of r) joined
good_moved ws r items joined are_items counts good =
    let line : List ControllerState = line_of r in
    let ts : List Trip = trips_under ws r items in
    let gs : List DatagramRecord = concat joined in
    let each : CountsBy line (entries_from 0 items) (carriers ts) gs =
    subst (λ (es : List Entry). CountsBy line es (carriers ts) gs) (entries_under ws r items)
    (counts-each line ts joined counts) in
    let equal : EqualBy line (entries_carried ts) (carriers ts) =
    subst (λ (es : List Entry). EqualBy line es (carriers ts)) (sym (entries_under ws r items))
    (good-equal 0 0 items (carriers ts) gs line are_items each good) in
    counts-trips line ts joined counts (equal-trips line ts equal)

pub good_counts : (ws : List Weather) (r : RingState) (items : List ItemRecord) → length r.slaves ≤ 256
    → IsAccepted r.slaves items → AllByRecursion IsItem items → verdict_under ws r items ≡ Good
    → CountsWholeAll (trips_under ws r items) (line_of r) (run_under ws r items).joined
good_counts ws r items room accepted are_items good =
    good_moved ws r items (run_under ws r items).joined are_items
    (returned_counts ws r items accepted are_items)
    (sym (verdict-counts ws r items room accepted are_items) ∙ good)

-- ---- at most one link down, and nothing lost

-- each is passed once by what comes back
abbrev PassesOnce : List ControllerState → Trip → Type 0
PassesOnce line t = returned t line ≡ line

piece_a : (links : Links) (n : ℕ) (line : List ControllerState) (o : Option Port)
    → (o ≡ None → front links n ≡ 0)
    → cond (is_none o) [] (take (front links n) line) ≡ take (front links n) line
piece_a links n line None none = ap (λ (p : ℕ). take p line) (sym (none refl))
piece_a links n line (Some port) none = refl

piece_b : (links : Links) (line : List ControllerState) (o : Option Port)
    → (o ≡ None → back links (length line) ≡ length line)
    → cond (is_none o) [] (drop (back links (length line)) line) ≡ drop (back links (length line)) line
piece_b links line None none =
    sym (ap (λ (q : ℕ). drop q line) (none refl) ∙ drop_all (length line) line (omega arith))
piece_b links line (Some port) none = refl

-- links that are up and down alike from 0 to n leave copy B the same way
last_down-same : (a b : Links) (m : ℕ) → ((k : ℕ) → k < m → is_up b k ≡ is_up a k)
    → last_down b m ≡ last_down a m
unfolding last_down
last_down-same a b zero same = refl
last_down-same a b (suc m) same =
    ap (λ (up : Bool). cond up (last_down b m) (Some m)) (same m (omega arith))
    ∙ ap (λ (o : Option ℕ). cond (is_up a m) o (Some m))
    (last_down-same a b m (λ k below. same k (omega (arith, below))))

last_same : (w : Weather) (n : ℕ) → IsOneDown n w → last_down w.b (n + 1) ≡ last_down w.a (n + 1)
last_same w n down = last_down-same w.a w.b (n + 1) (λ k below. down.same k (omega (arith, below)))

arrival_same : (w : Weather) (n : ℕ) → IsOneDown n w → arrival_b w.b n ≡ arrival_b w.a n
arrival_same w n down =
    ap (λ (up : Bool). cond up (Some (cond (is_none (last_down w.b (n + 1))) A B)) None)
    (down.same n (omega arith))
    ∙ ap (λ (o : Option ℕ). cond (is_up w.a n) (Some (cond (is_none o) A B)) None) (last_same w n down)

passes-once : (w : Weather) (f : List Entry) (line : List ControllerState) → IsOneDown (length line) w
    → PassesOnce line (trip_of w f (length line))
passes-once w f line down =
    let n : ℕ = length line in
    let p : ℕ = front w.a n in
    let C : Bool → List ControllerState = λ lost. cond (lost || is_none (arrival_a w.a n)) [] (take p line) in
    let D : Bool → Option Port → ℕ → List ControllerState =
    λ lost arrival from. cond (lost || is_none arrival) [] (drop from line) in
    ap (λ (lost : Bool). C lost ++ D w.lost_b (arrival_b w.b n) (back w.b n)) down.came_a
    ∙ ap (λ (lost : Bool). C false ++ D lost (arrival_b w.b n) (back w.b n)) down.came_b
    ∙ ap (λ (arrival : Option Port). C false ++ D false arrival (back w.b n)) (arrival_same w n down)
    ∙ ap (λ (o : Option ℕ). C false ++ D false (arrival_b w.a n) (unwrap_or o n)) (last_same w n down)
    ∙ ap (λ (l : List ControllerState). l ++ D false (arrival_b w.a n) (back w.a n))
    (piece_a w.a n line (arrival_a w.a n) (lost-front w.a n))
    ∙ ap (λ (l : List ControllerState). take p line ++ l)
    (piece_b w.a line (arrival_b w.a n) (lost-back w.a n))
    ∙ ap (λ (q : ℕ). take p line ++ drop q line) (sym (front-is-back w.a n down.link down.only))
    ∙ take-append-drop p line

trips-once : (ws : List Weather) (links : Links) (fs : List (List Entry)) (line : List ControllerState)
    → AllByRecursion (IsOneDown (length line)) (weathers_of ws links fs)
    → AllByRecursion (PassesOnce line) (trips_of ws links (length line) fs)
unfolding trips_of weathers_of
trips-once ws links [] line down = tt
trips-once [] links (f ∷ fs) line down =
    (passes-once (calm links) f line down.0, trips-once [] links fs line down.1)
trips-once (w ∷ ws) links (f ∷ fs) line down =
    (passes-once w f line down.0, trips-once ws links fs line down.1)

carriers-first : (P : Trip → Type 0) (t : Trip) (es : List Entry) (us : List Trip) → P t → AllByRecursion P us
    → AllByRecursion P (map (λ (e : Entry). t) es ++ us)
carriers-first P t [] us here all = all
carriers-first P t (e ∷ es) us here all = (here, carriers-first P t es us here all)

carriers-each : (P : Trip → Type 0) (ts : List Trip) → AllByRecursion P ts → AllByRecursion P (carriers ts)
unfolding carriers
carriers-each P [] all = tt
carriers-each P (t ∷ ts) all = carriers-first P t t.entries (carriers ts) all.0 (carriers-each P ts all.1)

once-good : (k : ℕ) (items : List ItemRecord) (us : List Trip) (line : List ControllerState)
    → AllByRecursion (PassesOnce line) us → counts_from k items us line ≡ Good
unfolding counts_from
once-good k [] us line once = refl
once-good k (r ∷ rs) [] line once = refl
once-good k (r ∷ rs) (u ∷ us) line once =
    let count : ℕ = count_of r u line in
    let whole : ℕ = whole_count r line in
    let same : count ≡ whole = ap (λ (l : List ControllerState). sum_by (share r) l) once.0 in
    ap (λ (b : Bool). cond b (counts_from (suc k) rs us line) (cond (ltb count whole) (Short k) (Over k)))
    (eq-eqb count whole same)
    ∙ once-good (suc k) rs us line once.1

-- so the verdict by counts is good
pub one_down_counts : (ws : List Weather) (r : RingState) (items : List ItemRecord)
    → AllByRecursion (IsOneDown (length r.slaves)) (weathers_under ws r items)
    → verdict_by_counts (trips_under ws r items) items (line_of r) ≡ Good
one_down_counts ws r items down =
    let line : List ControllerState = line_of r in
    let size : length r.slaves ≡ length line = sym (length-controllers r.slaves) in
    let ts : List Trip = trips_under ws r items in
    let once : AllByRecursion (PassesOnce line) (trips_of ws r.links (length line) (frames_of items)) =
    trips-once ws r.links (frames_of items) line
    (subst (λ (n : ℕ). AllByRecursion (IsOneDown n) (weathers_under ws r items)) size down) in
    let under : AllByRecursion (PassesOnce line) ts =
    subst (λ (n : ℕ). AllByRecursion (PassesOnce line) (trips_of ws r.links n (frames_of items))) (sym size)
    once in
    once-good 0 items (carriers ts) line (carriers-each (PassesOnce line) ts under)

pub one_down_good : (ws : List Weather) (r : RingState) (items : List ItemRecord) → length r.slaves ≤ 256
    → IsAccepted r.slaves items → AllByRecursion IsItem items
    → AllByRecursion (IsOneDown (length r.slaves)) (weathers_under ws r items)
    → verdict_under ws r items ≡ Good
one_down_good ws r items room accepted are_items down =
    verdict-counts ws r items room accepted are_items ∙ one_down_counts ws r items down
