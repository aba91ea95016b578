-- What is left of a work's frames to travel over a ring comes to, once the first of them has come back.
use Rattle.std.proofs.Common.{◌≡◌, ℕ, zero, suc, true, false, cond, ◌+◌, ◌<◌, ◌≤◌, ◌∙◌, ap, sym, refl, subst}
use Rattle.std.proofs.Common.{arith, suc-add, zero-add}
use Rattle.std.proofs.Common.{List, [], ◌∷◌, ◌++◌, length, drop, length-append, length-drop}
use Rattle.std.specs.List.{AllByRecursion}
use Rattle.std.proofs.lemmas.List.{drop-drop, get_or-drop, drop_all}
use Rattle.ec_regs.proofs.Laws.{each-front, each-drop}
use Rattle.ec_wire.specs.Datagram.{DatagramRecord, nth}
use Rattle.ec_merge.specs.Frames.{IsOwn, joined_frame}
use Rattle.ec_merge.proofs.Laws.{length-joined, same_size}
use Rattle.ec_esc.specs.State.{ControllerState}
use Rattle.ec_line.specs.After.{Entry}
use Rattle.ec_line.specs.Answered.{sent_of}
use Rattle.ec_line.specs.Run.{TripsRun, trips_run}
use Rattle.ec_line.specs.Trip.{Trip, Passed, passed, joined_of, passed_by_a_first, passed_by_b_first}
use Rattle.ec_line.specs.Trip.{front_pass, back_pass, sent_b}
use Rattle.ec_app.specs.State.{SlaveState}
use Rattle.ec_line.specs.Request.{OnWay}
use Rattle.ec_line.proofs.Laws.{own_a, own_b}
use Rattle.ec_map.specs.Item.{ItemRecord, IsItem}
use Rattle.ec_ring.specs.Ring.{RingState, line_of, with_line}
use Rattle.ec_ring.specs.Travel.{trip_of}
use Rattle.ec_ring.specs.declared.links.Links.{Links}
use Rattle.ec_ring.specs.declared.weather.Weather.{Weather}
use Rattle.ec_ring.proofs.Laws.{length-front_pass, length-back_pass, line-between, with_line-between}
use Rattle.ec_ring.proofs.Laws.{with_controllers-controllers, length-controllers}
use Rattle.ec_master.specs.Cut.{concat, entry_of, entries_from, cut, filled, frame_at, IsFrameOf}
use Rattle.ec_master.specs.Travelled.{trips_of, run_under, answers_under}
use Rattle.ec_master.specs.WeatherTrips.{behind_next, next_weather}
use Rattle.ec_master.specs.Work.{with_answer, with_answers, with_answers_at, no_item, nth_item}
use Rattle.ec_master.proofs.CutLemmas.{rest_of, cut_onto-filled, filled-whole, entries-cons, entries-split}
use Rattle.ec_master.proofs.CutLemmas.{first_or, behind, length-entries, filled-some}
use Rattle.ec_master.proofs.CarryLemmas.{own_itself, either}
use Rattle.ec_master.proofs.SlaveLemmas.{entries-on_way}
use Rattle.ec_master.proofs.WorkLemmas.{with_answers_at-none}

-- ---- the first frame and the others

-- what is left behind it
pub frame_at-rest : (k : ℕ) (items : List ItemRecord) → k < length items
    → (rest : List Entry) × (frame_at k items ++ rest ≡ entries_from k (drop k items))
frame_at-rest k items inside =
    let e : Entry = entry_of (nth_item items k) k in
    let es : List Entry = entries_from (suc k) (drop (suc k) items) in
    let cons : entries_from k (drop k items) ≡ e ∷ es = entries-cons k items no_item inside in
    rw cons (rest_of (e ∷ []) es, filled-whole (e ∷ []) es)

pub cut-frame_at : (k : ℕ) (items : List ItemRecord) → k < length items
    → cut (entries_from k (drop k items))
    ≡ frame_at k items
    ∷ cut (entries_from (k + length (frame_at k items)) (drop (k + length (frame_at k items)) items))
unfolding cut
cut-frame_at k items inside =
    let e : Entry = entry_of (nth_item items k) k in
    let es : List Entry = entries_from (suc k) (drop (suc k) items) in
    let cons : entries_from k (drop k items) ≡ e ∷ es = entries-cons k items no_item inside in
    let frame : List Entry = filled (e ∷ []) es in
    let split : rest_of (e ∷ []) es ≡ entries_from (k + length frame) (drop (length frame) (drop k items))
    = entries-split frame k (drop k items) (rest_of (e ∷ []) es) (filled-whole (e ∷ []) es ∙ sym cons) in
    rw cons (cut_onto-filled (e ∷ []) es
    ∙ ap (λ (rest : List Entry). frame ∷ cut rest)
    (split ∙ ap (entries_from (k + length frame)) (drop-drop (length frame) k items)))

-- ---- weathers

-- the trips of frames, the first one under the next weather
pub trips-next : (ws : List Weather) (links : Links) (n : ℕ) (f : List Entry) (fs : List (List Entry))
    → trips_of ws links n (f ∷ fs) ≡ trip_of (next_weather ws links) f n ∷ trips_of (behind_next ws) links n fs
unfolding trips_of
trips-next [] links n f fs = refl
trips-next (w ∷ ws) links n f fs = refl

-- ---- answers that come frame by frame

pub with_answers-more : (rs : List ItemRecord) (xs ds : List DatagramRecord)
    → with_answers rs (xs ++ ds) ≡ with_answers_at (length xs) (with_answers rs xs) ds
with_answers-more [] [] ds = refl
with_answers-more (r ∷ rs) [] ds = refl
with_answers-more [] (x ∷ xs) ds = refl
with_answers-more (r ∷ rs) (x ∷ xs) ds =
    ap (λ (ys : List ItemRecord). with_answer r x ∷ ys) (with_answers-more rs xs ds)

pub with_answers_at-more : (k : ℕ) (rs : List ItemRecord) (xs ds : List DatagramRecord)
    → with_answers_at k rs (xs ++ ds) ≡ with_answers_at (k + length xs) (with_answers_at k rs xs) ds
with_answers_at-more zero rs xs ds = rw (zero-add (length xs)) (with_answers-more rs xs ds)
with_answers_at-more (suc k) [] xs ds = rw (suc-add k (length xs)) refl
with_answers_at-more (suc k) (r ∷ rs) xs ds =
    rw (suc-add k (length xs)) (ap (λ (ys : List ItemRecord). r ∷ ys) (with_answers_at-more k rs xs ds))

-- items behind those that took answers are as they were
pub drop-with_answers : (rs : List ItemRecord) (xs : List DatagramRecord)
    → drop (length xs) (with_answers rs xs) ≡ drop (length xs) rs
drop-with_answers [] xs = refl
drop-with_answers (r ∷ rs) [] = refl
drop-with_answers (r ∷ rs) (x ∷ xs) = drop-with_answers rs xs

pub drop-with_answers_at : (k : ℕ) (rs : List ItemRecord) (xs : List DatagramRecord)
    → drop (k + length xs) (with_answers_at k rs xs) ≡ drop (k + length xs) rs
drop-with_answers_at zero rs xs = rw (zero-add (length xs)) (drop-with_answers rs xs)
drop-with_answers_at (suc k) [] xs = refl
drop-with_answers_at (suc k) (r ∷ rs) xs = rw (suc-add k (length xs)) (drop-with_answers_at k rs xs)

-- ---- one frame more

-- what is left of a work and a ring once the frames from an item on have travelled
pub record Finished : Type 0 where
  pub work : List ItemRecord
  pub line : List ControllerState

abbrev of_run : ℕ → List ItemRecord → TripsRun → Finished
of_run k items run = record { work = with_answers_at k items (concat run.joined); line = run.line }

pub finished : List Weather → Links → ℕ → ℕ → List ItemRecord → List ControllerState → Finished
finished ws links n k items line =
    of_run k items (trips_run (trips_of ws links n (cut (entries_from k (drop k items)))) line)

pub finished-next : (ws : List Weather) (links : Links) (n k : ℕ) (items : List ItemRecord)
    (line : List ControllerState) → k < length items
    → let t = trip_of (next_weather ws links) (frame_at k items) n in let p = passed t line in let joined =
    joined_of t p
    in length joined ≡ length (frame_at k items)
    → finished ws links n k items line
    ≡ finished (behind_next ws) links n (k + length joined) (with_answers_at k items joined) p.line
unfolding finished trips_run
finished-next ws links n k items line inside count =
    let f : List Entry = frame_at k items in
    let t : Trip = trip_of (next_weather ws links) f n in
    let p : Passed = passed t line in
    let joined : List DatagramRecord = joined_of t p in
    let m : ℕ = k + length f in
    let rest : TripsRun =
    trips_run (trips_of (behind_next ws) links n (cut (entries_from m (drop m items)))) p.line in
    ap (λ (fs : List (List Entry)). of_run k items (trips_run (trips_of ws links n fs) line))
    (cut-frame_at k items inside)
    ∙ ap (λ (ts : List Trip). of_run k items (trips_run ts line))
    (trips-next ws links n f (cut (entries_from m (drop m items))))
    ∙ ap (λ (rs : List ItemRecord). record { work = rs; line = rest.line })
    (with_answers_at-more k items joined (concat rest.joined))
    ∙ ap (λ (i : ℕ).
    of_run (k + length joined) (with_answers_at k items joined)
    (trips_run (trips_of (behind_next ws) links n (cut (entries_from i (drop i items)))) p.line))
    (ap (λ (i : ℕ). k + i) (sym count))
    ∙ ap (λ (rs : List ItemRecord). of_run (k + length joined) (with_answers_at k items joined)
    (trips_run (trips_of (behind_next ws) links n (cut (entries_from (k + length joined) rs))) p.line))
    (sym (drop-with_answers_at k items joined))

-- ---- sizes

-- as many datagrams, each with as many data
pub SameSizes : List DatagramRecord → List DatagramRecord → Type 0
SameSizes [] [] = Unit {0}
SameSizes (x ∷ xs) (y ∷ ys) = (length y.payload ≡ length x.payload) × SameSizes xs ys
SameSizes _ _ = ⊥

pub sizes_own : (s c : List DatagramRecord) → IsOwn s c → SameSizes s c
unfolding SameSizes
sizes_own [] [] own = tt
sizes_own [] (c ∷ cs) own = absurd (omega (arith, own.count))
sizes_own (s ∷ ss) [] own = absurd (omega (arith, own.count))
sizes_own (s ∷ ss) (c ∷ cs) own = (
  same_size s c (own.each 0 (omega arith)),
  sizes_own ss cs
      (record {
        count = omega (arith, own.count);
        each = λ k inside. own.each (suc k) (omega (arith, inside));
      }),
)

pub sizes_joined : (s a b : List DatagramRecord) → SameSizes s a → SameSizes s b
    → SameSizes s (joined_frame s a b)
unfolding SameSizes
sizes_joined [] a b one two = tt
sizes_joined (s ∷ ss) [] b one two = absurd one
sizes_joined (s ∷ ss) (x ∷ xs) [] one two = absurd two
sizes_joined (s ∷ ss) (x ∷ xs) (y ∷ ys) one two =
    (length-joined s.payload x.payload y.payload one.0 two.0, sizes_joined ss xs ys one.1 two.1)

pub sizes-count : (s c : List DatagramRecord) → SameSizes s c → length c ≡ length s
unfolding SameSizes
sizes-count [] [] same = refl
sizes-count [] (c ∷ cs) same = absurd same
sizes-count (s ∷ ss) [] same = absurd same
sizes-count (s ∷ ss) (c ∷ cs) same = ap suc (sizes-count ss cs same.1)

-- those of numbered items, as many as there are
sizes_entries : (es rest : List Entry) (k : ℕ) (rs : List ItemRecord) (c : List DatagramRecord) (j : ℕ)
    → es ++ rest ≡ entries_from k rs
    → SameSizes (sent_of es) c → j < length c → length (nth c j).payload ≡ length (nth_item rs j).payload
unfolding SameSizes entries_from
sizes_entries [] rest k rs [] j split same inside = absurd (omega (arith, inside))
sizes_entries [] rest k rs (d ∷ ds) j split same inside = absurd same
sizes_entries (e ∷ es) rest k rs [] j split same inside = absurd same
sizes_entries (e ∷ es) rest k [] (d ∷ ds) j split same inside = absurd (cc)
sizes_entries (e ∷ es) rest k (r ∷ rs) (d ∷ ds) zero split same inside =
    same.0 ∙ ap (λ (x : List Entry). length (first_or e x).sent.payload) split
sizes_entries (e ∷ es) rest k (r ∷ rs) (d ∷ ds) (suc j) split same inside =
    sizes_entries es rest (suc k) rs ds j (ap behind split) same.1 (omega (arith, inside))

pub sizes_items : (k : ℕ) (items : List ItemRecord) (c : List DatagramRecord) (j : ℕ) → k < length items
    → SameSizes (sent_of (frame_at k items)) c → j < length c
    → length (nth c j).payload ≡ length (nth_item items (k + j)).payload
sizes_items k items c j there same inside =
    let left = frame_at-rest k items there in
    sizes_entries (frame_at k items) left.0 k (drop k items) c j left.1 same inside
    ∙ ap (λ (r : ItemRecord). length r.payload) (get_or-drop k items j no_item)

-- ---- one frame

pub entries-not_circulating : (k : ℕ) (rs : List ItemRecord)
    → AllByRecursion (λ e. e.sent.circulating ≡ false) (entries_from k rs)
unfolding entries_from
entries-not_circulating k [] = tt
entries-not_circulating k (r ∷ rs) = (refl, entries-not_circulating (suc k) rs)

pub frame_ready : (k : ℕ) (items : List ItemRecord) (sent : List DatagramRecord) → k < length items
    → AllByRecursion IsItem items
    → sent ≡ sent_of (frame_at k items) → IsFrameOf (frame_at k items) sent
frame_ready k items sent there are same =
    let left = frame_at-rest k items there in
    let es : List Entry = frame_at k items in
    let W : Entry → Type 0 = λ e. OnWay e.request e.sent in
    let C : Entry → Type 0 = λ e. e.sent.circulating ≡ false in
    record {
      datagrams = same;
      way =
          each-front W es left.0 (subst (λ (l : List Entry). AllByRecursion W l) (sym left.1)
          (entries-on_way k (drop k items) (each-drop IsItem k items are)));
      not_circulating =
          each-front C es left.0
          (subst (λ (l : List Entry). AllByRecursion C l) (sym left.1) (entries-not_circulating k (drop k items)));
    }

-- what its answer has of it: the sizes
pub joined_sizes : (w : Weather) (es : List Entry) (sent : List DatagramRecord) (n : ℕ)
    (line : List ControllerState) → IsFrameOf es sent
    → let t = trip_of w es n in SameSizes (sent_of es) (joined_of t (passed t line))
joined_sizes w es sent n line frame =
    let t : Trip = trip_of w es n in
    let p : Passed = passed t line in
    let s : List DatagramRecord = sent_of es in
    let itself : SameSizes s s = sizes_own s s (own_itself s) in
    let a : SameSizes s p.a = sizes_own s p.a (own_a t line frame.way) in
    let b : SameSizes s p.b = sizes_own s p.b (own_b t line frame.way) in
    sizes_joined s _ _ (either (SameSizes s) t.lost_a s p.a itself a)
    (either (SameSizes s) t.lost_b s p.b itself b)

-- it reaches no further than the items
pub frame_inside : (k : ℕ) (items : List ItemRecord) → k < length items
    → k + length (frame_at k items) ≤ length items
frame_inside k items there =
    let left = frame_at-rest k items there in
    omega (
      arith,
      there,
      ap length left.1,
      length-append (frame_at k items) left.0,
      length-entries k (drop k items),
      length-drop k items,
    )

pub frame_some : (k : ℕ) (items : List ItemRecord) → k < length items → 1 ≤ length (frame_at k items)
frame_some k items there =
    let e : Entry = entry_of (nth_item items k) k in
    let es : List Entry = entries_from (suc k) (drop (suc k) items) in
    rw (entries-cons k items no_item there) (filled-some (e ∷ []) es (omega arith))

pub length-sent_of : (es : List Entry) → length (sent_of es) ≡ length es
length-sent_of [] = refl
length-sent_of (e ∷ es) = ap suc (length-sent_of es)

-- ---- the end and the start

-- nothing is left to travel
pub finished-none : (ws : List Weather) (links : Links) (n k : ℕ) (items : List ItemRecord)
    (line : List ControllerState) → length items ≤ k
    → finished ws links n k items line ≡ record { work = items; line = line }
unfolding finished trips_run trips_of cut entries_from
finished-none ws links n k items line past =
    ap (λ (rs : List ItemRecord).
    of_run k items (trips_run (trips_of ws links n (cut (entries_from k rs))) line)) (drop_all k items past)
    ∙ none ws
  where
    none : (us : List Weather) → of_run k items (trips_run (trips_of us links n []) line)
        ≡ record { work = items; line = line }
    none [] = ap (λ (rs : List ItemRecord). record { work = rs; line = line }) (with_answers_at-none k items)
    none (u ∷ us) =
        ap (λ (rs : List ItemRecord). record { work = rs; line = line }) (with_answers_at-none k items)

-- all is left: what a work and a ring come to under weathers
pub finished-all : (ws : List Weather) (r : RingState) (items : List ItemRecord)
    → finished ws r.links (length r.slaves) 0 items (line_of r)
    ≡ record { work = with_answers items (answers_under ws r items); line = (run_under ws r items).line }
unfolding finished
finished-all ws r items = refl

-- ---- the ring between frames

pub length-passed : (t : Trip) (line : List ControllerState) → length (passed t line).line ≡ length line
unfolding passed
length-passed t line =
    elim t.b_first as (λ b. length (cond b (passed_by_b_first t line) (passed_by_a_first t line)).line
    ≡ length line) [
      | true ↦ length-front_pass t.front (back_pass t.back line (sent_b t)).line (sent_of t.entries)
          ∙ length-back_pass t.back line (sent_b t)
      | false ↦ length-back_pass t.back (front_pass t.front line (sent_of t.entries)).line (sent_b t)
          ∙ length-front_pass t.front line (sent_of t.entries)
    ]

-- a ring that only has another line than it had at first, and has as many controllers
pub record IsLaterRing (at_first now : RingState) : Type 0 where
  pub line : now ≡ with_line at_first (line_of now)
  pub size : length (line_of now) ≡ length at_first.slaves

pub later_ring-start : (r : RingState) → IsLaterRing r r
later_ring-start r = record {
  line = ap (λ (ss : List SlaveState). record { slaves = ss; links = r.links })
      (sym (with_controllers-controllers r.slaves));
  size = length-controllers r.slaves;
}

-- the line behind one more trip
pub line-next : (now later : RingState) (t : Trip) → later ≡ with_line now (passed t (line_of now)).line
    → line_of later ≡ (passed t (line_of now)).line
line-next now later t is =
    line-between now later (passed t (line_of now)).line is (length-passed t (line_of now))

pub later_ring-next : (at_first now later : RingState) (t : Trip) → IsLaterRing at_first now
    → later ≡ with_line now (passed t (line_of now)).line
    → IsLaterRing at_first later
later_ring-next at_first now later t before is =
    let line : List ControllerState = (passed t (line_of now)).line in
    let size : length line ≡ length (line_of now) = length-passed t (line_of now) in
    let next : line_of later ≡ line = line-next now later t is in
    record {
      line = is ∙ with_line-between at_first now (line_of now) line before.line (sym size)
          ∙ ap (with_line at_first) (sym next);
      size = ap (λ (xs : List ControllerState). length xs) next ∙ size ∙ before.size;
    }
