-- What a good verdict promises of memories and of shown bytes, and what every verdict does: slaves by their
-- stations, and by their places.
use Rattle.std.proofs.Common.{◌≡◌, ℕ, zero, suc, ◌+◌, ◌<◌, ◌≤◌, Bool, true, false, cond, eqb, ltb, leb, ◌||◌}
use Rattle.std.proofs.Common.{List, [], ◌∷◌, ◌++◌, length, get_or, Option, None, Some}
use Rattle.std.proofs.Common.{sym, subst, ◌∙◌, ap, refl, arith}
use Rattle.std.specs.List.{AllByRecursion, slice_get}
use Rattle.std.specs.Option.{option_map}
use Rattle.std.proofs.Math.Bool.{or-true}
use Rattle.std.proofs.lemmas.Bool.Decides.{nat_tests}
use Rattle.std.proofs.lemmas.Option.{slice_get-map}
use Rattle.ec_regs.specs.declared.registers.TheConstants.{STATION_ADDRESS, PROCESS_MEMORY}
use Rattle.ec_regs.specs.declared.registers.TheConstants.{PROCESS_MEMORY_SIZE}
use Rattle.ec_regs.proofs.Laws.{each-map}
use Rattle.ec_esc.specs.State.{ControllerState, IsController, word_at}
use Rattle.ec_app.specs.Lending.{with_controller}
use Rattle.ec_app.specs.State.{SlaveState, ApplicationState}
use Rattle.ec_line.specs.After.{Entry, after_frame}
use Rattle.ec_line.specs.Memory.{SameMemories, reached_after}
use Rattle.ec_line.specs.Run.{AnsweredTrips, after_trips, reached_trips}
use Rattle.ec_line.specs.Shown.{ShowsLast, ShowsLastInRun, NoAreaTwice, SameShownWhere}
use Rattle.ec_line.specs.Trip.{Trip}
use Rattle.ec_line.specs.Steady.{IsLater}
use Rattle.ec_line.proofs.Laws.{trips_steady, good_counters_answered, good_counters_memories}
use Rattle.ec_line.proofs.Laws.{reached_memories, no_area_twice, good_counters_shown, station_lasts}
use Rattle.ec_check.specs.Line.{controllers}
use Rattle.ec_check.proofs.Laws.{IsFitLine-fit}
use Rattle.ec_map.specs.Item.{ItemRecord, IsItem}
use Rattle.ec_ring.specs.Ring.{RingState, line_of, with_controllers}
use Rattle.ec_ring.specs.declared.weather.Weather.{Weather}
use Rattle.ec_master.specs.Certificate.{verdict_under, memory_at, application_at, shown_at, entries_at}
use Rattle.ec_master.specs.Cut.{frames_of}
use Rattle.ec_master.specs.Travelled.{trips_under, run_under, answers_under, ring_under}
use Rattle.ec_master.specs.Unordered.{station, by_station, slaves_after_all, AreAnswers, IsAccepted}
use Rattle.ec_master.specs.Work.{with_answers}
use Rattle.ec_master.specs.declared.verdict.Verdict.TheVariants.{Good}
use Rattle.ec_master.proofs.AnswerLemmas.{answers_of_trips}
use Rattle.ec_master.proofs.SlaveLemmas.{after_frame-append, each-trip, trips_ready, accepts_items}
use Rattle.ec_master.proofs.SlaveLemmas.{takes_items, by_station-after_trips}
use Rattle.ec_master.proofs.VerdictLemmas.{entries_under, line_room, good_counts}

-- ---- slaves by their stations

-- the same memories
memories-by_station : (ys : List SlaveState) (cs ds : List ControllerState) (n : ℕ) → SameMemories cs ds
    → memory_at (by_station (with_controllers ys cs)) n ≡ memory_at (by_station (with_controllers ys ds)) n
unfolding by_station station
memories-by_station [] cs ds n same = refl
memories-by_station (y ∷ ys) [] [] n same = refl
memories-by_station (y ∷ ys) [] (d ∷ ds) n same = absurd same
memories-by_station (y ∷ ys) (c ∷ cs) [] n same = absurd same
memories-by_station (y ∷ ys) (c ∷ cs) (d ∷ ds) n same =
    let M : SlaveState → List ℕ = λ s. s.controller.memory in
    let one : Option SlaveState = by_station (with_controllers ys cs) n in
    let two : Option SlaveState = by_station (with_controllers ys ds) n in
    let P : Bool → Type 0 =
    λ b. option_map M (cond b (Some (with_controller y c)) one)
    ≡ option_map M (cond b (Some (with_controller y d)) two) in
    ap (λ (m : List ℕ).
    option_map M (cond (eqb (word_at m STATION_ADDRESS) n) (Some (with_controller y c)) one)) same.0
    ∙ elim (eqb (word_at d.memory STATION_ADDRESS) n) as P [
      | true ↦ ap (λ (m : List ℕ). Some m) same.0
      | false ↦ memories-by_station ys cs ds n same.1
    ]

-- applications are as they were
applications-by_station : (ys : List SlaveState) (cs : List ControllerState) (n : ℕ)
    → AllByRecursion IsController (controllers ys) → IsLater (controllers ys) cs
    → application_at (by_station (with_controllers ys cs)) n ≡ application_at (by_station ys) n
unfolding by_station station
applications-by_station [] cs n are later = refl
applications-by_station (y ∷ ys) [] n are later = absurd later
applications-by_station (y ∷ ys) (c ∷ cs) n are later =
    let A : SlaveState → ApplicationState = λ s. s.application in
    let one : Option SlaveState = by_station (with_controllers ys cs) n in
    let P : Bool → Type 0 =
    λ b. option_map A (cond b (Some (with_controller y c)) one)
    ≡ option_map A (cond b (Some y) (by_station ys n)) in
    ap (λ (m : ℕ). option_map A (cond (eqb m n) (Some (with_controller y c)) one))
    (station_lasts y.controller c are.0 later.0.0)
    ∙ elim (eqb (word_at y.controller.memory STATION_ADDRESS) n) as P [
      | true ↦ refl
      | false ↦ applications-by_station ys cs n are.1 later.1
    ]

-- the same shown byte, of a slave where a condition holds
shown-by_station : (C : ControllerState → Type 0) (k : ℕ) (ys : List SlaveState)
    (cs ds : List ControllerState)
    (n : ℕ) (s : SlaveState) → AllByRecursion IsController (controllers ys) → IsLater (controllers ys) cs
    → SameMemories cs ds → SameShownWhere C k (controllers ys) cs ds → by_station ys n ≡ Some s
    → C s.controller
    → shown_at (by_station (with_controllers ys cs)) k n ≡ shown_at (by_station (with_controllers ys ds)) k n
unfolding by_station station
shown-by_station C k [] cs ds n s are later same shown there holds = refl
shown-by_station C k (y ∷ ys) [] ds n s are later same shown there holds = absurd later
shown-by_station C k (y ∷ ys) (c ∷ cs) [] n s are later same shown there holds = absurd same
shown-by_station C k (y ∷ ys) (c ∷ cs) (d ∷ ds) n s are later same shown there holds =
    let K : SlaveState → ℕ = λ t. get_or t.controller.shown k 0 in
    let one : Option SlaveState = by_station (with_controllers ys cs) n in
    let two : Option SlaveState = by_station (with_controllers ys ds) n in
    let first : word_at c.memory STATION_ADDRESS ≡ word_at y.controller.memory STATION_ADDRESS =
    station_lasts y.controller c are.0 later.0.0 in
    let second : word_at d.memory STATION_ADDRESS ≡ word_at y.controller.memory STATION_ADDRESS =
    ap (λ (m : List ℕ). word_at m STATION_ADDRESS) (sym same.0) ∙ first in
    let P : Bool → Type 0 =
    λ b. cond b (Some y) (by_station ys n) ≡ Some s
    → option_map K (cond b (Some (with_controller y c)) one)
    ≡ option_map K (cond b (Some (with_controller y d)) two) in
    let middle =
    elim (eqb (word_at y.controller.memory STATION_ADDRESS) n) as P [
      | true ↦ λ here.
          let is : s ≡ y = cc in
          ap (λ (v : ℕ). Some v) (shown.0 (subst (λ (t : SlaveState). C t.controller) is holds))
      | false ↦ λ behind. shown-by_station C k ys cs ds n s are.1 later.1 same.1 shown.1 behind holds
    ] there in
    ap (λ (m : ℕ). option_map K (cond (eqb m n) (Some (with_controller y c)) one)) first
    ∙ middle
    ∙ ap (λ (m : ℕ). option_map K (cond (eqb m n) (Some (with_controller y d)) two)) (sym second)

-- ---- in any weather

-- the line after a run is a later one
pub run_later : (ws : List Weather) (r : RingState) (items : List ItemRecord) → IsAccepted r.slaves items
    → AllByRecursion IsItem items → IsLater (line_of r) (run_under ws r items).line
run_later ws r items accepted are_items =
    let line : List ControllerState = line_of r in
    let ready = trips_ready ws r items accepted are_items in
    trips_steady (trips_under ws r items) line ready

pub applications_kept : (ws : List Weather) (r : RingState) (items : List ItemRecord) (n : ℕ)
    → IsAccepted r.slaves items → AllByRecursion IsItem items
    → application_at (by_station (ring_under ws r items).slaves) n ≡ application_at (by_station r.slaves) n
applications_kept ws r items n accepted are_items =
    applications-by_station r.slaves (run_under ws r items).line n accepted.are
    (run_later ws r items accepted are_items)

-- ---- a good verdict

-- the answers are those of the whole line, and memories are as if each slave had been passed once
pub good_cycle : (ws : List Weather) (r : RingState) (items : List ItemRecord) → length r.slaves ≤ 256
    → IsAccepted r.slaves items → AllByRecursion IsItem items → verdict_under ws r items ≡ Good
    → AnsweredTrips (trips_under ws r items) (λ t. line_of r) (run_under ws r items).joined
    × SameMemories (run_under ws r items).line (after_trips (trips_under ws r items) (line_of r))
good_cycle ws r items room accepted are_items good =
    let line : List ControllerState = line_of r in
    let ready = trips_ready ws r items accepted are_items in
    let ts : List Trip = trips_under ws r items in
    let counts = good_counts ws r items room accepted are_items good in (
      good_counters_answered ts line (line_room r room) ready counts,
      good_counters_memories ts line (line_room r room) ready counts,
    )

-- the answers are those of the unordered cycle
pub good_answers : (ws : List Weather) (r : RingState) (items : List ItemRecord) → length r.slaves ≤ 256
    → IsAccepted r.slaves items → AllByRecursion IsItem items → verdict_under ws r items ≡ Good
    → AreAnswers (by_station r.slaves) items (with_answers items (answers_under ws r items))
good_answers ws r items room accepted are_items good =
    let line : List ControllerState = line_of r in
    answers_of_trips (trips_under ws r items) r.slaves items (run_under ws r items).joined
    (IsFitLine-fit line accepted.are accepted.fit)
    (accepts_items line items accepted.fit accepted.placed are_items) are_items (entries_under ws r items)
    (good_cycle ws r items room accepted are_items good).0

-- and each memory is that of its slaves later
pub good_memories : (ws : List Weather) (r : RingState) (items : List ItemRecord) (n : ℕ)
    → length r.slaves ≤ 256
    → IsAccepted r.slaves items → AllByRecursion IsItem items → verdict_under ws r items ≡ Good
    → memory_at (by_station (ring_under ws r items).slaves) n
    ≡ memory_at (slaves_after_all items (by_station r.slaves)) n
good_memories ws r items n room accepted are_items good =
    let ts : List Trip = trips_under ws r items in
    let M : SlaveState → List ℕ = λ s. s.controller.memory in
    memories-by_station r.slaves (run_under ws r items).line (after_trips ts (line_of r)) n
    (good_cycle ws r items room accepted are_items good).1
    ∙ ap (λ (o : Option SlaveState). option_map M o)
    (by_station-after_trips ts items r.slaves n (entries_under ws r items)
    (takes_items r.slaves items accepted are_items))

-- a byte is shown so, where in each frame the last item that shows it is the last that writes it
pub good_shows : (ws : List Weather) (r : RingState) (items : List ItemRecord) (n k : ℕ) (s : SlaveState)
    → length r.slaves ≤ 256 → IsAccepted r.slaves items → AllByRecursion IsItem items
    → verdict_under ws r items ≡ Good → k < PROCESS_MEMORY_SIZE → by_station r.slaves n ≡ Some s
    → AllByRecursion (ShowsLast s.controller (PROCESS_MEMORY + k)) (frames_of items)
    → shown_at (by_station (ring_under ws r items).slaves) k n
    ≡ shown_at (slaves_after_all items (by_station r.slaves)) k n
good_shows ws r items n k s room accepted are_items good inside there last =
    let line : List ControllerState = line_of r in
    let ts : List Trip = trips_under ws r items in
    let ready = trips_ready ws r items accepted are_items in
    let C : ControllerState → Type 0 = ShowsLastInRun ts (PROCESS_MEMORY + k) in
    let K : SlaveState → ℕ = λ t. get_or t.controller.shown k 0 in
    let shown : SameShownWhere C k line (run_under ws r items).line (after_trips ts line) =
    good_counters_shown ts line k (line_room r room) ready
    (good_counts ws r items room accepted are_items good) inside in
    shown-by_station C k r.slaves (run_under ws r items).line (after_trips ts line) n s accepted.are
    (run_later ws r items accepted are_items) (good_cycle ws r items room accepted are_items good).1 shown
    there
    (each-trip (λ f. ShowsLast s.controller (PROCESS_MEMORY + k) f) ws r.links (length r.slaves)
    (frames_of items) last)
    ∙ ap (λ (o : Option SlaveState). option_map K o)
    (by_station-after_trips ts items r.slaves n (entries_under ws r items)
    (takes_items r.slaves items accepted are_items))

-- which is so where no two items of a frame write into one area of outputs
pub shows-last-apart : (x : ControllerState) (address : ℕ) (fs : List (List Entry))
    → AllByRecursion (NoAreaTwice x) fs → AllByRecursion (ShowsLast x address) fs
shows-last-apart x address fs apart =
    each-map (NoAreaTwice x) (ShowsLast x address) fs (λ f one. no_area_twice x address f one) apart

-- ---- slaves by their places

test-zero : (k : ℕ) → (ltb k 0 || leb 0 k) ≡ true
test-zero k = let e : leb 0 k ≡ true = grind (arith, nat_tests) in rw e (or-true (ltb k 0))

test-front : (p q : ℕ) → (ltb 0 (suc p) || leb q 0) ≡ true
test-front p q = let e : ltb 0 (suc p) ≡ true = grind (arith, nat_tests) in rw e refl

test-behind : (q : ℕ) → (ltb 0 0 || leb (suc q) 0) ≡ false
test-behind q = let e : leb (suc q) 0 ≡ false = grind (arith, nat_tests) in rw e refl

test-none : (q k : ℕ) → (ltb (suc k) 0 || leb (suc q) (suc k)) ≡ (ltb k 0 || leb q k)
test-none q k =
    let one : ltb (suc k) 0 ≡ ltb k 0 = grind (arith, nat_tests) in
    let two : leb (suc q) (suc k) ≡ leb q k = grind (arith, nat_tests) in
    rw (one, two) refl

test-suc : (p q k : ℕ) → (ltb (suc k) (suc p) || leb (suc q) (suc k)) ≡ (ltb k p || leb q k)
test-suc p q k =
    let one : ltb (suc k) (suc p) ≡ ltb k p = grind (arith, nat_tests) in
    let two : leb (suc q) (suc k) ≡ leb q k = grind (arith, nat_tests) in
    rw (one, two) refl

test-back : (p k : ℕ) → (ltb k p || leb 0 k) ≡ true
test-back p k = let e : leb 0 k ≡ true = grind (arith, nat_tests) in rw e (or-true (ltb k p))

-- a member is changed where it lies in one of the pieces
change : {S : Type 0} → (S → S) → Bool → S → S
change f b x = cond b (f x) x

get-reached : {S : Type 0} (f : S → S) (p q k : ℕ) (xs : List S)
    → slice_get (reached_after f p q xs) k ≡ option_map (change f (ltb k p || leb q k)) (slice_get xs k)
unfolding change
get-reached f p q k [] = refl
get-reached {S} f zero zero zero (x ∷ xs) =
    ap (λ (b : Bool). Some (cond b (f x) x)) (sym (test-zero 0))
get-reached {S} f zero zero (suc k) (x ∷ xs) =
    get-reached f zero zero k xs
    ∙ ap (λ (b : Bool). option_map (change f b) (slice_get xs k)) (test-zero k ∙ sym (test-zero (suc k)))
get-reached {S} f zero (suc q) zero (x ∷ xs) = ap (λ (b : Bool). Some (cond b (f x) x)) (sym (test-behind q))
get-reached {S} f zero (suc q) (suc k) (x ∷ xs) =
    get-reached f zero q k xs
    ∙ ap (λ (b : Bool). option_map (change f b) (slice_get xs k)) (sym (test-none q k))
get-reached {S} f (suc p) zero zero (x ∷ xs) = ap (λ (b : Bool). Some (cond b (f x) x)) (sym (test-front p 0))
get-reached {S} f (suc p) zero (suc k) (x ∷ xs) =
    get-reached f p zero k xs
    ∙ ap (λ (b : Bool). option_map (change f b) (slice_get xs k))
    (test-back p k ∙ sym (test-back (suc p) (suc k)))
get-reached {S} f (suc p) (suc q) zero (x ∷ xs) =
    ap (λ (b : Bool). Some (cond b (f x) x)) (sym (test-front p (suc q)))
get-reached {S} f (suc p) (suc q) (suc k) (x ∷ xs) =
    get-reached f p q k xs
    ∙ ap (λ (b : Bool). option_map (change f b) (slice_get xs k)) (sym (test-suc p q k))

-- the controller at a place after those trips that reached it
after-none : (o : Option ControllerState) → o ≡ option_map (after_frame []) o
unfolding after_frame
after-none None = refl
after-none (Some c) = refl

after-more : (es rest : List Entry) (b : Bool) (o : Option ControllerState)
    → option_map (after_frame rest) (option_map (change (after_frame es) b) o)
    ≡ option_map (after_frame (cond b es [] ++ rest)) o
unfolding change
after-more es rest b None = refl
after-more es rest true (Some c) = ap (λ (d : ControllerState). Some d) (sym (after_frame-append es rest c))
after-more es rest false (Some c) = refl

reached-at : (ts : List Trip) (line : List ControllerState) (k : ℕ)
    → slice_get (reached_trips ts line) k ≡ option_map (after_frame (entries_at ts k)) (slice_get line k)
unfolding entries_at
reached-at [] line k = after-none (slice_get line k)
reached-at (t ∷ ts) line k =
    let b : Bool = ltb k t.front || leb t.back k in
    reached-at ts (reached_after (after_frame t.entries) t.front t.back line) k
    ∙ ap (λ (o : Option ControllerState). option_map (after_frame (entries_at ts k)) o)
    (get-reached (after_frame t.entries) t.front t.back k line)
    ∙ after-more t.entries (entries_at ts k) b (slice_get line k)

memories-at : (ys : List SlaveState) (cs ds : List ControllerState) (k : ℕ) → IsLater (controllers ys) cs
    → SameMemories cs ds
    → option_map (λ (s : SlaveState). s.controller.memory) (slice_get (with_controllers ys cs) k)
    ≡ option_map (λ (c : ControllerState). c.memory) (slice_get ds k)
memories-at [] [] [] k later same = refl
memories-at [] [] (d ∷ ds) k later same = absurd same
memories-at [] (c ∷ cs) ds k later same = absurd later
memories-at (y ∷ ys) [] ds k later same = absurd later
memories-at (y ∷ ys) (c ∷ cs) [] k later same = absurd same
memories-at (y ∷ ys) (c ∷ cs) (d ∷ ds) zero later same = ap (λ (m : List ℕ). Some m) same.0
memories-at (y ∷ ys) (c ∷ cs) (d ∷ ds) (suc k) later same = memories-at ys cs ds k later.1 same.1

-- on every verdict a slave's memory is that after the items of the frames of which a copy reached it
pub reached_memory : (ws : List Weather) (r : RingState) (items : List ItemRecord) (k : ℕ) (s : SlaveState)
    → IsAccepted r.slaves items → AllByRecursion IsItem items → slice_get r.slaves k ≡ Some s
    → option_map (λ (t : SlaveState). t.controller.memory) (slice_get (ring_under ws r items).slaves k)
    ≡ Some (after_frame (entries_at (trips_under ws r items) k) s.controller).memory
reached_memory ws r items k s accepted are_items there =
    let line : List ControllerState = line_of r in
    let ts : List Trip = trips_under ws r items in
    let ready = trips_ready ws r items accepted are_items in
    let M : Option ControllerState → Option (List ℕ) =
    λ o. option_map (λ (c : ControllerState). c.memory) o in
    memories-at r.slaves (run_under ws r items).line (reached_trips ts line) k
    (run_later ws r items accepted are_items)
    (reached_memories ts line ready)
    ∙ ap M (reached-at ts line k)
    ∙ ap (λ (o : Option ControllerState). M (option_map (after_frame (entries_at ts k)) o))
    (slice_get-map (λ (t : SlaveState). t.controller) r.slaves k)
    ∙ ap (λ (o : Option SlaveState).
    M (option_map (after_frame (entries_at ts k)) (option_map (λ (t : SlaveState). t.controller) o))) there
