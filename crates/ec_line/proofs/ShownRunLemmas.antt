-- Shown bytes through whole runs of trips whose counters are good.
use Rattle.std.proofs.Common.{ℕ, zero, suc, ◌+◌, ◌<◌, ◌≤◌, true, false, cond, List, [], ◌∷◌}
use Rattle.std.proofs.Common.{length, map, sym, subst, ◌∙◌, refl, arith}
use Rattle.std.specs.List.{AllByRecursion}
use Rattle.ec_regs.specs.declared.registers.TheConstants.{PROCESS_MEMORY, PROCESS_MEMORY_SIZE}
use Rattle.ec_esc.specs.State.{ControllerState}
use Rattle.ec_line.specs.Accepted.{AcceptsAll}
use Rattle.ec_line.specs.After.{Entry, after_frame}
use Rattle.ec_line.specs.Fit.{IsFitAlone}
use Rattle.ec_line.specs.Memory.{SameMemories, reached_after}
use Rattle.ec_line.specs.Run.{trips_run, TripsReady, CountsWholeAll, after_trips}
use Rattle.ec_line.specs.Shown.{ShowsLast, ShowsLastInRun, SameShownWhere}
use Rattle.ec_line.specs.Trip.{Trip, passed, front_after, back_after, visited}
use Rattle.ec_line.proofs.CertificateLemmas.{MOST, good_trip, good_reached, memories-after}
use Rattle.ec_line.proofs.CoreLemmas.{IsReady, core, later-map}
use Rattle.ec_line.specs.Steady.{IsLater}
use Rattle.ec_line.proofs.RunLemmas.{first_ready, rest_ready}
use Rattle.ec_line.proofs.ShownLemmas.{shown_twice, shown_same}

-- ---- the relation

pub shown-refl : (C : ControllerState → Type 0) (k : ℕ) (xs ys : List ControllerState) → IsLater xs ys
    → SameShownWhere C k xs ys ys
shown-refl C k [] [] later = tt
shown-refl C k [] (y ∷ ys) later = absurd later
shown-refl C k (x ∷ xs) [] later = absurd later
shown-refl C k (x ∷ xs) (y ∷ ys) later = (λ c. refl, shown-refl C k xs ys later.1)

shown-trans : (C : ControllerState → Type 0) (k : ℕ) (xs ys zs ws : List ControllerState)
    → SameShownWhere C k xs ys zs
    → SameShownWhere C k xs zs ws → SameShownWhere C k xs ys ws
shown-trans C k [] [] [] [] one two = tt
shown-trans C k [] [] [] (w ∷ ws) one two = absurd two
shown-trans C k [] [] (z ∷ zs) ws one two = absurd one
shown-trans C k [] (y ∷ ys) zs ws one two = absurd one
shown-trans C k (x ∷ xs) [] zs ws one two = absurd one
shown-trans C k (x ∷ xs) (y ∷ ys) [] ws one two = absurd one
shown-trans C k (x ∷ xs) (y ∷ ys) (z ∷ zs) [] one two = absurd two
shown-trans C k (x ∷ xs) (y ∷ ys) (z ∷ zs) (w ∷ ws) one two =
    (λ c. one.0 c ∙ two.0 c, shown-trans C k xs ys zs ws one.1 two.1)

-- ---- one trip

-- each member that a copy reached shows what one pass shows
shown_a_first : (C : ControllerState → Type 0) (k : ℕ) (es : List Entry) (xs ys : List ControllerState)
    (p q : ℕ)
    → ((x : ControllerState) → C x → ShowsLast x (PROCESS_MEMORY + k) es) → k < PROCESS_MEMORY_SIZE
    → AllByRecursion IsFitAlone xs → AllByRecursion (AcceptsAll es) xs → IsLater xs ys
    → SameShownWhere C k xs (back_after (after_frame es) q (front_after (after_frame es) p ys))
    (reached_after (after_frame es) p q ys)
shown_a_first C k es [] [] zero zero last inside fit accepts later = tt
shown_a_first C k es [] [] zero (suc q) last inside fit accepts later = tt
shown_a_first C k es [] [] (suc p) zero last inside fit accepts later = tt
shown_a_first C k es [] [] (suc p) (suc q) last inside fit accepts later = tt
shown_a_first C k es [] (y ∷ ys) p q last inside fit accepts later = absurd later
shown_a_first C k es (x ∷ xs) [] p q last inside fit accepts later = absurd later
shown_a_first C k es (x ∷ xs) (y ∷ ys) zero zero last inside fit accepts later =
    (λ c. refl, shown_a_first C k es xs ys zero zero last inside fit.1 accepts.1 later.1)
shown_a_first C k es (x ∷ xs) (y ∷ ys) zero (suc q) last inside fit accepts later =
    (λ c. refl, shown_a_first C k es xs ys zero q last inside fit.1 accepts.1 later.1)
shown_a_first C k es (x ∷ xs) (y ∷ ys) (suc p) zero last inside fit accepts later =
    let size = later.0.1.shown_size in (
      λ c. shown_twice es x y k fit.0.controller later.0.1 later.0.0 accepts.0 (omega arith) (last x c),
      shown_a_first C k es xs ys p zero last inside fit.1 accepts.1 later.1,
    )
shown_a_first C k es (x ∷ xs) (y ∷ ys) (suc p) (suc q) last inside fit accepts later =
    (λ c. refl, shown_a_first C k es xs ys p q last inside fit.1 accepts.1 later.1)

shown_b_first : (C : ControllerState → Type 0) (k : ℕ) (es : List Entry) (xs ys : List ControllerState)
    (p q : ℕ)
    → ((x : ControllerState) → C x → ShowsLast x (PROCESS_MEMORY + k) es) → k < PROCESS_MEMORY_SIZE
    → AllByRecursion IsFitAlone xs → AllByRecursion (AcceptsAll es) xs → IsLater xs ys
    → SameShownWhere C k xs (front_after (after_frame es) p (back_after (after_frame es) q ys))
    (reached_after (after_frame es) p q ys)
shown_b_first C k es [] [] zero zero last inside fit accepts later = tt
shown_b_first C k es [] [] zero (suc q) last inside fit accepts later = tt
shown_b_first C k es [] [] (suc p) zero last inside fit accepts later = tt
shown_b_first C k es [] [] (suc p) (suc q) last inside fit accepts later = tt
shown_b_first C k es [] (y ∷ ys) p q last inside fit accepts later = absurd later
shown_b_first C k es (x ∷ xs) [] p q last inside fit accepts later = absurd later
shown_b_first C k es (x ∷ xs) (y ∷ ys) zero zero last inside fit accepts later =
    (λ c. refl, shown_b_first C k es xs ys zero zero last inside fit.1 accepts.1 later.1)
shown_b_first C k es (x ∷ xs) (y ∷ ys) zero (suc q) last inside fit accepts later =
    (λ c. refl, shown_b_first C k es xs ys zero q last inside fit.1 accepts.1 later.1)
shown_b_first C k es (x ∷ xs) (y ∷ ys) (suc p) zero last inside fit accepts later =
    let size = later.0.1.shown_size in (
      λ c. shown_twice es x y k fit.0.controller later.0.1 later.0.0 accepts.0 (omega arith) (last x c),
      shown_b_first C k es xs ys p zero last inside fit.1 accepts.1 later.1,
    )
shown_b_first C k es (x ∷ xs) (y ∷ ys) (suc p) (suc q) last inside fit accepts later =
    (λ c. refl, shown_b_first C k es xs ys p q last inside fit.1 accepts.1 later.1)

shown_visited : (C : ControllerState → Type 0) (k : ℕ) (t : Trip) (xs ys : List ControllerState)
    → ((x : ControllerState) → C x → ShowsLast x (PROCESS_MEMORY + k) t.entries) → k < PROCESS_MEMORY_SIZE
    → IsReady t.entries xs ys
    → SameShownWhere C k xs (visited t ys) (reached_after (after_frame t.entries) t.front t.back ys)
shown_visited C k t xs ys last inside ready =
    let es = t.entries in
    let leave = after_frame es in
    let target = reached_after leave t.front t.back ys in
    elim t.b_first as
    (λ b. SameShownWhere C k xs
    (cond b (front_after leave t.front (back_after leave t.back ys))
    (back_after leave t.back (front_after leave t.front ys))) target) [
      | true ↦ shown_b_first C k es xs ys t.front t.back last inside ready.fit.alone ready.accepts ready.later
      | false ↦ shown_a_first C k es xs ys t.front t.back last inside ready.fit.alone ready.accepts
          ready.later
    ]

-- lines of the same memories that show the same do so behind a frame
shown_map : (C : ControllerState → Type 0) (k : ℕ) (es : List Entry) (xs ys zs : List ControllerState)
    → ((x : ControllerState) → C x → ShowsLast x (PROCESS_MEMORY + k) es) → k < PROCESS_MEMORY_SIZE
    → AllByRecursion IsFitAlone xs → AllByRecursion (AcceptsAll es) xs → IsLater xs ys → IsLater xs zs
    → SameMemories ys zs
    → SameShownWhere C k xs ys zs → SameShownWhere C k xs (map (after_frame es) ys) (map (after_frame es) zs)
shown_map C k es [] [] [] last inside fit accepts one two memories shown = tt
shown_map C k es [] [] (z ∷ zs) last inside fit accepts one two memories shown = absurd two
shown_map C k es [] (y ∷ ys) zs last inside fit accepts one two memories shown = absurd one
shown_map C k es (x ∷ xs) [] zs last inside fit accepts one two memories shown = absurd one
shown_map C k es (x ∷ xs) (y ∷ ys) [] last inside fit accepts one two memories shown = absurd two
shown_map C k es (x ∷ xs) (y ∷ ys) (z ∷ zs) last inside fit accepts one two memories shown =
    let size = one.0.1.shown_size in (
      λ c. shown_same es x y z k fit.0.controller one.0.1 two.0.1 one.0.0 two.0.0 accepts.0 (omega arith)
          (last x c) memories.0 (shown.0 c),
      shown_map C k es xs ys zs last inside fit.1 accepts.1 one.1 two.1 memories.1 shown.1,
    )

-- ---- a run

shown_after_trips : (C : ControllerState → Type 0) (k : ℕ) (ts : List Trip) (xs ys zs : List ControllerState)
    → ((x : ControllerState) → C x → ShowsLastInRun ts (PROCESS_MEMORY + k) x) → k < PROCESS_MEMORY_SIZE
    → TripsReady ts xs
    → IsLater xs ys → IsLater xs zs → SameMemories ys zs → SameShownWhere C k xs ys zs
    → SameShownWhere C k xs (after_trips ts ys) (after_trips ts zs)
shown_after_trips C k [] xs ys zs last inside ready one two memories shown = shown
shown_after_trips C k (t ∷ ts) xs ys zs last inside ready one two memories shown =
    let es = t.entries in
    shown_after_trips C k ts xs (map (after_frame es) ys) (map (after_frame es) zs) (λ x c. (last x c).1)
    inside (rest_ready t ts xs ready)
    (later-map es xs ys ready.fit.alone ready.accepts.0 one)
    (later-map es xs zs ready.fit.alone ready.accepts.0 two)
    (memories-after es xs ys zs ready.fit.alone ready.accepts.0 one two memories)
    (shown_map C k es xs ys zs (λ x c. (last x c).0) inside ready.fit.alone ready.accepts.0 one two memories
    shown)

-- counters that have moved as the whole line counts: what is shown of a byte is what one pass each shows,
-- where in each frame the last entry that shows it is the last that writes it
pub good_shown : (C : ControllerState → Type 0) (k : ℕ) (ts : List Trip) (xs ys : List ControllerState)
    → length xs ≤ MOST
    → ((x : ControllerState) → C x → ShowsLastInRun ts (PROCESS_MEMORY + k) x) → k < PROCESS_MEMORY_SIZE
    → TripsReady ts xs → IsLater xs ys
    → CountsWholeAll ts xs (trips_run ts ys).joined
    → SameShownWhere C k xs (trips_run ts ys).line (after_trips ts ys)
unfolding trips_run
good_shown C k [] xs ys room last inside ready later good = shown-refl C k xs ys later
good_shown C k (t ∷ ts) xs ys room last inside ready later good =
    let es = t.entries in
    let is_ready = first_ready t ts xs ys ready later in
    let done = core t xs ys is_ready in
    let line : List ControllerState = (passed t ys).line in
    let once : List ControllerState = map (after_frame es) ys in
    let first = good_trip t xs ys room is_ready good.0 in
    let visited_shown : SameShownWhere C k xs (visited t ys) once =
    subst (λ (l : List ControllerState). SameShownWhere C k xs (visited t ys) l)
    (good_reached t xs ys room is_ready good.0)
    (shown_visited C k t xs ys (λ x c. (last x c).0) inside is_ready) in
    let shown : SameShownWhere C k xs line once =
    subst (λ (l : List ControllerState). SameShownWhere C k xs l once) (sym done.1) visited_shown in
    let rest : SameShownWhere C k xs (trips_run ts line).line (after_trips ts line) =
    good_shown C k ts xs line room (λ x c. (last x c).1) inside (rest_ready t ts xs ready) done.2 good.1 in
    shown-trans C k xs (trips_run ts line).line (after_trips ts line) (after_trips ts once) rest
    (shown_after_trips C k ts xs line once (λ x c. (last x c).1) inside (rest_ready t ts xs ready) done.2
    (later-map es xs ys ready.fit.alone ready.accepts.0 later) first.1 shown)
