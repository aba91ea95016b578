-- The laws of whole runs of trips over a fit line.
use Rattle.std.proofs.Common.{◌≡◌, ℕ, zero, suc, ◌≤◌, List, [], ◌∷◌, length, map, sym, subst, ◌∙◌}
use Rattle.std.proofs.Common.{ap, refl}
use Rattle.std.specs.List.{AllByRecursion}
use Rattle.ec_esc.specs.State.{ControllerState}
use Rattle.ec_line.specs.Accepted.{AcceptsAll}
use Rattle.ec_line.specs.After.{Entry, after_frame}
use Rattle.ec_line.specs.Fit.{IsFitAlone}
use Rattle.ec_line.specs.Memory.{SameMemories, reached_after}
use Rattle.ec_line.specs.Run.{trips_run, TripsReady, AnsweredTrips, CountsWholeAll, after_trips}
use Rattle.ec_line.specs.Run.{reached_trips, visited_trips, IsWholeTrip}
use Rattle.ec_line.specs.Trip.{Trip, passed, returned}
use Rattle.ec_line.proofs.CertificateLemmas.{MOST, good_trip, whole_trip, visited_reached, memories-refl}
use Rattle.ec_line.proofs.CertificateLemmas.{memories-trans, memories-after}
use Rattle.ec_line.proofs.CoreLemmas.{IsReady, core, later-map}
use Rattle.ec_line.specs.Steady.{IsLater}
use Rattle.ec_line.proofs.JoinLemmas.{IsEntry}
use Rattle.ec_line.proofs.MemoryLemmas.{same_memory_after}

-- ---- the first trip and the rest

pub first_ready : (t : Trip) (ts : List Trip) (xs ys : List ControllerState) → TripsReady (t ∷ ts) xs
    → IsLater xs ys → IsReady t.entries xs ys
unfolding IsEntry
first_ready t ts xs ys ready later =
    record { fit = ready.fit; accepts = ready.accepts.0; entries = ready.entries.0; later = later }

pub rest_ready : (t : Trip) (ts : List Trip) (xs : List ControllerState) → TripsReady (t ∷ ts) xs
    → TripsReady ts xs
rest_ready t ts xs ready = record { fit = ready.fit; accepts = ready.accepts.1; entries = ready.entries.1 }

-- ---- the core of a run

-- each joined frame is the answer of those that the copies passed which came back, and each controller is
-- left by each frame as often as a copy passed it
pub core_run : (ts : List Trip) (xs ys : List ControllerState) → TripsReady ts xs → IsLater xs ys
    → AnsweredTrips ts (λ t. returned t xs) (trips_run ts ys).joined
    × ((trips_run ts ys).line ≡ visited_trips ts ys) × IsLater xs (trips_run ts ys).line
unfolding trips_run
core_run [] xs ys ready later = (tt, refl, later)
core_run (t ∷ ts) xs ys ready later =
    let first = core t xs ys (first_ready t ts xs ys ready later) in
    let rest = core_run ts xs (passed t ys).line (rest_ready t ts xs ready) first.2 in
    ((first.0, rest.0), rest.1 ∙ ap (visited_trips ts) first.1, rest.2)

-- ---- everybody passed once

pub whole_run : (ts : List Trip) (xs ys : List ControllerState) → TripsReady ts xs → IsLater xs ys
    → AllByRecursion IsWholeTrip ts
    → AnsweredTrips ts (λ t. xs) (trips_run ts ys).joined × ((trips_run ts ys).line ≡ after_trips ts ys)
unfolding trips_run
whole_run [] xs ys ready later whole = (tt, refl)
whole_run (t ∷ ts) xs ys ready later whole =
    let is_ready = first_ready t ts xs ys ready later in
    let first = whole_trip t xs ys is_ready whole.0 in
    let later_line : IsLater xs (passed t ys).line = (core t xs ys is_ready).2 in
    let rest = whole_run ts xs (passed t ys).line (rest_ready t ts xs ready) later_line whole.1 in
    ((first.0, rest.0), rest.1 ∙ ap (after_trips ts) first.1)

-- ---- memories through a run

-- lines of the same memories have the same memories behind a run
memories_after_trips : (ts : List Trip) (xs ys zs : List ControllerState) → TripsReady ts xs → IsLater xs ys
    → IsLater xs zs → SameMemories ys zs
    → SameMemories (after_trips ts ys) (after_trips ts zs)
memories_after_trips [] xs ys zs ready one two same = same
memories_after_trips (t ∷ ts) xs ys zs ready one two same =
    memories_after_trips ts xs (map (after_frame t.entries) ys) (map (after_frame t.entries) zs)
    (rest_ready t ts xs ready)
    (later-map t.entries xs ys ready.fit.alone ready.accepts.0 one)
    (later-map t.entries xs zs ready.fit.alone ready.accepts.0 two)
    (memories-after t.entries xs ys zs ready.fit.alone ready.accepts.0 one two same)

-- counters that have moved as the whole line counts
pub good_run : (ts : List Trip) (xs ys : List ControllerState) → length xs ≤ MOST → TripsReady ts xs
    → IsLater xs ys
    → CountsWholeAll ts xs (trips_run ts ys).joined
    → AnsweredTrips ts (λ t. xs) (trips_run ts ys).joined
    × SameMemories (trips_run ts ys).line (after_trips ts ys)
unfolding trips_run
good_run [] xs ys room ready later good = (tt, memories-refl ys)
good_run (t ∷ ts) xs ys room ready later good =
    let is_ready = first_ready t ts xs ys ready later in
    let first = good_trip t xs ys room is_ready good.0 in
    let line : List ControllerState = (passed t ys).line in
    let later_line : IsLater xs line = (core t xs ys is_ready).2 in
    let once : List ControllerState = map (after_frame t.entries) ys in
    let rest = good_run ts xs line room (rest_ready t ts xs ready) later_line good.1 in
    let same : SameMemories (after_trips ts line) (after_trips ts once) =
    memories_after_trips ts xs line once (rest_ready t ts xs ready) later_line
    (later-map t.entries xs ys ready.fit.alone ready.accepts.0 later) first.1 in (
      (first.0, rest.0),
      memories-trans (trips_run ts line).line (after_trips ts line) (after_trips ts once) rest.1 same,
    )

-- ---- memory on every verdict

-- a line of which some were reached is a later one
later_reached : (es : List Entry) (xs ys : List ControllerState) (p q : ℕ) → AllByRecursion IsFitAlone xs
    → AllByRecursion (AcceptsAll es) xs
    → IsLater xs ys → IsLater xs (reached_after (after_frame es) p q ys)
later_reached es [] [] p q fit accepts later = tt
later_reached es [] (y ∷ ys) p q fit accepts later = absurd later
later_reached es (x ∷ xs) [] p q fit accepts later = absurd later
later_reached es (x ∷ xs) (y ∷ ys) zero zero fit accepts later = (
  (later-map es (x ∷ xs) (y ∷ ys) fit accepts later).0,
  later_reached es xs ys zero zero fit.1 accepts.1 later.1,
)
later_reached es (x ∷ xs) (y ∷ ys) zero (suc q) fit accepts later =
    (later.0, later_reached es xs ys zero q fit.1 accepts.1 later.1)
later_reached es (x ∷ xs) (y ∷ ys) (suc p) zero fit accepts later = (
  (later-map es (x ∷ xs) (y ∷ ys) fit accepts later).0,
  later_reached es xs ys p zero fit.1 accepts.1 later.1,
)
later_reached es (x ∷ xs) (y ∷ ys) (suc p) (suc q) fit accepts later =
    ((later-map es (x ∷ xs) (y ∷ ys) fit accepts later).0, later_reached es xs ys p q fit.1 accepts.1 later.1)

-- the same memories are reached alike
memories_reached : (es : List Entry) (xs ys zs : List ControllerState) (p q : ℕ)
    → AllByRecursion IsFitAlone xs → AllByRecursion (AcceptsAll es) xs
    → IsLater xs ys → IsLater xs zs → SameMemories ys zs
    → SameMemories (reached_after (after_frame es) p q ys) (reached_after (after_frame es) p q zs)
memories_reached es [] [] [] p q fit accepts one two same = tt
memories_reached es [] [] (z ∷ zs) p q fit accepts one two same = absurd two
memories_reached es [] (y ∷ ys) zs p q fit accepts one two same = absurd one
memories_reached es (x ∷ xs) [] zs p q fit accepts one two same = absurd one
memories_reached es (x ∷ xs) (y ∷ ys) [] p q fit accepts one two same = absurd two
memories_reached es (x ∷ xs) (y ∷ ys) (z ∷ zs) zero zero fit accepts one two same = (
  same_memory_after es x y z fit.0.controller one.0.1 two.0.1 one.0.0 two.0.0 accepts.0 same.0,
  memories_reached es xs ys zs zero zero fit.1 accepts.1 one.1 two.1 same.1,
)
memories_reached es (x ∷ xs) (y ∷ ys) (z ∷ zs) zero (suc q) fit accepts one two same =
    (same.0, memories_reached es xs ys zs zero q fit.1 accepts.1 one.1 two.1 same.1)
memories_reached es (x ∷ xs) (y ∷ ys) (z ∷ zs) (suc p) zero fit accepts one two same = (
  same_memory_after es x y z fit.0.controller one.0.1 two.0.1 one.0.0 two.0.0 accepts.0 same.0,
  memories_reached es xs ys zs p zero fit.1 accepts.1 one.1 two.1 same.1,
)
memories_reached es (x ∷ xs) (y ∷ ys) (z ∷ zs) (suc p) (suc q) fit accepts one two same = (
  same_memory_after es x y z fit.0.controller one.0.1 two.0.1 one.0.0 two.0.0 accepts.0 same.0,
  memories_reached es xs ys zs p q fit.1 accepts.1 one.1 two.1 same.1,
)

memories_reached_trips : (ts : List Trip) (xs ys zs : List ControllerState) → TripsReady ts xs → IsLater xs ys
    → IsLater xs zs → SameMemories ys zs
    → SameMemories (reached_trips ts ys) (reached_trips ts zs)
memories_reached_trips [] xs ys zs ready one two same = same
memories_reached_trips (t ∷ ts) xs ys zs ready one two same =
    memories_reached_trips ts xs (reached_after (after_frame t.entries) t.front t.back ys)
    (reached_after (after_frame t.entries) t.front t.back zs)
    (rest_ready t ts xs ready)
    (later_reached t.entries xs ys t.front t.back ready.fit.alone ready.accepts.0 one)
    (later_reached t.entries xs zs t.front t.back ready.fit.alone ready.accepts.0 two)
    (memories_reached t.entries xs ys zs t.front t.back ready.fit.alone ready.accepts.0 one two same)

-- whatever was lost, each memory is that after the frames of which a copy reached the controller, each once
pub reached_run : (ts : List Trip) (xs ys : List ControllerState) → TripsReady ts xs → IsLater xs ys
    → SameMemories (trips_run ts ys).line (reached_trips ts ys)
unfolding trips_run
reached_run [] xs ys ready later = memories-refl ys
reached_run (t ∷ ts) xs ys ready later =
    let is_ready = first_ready t ts xs ys ready later in
    let done = core t xs ys is_ready in
    let line : List ControllerState = (passed t ys).line in
    let reached : List ControllerState = reached_after (after_frame t.entries) t.front t.back ys in
    let first : SameMemories line reached =
    subst (λ (l : List ControllerState). SameMemories l reached) (sym done.1)
    (visited_reached t xs ys ready.fit.alone ready.accepts.0 later) in
    let rest : SameMemories (trips_run ts line).line (reached_trips ts line) =
    reached_run ts xs line (rest_ready t ts xs ready) done.2 in
    memories-trans (trips_run ts line).line (reached_trips ts line) (reached_trips ts reached) rest
    (memories_reached_trips ts xs line reached (rest_ready t ts xs ready) done.2
    (later_reached t.entries xs ys t.front t.back ready.fit.alone ready.accepts.0 later) first)
