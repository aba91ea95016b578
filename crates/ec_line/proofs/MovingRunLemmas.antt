-- A run of trips over a line that moves: its counters, its moments and its mappings; and that a line at which
-- nothing moves is one that does.
use Rattle.std.proofs.Common.{◌≡◌, inl, inr, ℕ, suc, ◌≤◌, Bool, true, false, cond}
use Rattle.std.proofs.Common.{List, [], ◌∷◌, length, take, drop}
use Rattle.std.proofs.Common.{sym, subst, ◌∙◌, ap, refl, arith}
use Rattle.std.proofs.lemmas.List.{length-append, take-append-drop}
use Rattle.ec_wire.specs.Datagram.{DatagramRecord}
use Rattle.ec_esc.specs.State.{ControllerState}
use Rattle.ec_line.specs.Answered.{sent_of}
use Rattle.ec_line.specs.Moving.{AllAlike, Visit, AllMove, befores, when_a, when_b}
use Rattle.ec_line.specs.Moving.{laters, copy_a, copy_b, joined_moving, IsMovingTrip, MovingTrips}
use Rattle.ec_line.specs.Moving.{joined_on_each, behind, CountsReturned, AnsweredAtMoments}
use Rattle.ec_line.specs.Run.{trips_run, TripsReady, CountsWholeAll}
use Rattle.ec_line.specs.Trip.{Trip, Passed, PassedLine, line_pass, front_pass, back_pass, sent_b, joined_of}
use Rattle.ec_line.specs.Trip.{passed, passed_by_a_first, passed_by_b_first}
use Rattle.ec_line.proofs.AlikeLemmas.{moved-refl}
use Rattle.ec_line.proofs.CertificateLemmas.{MOST}
use Rattle.ec_line.proofs.JoinLemmas.{IsEntry}
use Rattle.ec_line.proofs.MovingLemmas.{IsMovingReady, visits_alike, trip_returned}
use Rattle.ec_line.proofs.RunLemmas.{rest_ready}
use Rattle.ec_line.proofs.SeenLemmas.{trip_moments}

-- ---- the first trip and the rest

pub first_moving : (t : Trip) (ts : List Trip) (xs line : List ControllerState) (vs : List Visit)
    → TripsReady (t ∷ ts) xs → AllAlike xs line → IsMovingTrip t line vs → IsMovingReady t xs vs
unfolding IsEntry
first_moving t ts xs line vs ready alike moving = record {
  fit = ready.fit;
  accepts = ready.accepts.0;
  entries = ready.entries.0;
  alike = subst (λ (l : List ControllerState). AllAlike xs l) (sym moving.starts) alike;
  moves = moving.moves;
}

-- ---- counters, moments and mappings through a run

pub run_counts : (ts : List Trip) (xs line : List ControllerState) (runs : List (List Visit))
    → TripsReady ts xs → AllAlike xs line → MovingTrips ts runs line
    → CountsReturned ts xs (joined_on_each ts runs)
run_counts [] xs line runs ready alike moving = tt
run_counts (t ∷ ts) xs line [] ready alike moving = absurd moving
run_counts (t ∷ ts) xs line (vs ∷ rest) ready alike moving =
    let is_ready = first_moving t ts xs line vs ready alike moving.0 in
    let all = visits_alike t xs vs is_ready in (
      trip_returned t xs vs is_ready,
      run_counts ts xs (laters vs) rest (rest_ready t ts xs ready) all.later moving.1,
    )

pub run_moments : (ts : List Trip) (xs line : List ControllerState) (runs : List (List Visit))
    → length xs ≤ MOST → TripsReady ts xs → AllAlike xs line → MovingTrips ts runs line
    → CountsWholeAll ts xs (joined_on_each ts runs) → AnsweredAtMoments ts xs runs (joined_on_each ts runs)
run_moments [] xs line [] room ready alike moving good = tt
run_moments [] xs line (vs ∷ rest) room ready alike moving good = absurd moving
run_moments (t ∷ ts) xs line [] room ready alike moving good = absurd moving
run_moments (t ∷ ts) xs line (vs ∷ rest) room ready alike moving good =
    let is_ready = first_moving t ts xs line vs ready alike moving.0 in
    let all = visits_alike t xs vs is_ready in (
      trip_moments t xs vs room is_ready good.0,
      run_moments ts xs (laters vs) rest room (rest_ready t ts xs ready) all.later moving.1 good.1,
    )

pub run_alike : (ts : List Trip) (xs line : List ControllerState) (runs : List (List Visit)) → TripsReady ts xs
    → AllAlike xs line → MovingTrips ts runs line → AllAlike xs (behind runs line)
run_alike [] xs line [] ready alike moving = alike
run_alike [] xs line (vs ∷ rest) ready alike moving = absurd moving
run_alike (t ∷ ts) xs line [] ready alike moving = absurd moving
run_alike (t ∷ ts) xs line (vs ∷ rest) ready alike moving =
    let is_ready = first_moving t ts xs line vs ready alike moving.0 in
    let all = visits_alike t xs vs is_ready in
    run_alike ts xs (laters vs) rest (rest_ready t ts xs ready) all.later moving.1

-- ---- a line at which nothing moves

-- a visit of which each passage finds what the one before it left
still_a : List ControllerState → List ControllerState → List ControllerState → List Visit
still_a (x ∷ xs) (y ∷ ys) (z ∷ zs) =
    record { before = x; at_a = x; at_b = y; later = z } ∷ still_a xs ys zs
still_a _ _ _ = []

still_b : List ControllerState → List ControllerState → List ControllerState → List Visit
still_b (x ∷ xs) (y ∷ ys) (z ∷ zs) =
    record { before = x; at_a = y; at_b = x; later = z } ∷ still_b xs ys zs
still_b _ _ _ = []

-- three lines as long as one another
pub SameSize : List ControllerState → List ControllerState → List ControllerState → Type 0
SameSize [] [] [] = Unit {0}
SameSize (x ∷ xs) (y ∷ ys) (z ∷ zs) = SameSize xs ys zs
SameSize _ _ _ = ⊥

same_size : (xs ys zs : List ControllerState) → length ys ≡ length xs → length zs ≡ length xs
    → SameSize xs ys zs
unfolding SameSize
same_size [] [] [] one two = tt
same_size [] [] (z ∷ zs) one two = absurd (omega arith)
same_size [] (y ∷ ys) zs one two = absurd (omega arith)
same_size (x ∷ xs) [] zs one two = absurd (omega arith)
same_size (x ∷ xs) (y ∷ ys) [] one two = absurd (omega arith)
same_size (x ∷ xs) (y ∷ ys) (z ∷ zs) one two = same_size xs ys zs (omega arith) (omega arith)

pub record IsStill (vs : List Visit) (befores_are at_as at_bs laters_are : List ControllerState) : Type 0 where
  pub before : befores vs ≡ befores_are
  pub at_a : when_a vs ≡ at_as
  pub at_b : when_b vs ≡ at_bs
  pub later : laters vs ≡ laters_are

still_a_is : (xs ys zs : List ControllerState) → SameSize xs ys zs → IsStill (still_a xs ys zs) xs xs ys zs
unfolding SameSize still_a
still_a_is [] [] [] same = record { before = refl; at_a = refl; at_b = refl; later = refl }
still_a_is [] [] (z ∷ zs) same = absurd same
still_a_is [] (y ∷ ys) zs same = absurd same
still_a_is (x ∷ xs) [] zs same = absurd same
still_a_is (x ∷ xs) (y ∷ ys) [] same = absurd same
still_a_is (x ∷ xs) (y ∷ ys) (z ∷ zs) same =
    let rest = still_a_is xs ys zs same in
    record {
      before = ap (λ (l : List ControllerState). x ∷ l) rest.before;
      at_a = ap (λ (l : List ControllerState). x ∷ l) rest.at_a;
      at_b = ap (λ (l : List ControllerState). y ∷ l) rest.at_b;
      later = ap (λ (l : List ControllerState). z ∷ l) rest.later;
    }

still_b_is : (xs ys zs : List ControllerState) → SameSize xs ys zs → IsStill (still_b xs ys zs) xs ys xs zs
unfolding SameSize still_b
still_b_is [] [] [] same = record { before = refl; at_a = refl; at_b = refl; later = refl }
still_b_is [] [] (z ∷ zs) same = absurd same
still_b_is [] (y ∷ ys) zs same = absurd same
still_b_is (x ∷ xs) [] zs same = absurd same
still_b_is (x ∷ xs) (y ∷ ys) [] same = absurd same
still_b_is (x ∷ xs) (y ∷ ys) (z ∷ zs) same =
    let rest = still_b_is xs ys zs same in
    record {
      before = ap (λ (l : List ControllerState). x ∷ l) rest.before;
      at_a = ap (λ (l : List ControllerState). y ∷ l) rest.at_a;
      at_b = ap (λ (l : List ControllerState). x ∷ l) rest.at_b;
      later = ap (λ (l : List ControllerState). z ∷ l) rest.later;
    }

still_a_moves : (xs ys zs : List ControllerState) → SameSize xs ys zs → AllMove (still_a xs ys zs) ys zs
unfolding SameSize still_a
still_a_moves [] [] [] same = tt
still_a_moves [] [] (z ∷ zs) same = absurd same
still_a_moves [] (y ∷ ys) zs same = absurd same
still_a_moves (x ∷ xs) [] zs same = absurd same
still_a_moves (x ∷ xs) (y ∷ ys) [] same = absurd same
still_a_moves (x ∷ xs) (y ∷ ys) (z ∷ zs) same =
    (inl (moved-refl x, moved-refl y, moved-refl z), still_a_moves xs ys zs same)

still_b_moves : (xs ys zs : List ControllerState) → SameSize xs ys zs → AllMove (still_b xs ys zs) zs ys
unfolding SameSize still_b
still_b_moves [] [] [] same = tt
still_b_moves [] [] (z ∷ zs) same = absurd same
still_b_moves [] (y ∷ ys) zs same = absurd same
still_b_moves (x ∷ xs) [] zs same = absurd same
still_b_moves (x ∷ xs) (y ∷ ys) [] same = absurd same
still_b_moves (x ∷ xs) (y ∷ ys) (z ∷ zs) same =
    (inr (moved-refl x, moved-refl y, moved-refl z), still_b_moves xs ys zs same)

-- a copy leaves a line as long as it was
line_size : (xs : List ControllerState) (ds : List DatagramRecord) → length (line_pass xs ds).line ≡ length xs
unfolding line_pass
line_size [] ds = refl
line_size (x ∷ xs) ds = ap suc (line_size xs _)

front_size : (n : ℕ) (xs : List ControllerState) (ds : List DatagramRecord)
    → length (front_pass n xs ds).line ≡ length xs
front_size n xs ds =
    omega (
      arith,
      length-append (line_pass (take n xs) ds).line (drop n xs),
      line_size (take n xs) ds,
      length-append (take n xs) (drop n xs),
      ap (λ (l : List ControllerState). length l) (take-append-drop n xs),
    )

back_size : (n : ℕ) (xs : List ControllerState) (ds : List DatagramRecord)
    → length (back_pass n xs ds).line ≡ length xs
back_size n xs ds =
    omega (
      arith,
      length-append (take n xs) (line_pass (drop n xs) ds).line,
      line_size (drop n xs) ds,
      length-append (take n xs) (drop n xs),
      ap (λ (l : List ControllerState). length l) (take-append-drop n xs),
    )

-- a trip at which nothing moves is one over a line that moves
pub record IsStillTrip (t : Trip) (line : List ControllerState) : Type 0 where
  pub visits : List Visit
  pub moving : IsMovingTrip t line visits
  pub joined : joined_moving t visits ≡ joined_of t (passed t line)
  pub later : laters visits ≡ (passed t line).line

still_a_first : (t : Trip) (line : List ControllerState) → t.b_first ≡ false → IsStillTrip t line
unfolding passed
still_a_first t line order =
    let a : PassedLine = front_pass t.front line (sent_of t.entries) in
    let b : PassedLine = back_pass t.back a.line (sent_b t) in
    let size_a : length a.line ≡ length line = front_size t.front line (sent_of t.entries) in
    let size_b : length b.line ≡ length a.line = back_size t.back a.line (sent_b t) in
    let same : SameSize line a.line b.line = same_size line a.line b.line size_a (size_b ∙ size_a) in
    let vs : List Visit = still_a line a.line b.line in
    let is = still_a_is line a.line b.line same in
    let copy_a_is : copy_a t vs ≡ a =
    ap (λ (l : List ControllerState). front_pass t.front l (sent_of t.entries)) is.at_a in
    let copy_b_is : copy_b t vs ≡ b = ap (λ (l : List ControllerState). back_pass t.back l (sent_b t)) is.at_b in
    let whole : Passed = passed_by_a_first t line in
    let ordered : cond t.b_first (passed_by_b_first t line) whole ≡ whole =
    ap (λ x. cond x (passed_by_b_first t line) whole) order in
    record {
      visits = vs;
      moving = record {
        starts = is.before;
        moves = subst (λ (p : PassedLine). AllMove vs p.line (copy_b t vs).line) (sym copy_a_is)
            (subst (λ (p : PassedLine). AllMove vs a.line p.line) (sym copy_b_is)
            (still_a_moves line a.line b.line same));
      };
      joined = ap (λ (p : PassedLine). joined_of t (record {
        a = p.frame;
        b = (copy_b t vs).frame;
        line = laters vs;
      })) copy_a_is
          ∙ ap (λ (p : PassedLine). joined_of t (record { a = a.frame; b = p.frame; line = laters vs })) copy_b_is
          ∙ ap (joined_of t) (sym ordered);
      later = is.later ∙ ap (λ (p : Passed). p.line) (sym ordered);
    }

still_b_first : (t : Trip) (line : List ControllerState) → t.b_first ≡ true → IsStillTrip t line
unfolding passed
still_b_first t line order =
    let b : PassedLine = back_pass t.back line (sent_b t) in
    let a : PassedLine = front_pass t.front b.line (sent_of t.entries) in
    let size_b : length b.line ≡ length line = back_size t.back line (sent_b t) in
    let size_a : length a.line ≡ length b.line = front_size t.front b.line (sent_of t.entries) in
    let same : SameSize line b.line a.line = same_size line b.line a.line size_b (size_a ∙ size_b) in
    let vs : List Visit = still_b line b.line a.line in
    let is = still_b_is line b.line a.line same in
    let copy_a_is : copy_a t vs ≡ a =
    ap (λ (l : List ControllerState). front_pass t.front l (sent_of t.entries)) is.at_a in
    let copy_b_is : copy_b t vs ≡ b = ap (λ (l : List ControllerState). back_pass t.back l (sent_b t)) is.at_b in
    let whole : Passed = passed_by_b_first t line in
    let ordered : cond t.b_first whole (passed_by_a_first t line) ≡ whole =
    ap (λ x. cond x whole (passed_by_a_first t line)) order in
    record {
      visits = vs;
      moving = record {
        starts = is.before;
        moves = subst (λ (p : PassedLine). AllMove vs p.line (copy_b t vs).line) (sym copy_a_is)
            (subst (λ (p : PassedLine). AllMove vs a.line p.line) (sym copy_b_is)
            (still_b_moves line b.line a.line same));
      };
      joined = ap (λ (p : PassedLine). joined_of t (record {
        a = p.frame;
        b = (copy_b t vs).frame;
        line = laters vs;
      })) copy_a_is
          ∙ ap (λ (p : PassedLine). joined_of t (record { a = a.frame; b = p.frame; line = laters vs })) copy_b_is
          ∙ ap (joined_of t) (sym ordered);
      later = is.later ∙ ap (λ (p : Passed). p.line) (sym ordered);
    }

still_trip : (t : Trip) (line : List ControllerState) → IsStillTrip t line
still_trip t line =
    let P : Bool → Type 0 = λ x. t.b_first ≡ x → IsStillTrip t line in
    elim t.b_first as P
    [ true ↦ λ order. still_b_first t line order | false ↦ λ order. still_a_first t line order ] refl

-- so is a run
pub still_run : (ts : List Trip) (line : List ControllerState) → (runs : List (List Visit))
    × MovingTrips ts runs line × (joined_on_each ts runs ≡ (trips_run ts line).joined)
    × (behind runs line ≡ (trips_run ts line).line)
unfolding trips_run
still_run [] line = ([], tt, refl, refl)
still_run (t ∷ ts) line =
    let first = still_trip t line in
    let next : List ControllerState = (passed t line).line in
    let rest = still_run ts next in (
      first.visits ∷ rest.0,
      (
        first.moving,
        subst (λ (l : List ControllerState). MovingTrips ts rest.0 l) (sym first.later) rest.1,
      ),
      ap (λ (g : List DatagramRecord). g ∷ joined_on_each ts rest.0) first.joined
          ∙ ap (λ (gs : List (List DatagramRecord)). joined_of t (passed t line) ∷ gs) rest.2,
      ap (behind rest.0) first.later ∙ rest.3,
    )
