-- Behind a run over a line that moves, whose counters are good, each bit that an accepted request writes is
-- as if each slave had been passed once by each frame.
use Rattle.std.proofs.Common.{◌≡◌, ℕ, zero, suc, ◌+◌, ◌*◌, ◌<◌, ◌≤◌, Bool, true, false, cond}
use Rattle.std.proofs.Common.{List, [], ◌∷◌, length, map, Option, None, Some}
use Rattle.std.proofs.Common.{sym, subst, ◌∙◌, ap, refl, arith, ⊎_elim}
use Rattle.std.specs.List.{AllByRecursion}
use Rattle.std.specs.Option.{option_map, unwrap_or}
use Rattle.std.proofs.lemmas.Bool.{cases_lt}
use Rattle.ec_regs.specs.Bits.{bit, later as later_of}
use Rattle.ec_regs.specs.declared.registers.TheConstants.{MEMORY_SIZE}
use Rattle.ec_regs.proofs.Laws.{bit_past}
use Rattle.ec_esc.specs.State.{ControllerState}
use Rattle.ec_line.specs.Accepted.{Accepts, AcceptsAll}
use Rattle.ec_line.specs.After.{Entry, after_frame}
use Rattle.ec_line.specs.Claims.{taken}
use Rattle.ec_line.specs.Fit.{IsFitAlone}
use Rattle.ec_line.specs.Memory.{AllBetween}
use Rattle.ec_line.specs.Moving.{IsAlike, AllAlike, HasMoved, Visit, Moves, AllMove, befores, when_a, when_b}
use Rattle.ec_line.specs.Moving.{laters, copy_a, copy_b, joined_moving, MovingTrips, joined_on_each, behind}
use Rattle.ec_line.specs.Moving.{SameWritten, front_of, back_of}
use Rattle.ec_line.specs.Request.{Request}
use Rattle.ec_line.specs.Run.{TripsReady, CountsWhole, CountsWholeAll, after_trips}
use Rattle.ec_line.specs.Trip.{Trip, front_after, back_after}
use Rattle.ec_line.proofs.AlikeLemmas.{alike-trans, alike_steady, all_accepted}
use Rattle.ec_line.proofs.CertificateLemmas.{MOST, PiecesCountAll, gap_silent, between-inner, between-end}
use Rattle.ec_line.proofs.CertificateLemmas.{between-back}
use Rattle.ec_line.proofs.FitLemmas.{silent}
use Rattle.ec_line.proofs.FrameLemmas.{after_frame_keeps}
use Rattle.ec_line.proofs.MemoryLemmas.{last_sent, bit_after_frame, settled_or, IsSilentAt}
use Rattle.ec_line.proofs.MovingLemmas.{IsMovingReady, visits_alike, copies_moved, trip_counts, pieces_count}
use Rattle.ec_line.proofs.MovingRunLemmas.{first_moving}
use Rattle.ec_line.proofs.RunLemmas.{rest_ready}
use Rattle.ec_line.proofs.SteadyLemmas.{same_steady_refl}

-- ---- who was passed by which copy

-- a slave as a copy leaves it that passed it, or did not
abbrev pub left_of : Bool → List Entry → ControllerState → ControllerState
left_of passed es y = cond passed (after_frame es y) y

-- the visit v of the slave x, as it was at first: whether each copy passed it; if none did, the slave counts
-- nothing of the frame
pub record IsVisited (es : List Entry) (x : ControllerState) (v : Visit) : Type 0 where
  pub fit : IsFitAlone x
  pub accepts : AcceptsAll es x
  pub by_a : Bool
  pub by_b : Bool
  pub before : IsAlike x v.before
  pub at_a : IsAlike x v.at_a
  pub at_b : IsAlike x v.at_b
  pub left_a : IsAlike x (left_of by_a es v.at_a)
  pub left_b : IsAlike x (left_of by_b es v.at_b)
  pub moves : Moves v (left_of by_a es v.at_a) (left_of by_b es v.at_b)
  pub reached : by_a ≡ false → by_b ≡ false → IsSilentAt es x

unfoldable pub AllVisited : List Entry → List ControllerState → List Visit → Type 0
AllVisited es [] [] = Unit {0}
AllVisited es (x ∷ xs) (v ∷ vs) = IsVisited es x v × AllVisited es xs vs
AllVisited es _ _ = ⊥

-- slaves whose states are alike to those at first, on a trip that leaves these
pub record AreReady (es : List Entry) (xs : List ControllerState) (vs : List Visit)
    (ls rs : List ControllerState) : Type 0 where
  pub fit : AllByRecursion IsFitAlone xs
  pub accepts : AllByRecursion (AcceptsAll es) xs
  pub before : AllAlike xs (befores vs)
  pub at_a : AllAlike xs (when_a vs)
  pub at_b : AllAlike xs (when_b vs)
  pub left_a : AllAlike xs ls
  pub left_b : AllAlike xs rs
  pub moves : AllMove vs ls rs

-- the first slave, and the others
one_visited : (es : List Entry) (x : ControllerState) (xs : List ControllerState) (v : Visit) (vs : List Visit)
    (a b : Bool) (ls rs : List ControllerState)
    → AreReady es (x ∷ xs) (v ∷ vs) (left_of a es v.at_a ∷ ls) (left_of b es v.at_b ∷ rs)
    → (a ≡ false → b ≡ false → IsSilentAt es x) → IsVisited es x v
one_visited es x xs v vs a b ls rs all reached = record {
  fit = all.fit.0;
  accepts = all.accepts.0;
  by_a = a;
  by_b = b;
  before = all.before.0;
  at_a = all.at_a.0;
  at_b = all.at_b.0;
  left_a = all.left_a.0;
  left_b = all.left_b.0;
  moves = all.moves.0;
  reached = reached;
}

others_ready : (es : List Entry) (x l r : ControllerState) (xs : List ControllerState) (v : Visit)
    (vs : List Visit) (ls rs : List ControllerState) → AreReady es (x ∷ xs) (v ∷ vs) (l ∷ ls) (r ∷ rs)
    → AreReady es xs vs ls rs
others_ready es x l r xs v vs ls rs all = record {
  fit = all.fit.1;
  accepts = all.accepts.1;
  before = all.before.1;
  at_a = all.at_a.1;
  at_b = all.at_b.1;
  left_a = all.left_a.1;
  left_b = all.left_b.1;
  moves = all.moves.1;
}

all_visited : (es : List Entry) (p q : ℕ) (xs : List ControllerState) (vs : List Visit)
    → AreReady es xs vs (front_after (after_frame es) p (when_a vs)) (back_after (after_frame es) q (when_b vs))
    → AllBetween (IsSilentAt es) p q xs → AllVisited es xs vs
unfolding AllVisited
all_visited es p q [] [] all gap = tt
all_visited es p q [] (v ∷ vs) all gap = absurd all.before
all_visited es p q (x ∷ xs) [] all gap = absurd all.before
all_visited es zero zero (x ∷ xs) (v ∷ vs) all gap = (
  one_visited es x xs v vs false true _ _ all (λ _ passed. absurd (cc)),
  all_visited es zero zero xs vs (others_ready es x _ _ xs v vs _ _ all) (between-end (IsSilentAt es) xs),
)
all_visited es zero (suc q) (x ∷ xs) (v ∷ vs) all gap = (
  one_visited es x xs v vs false false _ _ all (λ _ _. gap.0),
  all_visited es zero q xs vs (others_ready es x _ _ xs v vs _ _ all) gap.1,
)
all_visited es (suc p) zero (x ∷ xs) (v ∷ vs) all gap = (
  one_visited es x xs v vs true true _ _ all (λ passed _. absurd (cc)),
  all_visited es p zero xs vs (others_ready es x _ _ xs v vs _ _ all) (between-back (IsSilentAt es) p xs),
)
all_visited es (suc p) (suc q) (x ∷ xs) (v ∷ vs) all gap = (
  one_visited es x xs v vs true false _ _ all (λ passed _. absurd (cc)),
  all_visited es p q xs vs (others_ready es x _ _ xs v vs _ _ all) gap,
)

-- those whom no copy reached are silent
unreached_silent : (t : Trip) (xs : List ControllerState) (vs : List Visit) → length xs ≤ MOST
    → IsMovingReady t xs vs → CountsWhole t.entries xs (joined_moving t vs)
    → AllBetween (IsSilentAt t.entries) t.front t.back xs
unreached_silent t xs vs room ready good =
    let es = t.entries in
    let p = front_of t in
    let q = back_of t (length xs) in
    let same : PiecesCountAll es xs p q =
    pieces_count es xs p q (joined_moving t vs) room ready.entries (trip_counts t xs vs ready) good in
    let starts : p ≤ t.front =
    elim t.lost_a as (λ b. cond b 0 t.front ≤ t.front) [ true ↦ omega arith | false ↦ omega arith ] in
    let ends : t.back ≤ q =
    elim t.lost_b as (λ b. t.back ≤ cond b (length xs + t.back) t.back)
    [ true ↦ omega arith | false ↦ omega arith ] in
    between-inner (IsSilentAt es) p q t.front t.back xs starts ends (gap_silent es xs p q same)

pub trip_visited : (t : Trip) (xs : List ControllerState) (vs : List Visit) → length xs ≤ MOST
    → IsMovingReady t xs vs → CountsWhole t.entries xs (joined_moving t vs) → AllVisited t.entries xs vs
trip_visited t xs vs room ready good =
    let es = t.entries in
    let ls : List ControllerState = (copy_a t vs).line in
    let rs : List ControllerState = (copy_b t vs).line in
    let all = visits_alike t xs vs ready in
    let both = copies_moved t xs vs ready in
    let now : AreReady es xs vs ls rs = record {
      fit = ready.fit.alone;
      accepts = ready.accepts;
      before = ready.alike;
      at_a = all.when_a;
      at_b = all.when_b;
      left_a = all.left_a;
      left_b = all.left_b;
      moves = ready.moves;
    } in
    let front : List ControllerState = front_after (after_frame es) t.front (when_a vs) in
    all_visited es t.front t.back xs vs
    (subst (λ (l : List ControllerState). AreReady es xs vs front l) both.left_b
    (subst (λ (l : List ControllerState). AreReady es xs vs l rs) both.left_a now))
    (unreached_silent t xs vs room ready good)

-- ---- the bit that stands behind a passage

-- what is sent last for a bit hangs on what is taken
last_sent_alike : (es : List Entry) (x y : ControllerState) (p : ℕ) → AcceptsAll es x → IsAlike x y
    → last_sent es y p ≡ last_sent es x p
unfolding last_sent
last_sent_alike [] x y p accepts alike = refl
last_sent_alike (e ∷ es) x y p accepts alike =
    ap (λ (f : ℕ → Option ℕ). later_of (option_map (bit e.sent.payload) (f p)) (last_sent es y p))
    (alike.takes e.request accepts.0)
    ∙ ap (later_of (option_map (bit e.sent.payload) (taken e.request x p)))
    (last_sent_alike es x y p accepts.1 alike)

pub bit_passed : (es : List Entry) (x y : ControllerState) (p : ℕ) → IsFitAlone x → AcceptsAll es x
    → IsAlike x y → p < 8 * MEMORY_SIZE
    → bit (after_frame es y).memory p ≡ unwrap_or (last_sent es x p) (bit y.memory p)
bit_passed es x y p fit accepts alike inside =
    let controller = (alike.fit fit).controller in
    bit_after_frame es y y p controller controller (same_steady_refl y) (all_accepted es x y alike accepts) inside
    ∙ ap (λ (o : Option ℕ). unwrap_or o (bit y.memory p)) (last_sent_alike es x y p accepts alike)

-- nothing is sent for a slave that counts nothing
silent_sent : (es : List Entry) (x : ControllerState) (p : ℕ) → IsSilentAt es x → last_sent es x p ≡ None
unfolding last_sent
silent_sent [] x p still = refl
silent_sent (e ∷ es) x p still =
    ap (λ (o : Option ℕ). later_of (option_map (bit e.sent.payload) o) (last_sent es x p))
    ((silent e.request x still.0).takes p)
    ∙ ap (later_of None) (silent_sent es x p still.1)

-- a copy that passed, or did not
left_bit : (passed : Bool) (es : List Entry) (x y : ControllerState) (p : ℕ) → IsFitAlone x → AcceptsAll es x
    → IsAlike x y → p < 8 * MEMORY_SIZE
    → bit (left_of passed es y).memory p ≡ unwrap_or (cond passed (last_sent es x p) None) (bit y.memory p)
left_bit true es x y p fit accepts alike inside = bit_passed es x y p fit accepts alike inside
left_bit false es x y p fit accepts alike inside = refl

-- ---- one slave on one trip

-- a written bit is kept by a move
pub keeps : (r : Request) (p i : ℕ) (x y z : ControllerState) → Accepts r x → taken r x p ≡ Some i
    → IsAlike x y → HasMoved y z → bit z.memory p ≡ bit y.memory p
keeps r p i x y z accepts takes alike moved =
    moved.kept r p i (alike.accepts r accepts)
    (ap (λ (f : ℕ → Option ℕ). f p) (alike.takes r accepts) ∙ takes)

-- b moves to c, is passed and left as l, moves to d, is passed and left as m, and moves to z
twice_written : (r : Request) (p i : ℕ) (x b c l d m z : ControllerState) (o u : Option ℕ) → Accepts r x
    → taken r x p ≡ Some i → IsAlike x b → IsAlike x l → IsAlike x m → HasMoved b c × HasMoved l d × HasMoved m z
    → bit l.memory p ≡ unwrap_or o (bit c.memory p) → bit m.memory p ≡ unwrap_or u (bit d.memory p)
    → bit z.memory p ≡ unwrap_or u (unwrap_or o (bit b.memory p))
twice_written r p i x b c l d m z o u accepts takes b_is l_is m_is moves first second =
    keeps r p i x m z accepts takes m_is moves.2 ∙ second
    ∙ ap (unwrap_or u)
    (keeps r p i x l d accepts takes l_is moves.1 ∙ first
    ∙ ap (unwrap_or o) (keeps r p i x b c accepts takes b_is moves.0))

-- what two copies sent is what one sent, where one of them passed, or nothing was sent
sent_once : (a b : Bool) (o : Option ℕ) (w : ℕ) → (a ≡ false → b ≡ false → o ≡ None)
    → unwrap_or (cond b o None) (unwrap_or (cond a o None) w) ≡ unwrap_or o w
sent_once true true o w none = settled_or o w
sent_once true false o w none = refl
sent_once false true o w none = refl
sent_once false false o w none = sym (ap (λ (u : Option ℕ). unwrap_or u w) (none refl refl))

-- behind a trip a written bit is that after one passage, whichever copy came first
pub visit_written : (es : List Entry) (x : ControllerState) (v : Visit) (r : Request) (p i : ℕ)
    → IsVisited es x v → Accepts r x → taken r x p ≡ Some i → p < 8 * MEMORY_SIZE
    → bit v.later.memory p ≡ unwrap_or (last_sent es x p) (bit v.before.memory p)
visit_written es x v r p i is accepts takes inside =
    let sent : Option ℕ = last_sent es x p in
    let left_a : ControllerState = left_of is.by_a es v.at_a in
    let left_b : ControllerState = left_of is.by_b es v.at_b in
    let a = left_bit is.by_a es x v.at_a p is.fit is.accepts is.at_a inside in
    let b = left_bit is.by_b es x v.at_b p is.fit is.accepts is.at_b inside in
    let w : ℕ = bit v.before.memory p in
    ⊎_elim
    (λ moved.
    twice_written r p i x v.before v.at_a left_a v.at_b left_b v.later (cond is.by_a sent None)
    (cond is.by_b sent None) accepts takes is.before is.left_a is.left_b moved a b
    ∙ sent_once is.by_a is.by_b sent w (λ a_idle b_idle. silent_sent es x p (is.reached a_idle b_idle)))
    (λ moved.
    twice_written r p i x v.before v.at_b left_b v.at_a left_a v.later (cond is.by_b sent None)
    (cond is.by_a sent None) accepts takes is.before is.left_b is.left_a moved b a
    ∙ sent_once is.by_b is.by_a sent w (λ b_idle a_idle. silent_sent es x p (is.reached a_idle b_idle)))
    is.moves

-- ---- a run

-- lines that are alike after a frame
pub passed_alike : (es : List Entry) (xs ys : List ControllerState) → AllByRecursion IsFitAlone xs
    → AllByRecursion (AcceptsAll es) xs → AllAlike xs ys → AllAlike xs (map (after_frame es) ys)
passed_alike es [] [] fit accepts alike = tt
passed_alike es [] (y ∷ ys) fit accepts alike = absurd alike
passed_alike es (x ∷ xs) [] fit accepts alike = absurd alike
passed_alike es (x ∷ xs) (y ∷ ys) fit accepts alike =
    let controller = (alike.0.fit fit.0).controller in
    let kept = after_frame_keeps es y y controller controller (same_steady_refl y)
    (all_accepted es x y alike.0 accepts.0) in (
      alike-trans x y (after_frame es y) alike.0 (alike_steady y (after_frame es y) controller kept.0 kept.1),
      passed_alike es xs ys fit.1 accepts.1 alike.1,
    )

-- of two lines each written bit within the memory is the same
pub record IsSameInside (x y z : ControllerState) : Type 0 where
  pub bits : (r : Request) (p i : ℕ) → Accepts r x → taken r x p ≡ Some i → p < 8 * MEMORY_SIZE
      → bit y.memory p ≡ bit z.memory p

unfoldable pub SameInside : List ControllerState → List ControllerState → List ControllerState → Type 0
SameInside [] [] [] = Unit {0}
SameInside (x ∷ xs) (y ∷ ys) (z ∷ zs) = IsSameInside x y z × SameInside xs ys zs
SameInside _ _ _ = ⊥

pub inside-refl : (xs ys : List ControllerState) → AllAlike xs ys → SameInside xs ys ys
unfolding SameInside
inside-refl [] [] alike = tt
inside-refl [] (y ∷ ys) alike = absurd alike
inside-refl (x ∷ xs) [] alike = absurd alike
inside-refl (x ∷ xs) (y ∷ ys) alike =
    (record { bits = λ r p i accepts takes inside. refl }, inside-refl xs ys alike.1)

-- behind a trip it is, if it was before
pub inside_trip : (es : List Entry) (xs zs : List ControllerState) (vs : List Visit) → AllAlike xs zs
    → AllVisited es xs vs → SameInside xs (befores vs) zs → SameInside xs (laters vs) (map (after_frame es) zs)
unfolding AllVisited SameInside
inside_trip es [] [] [] alike visited same = tt
inside_trip es [] [] (v ∷ vs) alike visited same = absurd same
inside_trip es [] (z ∷ zs) vs alike visited same = absurd alike
inside_trip es (x ∷ xs) [] vs alike visited same = absurd alike
inside_trip es (x ∷ xs) (z ∷ zs) [] alike visited same = absurd same
inside_trip es (x ∷ xs) (z ∷ zs) (v ∷ vs) alike visited same =
    let is = visited.0 in (
      record {
        bits = λ r p i accepts takes inside.
            visit_written es x v r p i is accepts takes inside
            ∙ ap (unwrap_or (last_sent es x p)) (same.0.bits r p i accepts takes inside)
            ∙ sym (bit_passed es x z p is.fit is.accepts alike.0 inside);
      },
      inside_trip es xs zs vs alike.1 visited.1 same.1,
    )

inside_run : (ts : List Trip) (xs line zs : List ControllerState) (runs : List (List Visit))
    → length xs ≤ MOST → TripsReady ts xs → AllAlike xs line → AllAlike xs zs → MovingTrips ts runs line
    → CountsWholeAll ts xs (joined_on_each ts runs) → SameInside xs line zs
    → SameInside xs (behind runs line) (after_trips ts zs)
inside_run [] xs line zs [] room ready one two moving good same = same
inside_run [] xs line zs (vs ∷ rest) room ready one two moving good same = absurd moving
inside_run (t ∷ ts) xs line zs [] room ready one two moving good same = absurd moving
inside_run (t ∷ ts) xs line zs (vs ∷ rest) room ready one two moving good same =
    let es = t.entries in
    let is_ready = first_moving t ts xs line vs ready one moving.0 in
    let later : AllAlike xs (laters vs) = (visits_alike t xs vs is_ready).later in
    let before : SameInside xs (befores vs) zs =
    subst (λ (l : List ControllerState). SameInside xs l zs) (sym moving.0.starts) same in
    inside_run ts xs (laters vs) (map (after_frame es) zs) rest room (rest_ready t ts xs ready) later
    (passed_alike es xs zs ready.fit.alone ready.accepts.0 two) moving.1 good.1
    (inside_trip es xs zs vs two (trip_visited t xs vs room is_ready good.0) before)

-- behind the memory each bit is 0
written_all : (xs ys zs : List ControllerState) → AllByRecursion IsFitAlone xs → AllAlike xs ys
    → AllAlike xs zs → SameInside xs ys zs → SameWritten xs ys zs
unfolding SameInside
written_all [] [] [] fit one two same = tt
written_all [] [] (z ∷ zs) fit one two same = absurd two
written_all [] (y ∷ ys) zs fit one two same = absurd one
written_all (x ∷ xs) [] zs fit one two same = absurd one
written_all (x ∷ xs) (y ∷ ys) [] fit one two same = absurd two
written_all (x ∷ xs) (y ∷ ys) (z ∷ zs) fit one two same =
    let y_size = (one.0.fit fit.0).controller.memory_size in
    let z_size = (two.0.fit fit.0).controller.memory_size in (
      λ r p i accepts takes.
          ⊎_elim
          (λ (inside : p < 8 * MEMORY_SIZE). same.0.bits r p i accepts takes inside)
          (λ (past : 8 * MEMORY_SIZE ≤ p).
          bit_past y.memory p (omega (arith, y_size, past))
          ∙ sym (bit_past z.memory p (omega (arith, z_size, past))))
          (cases_lt p (8 * MEMORY_SIZE)),
      written_all xs ys zs fit.1 one.1 two.1 same.1,
    )

-- everybody passed once is alike too
pub after_alike : (ts : List Trip) (xs zs : List ControllerState) → TripsReady ts xs → AllAlike xs zs
    → AllAlike xs (after_trips ts zs)
after_alike [] xs zs ready alike = alike
after_alike (t ∷ ts) xs zs ready alike =
    after_alike ts xs (map (after_frame t.entries) zs) (rest_ready t ts xs ready)
    (passed_alike t.entries xs zs ready.fit.alone ready.accepts.0 alike)

pub run_written : (ts : List Trip) (xs line : List ControllerState) (runs : List (List Visit))
    → length xs ≤ MOST → TripsReady ts xs → AllAlike xs line → AllAlike xs (behind runs line)
    → MovingTrips ts runs line → CountsWholeAll ts xs (joined_on_each ts runs)
    → SameWritten xs (behind runs line) (after_trips ts line)
run_written ts xs line runs room ready alike end moving good =
    written_all xs (behind runs line) (after_trips ts line) ready.fit.alone end (after_alike ts xs line ready alike)
    (inside_run ts xs line line runs room ready alike alike moving good (inside-refl xs line alike))
