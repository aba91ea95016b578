-- Behind a run over a line that moves, whose counters are good, the applications are shown each bit that an
-- accepted request writes as if each slave had been passed once by each frame, where in each frame the last
-- entry that shows the bit's byte is the last that writes it.
use Rattle.std.proofs.Common.{◌≡◌, ℕ, ◌+◌, ◌-◌, ◌*◌, ◌/◌, ◌%◌, ◌<◌, ◌≤◌, Bool, true, false, ◌||◌}
use Rattle.std.proofs.Common.{cond, List, [], ◌∷◌, length, get_or, map, Option, None, Some}
use Rattle.std.proofs.Common.{sym, subst, ◌∙◌, ap, refl, arith, ⊎_elim}
use Rattle.std.specs.Int.{bit_at}
use Rattle.std.specs.List.{AllByRecursion}
use Rattle.std.proofs.Math.Path.{fun_ext}
use Rattle.std.proofs.lemmas.Bool.{cases_Bool, cases_lt}
use Rattle.ec_regs.specs.Bits.{bit}
use Rattle.ec_regs.specs.declared.registers.TheConstants.{MEMORY_SIZE, PROCESS_MEMORY}
use Rattle.ec_regs.specs.declared.sync_man.SyncMan.{SyncMan}
use Rattle.ec_regs.proofs.Laws.{bit_past}
use Rattle.ec_areas.specs.Records.{sync_managers_of}
use Rattle.ec_areas.proofs.Laws.{names_nowhere}
use Rattle.ec_esc.specs.Pass.{touches}
use Rattle.ec_esc.specs.State.{ControllerState}
use Rattle.ec_esc.specs.Writing.{is_shown_anew}
use Rattle.ec_line.specs.Accepted.{Accepts, AcceptsAll}
use Rattle.ec_line.specs.After.{Entry, after_frame}
use Rattle.ec_line.specs.Claims.{taken}
use Rattle.ec_line.specs.Fit.{IsFitAlone}
use Rattle.ec_line.specs.Moving.{IsAlike, AllAlike, HasMoved, Visit, befores, laters, MovingTrips}
use Rattle.ec_line.specs.Moving.{joined_on_each, behind, SameShownWritten}
use Rattle.ec_line.specs.Request.{Request}
use Rattle.ec_line.specs.Run.{TripsReady, CountsWholeAll, after_trips}
use Rattle.ec_line.specs.Shown.{writes_byte, shows_byte, some_shows, ShowsLast, ShowsLastInRun}
use Rattle.ec_line.specs.Trip.{Trip}
use Rattle.ec_line.proofs.AlikeLemmas.{all_accepted}
use Rattle.ec_line.proofs.CertificateLemmas.{MOST}
use Rattle.ec_line.proofs.FitLemmas.{silent}
use Rattle.ec_line.proofs.MemoryLemmas.{IsSilentAt}
use Rattle.ec_line.proofs.MovingLemmas.{visits_alike}
use Rattle.ec_line.proofs.MovingRunLemmas.{first_moving}
use Rattle.ec_line.proofs.MovingWrittenLemmas.{left_of, IsVisited, AllVisited, trip_visited, keeps, passed_alike}
use Rattle.ec_line.proofs.MovingWrittenLemmas.{SameInside, inside-refl, inside_trip, after_alike}
use Rattle.ec_line.proofs.RunLemmas.{rest_ready}
use Rattle.ec_line.proofs.ShownLemmas.{shown_frame, shown_anew_area}
use Rattle.ec_line.proofs.SteadyLemmas.{same_steady_refl, register_steady, taken_unsteady}

-- ---- what an entry shows hangs on what is alike

shows_alike : (e : Entry) (x y : ControllerState) (a : ℕ) → Accepts e.request x → IsAlike x y
    → shows_byte y a e ≡ shows_byte x a e
shows_alike e x y a accepts alike =
    alike.shows (touches (taken e.request y)) a
    ∙ ap (λ (f : ℕ → Option ℕ).
    is_shown_anew (touches f) (sync_managers_of x.memory) (sync_managers_of x.memory) a)
    (alike.takes e.request accepts)

some_shows_alike : (es : List Entry) (x y : ControllerState) (a : ℕ) → AcceptsAll es x → IsAlike x y
    → some_shows y a es ≡ some_shows x a es
some_shows_alike [] x y a accepts alike = refl
some_shows_alike (e ∷ es) x y a accepts alike =
    (λ i. shows_alike e x y a accepts.0 alike i || some_shows_alike es x y a accepts.1 alike i)

unwritten_alike : (es : List Entry) (x y : ControllerState) (a : ℕ) → AcceptsAll es x → IsAlike x y
    → AllByRecursion (λ e. writes_byte x a e ≡ false) es → AllByRecursion (λ e. writes_byte y a e ≡ false) es
unwritten_alike [] x y a accepts alike all = tt
unwritten_alike (e ∷ es) x y a accepts alike all = (
  ap (λ (f : ℕ → Option ℕ). touches f a) (alike.takes e.request accepts.0) ∙ all.0,
  unwritten_alike es x y a accepts.1 alike all.1,
)

shows_last_alike : (es : List Entry) (x y : ControllerState) (a : ℕ) → AcceptsAll es x → IsAlike x y
    → ShowsLast x a es → ShowsLast y a es
shows_last_alike [] x y a accepts alike last = tt
shows_last_alike (e ∷ es) x y a accepts alike last = (
  λ shows none.
      unwritten_alike es x y a accepts.1 alike
      (last.0 (sym (shows_alike e x y a accepts.0 alike) ∙ shows)
      (sym (some_shows_alike es x y a accepts.1 alike) ∙ none)),
  shows_last_alike es x y a accepts.1 alike last.1,
)

-- a slave that counts nothing is shown nothing anew
no_conditions : (ss : List SyncMan) → AllByRecursion (λ s. Unit {0}) ss
no_conditions [] = tt
no_conditions (s ∷ ss) = (tt, no_conditions ss)

silent_shows : (e : Entry) (x : ControllerState) (a : ℕ) → ((p : ℕ) → taken e.request x p ≡ None)
    → shows_byte x a e ≡ false
silent_shows e x a takes =
    let untouched : (b : ℕ) → touches (taken e.request x) b ≡ false =
    λ b. ap (λ (f : ℕ → Option ℕ). touches f b) (fun_ext takes) ∙ names_nowhere (λ _. None) 8 (λ i below. refl) in
    ⊎_elim
    (λ (shows : shows_byte x a e ≡ true).
    let area = shown_anew_area (touches (taken e.request x)) (sync_managers_of x.memory) a (λ s. Unit {0}) shows
    (no_conditions (sync_managers_of x.memory)) in
    absurd (let no : true ≡ false = sym area.6 ∙ untouched _ in cc))
    (λ (not_shown : shows_byte x a e ≡ false). not_shown)
    (cases_Bool (shows_byte x a e))

silent_shown : (es : List Entry) (x : ControllerState) (a : ℕ) → IsSilentAt es x → some_shows x a es ≡ false
silent_shown [] x a still = refl
silent_shown (e ∷ es) x a still =
    (λ i. silent_shows e x a (silent e.request x still.0).takes i || silent_shown es x a still.1 i)

-- ---- a shown bit behind a passage

-- what is written lies in process memory
taken_process : (r : Request) (x : ControllerState) (p i : ℕ) → Accepts r x → taken r x p ≡ Some i
    → PROCESS_MEMORY ≤ p / 8
taken_process r x p i accepts takes =
    ⊎_elim
    (λ (register : p / 8 < PROCESS_MEMORY).
    absurd (let no : true ≡ false = sym (register_steady (sync_managers_of x.memory) (p / 8) register)
    ∙ taken_unsteady r x p i accepts takes in cc))
    (λ (process : PROCESS_MEMORY ≤ p / 8). process)
    (cases_lt (p / 8) PROCESS_MEMORY)

bit_cond : (s : Bool) (v w n : ℕ) → bit_at (cond s v w) n ≡ cond s (bit_at v n) (bit_at w n)
bit_cond true v w n = refl
bit_cond false v w n = refl

-- the place of a memory bit among the shown ones
abbrev pub shown_place : ℕ → ℕ
shown_place p = p - 8 * PROCESS_MEMORY

shown_passed : (es : List Entry) (x y : ControllerState) (p : ℕ) → IsFitAlone x → AcceptsAll es x → IsAlike x y
    → PROCESS_MEMORY ≤ p / 8 → p < 8 * MEMORY_SIZE → ShowsLast x (p / 8) es
    → bit (after_frame es y).shown (shown_place p)
    ≡ cond (some_shows x (p / 8) es) (bit (after_frame es y).memory p) (bit y.shown (shown_place p))
shown_passed es x y p fit accepts alike process inside last =
    let q = shown_place p in
    let k = q / 8 in
    let address : p / 8 ≡ PROCESS_MEMORY + k = omega arith in
    let place : q % 8 ≡ p % 8 = omega arith in
    let controller = (alike.fit fit).controller in
    let size = controller.shown_size in
    let s : Bool = some_shows x (p / 8) es in
    let left : ControllerState = after_frame es y in
    let shows : some_shows y (PROCESS_MEMORY + k) es ≡ s =
    ap (λ a. some_shows y a es) (sym address) ∙ some_shows_alike es x y (p / 8) accepts alike in
    let last_now : ShowsLast y (PROCESS_MEMORY + k) es =
    subst (λ a. ShowsLast y a es) address (shows_last_alike es x y (p / 8) accepts alike last) in
    let byte = shown_frame es y y k controller controller (same_steady_refl y) (all_accepted es x y alike accepts)
    (omega arith) last_now in
    let memory : bit_at (get_or left.memory (PROCESS_MEMORY + k) 0) (q % 8) ≡ bit left.memory p =
    ap (λ a. bit_at (get_or left.memory a 0) (q % 8)) (sym address)
    ∙ ap (bit_at (get_or left.memory (p / 8) 0)) place in
    ap (λ v. bit_at v (q % 8)) byte
    ∙ ap (λ t. bit_at (cond t (get_or left.memory (PROCESS_MEMORY + k) 0) (get_or y.shown k 0)) (q % 8)) shows
    ∙ bit_cond s (get_or left.memory (PROCESS_MEMORY + k) 0) (get_or y.shown k 0) (q % 8)
    ∙ ap (λ v. cond s v (bit y.shown q)) memory

-- of a copy that passed, or did not
left_shown : (passed : Bool) (es : List Entry) (x y : ControllerState) (p : ℕ) → IsFitAlone x → AcceptsAll es x
    → IsAlike x y → PROCESS_MEMORY ≤ p / 8 → p < 8 * MEMORY_SIZE → ShowsLast x (p / 8) es
    → bit (left_of passed es y).shown (shown_place p)
    ≡ cond (cond passed (some_shows x (p / 8) es) false) (bit (left_of passed es y).memory p)
    (bit y.shown (shown_place p))
left_shown true es x y p fit accepts alike process inside last =
    shown_passed es x y p fit accepts alike process inside last
left_shown false es x y p fit accepts alike process inside last = refl

-- ---- one slave on one trip

-- what two copies show is what stands in the memory behind both, where one of them passed
shown_once : (first second s : Bool) (l m z w : ℕ) → (second ≡ false → m ≡ l) → z ≡ m
    → (first ≡ false → second ≡ false → s ≡ false)
    → cond (cond second s false) m (cond (cond first s false) l w) ≡ cond s z w
shown_once true true true l m z w unpassed same none = sym same
shown_once true true false l m z w unpassed same none = refl
shown_once true false s l m z w unpassed same none =
    ap (λ v. cond s v w) (sym (same ∙ unpassed refl))
shown_once false true s l m z w unpassed same none = ap (λ v. cond s v w) (sym same)
shown_once false false s l m z w unpassed same none = ap (λ t. cond t z w) (sym (none refl refl))

-- a copy that did not pass leaves the bit
unpassed_bit : (passed : Bool) (es : List Entry) (y : ControllerState) (p : ℕ) → passed ≡ false
    → bit (left_of passed es y).memory p ≡ bit y.memory p
unpassed_bit passed es y p idle = ap (λ (b : Bool). bit (left_of b es y).memory p) idle

-- a slave that is at first x and moves to b and c, is passed or not, moves to d, is passed or not, moves to z
pub record IsTwiceShown (es : List Entry) (x : ControllerState) (p : ℕ) (first second : Bool)
    (b c d z : ControllerState) : Type 0 where
  pub left : IsAlike x (left_of first es c)
  pub left_last : IsAlike x (left_of second es d)
  pub moves : HasMoved b c × HasMoved (left_of first es c) d × HasMoved (left_of second es d) z
  pub shown : bit (left_of first es c).shown (shown_place p)
      ≡ cond (cond first (some_shows x (p / 8) es) false) (bit (left_of first es c).memory p)
      (bit c.shown (shown_place p))
  pub shown_last : bit (left_of second es d).shown (shown_place p)
      ≡ cond (cond second (some_shows x (p / 8) es) false) (bit (left_of second es d).memory p)
      (bit d.shown (shown_place p))

twice_shown : (es : List Entry) (r : Request) (x : ControllerState) (p i : ℕ) (first second : Bool)
    (b c d z : ControllerState) → Accepts r x → taken r x p ≡ Some i
    → IsTwiceShown es x p first second b c d z
    → (first ≡ false → second ≡ false → some_shows x (p / 8) es ≡ false)
    → bit z.shown (shown_place p)
    ≡ cond (some_shows x (p / 8) es) (bit z.memory p) (bit b.shown (shown_place p))
twice_shown es r x p i first second b c d z accepts takes is none =
    let q = shown_place p in
    let s : Bool = some_shows x (p / 8) es in
    let l : ControllerState = left_of first es c in
    let m : ControllerState = left_of second es d in
    let at : List ℕ → ℕ = λ shown. bit shown q in
    let l_kept : bit d.memory p ≡ bit l.memory p = keeps r p i x l d accepts takes is.left is.moves.1 in
    let m_kept : bit z.memory p ≡ bit m.memory p = keeps r p i x m z accepts takes is.left_last is.moves.2 in
    ap at is.moves.2.shown ∙ is.shown_last
    ∙ ap (cond (cond second s false) (bit m.memory p))
    (ap at is.moves.1.shown ∙ is.shown
    ∙ ap (cond (cond first s false) (bit l.memory p)) (ap at is.moves.0.shown))
    ∙ shown_once first second s (bit l.memory p) (bit m.memory p) (bit z.memory p) (bit b.shown q)
    (λ idle. unpassed_bit second es d p idle ∙ l_kept) m_kept none

-- behind a trip, whichever copy came first
visit_shown : (es : List Entry) (x : ControllerState) (v : Visit) (r : Request) (p i : ℕ) → IsVisited es x v
    → Accepts r x → taken r x p ≡ Some i → p < 8 * MEMORY_SIZE → ShowsLast x (p / 8) es
    → bit v.later.shown (shown_place p)
    ≡ cond (some_shows x (p / 8) es) (bit v.later.memory p) (bit v.before.shown (shown_place p))
visit_shown es x v r p i is accepts takes inside last =
    let process : PROCESS_MEMORY ≤ p / 8 = taken_process r x p i accepts takes in
    let a = left_shown is.by_a es x v.at_a p is.fit is.accepts is.at_a process inside last in
    let b = left_shown is.by_b es x v.at_b p is.fit is.accepts is.at_b process inside last in
    ⊎_elim
    (λ moved.
    twice_shown es r x p i is.by_a is.by_b v.before v.at_a v.at_b v.later accepts takes
    (record { left = is.left_a; left_last = is.left_b; moves = moved; shown = a; shown_last = b })
    (λ a_idle b_idle. silent_shown es x (p / 8) (is.reached a_idle b_idle)))
    (λ moved.
    twice_shown es r x p i is.by_b is.by_a v.before v.at_b v.at_a v.later accepts takes
    (record { left = is.left_b; left_last = is.left_a; moves = moved; shown = b; shown_last = a })
    (λ b_idle a_idle. silent_shown es x (p / 8) (is.reached a_idle b_idle)))
    is.moves

-- ---- a run

-- of two lines each written bit within the memory is shown the same, where a condition holds of its byte
pub record IsShownInside (C : ControllerState → ℕ → Type 0) (x y z : ControllerState) : Type 0 where
  pub bits : (r : Request) (p i : ℕ) → Accepts r x → taken r x p ≡ Some i → p < 8 * MEMORY_SIZE → C x (p / 8)
      → bit y.shown (shown_place p) ≡ bit z.shown (shown_place p)

unfoldable pub ShownInside : (ControllerState → ℕ → Type 0) → List ControllerState → List ControllerState
    → List ControllerState → Type 0
ShownInside C [] [] [] = Unit {0}
ShownInside C (x ∷ xs) (y ∷ ys) (z ∷ zs) = IsShownInside C x y z × ShownInside C xs ys zs
ShownInside C _ _ _ = ⊥

shown_inside-refl : (C : ControllerState → ℕ → Type 0) (xs ys : List ControllerState) → AllAlike xs ys
    → ShownInside C xs ys ys
unfolding ShownInside
shown_inside-refl C [] [] alike = tt
shown_inside-refl C [] (y ∷ ys) alike = absurd alike
shown_inside-refl C (x ∷ xs) [] alike = absurd alike
shown_inside-refl C (x ∷ xs) (y ∷ ys) alike =
    (record { bits = λ r p i accepts takes inside c. refl }, shown_inside-refl C xs ys alike.1)

shown_trip : (C : ControllerState → ℕ → Type 0) (es : List Entry) (xs zs : List ControllerState)
    (vs : List Visit) → ((x : ControllerState) (a : ℕ) → C x a → ShowsLast x a es) → AllAlike xs zs
    → AllVisited es xs vs → SameInside xs (laters vs) (map (after_frame es) zs)
    → ShownInside C xs (befores vs) zs → ShownInside C xs (laters vs) (map (after_frame es) zs)
unfolding AllVisited SameInside ShownInside
shown_trip C es [] [] [] last alike visited same shown = tt
shown_trip C es [] [] (v ∷ vs) last alike visited same shown = absurd shown
shown_trip C es [] (z ∷ zs) vs last alike visited same shown = absurd alike
shown_trip C es (x ∷ xs) [] vs last alike visited same shown = absurd alike
shown_trip C es (x ∷ xs) (z ∷ zs) [] last alike visited same shown = absurd shown
shown_trip C es (x ∷ xs) (z ∷ zs) (v ∷ vs) last alike visited same shown =
    let is = visited.0 in (
      record {
        bits = λ r p i accepted takes inside c.
            let s : Bool = some_shows x (p / 8) es in
            let q = shown_place p in
            visit_shown es x v r p i is accepted takes inside (last x (p / 8) c)
            ∙ ap (λ w. cond s w (bit v.before.shown q)) (same.0.bits r p i accepted takes inside)
            ∙ ap (cond s (bit (after_frame es z).memory p)) (shown.0.bits r p i accepted takes inside c)
            ∙ sym (shown_passed es x z p is.fit is.accepts alike.0 (taken_process r x p i accepted takes) inside
            (last x (p / 8) c));
      },
      shown_trip C es xs zs vs last alike.1 visited.1 same.1 shown.1,
    )

shown_run : (C : ControllerState → ℕ → Type 0) (ts : List Trip) (xs line zs : List ControllerState)
    (runs : List (List Visit)) → ((x : ControllerState) (a : ℕ) → C x a → ShowsLastInRun ts a x)
    → length xs ≤ MOST → TripsReady ts xs → AllAlike xs line → AllAlike xs zs → MovingTrips ts runs line
    → CountsWholeAll ts xs (joined_on_each ts runs) → SameInside xs line zs → ShownInside C xs line zs
    → ShownInside C xs (behind runs line) (after_trips ts zs)
shown_run C [] xs line zs [] last room ready one two moving good same shown = shown
shown_run C [] xs line zs (vs ∷ rest) last room ready one two moving good same shown = absurd moving
shown_run C (t ∷ ts) xs line zs [] last room ready one two moving good same shown = absurd moving
shown_run C (t ∷ ts) xs line zs (vs ∷ rest) last room ready one two moving good same shown =
    let es = t.entries in
    let is_ready = first_moving t ts xs line vs ready one moving.0 in
    let later : AllAlike xs (laters vs) = (visits_alike t xs vs is_ready).later in
    let visited : AllVisited es xs vs = trip_visited t xs vs room is_ready good.0 in
    let before : SameInside xs (befores vs) zs =
    subst (λ (l : List ControllerState). SameInside xs l zs) (sym moving.0.starts) same in
    let shown_before : ShownInside C xs (befores vs) zs =
    subst (λ (l : List ControllerState). ShownInside C xs l zs) (sym moving.0.starts) shown in
    let inside : SameInside xs (laters vs) (map (after_frame es) zs) =
    inside_trip es xs zs vs two visited before in
    shown_run C ts xs (laters vs) (map (after_frame es) zs) rest (λ x a c. (last x a c).1) room
    (rest_ready t ts xs ready) later (passed_alike es xs zs ready.fit.alone ready.accepts.0 two) moving.1 good.1
    inside (shown_trip C es xs zs vs (λ x a c. (last x a c).0) two visited inside shown_before)

-- behind the memory no bit is shown
shown_all : (ts : List Trip) (xs ys zs : List ControllerState) → AllByRecursion IsFitAlone xs → AllAlike xs ys
    → AllAlike xs zs → ShownInside (λ x a. ShowsLastInRun ts a x) xs ys zs → SameShownWritten ts xs ys zs
unfolding ShownInside
shown_all ts [] [] [] fit one two same = tt
shown_all ts [] [] (z ∷ zs) fit one two same = absurd two
shown_all ts [] (y ∷ ys) zs fit one two same = absurd one
shown_all ts (x ∷ xs) [] zs fit one two same = absurd one
shown_all ts (x ∷ xs) (y ∷ ys) [] fit one two same = absurd two
shown_all ts (x ∷ xs) (y ∷ ys) (z ∷ zs) fit one two same =
    let y_size = (one.0.fit fit.0).controller.shown_size in
    let z_size = (two.0.fit fit.0).controller.shown_size in (
      λ r p i accepts takes last.
          ⊎_elim
          (λ (inside : p < 8 * MEMORY_SIZE). same.0.bits r p i accepts takes inside last)
          (λ (past : 8 * MEMORY_SIZE ≤ p).
          bit_past y.shown (shown_place p) (omega (arith, y_size, past))
          ∙ sym (bit_past z.shown (shown_place p) (omega (arith, z_size, past))))
          (cases_lt p (8 * MEMORY_SIZE)),
      shown_all ts xs ys zs fit.1 one.1 two.1 same.1,
    )

pub run_shown : (ts : List Trip) (xs line : List ControllerState) (runs : List (List Visit)) → length xs ≤ MOST
    → TripsReady ts xs → AllAlike xs line → AllAlike xs (behind runs line) → MovingTrips ts runs line
    → CountsWholeAll ts xs (joined_on_each ts runs)
    → SameShownWritten ts xs (behind runs line) (after_trips ts line)
run_shown ts xs line runs room ready alike end moving good =
    shown_all ts xs (behind runs line) (after_trips ts line) ready.fit.alone end (after_alike ts xs line ready alike)
    (shown_run (λ x a. ShowsLastInRun ts a x) ts xs line line runs (λ x a c. c) room ready alike alike moving good
    (inside-refl xs line alike) (shown_inside-refl (λ x a. ShowsLastInRun ts a x) xs line alike))
