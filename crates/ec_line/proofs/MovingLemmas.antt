-- A trip over a line that moves: each copy is the answer of the slaves as it met them, the counters of the
-- join move by those of the copies that came back, and where they are good the join is the answer of each
-- slave at one moment.
use Rattle.std.proofs.Common.{◌≡◌, ℕ, zero, suc, ◌+◌, ◌%◌, ◌<◌, ◌≤◌, true, false, cond, List, [], ◌∷◌}
use Rattle.std.proofs.Common.{◌++◌, length, take, drop, None, sym, subst, ◌∙◌, ap, refl, arith, ⊎_elim}
use Rattle.std.specs.List.{AllByRecursion, sum_by}
use Rattle.std.proofs.lemmas.List.{drop_all}
use Rattle.std.proofs.lemmas.List.Sums.{sum_by-cons, sum_by-append, sum_by-take-le}
use Rattle.ec_regs.specs.Bits.{bit}
use Rattle.ec_regs.proofs.Laws.{each-take, each-drop}
use Rattle.ec_wire.specs.Datagram.{DatagramRecord}
use Rattle.ec_merge.specs.Frames.{joined_record, joined_frame}
use Rattle.ec_esc.specs.State.{ControllerState}
use Rattle.ec_line.specs.Accepted.{Accepts, AcceptsAll}
use Rattle.ec_line.specs.After.{Entry, after_frame}
use Rattle.ec_line.specs.Answered.{Answered, AnsweredFrame, sent_of}
use Rattle.ec_line.specs.Answers.{Meets}
use Rattle.ec_line.specs.Claims.{claim, gain}
use Rattle.ec_line.specs.Fit.{IsFitAlone, IsFitLine}
use Rattle.ec_line.specs.Memory.{AllBetween}
use Rattle.ec_line.specs.Moving.{IsAlike, AllAlike, Visit, AllMove, befores, when_a, when_b, laters}
use Rattle.ec_line.specs.Moving.{copy_a, copy_b, joined_moving, front_of, back_of, IsPassedOnce}
use Rattle.ec_line.specs.Moving.{Moves}
use Rattle.ec_line.specs.Request.{Request, OnWay}
use Rattle.ec_line.specs.Run.{CountsWhole}
use Rattle.ec_line.specs.Trip.{Trip, returned, front_after, back_after, sent_b}
use Rattle.ec_line.proofs.AlikeLemmas.{on_way_answered, IsLeftAlike, AllLeftAlike, left_front, left_back}
use Rattle.ec_line.proofs.AlikeLemmas.{twice_alike, alike-take, alike-drop, alike-length, fit_line}
use Rattle.ec_line.proofs.AlikeLemmas.{accepts_line, sum_alike, all_alike-trans}
use Rattle.ec_line.proofs.AnswersLemmas.{SameClaims, answers_same}
use Rattle.ec_line.proofs.CertificateLemmas.{MOST, sum_bound, sum_drop_le, gap_counts_nothing, PiecesCountAll}
use Rattle.ec_line.proofs.CertificateLemmas.{returned_pieces, accepts_each, moved_whole_kind}
use Rattle.ec_line.proofs.CertificateLemmas.{between-map}
use Rattle.ec_line.proofs.CoreLemmas.{IsReady, later-refl, front_copy, back_copy, starts_b}
use Rattle.ec_line.proofs.FitLemmas.{silent}
use Rattle.ec_line.proofs.JoinLemmas.{IsEntry, frame_nobody}

-- ---- the states of all slaves on a trip

-- a trip over a line, at first xs, that moves
pub record IsMovingReady (t : Trip) (xs : List ControllerState) (vs : List Visit) : Type 0 where
  pub fit : IsFitLine xs
  pub accepts : AllByRecursion (AcceptsAll t.entries) xs
  pub entries : AllByRecursion IsEntry t.entries
  pub alike : AllAlike xs (befores vs)
  pub moves : AllMove vs (copy_a t vs).line (copy_b t vs).line

-- all states on a trip are alike to those at first
pub record AreAlike (xs : List ControllerState) (vs : List Visit) (ls rs : List ControllerState) : Type 0 where
  pub when_a : AllAlike xs (when_a vs)
  pub when_b : AllAlike xs (when_b vs)
  pub left_a : AllAlike xs ls
  pub left_b : AllAlike xs rs
  pub later : AllAlike xs (laters vs)

pub record IsVisitAlike (x : ControllerState) (v : Visit) (l r : ControllerState) : Type 0 where
  pub at_a : IsAlike x v.at_a
  pub at_b : IsAlike x v.at_b
  pub left_a : IsAlike x l
  pub left_b : IsAlike x r
  pub later : IsAlike x v.later

visit_alike : (es : List Entry) (v : Visit) (left_a left_b : ControllerState) → IsFitAlone v.before
    → AcceptsAll es v.before → Moves v left_a left_b → IsLeftAlike es v.at_a left_a
    → IsLeftAlike es v.at_b left_b → IsVisitAlike v.before v left_a left_b
visit_alike es v left_a left_b fit accepts moves one two =
    ⊎_elim
    (λ a_first.
    let all = twice_alike es v.before v.at_a left_a v.at_b left_b v.later fit accepts a_first one two in
    record {
      at_a = all.first;
      at_b = all.second;
      left_a = all.first_left;
      left_b = all.second_left;
      later = all.later;
    })
    (λ b_first.
    let all = twice_alike es v.before v.at_b left_b v.at_a left_a v.later fit accepts b_first two one in
    record {
      at_a = all.second;
      at_b = all.first;
      left_a = all.second_left;
      left_b = all.first_left;
      later = all.later;
    })
    moves

each_alike : (es : List Entry) (vs : List Visit) (ls rs : List ControllerState)
    → AllByRecursion IsFitAlone (befores vs) → AllByRecursion (AcceptsAll es) (befores vs) → AllMove vs ls rs
    → AllLeftAlike es (when_a vs) ls → AllLeftAlike es (when_b vs) rs → AreAlike (befores vs) vs ls rs
unfolding AllLeftAlike
each_alike es [] [] [] fit accepts moves one two =
    record { when_a = tt; when_b = tt; left_a = tt; left_b = tt; later = tt }
each_alike es [] [] (r ∷ rs) fit accepts moves one two = absurd moves
each_alike es [] (l ∷ ls) rs fit accepts moves one two = absurd moves
each_alike es (v ∷ vs) [] rs fit accepts moves one two = absurd moves
each_alike es (v ∷ vs) (l ∷ ls) [] fit accepts moves one two = absurd moves
each_alike es (v ∷ vs) (l ∷ ls) (r ∷ rs) fit accepts moves one two =
    let here = visit_alike es v l r fit.0 accepts.0 moves.0 one.0 two.0 in
    let rest = each_alike es vs ls rs fit.1 accepts.1 moves.1 one.1 two.1 in
    record {
      when_a = (here.at_a, rest.when_a);
      when_b = (here.at_b, rest.when_b);
      left_a = (here.left_a, rest.left_a);
      left_b = (here.left_b, rest.left_b);
      later = (here.later, rest.later);
    }

pub visits_alike : (t : Trip) (xs : List ControllerState) (vs : List Visit) → IsMovingReady t xs vs
    → AreAlike xs vs (copy_a t vs).line (copy_b t vs).line
visits_alike t xs vs ready =
    let es = t.entries in
    let ls : List ControllerState = (copy_a t vs).line in
    let rs : List ControllerState = (copy_b t vs).line in
    let fit : IsFitLine (befores vs) = fit_line xs (befores vs) ready.alike ready.fit in
    let all = each_alike es vs ls rs fit.alone (accepts_line es xs (befores vs) ready.alike ready.accepts)
    ready.moves
    (left_front es t.front (when_a vs) (sent_of es)
    (on_way_answered es [] (sent_of es) (frame_nobody es ready.entries)))
    (left_back es t.back (when_b vs) (sent_b t) (on_way_answered es [] (sent_b t) (starts_b t ready.entries))) in
    record {
      when_a = all_alike-trans xs (befores vs) (when_a vs) ready.alike all.when_a;
      when_b = all_alike-trans xs (befores vs) (when_b vs) ready.alike all.when_b;
      left_a = all_alike-trans xs (befores vs) ls ready.alike all.left_a;
      left_b = all_alike-trans xs (befores vs) rs ready.alike all.left_b;
      later = all_alike-trans xs (befores vs) (laters vs) ready.alike all.later;
    }

-- ---- each copy

-- each copy is the answer of those it passed, as it met them, and leaves each of them after the frame
pub record CopiesMoved (t : Trip) (vs : List Visit) : Type 0 where
  pub a : AnsweredFrame t.entries (take t.front (when_a vs)) (copy_a t vs).frame
  pub b : AnsweredFrame t.entries (drop t.back (when_b vs)) (copy_b t vs).frame
  pub left_a : (copy_a t vs).line ≡ front_after (after_frame t.entries) t.front (when_a vs)
  pub left_b : (copy_b t vs).line ≡ back_after (after_frame t.entries) t.back (when_b vs)

-- a line that is alike is ready for a frame
ready_alike : (t : Trip) (xs ys : List ControllerState) (vs : List Visit) → IsMovingReady t xs vs
    → AllAlike xs ys → IsReady t.entries ys ys
ready_alike t xs ys vs ready alike =
    let fit : IsFitLine ys = fit_line xs ys alike ready.fit in
    record {
      fit = fit;
      accepts = accepts_line t.entries xs ys alike ready.accepts;
      entries = ready.entries;
      later = later-refl ys fit.alone;
    }

pub copies_moved : (t : Trip) (xs : List ControllerState) (vs : List Visit) → IsMovingReady t xs vs
    → CopiesMoved t vs
copies_moved t xs vs ready =
    let es = t.entries in
    let alike = visits_alike t xs vs ready in
    let a = front_copy es (when_a vs) (when_a vs) t.front (sent_of es)
    (ready_alike t xs (when_a vs) vs ready alike.when_a) (frame_nobody es ready.entries) in
    let b = back_copy es (when_b vs) (when_b vs) t.back (sent_b t)
    (ready_alike t xs (when_b vs) vs ready alike.when_b) (starts_b t ready.entries) in
    record { a = a.0; b = b.0; left_a = a.1; left_b = b.1 }

-- a copy that came back, or the sent frame
came_front : (t : Trip) (ys : List ControllerState) (ds : List DatagramRecord)
    → AllByRecursion IsEntry t.entries → AnsweredFrame t.entries (take t.front ys) ds
    → AnsweredFrame t.entries (take (front_of t) ys) (cond t.lost_a (sent_of t.entries) ds)
came_front t ys ds entries answered =
    elim t.lost_a as
    (λ b. AnsweredFrame t.entries (take (cond b 0 t.front) ys) (cond b (sent_of t.entries) ds)) [
      | true ↦ frame_nobody t.entries entries
      | false ↦ answered
    ]

came_back : (t : Trip) (n : ℕ) (ys : List ControllerState) (ds : List DatagramRecord)
    → AllByRecursion IsEntry t.entries → length ys ≡ n → AnsweredFrame t.entries (drop t.back ys) ds
    → AnsweredFrame t.entries (drop (back_of t n) ys) (cond t.lost_b (sent_of t.entries) ds)
came_back t n ys ds entries size answered =
    elim t.lost_b as
    (λ b. AnsweredFrame t.entries (drop (cond b (n + t.back) t.back) ys) (cond b (sent_of t.entries) ds)) [
      | true ↦ subst (λ (l : List ControllerState). AnsweredFrame t.entries l (sent_of t.entries))
          (sym (drop_all (n + t.back) ys (omega arith))) (frame_nobody t.entries entries)
      | false ↦ answered
    ]

-- what came back of a trip: the answers of those whom the copies that came back met
pub record CameMoved (t : Trip) (xs : List ControllerState) (vs : List Visit) (a b : List DatagramRecord)
    : Type 0 where
  pub a_answered : AnsweredFrame t.entries (take (front_of t) (when_a vs)) a
  pub b_answered : AnsweredFrame t.entries (drop (back_of t (length xs)) (when_b vs)) b

-- the copies, or the sent frame for one that is lost
abbrev pub came_a : Trip → List Visit → List DatagramRecord
came_a t vs = cond t.lost_a (sent_of t.entries) (copy_a t vs).frame

abbrev pub came_b : Trip → List Visit → List DatagramRecord
came_b t vs = cond t.lost_b (sent_of t.entries) (copy_b t vs).frame

pub came_moved : (t : Trip) (xs : List ControllerState) (vs : List Visit) → IsMovingReady t xs vs
    → CameMoved t xs vs (came_a t vs) (came_b t vs)
came_moved t xs vs ready =
    let both = copies_moved t xs vs ready in
    let alike = visits_alike t xs vs ready in
    record {
      a_answered = came_front t (when_a vs) (copy_a t vs).frame ready.entries both.a;
      b_answered = came_back t (length xs) (when_b vs) (copy_b t vs).frame ready.entries
          (alike-length xs (when_b vs) alike.when_b) both.b;
    }

-- ---- counters

-- the counter of joined copies moves by both, whatever their data
joined_counter : (r : Request) (xs ys : List ControllerState) (s a b : DatagramRecord) → OnWay r s
    → Answered r xs s a → Answered r ys s b
    → (joined_record s a b).counter ≡ (s.counter + sum_by (gain r) (xs ++ ys)) % 65536
joined_counter r xs ys s a b way first second =
    let a_count = first.counter in
    let b_count = second.counter in
    let small = way.counter in
    let sum : sum_by (gain r) (xs ++ ys) ≡ sum_by (gain r) xs + sum_by (gain r) ys =
    sum_by-append (gain r) xs ys in
    omega arith

joined_counts : (es : List Entry) (xs ys : List ControllerState) (a b : List DatagramRecord)
    → AllByRecursion IsEntry es → AnsweredFrame es xs a → AnsweredFrame es ys b
    → CountsWhole es (xs ++ ys) (joined_frame (sent_of es) a b)
unfolding IsEntry
joined_counts [] xs ys a b entries first second = tt
joined_counts (e ∷ es) xs ys [] b entries first second = absurd first
joined_counts (e ∷ es) xs ys (x ∷ a) [] entries first second = absurd second
joined_counts (e ∷ es) xs ys (x ∷ a) (y ∷ b) entries first second = (
  joined_counter e.request xs ys e.sent x y entries.0 first.0 second.0,
  joined_counts es xs ys a b entries.1 first.1 second.1,
)

-- of each entry two lines count the same
abbrev pub CountAlike : List Entry → List ControllerState → List ControllerState → Type 0
CountAlike es xs ys = AllByRecursion (λ e. sum_by (gain e.request) ys ≡ sum_by (gain e.request) xs) es

pub counts_alike : (es : List Entry) (xs ys : List ControllerState) (gs : List DatagramRecord)
    → CountAlike es xs ys → CountsWhole es ys gs → CountsWhole es xs gs
counts_alike [] xs ys [] same counts = tt
counts_alike [] xs ys (g ∷ gs) same counts = absurd counts
counts_alike (e ∷ es) xs ys [] same counts = absurd counts
counts_alike (e ∷ es) xs ys (g ∷ gs) same counts =
    (counts.0 ∙ ap (λ n. (e.sent.counter + n) % 65536) same.0, counts_alike es xs ys gs same.1 counts.1)

-- pieces of alike lines
pieces_alike : (es : List Entry) (p q : ℕ) (xs ys zs : List ControllerState)
    → AllByRecursion (AcceptsAll es) xs → AllAlike xs ys → AllAlike xs zs
    → CountAlike es (take p xs ++ drop q xs) (take p ys ++ drop q zs)
pieces_alike [] p q xs ys zs accepts one two = tt
pieces_alike (e ∷ es) p q xs ys zs accepts one two =
    let r = e.request in
    let each = accepts_each e es xs accepts in
    let front : sum_by (gain r) (take p ys) ≡ sum_by (gain r) (take p xs) =
    sum_alike r (take p xs) (take p ys) (alike-take p xs ys one) (each-take (Accepts r) p xs each.0) in
    let back : sum_by (gain r) (drop q zs) ≡ sum_by (gain r) (drop q xs) =
    sum_alike r (drop q xs) (drop q zs) (alike-drop q xs zs two) (each-drop (Accepts r) q xs each.0) in (
      omega (
        arith,
        front,
        back,
        sum_by-append (gain r) (take p ys) (drop q zs),
        sum_by-append (gain r) (take p xs) (drop q xs),
      ),
      pieces_alike es p q xs ys zs each.1 one two,
    )

-- the counters of what came back, joined, have moved as those count whom the copies passed that came back
pub trip_counts : (t : Trip) (xs : List ControllerState) (vs : List Visit) → IsMovingReady t xs vs
    → CountsWhole t.entries (take (front_of t) xs ++ drop (back_of t (length xs)) xs) (joined_moving t vs)
trip_counts t xs vs ready =
    let es = t.entries in
    let p = front_of t in
    let q = back_of t (length xs) in
    let came = came_moved t xs vs ready in
    let alike = visits_alike t xs vs ready in
    counts_alike es (take p xs ++ drop q xs) (take p (when_a vs) ++ drop q (when_b vs)) (joined_moving t vs)
    (pieces_alike es p q xs (when_a vs) (when_b vs) ready.accepts alike.when_a alike.when_b)
    (joined_counts es (take p (when_a vs)) (drop q (when_b vs)) (came_a t vs) (came_b t vs) ready.entries
    came.a_answered came.b_answered)

pub trip_returned : (t : Trip) (xs : List ControllerState) (vs : List Visit) → IsMovingReady t xs vs
    → CountsWhole t.entries (returned t xs) (joined_moving t vs)
trip_returned t xs vs ready =
    subst (λ (l : List ControllerState). CountsWhole t.entries l (joined_moving t vs))
    (sym (returned_pieces t xs)) (trip_counts t xs vs ready)

-- ---- good counters

-- a counter that has moved as a front and a back count, and as all do: the front and the back count as much
counts_all : (r : Request) (xs : List ControllerState) (p q s c : ℕ) → length xs ≤ MOST → s < 65536
    → c ≡ (s + sum_by (gain r) (take p xs ++ drop q xs)) % 65536 → c ≡ (s + sum_by (gain r) xs) % 65536
    → sum_by (gain r) (take p xs) + sum_by (gain r) (drop q xs) ≡ sum_by (gain r) xs
counts_all r xs p q s c room small pieces whole =
    let sum = sum_by-append (gain r) (take p xs) (drop q xs) in
    let bound = sum_bound r xs in
    let front = sum_by-take-le (gain r) xs p in
    let back = sum_drop_le (gain r) q xs in
    omega arith

pub pieces_count : (es : List Entry) (xs : List ControllerState) (p q : ℕ) (gs : List DatagramRecord)
    → length xs ≤ MOST → AllByRecursion IsEntry es → CountsWhole es (take p xs ++ drop q xs) gs
    → CountsWhole es xs gs → PiecesCountAll es xs p q
unfolding IsEntry
pieces_count [] xs p q [] room entries pieces whole = tt
pieces_count [] xs p q (g ∷ gs) room entries pieces whole = absurd whole
pieces_count (e ∷ es) xs p q [] room entries pieces whole = absurd whole
pieces_count (e ∷ es) xs p q (g ∷ gs) room entries pieces whole = (
  counts_all e.request xs p q e.sent.counter g.counter room entries.0.counter pieces.0 whole.0,
  pieces_count es xs p q gs room entries.1 pieces.1 whole.1,
)

-- where a front and a back count as much as all, those in both count nothing
overlap_counts_nothing : {S : Type 0} (f : S → ℕ) (p q : ℕ) (xs : List S)
    → sum_by f (take p xs) + sum_by f (drop q xs) ≡ sum_by f xs → AllBetween (λ x. f x ≡ 0) q p xs
overlap_counts_nothing f p q [] same = tt
overlap_counts_nothing f zero zero (x ∷ xs) same = tt
overlap_counts_nothing f zero (suc q) (x ∷ xs) same = tt
overlap_counts_nothing f (suc p) zero (x ∷ xs) same =
    let all = sum_by-cons f x xs in
    let front = sum_by-cons f x (take p xs) in
    (omega (arith, all, front), overlap_counts_nothing f p zero xs (omega (arith, all, front)))
overlap_counts_nothing f (suc p) (suc q) (x ∷ xs) same =
    let all = sum_by-cons f x xs in
    let front = sum_by-cons f x (take p xs) in
    overlap_counts_nothing f p q xs (omega (arith, all, front))

pub passed_once : (es : List Entry) (t : Trip) (xs : List ControllerState)
    → PiecesCountAll es xs (front_of t) (back_of t (length xs)) → AllByRecursion (IsPassedOnce t xs) es
passed_once [] t xs same = tt
passed_once (e ∷ es) t xs same =
    let p = front_of t in
    let q = back_of t (length xs) in (
      record {
        some = gap_counts_nothing (gain e.request) p q xs same.0;
        one = overlap_counts_nothing (gain e.request) p q xs same.0;
      },
      passed_once es t xs same.1,
    )

-- ---- silent members are left out

-- what holds behind a place holds behind a later one
behind_later : {S : Type 0} (P : S → Type 0) (q p : ℕ) (xs : List S) → q ≤ p → AllByRecursion P (drop q xs)
    → AllByRecursion P (drop p xs)
behind_later P zero p xs before all = each-drop P p xs all
behind_later P (suc q) zero xs before all = absurd (omega arith)
behind_later P (suc q) (suc p) [] before all = tt
behind_later P (suc q) (suc p) (x ∷ xs) before all = behind_later P q p xs (omega arith) all

-- and what holds between the two places and behind the later one holds behind the earlier one
behind_earlier : {S : Type 0} (P : S → Type 0) (q p : ℕ) (xs : List S) → q ≤ p → AllBetween P q p xs
    → AllByRecursion P (drop p xs) → AllByRecursion P (drop q xs)
behind_earlier P zero zero xs before gap all = all
behind_earlier P zero (suc p) [] before gap all = tt
behind_earlier P zero (suc p) (x ∷ xs) before gap all =
    (gap.0, behind_earlier P zero p xs (omega arith) gap.1 all)
behind_earlier P (suc q) zero xs before gap all = absurd (omega arith)
behind_earlier P (suc q) (suc p) [] before gap all = tt
behind_earlier P (suc q) (suc p) (x ∷ xs) before gap all = behind_earlier P q p xs (omega arith) gap all

-- members that count nothing
pub behind_counts : {S : Type 0} (f : S → ℕ) (q p : ℕ) (xs : List S) → q ≤ p → AllBetween (λ x. f x ≡ 0) q p xs
    → sum_by f (drop p xs) ≡ sum_by f (drop q xs)
behind_counts f zero zero xs before gap = refl
behind_counts f zero (suc p) [] before gap = refl
behind_counts f zero (suc p) (x ∷ xs) before gap =
    omega (arith, sum_by-cons f x xs, gap.0, behind_counts f zero p xs (omega arith) gap.1)
behind_counts f (suc q) zero xs before gap = absurd (omega arith)
behind_counts f (suc q) (suc p) [] before gap = refl
behind_counts f (suc q) (suc p) (x ∷ xs) before gap = behind_counts f q p xs (omega arith) gap

-- an answer is that of the others alone
answered_behind : (r : Request) (q p : ℕ) (ys : List ControllerState) (s g : DatagramRecord) → q ≤ p
    → AllByRecursion (Accepts r) ys → AllBetween (λ y. gain r y ≡ 0) q p ys → Answered r (drop q ys) s g
    → Answered r (drop p ys) s g
answered_behind r q p ys s g before accepts gap answered =
    let sum : sum_by (gain r) (drop p ys) ≡ sum_by (gain r) (drop q ys) =
    behind_counts (gain r) q p ys before gap in
    let claims : SameClaims (claim r) (drop q ys) (drop p ys) = record {
      meets = λ i v all. behind_later (λ y. Meets v (claim r y i)) q p ys before all;
      silent = λ i none.
          behind_earlier (λ y. claim r y i ≡ None) q p ys before
          (between-map (λ y. gain r y ≡ 0) (λ y. claim r y i ≡ None) q p ys
          (λ y none. (silent r y none).claims i) gap)
          none;
    } in
    record {
      way = answered.way;
      index = answered.index;
      irq = answered.irq;
      bits = answers_same (claim r) (drop q ys) (drop p ys) (bit s.payload) (bit g.payload) claims
          answered.bits;
      counter = answered.counter ∙ ap (λ n. (s.counter + n) % 65536) (sym sum);
      address = answered.address
          ∙ moved_whole_kind r.kind r.address r.count (drop p ys) (drop q ys) s.address
          (each-drop (Accepts r) p ys accepts) (each-drop (Accepts r) q ys accepts) (sym sum);
    }

-- of each entry
abbrev pub SilentBetween : List Entry → ℕ → ℕ → List ControllerState → Type 0
SilentBetween es q p ys = AllByRecursion (λ e. AllBetween (λ y. gain e.request y ≡ 0) q p ys) es

pub frame_behind : (es : List Entry) (q p : ℕ) (ys : List ControllerState) (gs : List DatagramRecord) → q ≤ p
    → AllByRecursion (AcceptsAll es) ys → SilentBetween es q p ys → AnsweredFrame es (drop q ys) gs
    → AnsweredFrame es (drop p ys) gs
frame_behind [] q p ys [] before accepts gap answered = tt
frame_behind [] q p ys (g ∷ gs) before accepts gap answered = absurd answered
frame_behind (e ∷ es) q p ys [] before accepts gap answered = absurd answered
frame_behind (e ∷ es) q p ys (g ∷ gs) before accepts gap answered =
    let each = accepts_each e es ys accepts in (
      answered_behind e.request q p ys e.sent g before each.0 gap.0 answered.0,
      frame_behind es q p ys gs before each.1 gap.1 answered.1,
    )
