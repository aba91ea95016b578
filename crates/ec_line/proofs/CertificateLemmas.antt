-- Counters that have moved as the whole line counts make the joined frame the answer of the whole line, and
-- every memory that of the whole line.
use Rattle.std.proofs.Common.{◌≡◌, ℕ, zero, suc, ◌+◌, ◌-◌, ◌*◌, ◌%◌, ◌<◌, ◌≤◌, true, false}
use Rattle.std.proofs.Common.{cond, List, [], ◌∷◌, ◌++◌, length, take, drop, Option, None}
use Rattle.std.proofs.Common.{map, sym, subst, ◌∙◌, ap, refl, arith}
use Rattle.std.specs.List.{AllByRecursion, sum_by}
use Rattle.std.proofs.lemmas.List.Sums.{sum_by-cons, sum_by-append, sum_by-take-drop, sum_by-take-le}
use Rattle.std.proofs.lemmas.List.{take-append-drop}
use Rattle.std.proofs.lemmas.List.{drop_all}
use Rattle.ec_regs.specs.Bits.{bit}
use Rattle.ec_regs.proofs.Laws.{each-front, each-back, each-append, each-take, each-drop}
use Rattle.ec_wire.specs.Datagram.{DatagramRecord}
use Rattle.ec_esc.specs.State.{ControllerState}
use Rattle.ec_line.specs.Accepted.{Accepts, AcceptsAll}
use Rattle.ec_line.specs.After.{Entry, after_frame}
use Rattle.ec_line.specs.Answered.{moved_address, Answered, AnsweredFrame}
use Rattle.ec_line.specs.Answers.{Meets}
use Rattle.ec_line.specs.Claims.{claim, gain}
use Rattle.ec_line.specs.Fit.{IsFitAlone}
use Rattle.ec_line.specs.Memory.{SameMemories, AllBetween, reached_after}
use Rattle.ec_line.specs.Moving.{front_of, back_of}
use Rattle.ec_line.specs.Run.{CountsWhole, IsWholeTrip}
use Rattle.ec_line.specs.Request.{Request}
use Rattle.ec_line.specs.Trip.{Trip, passed, joined_of, returned, front_after, back_after, visited}
use Rattle.ec_wire.specs.declared.kind.Kind.{Kind}
use Rattle.ec_wire.specs.declared.kind.Kind.TheVariants.{Lrd, Lwr, Lrw, Brd, Fprd, Fpwr}
use Rattle.ec_line.proofs.AnswersLemmas.{SameClaims, answers_same}
use Rattle.ec_line.proofs.CoreLemmas.{IsReady, core}
use Rattle.ec_line.proofs.FitLemmas.{silent, broadcast_gain, gain_bound}
use Rattle.ec_line.specs.Steady.{IsLater}
use Rattle.ec_line.proofs.JoinLemmas.{IsEntry}
use Rattle.ec_line.proofs.MemoryLemmas.{same_memory_after, twice_is_once, IsSilentAt, after_frame_silent}

-- ---- pieces and sums

-- the part of a list from p up to q, if p is before q
abbrev pub between : {S : Type 0} → ℕ → ℕ → List S → List S
between p q xs = take (q - p) (drop p xs)

-- what is left behind a piece counts no more than all
pub sum_drop_le : {S : Type 0} (f : S → ℕ) (q : ℕ) (xs : List S) → sum_by f (drop q xs) ≤ sum_by f xs
sum_drop_le f q xs = omega (arith, sum_by-take-drop f xs q)

-- where a front and a back count as much as all, those between them count nothing
pub gap_counts_nothing : {S : Type 0} (f : S → ℕ) (p q : ℕ) (xs : List S)
    → sum_by f (take p xs) + sum_by f (drop q xs) ≡ sum_by f xs
    → AllBetween (λ x. f x ≡ 0) p q xs
gap_counts_nothing f p q [] same = tt
gap_counts_nothing f zero zero (x ∷ xs) same = tt
gap_counts_nothing f zero (suc q) (x ∷ xs) same =
    let all = sum_by-cons f x xs in
    let rest = sum_drop_le f q xs in
    (omega (arith, all, rest), gap_counts_nothing f zero q xs (omega (arith, all, rest)))
gap_counts_nothing f (suc p) zero (x ∷ xs) same = tt
gap_counts_nothing f (suc p) (suc q) (x ∷ xs) same =
    let all = sum_by-cons f x xs in
    let front = sum_by-cons f x (take p xs) in
    gap_counts_nothing f p q xs (omega (arith, all, front))

-- ---- what holds between two places

pub between-map : {S : Type 0} (P Q : S → Type 0) (p q : ℕ) (xs : List S) → ((x : S) → P x → Q x)
    → AllBetween P p q xs → AllBetween Q p q xs
between-map P Q p q [] f all = tt
between-map P Q zero zero (x ∷ xs) f all = tt
between-map P Q zero (suc q) (x ∷ xs) f all = (f x all.0, between-map P Q zero q xs f all.1)
between-map P Q (suc p) zero (x ∷ xs) f all = tt
between-map P Q (suc p) (suc q) (x ∷ xs) f all = between-map P Q p q xs f all

between-both : {S : Type 0} (P Q : S → Type 0) (p q : ℕ) (xs : List S) → AllBetween P p q xs
    → AllBetween Q p q xs
    → AllBetween (λ x. P x × Q x) p q xs
between-both P Q p q [] one two = tt
between-both P Q zero zero (x ∷ xs) one two = tt
between-both P Q zero (suc q) (x ∷ xs) one two = ((one.0, two.0), between-both P Q zero q xs one.1 two.1)
between-both P Q (suc p) zero (x ∷ xs) one two = tt
between-both P Q (suc p) (suc q) (x ∷ xs) one two = between-both P Q p q xs one two

between-any : {S : Type 0} (P : S → Type 0) (p q : ℕ) (xs : List S) → ((x : S) → P x) → AllBetween P p q xs
between-any P p q [] f = tt
between-any P zero zero (x ∷ xs) f = tt
between-any P zero (suc q) (x ∷ xs) f = (f x, between-any P zero q xs f)
between-any P (suc p) zero (x ∷ xs) f = tt
between-any P (suc p) (suc q) (x ∷ xs) f = between-any P p q xs f

-- within two places lies what lies within two that are further apart
pub between-inner : {S : Type 0} (P : S → Type 0) (p q front back : ℕ) (xs : List S) → p ≤ front → back ≤ q
    → AllBetween P p q xs
    → AllBetween P front back xs
between-inner P p q front back [] starts ends all = tt
between-inner P p q zero zero (x ∷ xs) starts ends all = tt
between-inner P p q (suc front) zero (x ∷ xs) starts ends all = tt
between-inner P zero zero zero (suc back) (x ∷ xs) starts ends all = absurd (omega arith)
between-inner P (suc p) q zero (suc back) (x ∷ xs) starts ends all = absurd (omega arith)
between-inner P zero (suc q) zero (suc back) (x ∷ xs) starts ends all =
    (all.0, between-inner P zero q zero back xs (omega arith) (omega arith) all.1)
between-inner P p zero (suc front) (suc back) (x ∷ xs) starts ends all = absurd (omega arith)
between-inner P zero (suc q) (suc front) (suc back) (x ∷ xs) starts ends all =
    between-inner P zero q front back xs (omega arith) (omega arith) all.1
between-inner P (suc p) (suc q) (suc front) (suc back) (x ∷ xs) starts ends all =
    between-inner P p q front back xs (omega arith) (omega arith) all

-- what holds of a front, of a back and of those between them holds of all
whole-pieces : {S : Type 0} (P : S → Type 0) (p q : ℕ) (xs : List S) → AllByRecursion P (take p xs)
    → AllByRecursion P (drop q xs)
    → AllBetween P p q xs → AllByRecursion P xs
whole-pieces P p q [] front back gap = tt
whole-pieces P zero zero (x ∷ xs) front back gap = back
whole-pieces P zero (suc q) (x ∷ xs) front back gap = (gap.0, whole-pieces P zero q xs tt back gap.1)
whole-pieces P (suc p) zero (x ∷ xs) front back gap = back
whole-pieces P (suc p) (suc q) (x ∷ xs) front back gap = (front.0, whole-pieces P p q xs front.1 back gap)

-- ---- the places of the copies that came back

pub returned_pieces : {S : Type 0} (t : Trip) (xs : List S)
    → returned t xs ≡ take (front_of t) xs ++ drop (back_of t (length xs)) xs
returned_pieces t xs =
    let front : cond t.lost_a [] (take t.front xs) ≡ take (cond t.lost_a 0 t.front) xs =
    elim t.lost_a as (λ b. cond b [] (take t.front xs) ≡ take (cond b 0 t.front) xs)
    [ true ↦ refl | false ↦ refl ] in
    let back : cond t.lost_b [] (drop t.back xs) ≡ drop (cond t.lost_b (length xs + t.back) t.back) xs =
    elim t.lost_b as (λ b. cond b [] (drop t.back xs) ≡ drop (cond b (length xs + t.back) t.back) xs) [
      | true ↦ sym (drop_all (length xs + t.back) xs (omega arith))
      | false ↦ refl
    ] in
    ap (λ l. l ++ cond t.lost_b [] (drop t.back xs)) front
    ∙ ap (λ l. take (cond t.lost_a 0 t.front) xs ++ l) back

-- ---- one datagram

-- a broadcast read counts each member
broadcast_sum : (a n : ℕ) (xs : List ControllerState)
    → AllByRecursion (Accepts (record { kind = Brd; address = a; count = n })) xs
    → sum_by (gain (record { kind = Brd; address = a; count = n })) xs ≡ length xs
broadcast_sum a n [] accepts = refl
broadcast_sum a n (x ∷ xs) accepts =
    let r : Request = record { kind = Brd; address = a; count = n } in
    omega (arith, sum_by-cons (gain r) x xs, broadcast_gain a n x accepts.0, broadcast_sum a n xs accepts.1)

-- so its ADP has moved as far as its counter
pub moved_whole_kind : (k : Kind) (a n : ℕ) (xs ys : List ControllerState) (address : ℕ)
    → AllByRecursion (Accepts (record { kind = k; address = a; count = n })) xs
    → AllByRecursion (Accepts (record { kind = k; address = a; count = n })) ys
    → sum_by (gain (record { kind = k; address = a; count = n })) ys
    ≡ sum_by (gain (record { kind = k; address = a; count = n })) xs
    → moved_address k (length ys) address ≡ moved_address k (length xs) address
moved_whole_kind Lrd a n xs ys address one two same = refl
moved_whole_kind Lwr a n xs ys address one two same = refl
moved_whole_kind Lrw a n xs ys address one two same = refl
moved_whole_kind Brd a n xs ys address one two same =
    ap (λ m. moved_address Brd m address) (sym (broadcast_sum a n ys two) ∙ same ∙ broadcast_sum a n xs one)
moved_whole_kind Fprd a n xs ys address one two same = refl
moved_whole_kind Fpwr a n xs ys address one two same = refl

-- no more than three times the members is counted
pub sum_bound : (r : Request) (xs : List ControllerState) → sum_by (gain r) xs ≤ 3 * length xs
sum_bound r [] = omega arith
sum_bound r (x ∷ xs) = omega (arith, sum_by-cons (gain r) x xs, gain_bound r x, sum_bound r xs)

-- the most members of a line
abbrev pub MOST : ℕ
MOST = 256

-- an answer of a front and a back whose counter has moved as the whole line counts: the two count as much as
-- all
pub counts_whole : (r : Request) (xs : List ControllerState) (p q : ℕ) (s g : DatagramRecord)
    → length xs ≤ MOST → s.counter < 65536
    → Answered r (take p xs ++ drop q xs) s g → g.counter ≡ (s.counter + sum_by (gain r) xs) % 65536
    → sum_by (gain r) (take p xs) + sum_by (gain r) (drop q xs) ≡ sum_by (gain r) xs
counts_whole r xs p q s g room small answered good =
    let counted = answered.counter in
    let sum = sum_by-append (gain r) (take p xs) (drop q xs) in
    let bound = sum_bound r xs in
    let front = sum_by-take-le (gain r) xs p in
    let back = sum_drop_le (gain r) q xs in
    omega arith

-- then it is the answer of the whole line
pub answered_whole : (r : Request) (xs : List ControllerState) (p q : ℕ) (s g : DatagramRecord)
    → AllByRecursion (Accepts r) xs
    → Answered r (take p xs ++ drop q xs) s g → sum_by (gain r) (take p xs) + sum_by (gain r) (drop q xs)
    ≡ sum_by (gain r) xs
    → Answered r xs s g
answered_whole r xs p q s g accepts answered same =
    let pieces : List ControllerState = take p xs ++ drop q xs in
    let sum : sum_by (gain r) pieces ≡ sum_by (gain r) xs = sum_by-append (gain r) (take p xs) (drop q xs)
    ∙ same in
    let quiet : AllBetween (λ x. gain r x ≡ 0) p q xs = gap_counts_nothing (gain r) p q xs same in
    let claims : SameClaims (claim r) pieces xs = record {
      meets = λ i v all.
          whole-pieces (λ x. Meets v (claim r x i)) p q xs
          (each-front (λ x. Meets v (claim r x i)) (take p xs) (drop q xs) all)
          (each-back (λ x. Meets v (claim r x i)) (take p xs) (drop q xs) all)
          (between-map (λ x. gain r x ≡ 0) (λ x. Meets v (claim r x i)) p q xs
          (λ x none. subst (λ (o : Option ℕ). Meets v o) (sym ((silent r x none).claims i)) tt) quiet);
      silent = λ i none.
          each-append (λ x. claim r x i ≡ None) (take p xs) (drop q xs)
          (each-take (λ x. claim r x i ≡ None) p xs none)
          (each-drop (λ x. claim r x i ≡ None) q xs none);
    } in
    let accepted : AllByRecursion (Accepts r) pieces =
    each-append (Accepts r) (take p xs) (drop q xs) (each-take (Accepts r) p xs accepts)
    (each-drop (Accepts r) q xs accepts) in
    record {
      way = answered.way;
      index = answered.index;
      irq = answered.irq;
      bits = answers_same (claim r) pieces xs (bit s.payload) (bit g.payload) claims answered.bits;
      counter = answered.counter ∙ ap (λ n. (s.counter + n) % 65536) sum;
      address = answered.address
          ∙ moved_whole_kind r.kind r.address r.count xs pieces s.address accepts accepted sum;
    }

-- ---- a frame

-- for each entry the front and the back count as much as all
abbrev pub PiecesCountAll : List Entry → List ControllerState → ℕ → ℕ → Type 0
PiecesCountAll es xs p q =
    AllByRecursion (λ e. sum_by (gain e.request) (take p xs) + sum_by (gain e.request) (drop q xs)
    ≡ sum_by (gain e.request) xs) es

-- what holds of each entry and member holds of each member and entry
pub accepts_each : (e : Entry) (es : List Entry) (xs : List ControllerState)
    → AllByRecursion (AcceptsAll (e ∷ es)) xs
    → AllByRecursion (Accepts e.request) xs × AllByRecursion (AcceptsAll es) xs
accepts_each e es [] all = (tt, tt)
accepts_each e es (x ∷ xs) all = let rest = accepts_each e es xs all.1 in
    ((all.0.0, rest.0), (all.0.1, rest.1))

frame_counts : (es : List Entry) (xs : List ControllerState) (p q : ℕ) (gs : List DatagramRecord)
    → length xs ≤ MOST → AllByRecursion IsEntry es
    → AnsweredFrame es (take p xs ++ drop q xs) gs → CountsWhole es xs gs → PiecesCountAll es xs p q
unfolding IsEntry
frame_counts [] xs p q [] room entries answered good = tt
frame_counts [] xs p q (g ∷ gs) room entries answered good = absurd answered
frame_counts (e ∷ es) xs p q [] room entries answered good = absurd answered
frame_counts (e ∷ es) xs p q (g ∷ gs) room entries answered good = (
  counts_whole e.request xs p q e.sent g room entries.0.counter answered.0 good.0,
  frame_counts es xs p q gs room entries.1 answered.1 good.1,
)

pub frame_whole : (es : List Entry) (xs : List ControllerState) (p q : ℕ) (gs : List DatagramRecord)
    → AllByRecursion (AcceptsAll es) xs
    → AnsweredFrame es (take p xs ++ drop q xs) gs → PiecesCountAll es xs p q → AnsweredFrame es xs gs
frame_whole [] xs p q [] accepts answered same = tt
frame_whole [] xs p q (g ∷ gs) accepts answered same = absurd answered
frame_whole (e ∷ es) xs p q [] accepts answered same = absurd answered
frame_whole (e ∷ es) xs p q (g ∷ gs) accepts answered same =
    let each = accepts_each e es xs accepts in (
      answered_whole e.request xs p q e.sent g each.0 answered.0 same.0,
      frame_whole es xs p q gs each.1 answered.1 same.1,
    )

-- those between the two pieces are silent at each entry
pub gap_silent : (es : List Entry) (xs : List ControllerState) (p q : ℕ) → PiecesCountAll es xs p q
    → AllBetween (IsSilentAt es) p q xs
gap_silent [] xs p q same = between-any (IsSilentAt []) p q xs (λ x. tt)
gap_silent (e ∷ es) xs p q same =
    between-both (λ x. gain e.request x ≡ 0) (IsSilentAt es) p q xs
    (gap_counts_nothing (gain e.request) p q xs same.0) (gap_silent es xs p q same.1)

-- ---- memories

pub memories-refl : (ys : List ControllerState) → SameMemories ys ys
memories-refl [] = tt
memories-refl (y ∷ ys) = (refl, memories-refl ys)

pub memories-trans : (xs ys zs : List ControllerState) → SameMemories xs ys → SameMemories ys zs
    → SameMemories xs zs
memories-trans [] [] [] one two = tt
memories-trans [] [] (z ∷ zs) one two = absurd two
memories-trans [] (y ∷ ys) zs one two = absurd one
memories-trans (x ∷ xs) [] zs one two = absurd one
memories-trans (x ∷ xs) (y ∷ ys) [] one two = absurd two
memories-trans (x ∷ xs) (y ∷ ys) (z ∷ zs) one two = (one.0 ∙ two.0, memories-trans xs ys zs one.1 two.1)

-- lines of the same memories have the same memories behind a frame
pub memories-after : (es : List Entry) (xs ys zs : List ControllerState) → AllByRecursion IsFitAlone xs
    → AllByRecursion (AcceptsAll es) xs
    → IsLater xs ys → IsLater xs zs → SameMemories ys zs
    → SameMemories (map (after_frame es) ys) (map (after_frame es) zs)
memories-after es [] [] [] fit accepts one two same = tt
memories-after es [] [] (z ∷ zs) fit accepts one two same = absurd two
memories-after es [] (y ∷ ys) zs fit accepts one two same = absurd one
memories-after es (x ∷ xs) [] zs fit accepts one two same = absurd one
memories-after es (x ∷ xs) (y ∷ ys) [] fit accepts one two same = absurd two
memories-after es (x ∷ xs) (y ∷ ys) (z ∷ zs) fit accepts one two same = (
  same_memory_after es x y z fit.0.controller one.0.1 two.0.1 one.0.0 two.0.0 accepts.0 same.0,
  memories-after es xs ys zs fit.1 accepts.1 one.1 two.1 same.1,
)

-- nobody lies between places in the wrong order
pub between-end : {S : Type 0} (P : S → Type 0) (xs : List S) → AllBetween P zero zero xs
between-end P [] = tt
between-end P (x ∷ xs) = tt

pub between-back : {S : Type 0} (P : S → Type 0) (p : ℕ) (xs : List S) → AllBetween P p zero xs
between-back P p [] = tt
between-back P zero (x ∷ xs) = tt
between-back P (suc p) (x ∷ xs) = tt

-- an empty line stays
none_reached_a : (es : List Entry) (p q : ℕ)
    → SameMemories (back_after (after_frame es) q (front_after (after_frame es) p []))
    (reached_after (after_frame es) p q [])
none_reached_a es zero zero = tt
none_reached_a es zero (suc q) = tt
none_reached_a es (suc p) zero = tt
none_reached_a es (suc p) (suc q) = tt

none_reached_b : (es : List Entry) (p q : ℕ)
    → SameMemories (front_after (after_frame es) p (back_after (after_frame es) q []))
    (reached_after (after_frame es) p q [])
none_reached_b es zero zero = tt
none_reached_b es zero (suc q) = tt
none_reached_b es (suc p) zero = tt
none_reached_b es (suc p) (suc q) = tt

none_reached : (es : List Entry) (p q : ℕ) → reached_after (after_frame es) p q [] ≡ []
none_reached es p q = refl

-- copy A first: each memory is as if those that a copy reached had been passed once
visited_a_first : (es : List Entry) (xs ys : List ControllerState) (p q : ℕ) → AllByRecursion IsFitAlone xs
    → AllByRecursion (AcceptsAll es) xs
    → IsLater xs ys
    → SameMemories (back_after (after_frame es) q (front_after (after_frame es) p ys))
    (reached_after (after_frame es) p q ys)
visited_a_first es [] [] p q fit accepts later = none_reached_a es p q
visited_a_first es [] (y ∷ ys) p q fit accepts later = absurd later
visited_a_first es (x ∷ xs) [] p q fit accepts later = absurd later
visited_a_first es (x ∷ xs) (y ∷ ys) zero zero fit accepts later =
    (refl, visited_a_first es xs ys zero zero fit.1 accepts.1 later.1)
visited_a_first es (x ∷ xs) (y ∷ ys) zero (suc q) fit accepts later =
    (refl, visited_a_first es xs ys zero q fit.1 accepts.1 later.1)
visited_a_first es (x ∷ xs) (y ∷ ys) (suc p) zero fit accepts later = (
  twice_is_once es x y fit.0.controller later.0.1 later.0.0 accepts.0,
  visited_a_first es xs ys p zero fit.1 accepts.1 later.1,
)
visited_a_first es (x ∷ xs) (y ∷ ys) (suc p) (suc q) fit accepts later =
    (refl, visited_a_first es xs ys p q fit.1 accepts.1 later.1)

-- copy B first: the same
visited_b_first : (es : List Entry) (xs ys : List ControllerState) (p q : ℕ) → AllByRecursion IsFitAlone xs
    → AllByRecursion (AcceptsAll es) xs
    → IsLater xs ys
    → SameMemories (front_after (after_frame es) p (back_after (after_frame es) q ys))
    (reached_after (after_frame es) p q ys)
visited_b_first es [] [] p q fit accepts later = none_reached_b es p q
visited_b_first es [] (y ∷ ys) p q fit accepts later = absurd later
visited_b_first es (x ∷ xs) [] p q fit accepts later = absurd later
visited_b_first es (x ∷ xs) (y ∷ ys) zero zero fit accepts later =
    (refl, visited_b_first es xs ys zero zero fit.1 accepts.1 later.1)
visited_b_first es (x ∷ xs) (y ∷ ys) zero (suc q) fit accepts later =
    (refl, visited_b_first es xs ys zero q fit.1 accepts.1 later.1)
visited_b_first es (x ∷ xs) (y ∷ ys) (suc p) zero fit accepts later = (
  twice_is_once es x y fit.0.controller later.0.1 later.0.0 accepts.0,
  visited_b_first es xs ys p zero fit.1 accepts.1 later.1,
)
visited_b_first es (x ∷ xs) (y ∷ ys) (suc p) (suc q) fit accepts later =
    (refl, visited_b_first es xs ys p q fit.1 accepts.1 later.1)

-- so on every trip each memory is that of the controllers that a copy reached, each once
pub visited_reached : (t : Trip) (xs ys : List ControllerState) → AllByRecursion IsFitAlone xs
    → AllByRecursion (AcceptsAll t.entries) xs
    → IsLater xs ys → SameMemories (visited t ys) (reached_after (after_frame t.entries) t.front t.back ys)
visited_reached t xs ys fit accepts later =
    let leave = after_frame t.entries in
    let target = reached_after leave t.front t.back ys in
    elim t.b_first as
    (λ b. SameMemories
    (cond b (front_after leave t.front (back_after leave t.back ys))
    (back_after leave t.back (front_after leave t.front ys))) target) [
      | true ↦ visited_b_first t.entries xs ys t.front t.back fit accepts later
      | false ↦ visited_a_first t.entries xs ys t.front t.back fit accepts later
    ]

-- where those that no copy reached are silent, that is each memory after the frame
pub reached_silent : (es : List Entry) (xs ys : List ControllerState) (p q : ℕ) → AllByRecursion IsFitAlone xs
    → IsLater xs ys → AllBetween (IsSilentAt es) p q xs
    → reached_after (after_frame es) p q ys ≡ map (after_frame es) ys
reached_silent es [] [] p q fit later gap = none_reached es p q
reached_silent es [] (y ∷ ys) p q fit later gap = absurd later
reached_silent es (x ∷ xs) [] p q fit later gap = absurd later
reached_silent es (x ∷ xs) (y ∷ ys) zero zero fit later gap =
    ap (λ (l : List ControllerState). after_frame es y ∷ l)
    (reached_silent es xs ys zero zero fit.1 later.1 (between-end (IsSilentAt es) xs))
reached_silent es (x ∷ xs) (y ∷ ys) zero (suc q) fit later gap =
    ap (λ (l : List ControllerState). y ∷ l) (reached_silent es xs ys zero q fit.1 later.1 gap.1)
    ∙ ap (λ (c : ControllerState). c ∷ map (after_frame es) ys)
    (sym (after_frame_silent es x y fit.0.controller later.0.1 later.0.0 gap.0))
reached_silent es (x ∷ xs) (y ∷ ys) (suc p) zero fit later gap =
    ap (λ (l : List ControllerState). after_frame es y ∷ l)
    (reached_silent es xs ys p zero fit.1 later.1 (between-back (IsSilentAt es) p xs))
reached_silent es (x ∷ xs) (y ∷ ys) (suc p) (suc q) fit later gap =
    ap (λ (l : List ControllerState). after_frame es y ∷ l) (reached_silent es xs ys p q fit.1 later.1 gap)

-- ---- one trip whose counters are good

-- those that no copy reached are silent, so that reaching the others is passing everybody once
pub good_reached : (t : Trip) (xs ys : List ControllerState) → length xs ≤ MOST → IsReady t.entries xs ys
    → CountsWhole t.entries xs (joined_of t (passed t ys))
    → reached_after (after_frame t.entries) t.front t.back ys ≡ map (after_frame t.entries) ys
good_reached t xs ys room ready good =
    let es = t.entries in
    let p = front_of t in
    let q = back_of t (length xs) in
    let joined = joined_of t (passed t ys) in
    let answered : AnsweredFrame es (take p xs ++ drop q xs) joined =
    subst (λ (l : List ControllerState). AnsweredFrame es l joined) (returned_pieces t xs)
    (core t xs ys ready).0 in
    let same : PiecesCountAll es xs p q = frame_counts es xs p q joined room ready.entries answered good in
    let starts : p ≤ t.front =
    elim t.lost_a as (λ b. cond b 0 t.front ≤ t.front) [ true ↦ omega arith | false ↦ omega arith ] in
    let ends : t.back ≤ q =
    elim t.lost_b as (λ b. t.back ≤ cond b (length xs + t.back) t.back)
    [ true ↦ omega arith | false ↦ omega arith ] in
    reached_silent es xs ys t.front t.back ready.fit.alone ready.later
    (between-inner (IsSilentAt es) p q t.front t.back xs starts ends (gap_silent es xs p q same))

pub good_trip : (t : Trip) (xs ys : List ControllerState) → length xs ≤ MOST → IsReady t.entries xs ys
    → CountsWhole t.entries xs (joined_of t (passed t ys))
    → AnsweredFrame t.entries xs (joined_of t (passed t ys))
    × SameMemories (passed t ys).line (map (after_frame t.entries) ys)
good_trip t xs ys room ready good =
    let es = t.entries in
    let p = front_of t in
    let q = back_of t (length xs) in
    let joined = joined_of t (passed t ys) in
    let done = core t xs ys ready in
    let answered : AnsweredFrame es (take p xs ++ drop q xs) joined =
    subst (λ (l : List ControllerState). AnsweredFrame es l joined) (returned_pieces t xs) done.0 in
    let same : PiecesCountAll es xs p q = frame_counts es xs p q joined room ready.entries answered good in
    let memories : SameMemories (visited t ys) (map (after_frame es) ys) =
    subst (λ (l : List ControllerState). SameMemories (visited t ys) l) (good_reached t xs ys room ready good)
    (visited_reached t xs ys ready.fit.alone ready.accepts ready.later) in (
      frame_whole es xs p q joined ready.accepts answered same,
      subst (λ (l : List ControllerState). SameMemories l (map (after_frame es) ys)) (sym done.1) memories,
    )

-- ---- one trip whose two pieces are the line

-- a front and a back that meet: each is passed once
pieces_meet : (f : ControllerState → ControllerState) (p : ℕ) (ys : List ControllerState)
    → (back_after f p (front_after f p ys) ≡ map f ys) × (front_after f p (back_after f p ys) ≡ map f ys)
pieces_meet f zero [] = (refl, refl)
pieces_meet f (suc p) [] = (refl, refl)
pieces_meet f zero (y ∷ ys) = (refl, refl)
pieces_meet f (suc p) (y ∷ ys) =
    let rest = pieces_meet f p ys in
    (ap (λ (l : List ControllerState). f y ∷ l) rest.0, ap (λ (l : List ControllerState). f y ∷ l) rest.1)

pub whole_trip : (t : Trip) (xs ys : List ControllerState) → IsReady t.entries xs ys → IsWholeTrip t
    → AnsweredFrame t.entries xs (joined_of t (passed t ys))
    × ((passed t ys).line ≡ map (after_frame t.entries) ys)
whole_trip t xs ys ready whole =
    let es = t.entries in
    let leave = after_frame es in
    let joined = joined_of t (passed t ys) in
    let done = core t xs ys ready in
    let all : returned t xs ≡ xs =
    ap (λ b. cond b [] (take t.front xs) ++ cond t.lost_b [] (drop t.back xs)) whole.came_a
    ∙ ap (λ b. take t.front xs ++ cond b [] (drop t.back xs)) whole.came_b
    ∙ ap (λ n. take t.front xs ++ drop n xs) (sym whole.meet)
    ∙ take-append-drop t.front xs in
    let meet = pieces_meet leave t.front ys in
    let order : visited t ys ≡ map leave ys =
    ap (λ n. cond t.b_first (front_after leave t.front (back_after leave n ys))
    (back_after leave n (front_after leave t.front ys))) (sym whole.meet)
    ∙ elim t.b_first as
    (λ b. cond b (front_after leave t.front (back_after leave t.front ys))
    (back_after leave t.front (front_after leave t.front ys)) ≡ map leave ys) [
      | true ↦ meet.1
      | false ↦ meet.0
    ] in
    (subst (λ (l : List ControllerState). AnsweredFrame es l joined) all done.0, done.1 ∙ order)
