-- Each slave as the copy met it that counted it: where the counters are good the joined frame is their
-- answer.
use Rattle.std.proofs.Common.{◌≡◌, ℕ, zero, suc, ◌<◌, ◌≤◌, false, List, [], ◌∷◌, length}
use Rattle.std.proofs.Common.{take, drop, sym, subst, ◌∙◌, ap, refl, arith, ⊎_elim}
use Rattle.std.specs.List.{AllByRecursion}
use Rattle.std.proofs.lemmas.Bool.{cases_lt}
use Rattle.ec_regs.proofs.Laws.{each-take, each-drop}
use Rattle.ec_wire.specs.Datagram.{DatagramRecord}
use Rattle.ec_merge.specs.Frames.{joined_frame}
use Rattle.ec_esc.specs.State.{ControllerState}
use Rattle.ec_line.specs.Accepted.{Accepts, AcceptsAll}
use Rattle.ec_line.specs.After.{Entry}
use Rattle.ec_line.specs.Answered.{AnsweredFrame, sent_of}
use Rattle.ec_line.specs.Claims.{gain}
use Rattle.ec_line.specs.Fit.{IsFitLine}
use Rattle.ec_line.specs.Memory.{AllBetween}
use Rattle.ec_line.specs.Moving.{AllAlike, Visit, when_a, when_b, seen, front_of, back_of}
use Rattle.ec_line.specs.Moving.{joined_moving, IsPassedOnce, IsAnsweredAtMoments}
use Rattle.ec_line.specs.Run.{CountsWhole}
use Rattle.ec_line.specs.Trip.{Trip}
use Rattle.ec_line.proofs.AlikeLemmas.{alike-take, alike-drop, fit_line, accepts_line, sum_alike}
use Rattle.ec_line.proofs.CertificateLemmas.{MOST, PiecesCountAll, accepts_each, frame_whole}
use Rattle.ec_line.proofs.CoreLemmas.{agree_entries, chosen}
use Rattle.ec_line.proofs.JoinLemmas.{IsEntry, AgreeAll, frame_joined}
use Rattle.ec_line.proofs.MovingLemmas.{IsMovingReady, visits_alike, came_moved, came_a, came_b, trip_counts}
use Rattle.ec_line.proofs.MovingLemmas.{pieces_count, passed_once, SilentBetween, frame_behind, behind_counts}

-- ---- the slaves as they were seen

seen_none : (vs : List Visit) → seen zero vs ≡ when_b vs
seen_none [] = refl
seen_none (v ∷ vs) = ap (λ (l : List ControllerState). v.at_b ∷ l) (seen_none vs)

seen_front : (p : ℕ) (vs : List Visit) → take p (when_a vs) ≡ take p (seen p vs)
seen_front zero vs = refl
seen_front (suc p) [] = refl
seen_front (suc p) (v ∷ vs) = ap (λ (l : List ControllerState). v.at_a ∷ l) (seen_front p vs)

seen_back : (p m : ℕ) (vs : List Visit) → p ≤ m → drop m (when_b vs) ≡ drop m (seen p vs)
seen_back zero m vs before = ap (drop m) (sym (seen_none vs))
seen_back (suc p) zero vs before = absurd (omega arith)
seen_back (suc p) (suc m) [] before = refl
seen_back (suc p) (suc m) (v ∷ vs) before = seen_back p m vs (omega arith)

pub seen_alike : (p : ℕ) (xs : List ControllerState) (vs : List Visit) → AllAlike xs (when_a vs)
    → AllAlike xs (when_b vs) → AllAlike xs (seen p vs)
seen_alike p [] [] one two = tt
seen_alike p [] (v ∷ vs) one two = absurd one
seen_alike p (x ∷ xs) [] one two = absurd one
seen_alike zero (x ∷ xs) (v ∷ vs) one two = (two.0, seen_alike zero xs vs one.1 two.1)
seen_alike (suc p) (x ∷ xs) (v ∷ vs) one two = (one.0, seen_alike p xs vs one.1 two.1)

-- ---- pieces of alike lines

-- a front and a back count as much as all
pieces_seen : (es : List Entry) (p q : ℕ) (xs zs : List ControllerState) → AllByRecursion (AcceptsAll es) xs
    → AllAlike xs zs → PiecesCountAll es xs p q → PiecesCountAll es zs p q
pieces_seen [] p q xs zs accepts alike same = tt
pieces_seen (e ∷ es) p q xs zs accepts alike same =
    let r = e.request in
    let each = accepts_each e es xs accepts in (
      omega (
        arith,
        same.0,
        sum_alike r xs zs alike each.0,
        sum_alike r (take p xs) (take p zs) (alike-take p xs zs alike) (each-take (Accepts r) p xs each.0),
        sum_alike r (drop q xs) (drop q zs) (alike-drop q xs zs alike) (each-drop (Accepts r) q xs each.0),
      ),
      pieces_seen es p q xs zs each.1 alike same.1,
    )

-- a member that counts nothing counts nothing when it is alike
silent_alike : (e : Entry) (q p : ℕ) (xs ys : List ControllerState) → AllByRecursion (Accepts e.request) xs
    → AllAlike xs ys → AllBetween (λ x. gain e.request x ≡ 0) q p xs
    → AllBetween (λ y. gain e.request y ≡ 0) q p ys
silent_alike e q p [] [] accepts alike gap = tt
silent_alike e q p [] (y ∷ ys) accepts alike gap = absurd alike
silent_alike e q p (x ∷ xs) [] accepts alike gap = absurd alike
silent_alike e zero zero (x ∷ xs) (y ∷ ys) accepts alike gap = tt
silent_alike e zero (suc p) (x ∷ xs) (y ∷ ys) accepts alike gap =
    (alike.0.gains e.request accepts.0 ∙ gap.0, silent_alike e zero p xs ys accepts.1 alike.1 gap.1)
silent_alike e (suc q) zero (x ∷ xs) (y ∷ ys) accepts alike gap = tt
silent_alike e (suc q) (suc p) (x ∷ xs) (y ∷ ys) accepts alike gap =
    silent_alike e q p xs ys accepts.1 alike.1 gap

overlap_alike : (es : List Entry) (t : Trip) (xs ys : List ControllerState)
    → AllByRecursion (AcceptsAll es) xs → AllAlike xs ys → AllByRecursion (IsPassedOnce t xs) es
    → SilentBetween es (back_of t (length xs)) (front_of t) ys
overlap_alike [] t xs ys accepts alike once = tt
overlap_alike (e ∷ es) t xs ys accepts alike once =
    let each = accepts_each e es xs accepts in (
      silent_alike e (back_of t (length xs)) (front_of t) xs ys each.0 alike once.0.one,
      overlap_alike es t xs ys each.1 alike once.1,
    )

-- where those between the places are silent a front and a back that begins later count as much as all
pieces_behind : (es : List Entry) (p q : ℕ) (xs : List ControllerState) → q ≤ p → SilentBetween es q p xs
    → PiecesCountAll es xs p q → PiecesCountAll es xs p p
pieces_behind [] p q xs before gap same = tt
pieces_behind (e ∷ es) p q xs before gap same = (
  omega (arith, same.0, behind_counts (gain e.request) q p xs before gap.0),
  pieces_behind es p q xs before gap.1 same.1,
)

-- those that were passed by both copies are silent
overlap_of : (es : List Entry) (t : Trip) (xs : List ControllerState) → AllByRecursion (IsPassedOnce t xs) es
    → SilentBetween es (back_of t (length xs)) (front_of t) xs
overlap_of [] t xs once = tt
overlap_of (e ∷ es) t xs once = (once.0.one, overlap_of es t xs once.1)

-- ---- the joined frame

-- copies that a front and a back behind it answered, which count as much as all, are the answer of all
joined_whole : (es : List Entry) (zs : List ControllerState) (p m : ℕ) (a b : List DatagramRecord)
    → IsFitLine zs → AllByRecursion (AcceptsAll es) zs → AllByRecursion IsEntry es
    → AnsweredFrame es (take p zs) a → AnsweredFrame es (drop m zs) b → PiecesCountAll es zs p m
    → AnsweredFrame es zs (joined_frame (sent_of es) a b)
unfolding chosen
joined_whole es zs p m a b fit accepts entries one two same =
    let joined : List DatagramRecord = joined_frame (sent_of es) a b in
    let agree : AgreeAll es (take p zs) (drop m zs) = agree_entries es zs p m false false fit.apart in
    frame_whole es zs p m joined accepts (frame_joined es (take p zs) (drop m zs) a b entries agree one two) same

pub trip_moments : (t : Trip) (xs : List ControllerState) (vs : List Visit) → length xs ≤ MOST
    → IsMovingReady t xs vs → CountsWhole t.entries xs (joined_moving t vs)
    → IsAnsweredAtMoments t xs vs (joined_moving t vs)
trip_moments t xs vs room ready good =
    let es = t.entries in
    let p = front_of t in
    let q = back_of t (length xs) in
    let zs : List ControllerState = seen p vs in
    let a : List DatagramRecord = came_a t vs in
    let b : List DatagramRecord = came_b t vs in
    let all = visits_alike t xs vs ready in
    let came = came_moved t xs vs ready in
    let same : PiecesCountAll es xs p q =
    pieces_count es xs p q (joined_moving t vs) room ready.entries (trip_counts t xs vs ready) good in
    let once : AllByRecursion (IsPassedOnce t xs) es = passed_once es t xs same in
    let alike : AllAlike xs zs = seen_alike p xs vs all.when_a all.when_b in
    let fit : IsFitLine zs = fit_line xs zs alike ready.fit in
    let accepts : AllByRecursion (AcceptsAll es) zs = accepts_line es xs zs alike ready.accepts in
    let front : AnsweredFrame es (take p zs) a =
    subst (λ (l : List ControllerState). AnsweredFrame es l a) (seen_front p vs) came.a_answered in
    let accepts_b : AllByRecursion (AcceptsAll es) (when_b vs) =
    accepts_line es xs (when_b vs) all.when_b ready.accepts in
    let answered : AnsweredFrame es zs (joined_frame (sent_of es) a b) =
    ⊎_elim
    (λ (apart : p < q).
    joined_whole es zs p q a b fit accepts ready.entries front
    (subst (λ (l : List ControllerState). AnsweredFrame es l b) (seen_back p q vs (omega arith)) came.b_answered)
    (pieces_seen es p q xs zs ready.accepts alike same))
    (λ (meet : q ≤ p).
    let back : AnsweredFrame es (drop p (when_b vs)) b =
    frame_behind es q p (when_b vs) b meet accepts_b
    (overlap_alike es t xs (when_b vs) ready.accepts all.when_b once) came.b_answered in
    joined_whole es zs p p a b fit accepts ready.entries front
    (subst (λ (l : List ControllerState). AnsweredFrame es l b) (seen_back p p vs (omega arith)) back)
    (pieces_seen es p p xs zs ready.accepts alike (pieces_behind es p q xs meet (overlap_of es t xs once) same)))
    (cases_lt p q) in
    record { alike = alike; answered = answered; once = once }
