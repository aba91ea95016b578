-- The core: what came back of a trip over a fit line and was joined is the answer of those that the copies
-- passed which came back, and each controller is left after the frame as often as it was passed.
use Rattle.std.proofs.Common.{◌≡◌, ℕ, zero, suc, Bool, true, false, cond, List, [], ◌∷◌, ◌++◌}
use Rattle.std.proofs.Common.{take, drop, map, sym, subst, ◌∙◌, ap, refl}
use Rattle.std.specs.List.{AllByRecursion}
use Rattle.std.proofs.lemmas.List.{take-append-drop}
use Rattle.ec_regs.proofs.Laws.{each-map, each-both, each-take, each-drop}
use Rattle.ec_wire.specs.Datagram.{DatagramRecord}
use Rattle.ec_esc.specs.State.{ControllerState}
use Rattle.ec_line.specs.Accepted.{AcceptsAll}
use Rattle.ec_line.specs.After.{Entry, after_frame}
use Rattle.ec_line.specs.Answered.{AnsweredFrame, sent_of}
use Rattle.ec_line.specs.Answers.{Agree, AllAgree}
use Rattle.ec_line.specs.Claims.{claim}
use Rattle.ec_line.specs.Fit.{IsFitAlone, AreApart, AllApart, IsFitLine}
use Rattle.ec_line.specs.Request.{Request, OnWay}
use Rattle.ec_line.specs.Trip.{line_pass, front_pass, back_pass, circulated, Trip, Passed, sent_b}
use Rattle.ec_line.specs.Trip.{passed_by_a_first, passed_by_b_first, passed, joined_of}
use Rattle.ec_line.specs.Trip.{returned, front_after, back_after, visited}
use Rattle.ec_line.proofs.FitLemmas.{agree, agree_self, agree_back}
use Rattle.ec_line.proofs.FrameLemmas.{after_frame_keeps, ApartFrom, line_step}
use Rattle.ec_line.specs.Steady.{IsLater}
use Rattle.ec_line.proofs.JoinLemmas.{IsEntry, AgreeAll, frame_joined, answered_nobody, frame_nobody}

-- ---- pieces of a list

apart-take : (n : ℕ) (xs : List ControllerState) → AllApart xs → AllApart (take n xs)
apart-take zero xs all = tt
apart-take (suc n) [] all = tt
apart-take (suc n) (x ∷ xs) all = (each-take (λ y. AreApart x y) n xs all.0, apart-take n xs all.1)

pub apart-drop : (n : ℕ) (xs : List ControllerState) → AllApart xs → AllApart (drop n xs)
apart-drop zero xs all = all
apart-drop (suc n) [] all = tt
apart-drop (suc n) (x ∷ xs) all = apart-drop n xs all.1

-- nobody is apart from anybody
pub apart_from_nobody : (xs : List ControllerState) → ApartFrom [] xs
apart_from_nobody [] = tt
apart_from_nobody (x ∷ xs) = (tt, apart_from_nobody xs)

-- ---- later lines

later-take : (n : ℕ) (xs ys : List ControllerState) → IsLater xs ys → IsLater (take n xs) (take n ys)
later-take zero xs ys later = tt
later-take (suc n) [] [] later = tt
later-take (suc n) [] (y ∷ ys) later = absurd later
later-take (suc n) (x ∷ xs) [] later = absurd later
later-take (suc n) (x ∷ xs) (y ∷ ys) later = (later.0, later-take n xs ys later.1)

later-drop : (n : ℕ) (xs ys : List ControllerState) → IsLater xs ys → IsLater (drop n xs) (drop n ys)
later-drop zero xs ys later = later
later-drop (suc n) [] [] later = tt
later-drop (suc n) [] (y ∷ ys) later = absurd later
later-drop (suc n) (x ∷ xs) [] later = absurd later
later-drop (suc n) (x ∷ xs) (y ∷ ys) later = later-drop n xs ys later.1

later-append : (xs ys zs ws : List ControllerState) → IsLater xs ys → IsLater zs ws
    → IsLater (xs ++ zs) (ys ++ ws)
later-append [] [] zs ws front back = back
later-append [] (y ∷ ys) zs ws front back = absurd front
later-append (x ∷ xs) [] zs ws front back = absurd front
later-append (x ∷ xs) (y ∷ ys) zs ws front back = (front.0, later-append xs ys zs ws front.1 back)

-- a line whose controllers went through a frame is a later one
pub later-map : (es : List Entry) (xs ys : List ControllerState) → AllByRecursion IsFitAlone xs
    → AllByRecursion (AcceptsAll es) xs → IsLater xs ys
    → IsLater xs (map (after_frame es) ys)
later-map es [] [] fit accepts later = tt
later-map es [] (y ∷ ys) fit accepts later = absurd later
later-map es (x ∷ xs) [] fit accepts later = absurd later
later-map es (x ∷ xs) (y ∷ ys) fit accepts later =
    let kept = after_frame_keeps es x y fit.0.controller later.0.1 later.0.0 accepts.0 in
    ((kept.1, kept.0), later-map es xs ys fit.1 accepts.1 later.1)

-- a line put together of its pieces
later-pieces : (n : ℕ) (xs ys zs : List ControllerState) → IsLater (take n xs) ys → IsLater (drop n xs) zs
    → IsLater xs (ys ++ zs)
later-pieces n xs ys zs front back =
    subst (λ (l : List ControllerState). IsLater l (ys ++ zs)) (take-append-drop n xs)
    (later-append (take n xs) ys (drop n xs) zs front back)

-- a line is a later one of itself
pub later-refl : (xs : List ControllerState) → AllByRecursion IsFitAlone xs → IsLater xs xs
later-refl [] fit = tt
later-refl (x ∷ xs) fit =
    ((record { size = refl; bytes = λ a steady. refl }, fit.0.controller), later-refl xs fit.1)

-- the frame behind a line that it passed, and the line then
pub copy_of : (es : List Entry) (line : List ControllerState) → IsFitLine line
    → AllByRecursion (AcceptsAll es) line
    → AllByRecursion (λ e. OnWay e.request e.sent) es
    → AnsweredFrame es line (line_pass line (sent_of es)).frame
    × ((line_pass line (sent_of es)).line ≡ map (after_frame es) line)
unfolding IsEntry
copy_of es line fit accepts entries =
    line_step es [] line line (sent_of es) fit.alone fit.apart (apart_from_nobody line) accepts
    (later-refl line fit.alone) (frame_nobody es entries)

-- ---- members of a fit line agree

-- each with each
all_agree : (r : Request) (xs : List ControllerState) → AllApart xs → AllAgree (claim r) xs xs
all_agree r [] apart = tt
all_agree r (x ∷ xs) apart =
    let rest : AllAgree (claim r) xs xs = all_agree r xs apart.1 in (
      (
        agree_self r x,
        each-map (λ y. AreApart x y) (λ y. Agree (claim r) x y) xs (λ y p. agree r x y p) apart.0,
      ),
      each-both (λ y. AreApart x y) (λ y. AllByRecursion (λ z. Agree (claim r) y z) xs)
          (λ y. AllByRecursion (λ z. Agree (claim r) y z) (x ∷ xs)) xs
          (λ y p q. (agree_back r x y p, q)) apart.0 rest,
    )

-- members chosen by a condition
unfoldable pub chosen : {S : Type 0} → Bool → List S → List S
chosen lost xs = cond lost [] xs

each-chosen : {S : Type 0} (P : S → Type 0) (b : Bool) (xs : List S) → AllByRecursion P xs
    → AllByRecursion P (chosen b xs)
unfolding chosen
each-chosen P true xs all = tt
each-chosen P false xs all = all

-- those of a front and those of a back
agree_pieces : (r : Request) (xs : List ControllerState) (p q : ℕ) (a b : Bool) → AllApart xs
    → AllAgree (claim r) (chosen a (take p xs)) (chosen b (drop q xs))
    × AllAgree (claim r) (chosen b (drop q xs)) (chosen a (take p xs))
agree_pieces r xs p q a b apart =
    let all : AllAgree (claim r) xs xs = all_agree r xs apart in
    let fronts : AllByRecursion (λ x. AllByRecursion (λ y. Agree (claim r) x y) (chosen b (drop q xs))) xs =
    each-map (λ x. AllByRecursion (λ y. Agree (claim r) x y) xs)
    (λ x. AllByRecursion (λ y. Agree (claim r) x y) (chosen b (drop q xs))) xs
    (λ x each. each-chosen (λ y. Agree (claim r) x y) b (drop q xs)
    (each-drop (λ y. Agree (claim r) x y) q xs each)) all in
    let backs : AllByRecursion (λ x. AllByRecursion (λ y. Agree (claim r) x y) (chosen a (take p xs))) xs =
    each-map (λ x. AllByRecursion (λ y. Agree (claim r) x y) xs)
    (λ x. AllByRecursion (λ y. Agree (claim r) x y) (chosen a (take p xs))) xs
    (λ x each. each-chosen (λ y. Agree (claim r) x y) a (take p xs)
    (each-take (λ y. Agree (claim r) x y) p xs each)) all in (
      each-chosen (λ x. AllByRecursion (λ y. Agree (claim r) x y) (chosen b (drop q xs))) a (take p xs)
          (each-take (λ x. AllByRecursion (λ y. Agree (claim r) x y) (chosen b (drop q xs))) p xs fronts),
      each-chosen (λ x. AllByRecursion (λ y. Agree (claim r) x y) (chosen a (take p xs))) b (drop q xs)
          (each-drop (λ x. AllByRecursion (λ y. Agree (claim r) x y) (chosen a (take p xs))) q xs backs),
    )

-- about every entry
pub agree_entries : (es : List Entry) (xs : List ControllerState) (p q : ℕ) (a b : Bool) → AllApart xs
    → AgreeAll es (chosen a (take p xs)) (chosen b (drop q xs))
unfolding AgreeAll
agree_entries [] xs p q a b apart = tt
agree_entries (e ∷ es) xs p q a b apart =
    (agree_pieces e.request xs p q a b apart, agree_entries es xs p q a b apart)

-- ---- one copy

-- a fit line at first, the line as it is now, and a frame that it accepts
pub record IsReady (es : List Entry) (xs ys : List ControllerState) : Type 0 where
  pub fit : IsFitLine xs
  pub accepts : AllByRecursion (AcceptsAll es) xs
  pub entries : AllByRecursion IsEntry es
  pub later : IsLater xs ys

-- a copy that passes a first piece
pub front_copy : (es : List Entry) (xs ys : List ControllerState) (n : ℕ) (ds : List DatagramRecord)
    → IsReady es xs ys → AnsweredFrame es [] ds
    → AnsweredFrame es (take n xs) (front_pass n ys ds).frame
    × ((front_pass n ys ds).line ≡ front_after (after_frame es) n ys)
front_copy es xs ys n ds ready sent =
    let done = line_step es [] (take n xs) (take n ys) ds (each-take IsFitAlone n xs ready.fit.alone)
    (apart-take n xs ready.fit.apart)
    (apart_from_nobody (take n xs)) (each-take (AcceptsAll es) n xs ready.accepts)
    (later-take n xs ys ready.later) sent in
    (done.0, ap (λ (l : List ControllerState). l ++ drop n ys) done.1)

-- and one that passes a last piece
pub back_copy : (es : List Entry) (xs ys : List ControllerState) (n : ℕ) (ds : List DatagramRecord)
    → IsReady es xs ys → AnsweredFrame es [] ds
    → AnsweredFrame es (drop n xs) (back_pass n ys ds).frame
    × ((back_pass n ys ds).line ≡ back_after (after_frame es) n ys)
back_copy es xs ys n ds ready sent =
    let done = line_step es [] (drop n xs) (drop n ys) ds (each-drop IsFitAlone n xs ready.fit.alone)
    (apart-drop n xs ready.fit.apart)
    (apart_from_nobody (drop n xs)) (each-drop (AcceptsAll es) n xs ready.accepts)
    (later-drop n xs ys ready.later) sent in
    (done.0, ap (λ (l : List ControllerState). take n ys ++ l) done.1)

-- the line behind a copy is ready again
pub ready_front : (es fs : List Entry) (xs ys : List ControllerState) (n : ℕ) → IsReady es xs ys
    → IsLater xs (front_after (after_frame es) n ys)
ready_front es fs xs ys n ready =
    later-pieces n xs (map (after_frame es) (take n ys)) (drop n ys)
    (later-map es (take n xs) (take n ys) (each-take IsFitAlone n xs ready.fit.alone)
    (each-take (AcceptsAll es) n xs ready.accepts) (later-take n xs ys ready.later))
    (later-drop n xs ys ready.later)

pub ready_back : (es fs : List Entry) (xs ys : List ControllerState) (n : ℕ) → IsReady es xs ys
    → IsLater xs (back_after (after_frame es) n ys)
ready_back es fs xs ys n ready =
    later-pieces n xs (take n ys) (map (after_frame es) (drop n ys)) (later-take n xs ys ready.later)
    (later-map es (drop n xs) (drop n ys) (each-drop IsFitAlone n xs ready.fit.alone)
    (each-drop (AcceptsAll es) n xs ready.accepts) (later-drop n xs ys ready.later))

again : (es : List Entry) (xs ys zs : List ControllerState) → IsReady es xs ys → IsLater xs zs
    → IsReady es xs zs
again es xs ys zs ready later =
    record { fit = ready.fit; accepts = ready.accepts; entries = ready.entries; later = later }

-- copy B as it starts, with its circulating bits set or not, is answered by nobody
turned_nobody : (es : List Entry) → AllByRecursion IsEntry es → AnsweredFrame es [] (circulated (sent_of es))
unfolding IsEntry
turned_nobody [] entries = tt
turned_nobody (e ∷ es) entries = (
  answered_nobody e.request e.sent (record e.sent { circulating = true }) entries.0 refl,
  turned_nobody es entries.1,
)

pub starts_b : (t : Trip) → AllByRecursion IsEntry t.entries → AnsweredFrame t.entries [] (sent_b t)
starts_b t entries =
    elim t.turned as
    (λ b. AnsweredFrame t.entries [] (cond b (circulated (sent_of t.entries)) (sent_of t.entries))) [
      | true ↦ turned_nobody t.entries entries
      | false ↦ frame_nobody t.entries entries
    ]

-- ---- both copies

-- each copy is answered by what it passed, and the line is left after the frame
pub record CopiesAnswered (t : Trip) (xs ys : List ControllerState) (p : Passed) : Type 0 where
  pub a : AnsweredFrame t.entries (take t.front xs) p.a
  pub b : AnsweredFrame t.entries (drop t.back xs) p.b
  pub line : p.line ≡ visited t ys
  pub later : IsLater xs p.line

a_first : (t : Trip) (xs ys : List ControllerState) → IsReady t.entries xs ys → t.b_first ≡ false
    → CopiesAnswered t xs ys (passed_by_a_first t ys)
a_first t xs ys ready order =
    let es = t.entries in
    let leave = after_frame es in
    let a = front_copy es xs ys t.front (sent_of es) ready (frame_nobody es ready.entries) in
    let mid : List ControllerState = (front_pass t.front ys (sent_of es)).line in
    let mid_later : IsLater xs mid =
    subst (λ (l : List ControllerState). IsLater xs l) (sym a.1) (ready_front es es xs ys t.front ready) in
    let ready_mid : IsReady es xs mid = again es xs ys mid ready mid_later in
    let b = back_copy es xs mid t.back (sent_b t) ready_mid (starts_b t ready.entries) in
    let line : (passed_by_a_first t ys).line ≡ back_after leave t.back (front_after leave t.front ys) =
    b.1 ∙ ap (back_after leave t.back) a.1 in
    record {
      a = a.0;
      b = b.0;
      line = line ∙ ap
          (λ x. cond x (front_after leave t.front (back_after leave t.back ys))
          (back_after leave t.back (front_after leave t.front ys))) (sym order);
      later = subst (λ (l : List ControllerState). IsLater xs l) (sym b.1)
          (ready_back es es xs mid t.back ready_mid);
    }

b_first_copies : (t : Trip) (xs ys : List ControllerState) → IsReady t.entries xs ys → t.b_first ≡ true
    → CopiesAnswered t xs ys (passed_by_b_first t ys)
b_first_copies t xs ys ready order =
    let es = t.entries in
    let leave = after_frame es in
    let b = back_copy es xs ys t.back (sent_b t) ready (starts_b t ready.entries) in
    let mid : List ControllerState = (back_pass t.back ys (sent_b t)).line in
    let mid_later : IsLater xs mid =
    subst (λ (l : List ControllerState). IsLater xs l) (sym b.1) (ready_back es es xs ys t.back ready) in
    let ready_mid : IsReady es xs mid = again es xs ys mid ready mid_later in
    let a = front_copy es xs mid t.front (sent_of es) ready_mid (frame_nobody es ready.entries) in
    let line : (passed_by_b_first t ys).line ≡ front_after leave t.front (back_after leave t.back ys) =
    a.1 ∙ ap (front_after leave t.front) b.1 in
    record {
      a = a.0;
      b = b.0;
      line = line ∙ ap
          (λ x. cond x (front_after leave t.front (back_after leave t.back ys))
          (back_after leave t.back (front_after leave t.front ys))) (sym order);
      later = subst (λ (l : List ControllerState). IsLater xs l) (sym a.1)
          (ready_front es es xs mid t.front ready_mid);
    }

pub copies : (t : Trip) (xs ys : List ControllerState) → IsReady t.entries xs ys
    → CopiesAnswered t xs ys (passed t ys)
unfolding passed
copies t xs ys ready =
    let P : Bool → Type 0 = λ x. t.b_first ≡ x
    → CopiesAnswered t xs ys (cond x (passed_by_b_first t ys) (passed_by_a_first t ys)) in
    elim t.b_first as P
    [ true ↦ λ order. b_first_copies t xs ys ready order | false ↦ λ order. a_first t xs ys ready order ] refl

-- a copy that came back, or the sent frame
came_or : (es : List Entry) (xs : List ControllerState) (lost : Bool) (ds : List DatagramRecord)
    → AllByRecursion IsEntry es → AnsweredFrame es xs ds
    → AnsweredFrame es (chosen lost xs) (cond lost (sent_of es) ds)
unfolding chosen
came_or es xs true ds entries answered = frame_nobody es entries
came_or es xs false ds entries answered = answered

-- the core: the joined frame is the answer of those that were passed by what came back
pub core : (t : Trip) (xs ys : List ControllerState) → IsReady t.entries xs ys
    → AnsweredFrame t.entries (returned t xs) (joined_of t (passed t ys))
    × ((passed t ys).line ≡ visited t ys) × IsLater xs (passed t ys).line
unfolding chosen
core t xs ys ready =
    let es = t.entries in
    let both = copies t xs ys ready in
    let a = came_or es (take t.front xs) t.lost_a (passed t ys).a ready.entries both.a in
    let b = came_or es (drop t.back xs) t.lost_b (passed t ys).b ready.entries both.b in (
      frame_joined es (chosen t.lost_a (take t.front xs)) (chosen t.lost_b (drop t.back xs)) _ _ ready.entries
          (agree_entries es xs t.front t.back t.lost_a t.lost_b ready.fit.apart) a b,
      both.line,
      both.later,
    )
