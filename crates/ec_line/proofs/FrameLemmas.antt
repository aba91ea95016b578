-- A frame that passes one controller, and then a line: each datagram is answered by those that it passed as
-- they were at first, and each of them is left after the items with the data that were sent.
use Rattle.std.proofs.Common.{◌≡◌, ℕ, ◌+◌, ◌%◌, List, []}
use Rattle.std.proofs.Common.{◌∷◌, ◌++◌, length, Option, None, Some}
use Rattle.std.proofs.Common.{sym, subst, ◌∙◌, ap, refl, arith, map, append_assoc}
use Rattle.std.specs.List.{AllByRecursion, sum_by}
use Rattle.std.proofs.lemmas.List.Sums.{sum_by-cons, sum_by-append}
use Rattle.std.proofs.lemmas.List.{length-append, append-nil}
use Rattle.ec_regs.specs.Bits.{bit, placed_bit, with_bits}
use Rattle.ec_regs.proofs.Laws.{placed_bit_taken, placed_bit_kept, with_bits_same_bits, each-append}
use Rattle.ec_regs.proofs.Laws.{each-map, each-both}
use Rattle.ec_wire.specs.Datagram.{DatagramRecord}
use Rattle.ec_areas.specs.Records.{sync_managers_of}
use Rattle.ec_esc.specs.State.{ControllerState, IsController}
use Rattle.ec_esc.specs.Writing.{shown_after}
use Rattle.ec_esc.specs.Pass.{touches, pass, frame_pass}
use Rattle.ec_line.specs.Accepted.{Accepts, AcceptsAll}
use Rattle.ec_line.specs.After.{Entry, written_through, after, after_frame}
use Rattle.ec_line.specs.Answered.{moved_address, Answered, AnsweredFrame}
use Rattle.ec_line.specs.Answers.{Meets, Answers, Agree, AllAgree}
use Rattle.ec_line.specs.Steady.{SameSteady, IsLater}
use Rattle.ec_line.specs.Claims.{claim, taken, gain}
use Rattle.ec_line.specs.Fit.{IsFitAlone, AreApart, AllApart}
use Rattle.ec_line.specs.Request.{Request, OnWay}
use Rattle.ec_line.specs.Trip.{line_pass}
use Rattle.ec_line.proofs.AnswersLemmas.{answers_then}
use Rattle.ec_line.proofs.AcceptedLemmas.{after_pass}
use Rattle.ec_line.proofs.SteadyLemmas.{same_steady_trans, claim_lasts, gain_lasts, taken_lasts, after_steady}
use Rattle.ec_line.proofs.SteadyLemmas.{after_controller, accepts_lasts}
use Rattle.ec_line.proofs.FitLemmas.{agree_back, own}
use Rattle.ec_line.proofs.StepLemmas.{step, moved_moved}

-- ---- one datagram, at a controller that has changed since

-- one that claims the same answers the same
answers_lasts : (r : Request) (x y : ControllerState) (sent got : ℕ → ℕ)
    → ((i : ℕ) → claim r y i ≡ claim r x i)
    → Answers (claim r) (y ∷ []) sent got → Answers (claim r) (x ∷ []) sent got
answers_lasts r x y sent got same answer = record {
  claimed = λ i. (subst (λ (o : Option ℕ). Meets (got i) o) (same i) (answer.claimed i).0, tt);
  rest = λ i none. answer.rest i (same i ∙ none.0, tt);
}

pub step_lasts : (r : Request) (x y : ControllerState) (d : DatagramRecord) → IsFitAlone x → Accepts r x
    → SameSteady x y → OnWay r d
    → Answered r (x ∷ []) d (pass y d).datagram
step_lasts r x y d fit accepts same way =
    let now : Answered r (y ∷ []) d (pass y d).datagram = step r y d way in
    let sum : sum_by (gain r) (y ∷ []) ≡ sum_by (gain r) (x ∷ []) =
    sum_by-cons (gain r) y [] ∙ ap (λ n. n + 0) (gain_lasts r x y fit.controller same)
    ∙ sym (sum_by-cons (gain r) x []) in
    record {
      way = now.way;
      index = now.index;
      irq = now.irq;
      bits = answers_lasts r x y (bit d.payload) (bit (pass y d).datagram.payload)
          (λ i. claim_lasts r x y i fit accepts same) now.bits;
      counter = now.counter ∙ ap (λ n. (d.counter + n) % 65536) sum;
      address = now.address;
    }

-- ---- the data that are taken

-- the bits that a controller takes have the same values in both data
pub SameTaken : Request → ControllerState → List ℕ → List ℕ → Type 0
SameTaken r c payload other = (p i : ℕ) → taken r c p ≡ Some i → bit payload i ≡ bit other i

-- then it is left the same
pub after_same : (r : Request) (c : ControllerState) (payload other : List ℕ) → SameTaken r c payload other
    → after r payload c ≡ after r other c
unfolding written_through SameTaken
after_same r c payload other same =
    let memory : with_bits c.memory payload (taken r c) ≡ with_bits c.memory other (taken r c) =
    with_bits_same_bits c.memory payload other (taken r c) (taken r c)
    (λ p inside.
    let P : Option ℕ → Type 0 = λ o. taken r c p ≡ o
    → placed_bit c.memory payload (taken r c) p ≡ placed_bit c.memory other (taken r c) p in
    elim (taken r c p) as P [
      | None ↦ λ none. placed_bit_kept c.memory payload (taken r c) p none
          ∙ sym (placed_bit_kept c.memory other (taken r c) p none)
      | Some i ↦ λ some.
          placed_bit_taken c.memory payload (taken r c) p i some ∙ same p i some
          ∙ sym (placed_bit_taken c.memory other (taken r c) p i some)
    ] refl) in
    let managers = sync_managers_of c.memory in
    ap (λ (m : List ℕ).
    record c { memory = m; shown = shown_after (touches (taken r c)) managers managers m c.shown }) memory

-- ---- one after the other

-- what some made of a datagram, and others then, all made
pub answered_then : (r : Request) (xs ys : List ControllerState) (d m e : DatagramRecord)
    → AllAgree (claim r) ys xs
    → Answered r xs d m → Answered r ys m e → Answered r (xs ++ ys) d e
answered_then r xs ys d m e agrees first second =
    let one = first.counter in
    let two = second.counter in
    let sum : sum_by (gain r) (xs ++ ys) ≡ sum_by (gain r) xs + sum_by (gain r) ys =
    sum_by-append (gain r) xs ys in
    record {
      way = second.way;
      index = second.index ∙ first.index;
      irq = second.irq ∙ first.irq;
      bits = answers_then (claim r) xs ys (bit d.payload) (bit m.payload) (bit e.payload) agrees first.bits
          second.bits;
      counter = omega arith;
      address =
          second.address
          ∙ ap (moved_address r.kind (length ys)) first.address
          ∙ moved_moved r.kind (length xs) (length ys) d.address
          ∙ ap (λ n. moved_address r.kind n d.address) (sym (length-append xs ys));
    }

-- one agrees with each of those that it is apart from
agrees_with : (r : Request) (xs : List ControllerState) (y : ControllerState)
    → AllByRecursion (λ x. AreApart x y) xs → AllAgree (claim r) (y ∷ []) xs
agrees_with r xs y apart =
    (each-map (λ x. AreApart x y) (λ x. Agree (claim r) y x) xs (λ x p. agree_back r x y p) apart, tt)

-- what it takes nobody before it has claimed, so that it arrives as it was sent
arrives_sent : (r : Request) (xs : List ControllerState) (y : ControllerState) (d e : DatagramRecord)
    → AllByRecursion (λ x. AreApart x y) xs
    → Answered r xs d e → SameTaken r y e.payload d.payload
unfolding SameTaken
arrives_sent r xs y d e apart answer p i takes =
    answer.bits.rest i
    (each-map (λ x. AreApart x y) (λ x. claim r x i ≡ None) xs (λ x q. own r x y p i q takes) apart)

-- ---- one controller, a frame

-- y is the controller x as it is now: the frame, which others have answered, is answered by them and x
pub frame_step : (es : List Entry) (xs : List ControllerState) (x y : ControllerState)
    (ds : List DatagramRecord) → IsFitAlone x → IsController y
    → SameSteady x y → AcceptsAll es x → AllByRecursion (λ f. AreApart f x) xs → AnsweredFrame es xs ds
    → AnsweredFrame es (xs ++ x ∷ []) (frame_pass y ds).frame × ((frame_pass y ds).state ≡ after_frame es y)
unfolding frame_pass after_frame SameTaken
frame_step [] xs x y [] fit controller same accepts apart answered = (tt, refl)
frame_step [] xs x y (d ∷ ds) fit controller same accepts apart answered = absurd answered
frame_step (e ∷ es) xs x y [] fit controller same accepts apart answered = absurd answered
frame_step (e ∷ es) xs x y (d ∷ ds) fit controller same accepts apart answered =
    let r = e.request in
    let accepts_now : Accepts r y = accepts_lasts r x y fit.controller same accepts.0 in
    let arrived : SameTaken r x d.payload e.sent.payload = arrives_sent r xs x e.sent d apart answered.0 in
    let next : ControllerState = (pass y d).state in
    let left : next ≡ after r e.sent.payload y =
    after_pass r y d controller accepts_now answered.0.way
    ∙ after_same r y d.payload e.sent.payload
    (λ p i some. arrived p i (ap (λ (f : ℕ → Option ℕ). f p) (sym (taken_lasts r x y fit.controller same))
    ∙ some)) in
    let next_controller : IsController next =
    subst IsController (sym left) (after_controller r e.sent.payload y controller) in
    let next_same : SameSteady x next =
    subst (λ (z : ControllerState). SameSteady x z) (sym left)
    (same_steady_trans x y (after r e.sent.payload y) fit.controller same
    (after_steady r e.sent.payload y controller accepts_now)) in
    let rest = frame_step es xs x next ds fit next_controller next_same accepts.1 apart answered.1 in
    let here : Answered r (xs ++ x ∷ []) e.sent (pass y d).datagram =
    answered_then r xs (x ∷ []) e.sent d (pass y d).datagram (agrees_with r xs x apart) answered.0
    (step_lasts r x y d fit accepts.0 same answered.0.way) in
    ((here, rest.0), rest.1 ∙ ap (after_frame es) left)

-- the controller after a frame has its steady bytes, and is one
pub after_frame_keeps : (es : List Entry) (x y : ControllerState) → IsController x → IsController y
    → SameSteady x y → AcceptsAll es x
    → IsController (after_frame es y) × SameSteady x (after_frame es y)
unfolding after_frame
after_frame_keeps [] x y was controller same accepts = (controller, same)
after_frame_keeps (e ∷ es) x y was controller same accepts =
    let accepts_now : Accepts e.request y = accepts_lasts e.request x y was same accepts.0 in
    after_frame_keeps es x (after e.request e.sent.payload y) was
    (after_controller e.request e.sent.payload y controller)
    (same_steady_trans x y (after e.request e.sent.payload y) was same
    (after_steady e.request e.sent.payload y controller accepts_now)) accepts.1

-- ---- a line

-- each of some is apart from each of others
abbrev pub ApartFrom : List ControllerState → List ControllerState → Type 0
ApartFrom fs xs = AllByRecursion (λ x. AllByRecursion (λ f. AreApart f x) fs) xs

-- a frame that some have answered passes a line, each once: it is answered by all, and each is left after the
-- items
pub line_step : (es : List Entry) (fs xs ys : List ControllerState) (ds : List DatagramRecord)
    → AllByRecursion IsFitAlone xs → AllApart xs
    → ApartFrom fs xs → AllByRecursion (AcceptsAll es) xs → IsLater xs ys → AnsweredFrame es fs ds
    → AnsweredFrame es (fs ++ xs) (line_pass ys ds).frame × ((line_pass ys ds).line ≡ map (after_frame es) ys)
unfolding line_pass
line_step es fs [] [] ds fit apart from accepts later answered =
    (subst (λ (zs : List ControllerState). AnsweredFrame es zs ds) (sym (append-nil fs)) answered, refl)
line_step es fs [] (y ∷ ys) ds fit apart from accepts later answered = absurd later
line_step es fs (x ∷ xs) [] ds fit apart from accepts later answered = absurd later
line_step es fs (x ∷ xs) (y ∷ ys) ds fit apart from accepts later answered =
    let first = frame_step es fs x y ds fit.0 later.0.1 later.0.0 accepts.0 from.0 answered in
    let further : ApartFrom (fs ++ x ∷ []) xs =
    each-both (λ z. AllByRecursion (λ f. AreApart f z) fs) (λ z. AreApart x z)
    (λ z. AllByRecursion (λ f. AreApart f z) (fs ++ x ∷ [])) xs
    (λ z front here. each-append (λ f. AreApart f z) fs (x ∷ []) front (here, tt)) from.1 apart.0 in
    let rest = line_step es (fs ++ x ∷ []) xs ys (frame_pass y ds).frame fit.1 apart.1 further accepts.1
    later.1 first.0 in (
      subst (λ (zs : List ControllerState). AnsweredFrame es zs (line_pass ys (frame_pass y ds).frame).frame)
          (append_assoc fs (x ∷ []) xs) rest.0,
      ap (λ (s : ControllerState). s ∷ (line_pass ys (frame_pass y ds).frame).line) first.1
          ∙ ap (λ (zs : List ControllerState). after_frame es y ∷ zs) rest.1,
    )
