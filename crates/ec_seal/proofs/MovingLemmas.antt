-- A number goes through a line that moves, and what is taken on a trip over one is its own.
use Rattle.std.specs.Prelude.{◌≡◌, ℕ, ◌<◌, ◌^◌, Bool, true, false, if◌then◌else◌}
use Rattle.std.specs.Prelude.{List, None, Some, IfSome, refl}
use Rattle.std.proofs.Common.{arith, ap, sym, ◌∙◌, subst, inl, inr}
use Rattle.ec_wire.specs.Datagram.{DatagramRecord}
use Rattle.ec_line.specs.Answered.{sent_of}
use Rattle.ec_line.specs.Moving.{Visit, when_a, when_b, copy_a, copy_b}
use Rattle.ec_line.specs.Trip.{Trip, PassedLine, back_pass, circulated}
use Rattle.ec_ring.specs.declared.weather.Came.{Came}
use Rattle.ec_number.specs.Number.{Bears, with_number, numbered, opened, number_a, number_b}
use Rattle.ec_number.proofs.Laws.{opened-with_number, one_borne, with_number-bears}
use Rattle.ec_seal.specs.Moving.{numbered_copy_a, numbered_copy_b, GoesBackMoving, MeetsMoving}
use Rattle.ec_seal.specs.Taken.{BearsOneOf}
use Rattle.ec_seal.proofs.CarryLemmas.{AreControllers}
use Rattle.ec_seal.proofs.UnderLemmas.{if_some}
use Rattle.ec_seal.proofs.WalkLemmas.{numbered_line, front_numbered, back_numbered, circulated_numbered}

-- ---- each copy with its number behind it

pub moving_a : (n : ℕ) (t : Trip) (vs : List Visit) → AreControllers (when_a vs)
    → numbered_copy_a n t vs ≡ numbered_line false (number_a n) (copy_a t vs)
moving_a n t vs all = front_numbered t.front (when_a vs) false (number_a n) (sent_of t.entries) all

begins : (turned : Bool) (n : ℕ) (ds : List DatagramRecord)
    → (if turned then circulated (numbered n ds) else numbered n ds)
    ≡ with_number turned n (if turned then circulated ds else ds)
begins true n ds = circulated_numbered false n ds
begins false n ds = refl

pub moving_b : (n : ℕ) (t : Trip) (vs : List Visit) → AreControllers (when_b vs)
    → numbered_copy_b n t vs ≡ numbered_line t.turned (number_b n) (copy_b t vs)
moving_b n t vs all =
    let ds : List DatagramRecord = sent_of t.entries in
    ap (λ (f : List DatagramRecord). back_pass t.back (when_b vs) f) (begins t.turned (number_b n) ds)
    ∙ back_numbered t.back (when_b vs) t.turned (number_b n) (if t.turned then circulated ds else ds) all

-- ---- what is taken

-- a copy that comes back is the one, and is not lost
pub record IsBack (lost : Bool) (frame copy : List DatagramRecord) : Type 0 where
  pub here : lost ≡ false
  pub same : copy ≡ frame

back_of : (lost : Bool) (frame copy : List DatagramRecord)
    → (if lost then None else Some frame) ≡ Some copy → IsBack lost frame copy
back_of true frame copy is = absurd (let no : None ≡ Some copy = is in cc)
back_of false frame copy is = record { here = refl; same = sym (let s : Some frame ≡ Some copy = is in cc) }

-- a copy of the trip, opened
abbrev pub IsOpened : Bool → List DatagramRecord → List DatagramRecord → Type 0
IsOpened lost frame copy = (lost ≡ false) × (opened copy ≡ frame)

opens : (lost b : Bool) (n : ℕ) (p q : PassedLine) (copy : List DatagramRecord) → n < 2 ^ 64
    → p ≡ numbered_line b n q → IsBack lost p.frame copy
    → IsOpened lost q.frame copy × Bears n copy
opens lost b n p q copy small is back =
    let same : copy ≡ with_number b n q.frame = back.same ∙ ap (λ (x : PassedLine). x.frame) is in (
      (back.here, ap opened same ∙ opened-with_number b n q.frame),
      subst (λ (c : List DatagramRecord). Bears n c) (sym same) (with_number-bears b n q.frame small),
    )

own_moving_a : (n : ℕ) (t : Trip) (vs : List Visit) (copy : List DatagramRecord) → n < 2 ^ 63
    → AreControllers (when_a vs) → AreControllers (when_b vs) → GoesBackMoving n t vs copy
    → Bears (number_a n) copy
    → IsOpened t.lost_a (copy_a t vs).frame copy
own_moving_a n t vs copy small at_a at_b (inl is) bears =
    (opens t.lost_a false (number_a n) (numbered_copy_a n t vs) (copy_a t vs) copy (omega arith)
    (moving_a n t vs at_a) (back_of t.lost_a (numbered_copy_a n t vs).frame copy is)).0
own_moving_a n t vs copy small at_a at_b (inr is) bears =
    let other : Bears (number_b n) copy =
    (opens t.lost_b t.turned (number_b n) (numbered_copy_b n t vs) (copy_b t vs) copy (omega arith)
    (moving_b n t vs at_b) (back_of t.lost_b (numbered_copy_b n t vs).frame copy is)).1 in
    let same : number_b n ≡ number_a n = one_borne (number_b n) (number_a n) copy other bears in
    absurd (omega (arith, same))

own_moving_b : (n : ℕ) (t : Trip) (vs : List Visit) (copy : List DatagramRecord) → n < 2 ^ 63
    → AreControllers (when_a vs) → AreControllers (when_b vs) → GoesBackMoving n t vs copy
    → Bears (number_b n) copy
    → IsOpened t.lost_b (copy_b t vs).frame copy
own_moving_b n t vs copy small at_a at_b (inr is) bears =
    (opens t.lost_b t.turned (number_b n) (numbered_copy_b n t vs) (copy_b t vs) copy (omega arith)
    (moving_b n t vs at_b) (back_of t.lost_b (numbered_copy_b n t vs).frame copy is)).0
own_moving_b n t vs copy small at_a at_b (inl is) bears =
    let other : Bears (number_a n) copy =
    (opens t.lost_a false (number_a n) (numbered_copy_a n t vs) (copy_a t vs) copy (omega arith)
    (moving_a n t vs at_a) (back_of t.lost_a (numbered_copy_a n t vs).frame copy is)).1 in
    let same : number_a n ≡ number_b n = one_borne (number_a n) (number_b n) copy other bears in
    absurd (omega (arith, same))

pub taken_moving_a : (n : ℕ) (t : Trip) (vs : List Visit) (taken : Came) → MeetsMoving n t vs taken
    → IfSome taken.a (λ (copy : List DatagramRecord). IsOpened t.lost_a (copy_a t vs).frame copy)
taken_moving_a n t vs taken m =
    if_some taken.a
    (λ (copy : List DatagramRecord). (BearsOneOf n copy → GoesBackMoving n t vs copy) × Bears (number_a n) copy)
    (λ (copy : List DatagramRecord). IsOpened t.lost_a (copy_a t vs).frame copy)
    (λ copy is. own_moving_a n t vs copy m.number m.at_a m.at_b (is.0 (inl is.1)) is.1) m.a

pub taken_moving_b : (n : ℕ) (t : Trip) (vs : List Visit) (taken : Came) → MeetsMoving n t vs taken
    → IfSome taken.b (λ (copy : List DatagramRecord). IsOpened t.lost_b (copy_b t vs).frame copy)
taken_moving_b n t vs taken m =
    if_some taken.b
    (λ (copy : List DatagramRecord). (BearsOneOf n copy → GoesBackMoving n t vs copy) × Bears (number_b n) copy)
    (λ (copy : List DatagramRecord). IsOpened t.lost_b (copy_b t vs).frame copy)
    (λ copy is. own_moving_b n t vs copy m.number m.at_a m.at_b (is.0 (inr is.1)) is.1) m.b
