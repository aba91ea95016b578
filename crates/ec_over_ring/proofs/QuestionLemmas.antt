-- A question over a ring of which one slave is asked.
use Rattle.std.proofs.Common.{◌≡◌, ℕ, ◌<◌, List, [], ◌∷◌, ◌++◌, length, refl, sym, ap, ◌∙◌, subst, inl, inr}
use Rattle.std.specs.Prelude.{Ok, Err, Result}
use Rattle.std.specs.List.{AllByRecursion}
use Rattle.ec_wire.specs.Datagram.{DatagramRecord}
use Rattle.ec_esc.specs.State.{ControllerState}
use Rattle.ec_esc.specs.Pass.{pass}
use Rattle.ec_app.specs.Lending.{with_controller}
use Rattle.ec_app.specs.State.{SlaveState}
use Rattle.ec_merge.specs.Frames.{IsOwn, joined_frame}
use Rattle.ec_merge.proofs.Laws.{own_no_fault}
use Rattle.ec_ring.specs.Links.{IsOnlyDown}
use Rattle.ec_ring.specs.Ring.{RingState, controllers, with_controllers, stepped, line_of, with_line}
use Rattle.ec_ring.specs.Travel.{travelled, Travelled}
use Rattle.ec_ring.specs.Weather.{calm}
use Rattle.ec_ring.specs.declared.links.Links.{Links}
use Rattle.ec_ring.specs.declared.port.PortFault.{PortFault}
use Rattle.ec_ring.specs.declared.weather.Came.{Came}
use Rattle.ec_ring.proofs.Laws.{with_controllers-controllers, length-controllers}
use Rattle.ec_master.specs.Ports.{came_or}
use Rattle.ec_master.specs.RingTrips.{RingTrips}
use Rattle.ec_master.specs.Travelled.{AtMostOneDown}
use Rattle.ec_services.specs.Ask.{Answer, Asks, Brings}
use Rattle.ec_over_ring.specs.Question.{IsByStation, IsOther, IsAlone, Carries, Tells, ring_after}
use Rattle.ec_over_ring.proofs.LineLemmas.{IsUnderway, IsPassed, passed_datagram}
use Rattle.ec_over_ring.proofs.TripLemmas.{OneBrings}
use Rattle.ec_over_ring.proofs.JoinLemmas.{first_carries, second_carries, own_passed, own_sent}
use Rattle.ec_over_ring.proofs.WayLemmas.{IsWay, one_way}

-- ---- slaves and their controllers

pub controllers-of : (before : List SlaveState) (s : SlaveState) (behind : List SlaveState)
    → controllers (before ++ s ∷ behind) ≡ controllers before ++ s.controller ∷ controllers behind
controllers-of [] s behind = refl
controllers-of (x ∷ before) s behind =
    ap (λ (cs : List ControllerState). x.controller ∷ cs) (controllers-of before s behind)

-- one slave has another controller
pub one_changed : (before : List SlaveState) (s : SlaveState) (behind : List SlaveState) (c : ControllerState)
    → with_controllers (before ++ s ∷ behind) (controllers before ++ c ∷ controllers behind)
    ≡ before ++ with_controller s c ∷ behind
one_changed [] s behind c =
    ap (λ (ss : List SlaveState). with_controller s c ∷ ss) (with_controllers-controllers behind)
one_changed (x ∷ before) s behind c =
    ap (λ (ss : List SlaveState). x ∷ ss) (one_changed before s behind c)

pub others_of : (d : DatagramRecord) (ss : List SlaveState)
    → AllByRecursion (λ (x : SlaveState). IsOther d x.controller) ss
    → AllByRecursion (IsOther d) (controllers ss)
others_of d [] others = tt
others_of d (s ∷ ss) others = (others.0, others_of d ss others.1)

-- ---- the answer

carries_of : (d e : DatagramRecord) (a b joined : List DatagramRecord) → IsPassed d e → d.counter < 65536
    → OneBrings d e a b → joined ≡ joined_frame (d ∷ []) a b → Carries e joined
carries_of d e a b joined passed small (inl brings) is =
    subst (λ (f : List DatagramRecord). Carries e f)
    (sym (is ∙ ap (λ (f : List DatagramRecord). joined_frame (d ∷ []) f b) brings.first
    ∙ ap (λ (f : List DatagramRecord). joined_frame (d ∷ []) (e ∷ []) f) brings.second))
    (first_carries d e brings.bit passed small)
carries_of d e a b joined passed small (inr brings) is =
    subst (λ (f : List DatagramRecord). Carries e f)
    (sym (is ∙ ap (λ (f : List DatagramRecord). joined_frame (d ∷ []) f b) brings.first
    ∙ ap (λ (f : List DatagramRecord). joined_frame (d ∷ []) (d ∷ []) f) brings.second))
    (second_carries d e brings.bit passed small)

owns : (d e : DatagramRecord) (a b : List DatagramRecord) → IsPassed d e → OneBrings d e a b
    → IsOwn (d ∷ []) a × IsOwn (d ∷ []) b
owns d e a b passed (inl brings) = (
  subst (λ (f : List DatagramRecord). IsOwn (d ∷ []) f) (sym brings.first)
      (own_passed d e e.circulating passed),
  subst (λ (f : List DatagramRecord). IsOwn (d ∷ []) f) (sym brings.second) (own_sent d brings.bit),
)
owns d e a b passed (inr brings) = (
  subst (λ (f : List DatagramRecord). IsOwn (d ∷ []) f) (sym brings.first) (own_sent d d.circulating),
  subst (λ (f : List DatagramRecord). IsOwn (d ∷ []) f) (sym brings.second)
      (own_passed d e brings.bit passed),
)

pub told : (d e : DatagramRecord) (came : Came) (answer : Answer) → IsPassed d e → d.counter < 65536
    → OneBrings d e (came_or came.a (d ∷ [])) (came_or came.b (d ∷ []))
    → Brings d (Ok came) answer → Tells e answer
told d e came (Err fault) passed small one brings =
    let own = owns d e (came_or came.a (d ∷ [])) (came_or came.b (d ∷ [])) passed one in
    own_no_fault (d ∷ []) _ _ own.0 own.1 brings.1.1 brings.1.2
told d e came (Ok back) passed small one brings =
    carries_of d e (came_or came.a (d ∷ [])) (came_or came.b (d ∷ [])) back.joined passed small one brings.1.2

-- ---- the trip

pub underway_of : (d : DatagramRecord) → IsByStation d → IsUnderway d
underway_of d asked = record { station = asked.station; payload = asked.payload; counter = asked.counter }

-- the trip over a ring whose slaves are these
abbrev ring_of : Links → List SlaveState → RingState
ring_of links slaves = record { slaves = slaves; links = links }

abbrev trip_over : RingState → DatagramRecord → Travelled
trip_over r d = travelled (calm r.links) (d ∷ []) (line_of r)

way_over : (links : Links) (d : DatagramRecord) (before : List SlaveState) (s : SlaveState)
    (behind : List SlaveState) → AtMostOneDown (ring_of links (before ++ s ∷ behind)) → IsByStation d
    → AllByRecursion (λ (x : SlaveState). IsOther d x.controller) before
    → AllByRecursion (λ (x : SlaveState). IsOther d x.controller) behind
    → IsWay d (controllers before) s.controller (controllers behind)
    (trip_over (ring_of links (before ++ s ∷ behind)) d)
way_over links d before s behind down asked first last =
    let line : List ControllerState = controllers before ++ s.controller ∷ controllers behind in
    let is : controllers (before ++ s ∷ behind) ≡ line = controllers-of before s behind in
    let size : length (before ++ s ∷ behind) ≡ length line =
    sym (length-controllers (before ++ s ∷ behind)) ∙ ap (λ (cs : List ControllerState). length cs) is in
    subst (λ (cs : List ControllerState). IsWay d (controllers before) s.controller (controllers behind)
    (travelled (calm links) (d ∷ []) cs)) (sym is)
    (one_way links down.0 d (controllers before) s.controller (controllers behind)
    (subst (λ (n : ℕ). IsOnlyDown links n down.0) size down.1) asked.circulating
    (record {
      underway = underway_of d asked;
      first = others_of d before first;
      last = others_of d behind last;
    }))

-- what a question over a ring comes to
abbrev ComesOf : DatagramRecord → List SlaveState → SlaveState → List SlaveState → Answer → RingState
    → RingState → Type 0
ComesOf d before s behind answer later r =
    AtMostOneDown r → Asks RingTrips r d answer later
    → Tells (pass s.controller d).datagram answer × (later ≡ ring_after d r before s behind)

asked_over : (links : Links) (d : DatagramRecord) (before : List SlaveState) (s : SlaveState)
    (behind : List SlaveState) (answer : Answer) (later : RingState) → IsByStation d
    → AllByRecursion (λ (x : SlaveState). IsOther d x.controller) before
    → AllByRecursion (λ (x : SlaveState). IsOther d x.controller) behind
    → ComesOf d before s behind answer later (ring_of links (before ++ s ∷ behind))
asked_over links d before s behind answer later asked first last down asks =
    let r : RingState = ring_of links (before ++ s ∷ behind) in
    let t : Travelled = trip_over r d in
    let way : IsWay d (controllers before) s.controller (controllers behind) t =
    way_over links d before s behind down asked first last in (
      told d (pass s.controller d).datagram t.came answer
          (passed_datagram s.controller d (underway_of d asked))
          asked.counter way.brings
          (subst (λ (x : Result Came PortFault). Brings d x answer) asks.made.0 asks.brings),
      asks.made.1
          ∙ ap (λ (cs : List ControllerState). stepped (with_line r cs)) way.line
          ∙ ap (λ (ss : List SlaveState). stepped (ring_of links ss))
          (one_changed before s behind (pass s.controller d).state),
    )

-- ---- the law

pub asked_alone : (d : DatagramRecord) (r : RingState) (before behind : List SlaveState) (s : SlaveState)
    (answer : Answer) (later : RingState) → IsByStation d → IsAlone d r before s behind
    → ComesOf d before s behind answer later r
asked_alone d r before behind s answer later asked alone =
    let is : r ≡ ring_of r.links (before ++ s ∷ behind) =
    ap (λ (ss : List SlaveState). ring_of r.links ss) alone.slaves in
    subst (ComesOf d before s behind answer later) (sym is)
    (asked_over r.links d before s behind answer later asked alone.others_before alone.others_behind)
