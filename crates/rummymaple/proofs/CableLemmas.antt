-- What is heard of the copies of a trip can be so, and what is known by it is so.
use Rattle.std.specs.Prelude.{if◌then◌else◌}
use Rattle.std.proofs.Common.{◌≡◌, ℕ, Bool, true, false, inl, inr, Option, None, Some, List, [], ◌∷◌, length}
use Rattle.std.proofs.Common.{sym, ap, subst, ◌∙◌}
use Rattle.ec_wire.specs.Datagram.{DatagramRecord}
use Rattle.ec_wire.specs.declared.fault.Form.{Form}
use Rattle.ec_esc.specs.State.{ControllerState}
use Rattle.ec_ring.specs.Arrivals.{arrivals_of}
use Rattle.ec_ring.specs.declared.arrivals.Arrivals.{Arrivals}
use Rattle.ec_ring.specs.declared.links.Links.{Links}
use Rattle.ec_ring.specs.declared.port.Port.{Port}
use Rattle.ec_ring.specs.declared.port.Port.TheVariants as ports
use Rattle.ec_ring.specs.declared.weather.Weather.{Weather}
use Rattle.ec_diag.specs.Arrivals.{heard_arrival}
use Rattle.ec_diag.specs.Heard.{heard_a, heard_b}
use Rattle.ec_diag.specs.Join.{CanCome}
use Rattle.ec_diag.specs.Located.{Tells}
use Rattle.ec_diag.specs.declared.heard.Heard.{Heard}
use Rattle.rummymaple.specs.Cable.{IsHeard, AreHeard, IsArrival}
use Rattle.rummymaple.specs.declared.cable.Cable.{Cable}
use Rattle.rummymaple.specs.declared.numbers.Copy.{Copy}
use Rattle.rummymaple.specs.declared.numbers.Copy.TheVariants.{Lost, Came, NoFrame}

-- what is heard of copy A can be, and of copy B
come_a : (links : Links) (n : ℕ) (lost : Bool) (o : Option Heard)
    → o ≡ (if lost then None else heard_a links n) → CanCome links n o
come_a links n lost None is = tt
come_a links n true (Some h) is = absurd (cc)
come_a links n false (Some h) is = inl (sym is)

come_b : (links : Links) (n : ℕ) (lost : Bool) (o : Option Heard)
    → o ≡ (if lost then None else heard_b links n) → CanCome links n o
come_b links n lost None is = tt
come_b links n true (Some h) is = absurd (cc)
come_b links n false (Some h) is = inr (sym is)

-- what is heard of a packet can be, where it is a copy of a trip
heard-comes : (form : Form) (at : Port) (d : DatagramRecord) (packet : List ℕ) (copy : Copy)
    (heard : Option Heard) (came : Arrivals) (links : Links) (n : ℕ) (lost_a lost_b : Bool)
    → IsHeard form at (d ∷ []) packet copy heard → IsArrival form at packet came
    → heard_arrival (d ∷ []) came.a ≡ (if lost_a then None else heard_a links n)
    → heard_arrival (d ∷ []) came.b ≡ (if lost_b then None else heard_b links n)
    → CanCome links n heard
heard-comes form at d packet Lost heard came links n lost_a lost_b is arrived a b = rw is.1 tt
heard-comes form at d packet NoFrame heard came links n lost_a lost_b is arrived a b = rw is.2 tt
heard-comes form at d packet Came heard came links n lost_a lost_b is arrived a b =
    elim (arrived is.0 is.1) [
      | inl e ↦ come_a links n lost_a heard (is.2 ∙ sym (ap (heard_arrival (d ∷ [])) e) ∙ a)
      | inr e ↦ come_b links n lost_b heard (is.2 ∙ sym (ap (heard_arrival (d ∷ [])) e) ∙ b)
    ]

-- what is known by the packets of a trip is so
pub known-so : (form : Form) (sent a b : List ℕ) (cable : Cable) (w : Weather) (line : List ControllerState)
    (d : DatagramRecord) (heard : AreHeard form sent a b (length line) cable)
    → heard.frame ≡ d ∷ [] → w.a ≡ w.b
    → IsArrival form ports.A a (arrivals_of w (d ∷ []) line)
    → IsArrival form ports.B b (arrivals_of w (d ∷ []) line)
    → heard_arrival (d ∷ []) (arrivals_of w (d ∷ []) line).a
    ≡ (if w.lost_a then None else heard_a w.a (length line))
    → heard_arrival (d ∷ []) (arrivals_of w (d ∷ []) line).b
    ≡ (if w.lost_b then None else heard_b w.b (length line))
    → Tells heard.located w.a (length line)
known-so form sent a b cable w line d heard frame_is same at_a at_b trip_a trip_b =
    let n : ℕ = length line in
    let came : Arrivals = arrivals_of w (d ∷ []) line in
    let trip_b : heard_arrival (d ∷ []) came.b ≡ (if w.lost_b then None else heard_b w.a n) =
    subst (λ (links : Links). heard_arrival (d ∷ []) came.b ≡ (if w.lost_b then None else heard_b links n))
    (sym same) trip_b in
    let can_a : CanCome w.a n heard.heard_a =
    heard-comes form ports.A d a cable.a heard.heard_a came w.a n w.lost_a w.lost_b
    (subst (λ (f : List DatagramRecord). IsHeard form ports.A f a cable.a heard.heard_a) frame_is heard.a_is)
    at_a trip_a trip_b in
    let can_b : CanCome w.a n heard.heard_b =
    heard-comes form ports.B d b cable.b heard.heard_b came w.a n w.lost_a w.lost_b
    (subst (λ (f : List DatagramRecord). IsHeard form ports.B f b cable.b heard.heard_b) frame_is heard.b_is)
    at_b trip_a trip_b in
    (heard.known.exact w.a).0 (can_a, can_b)
