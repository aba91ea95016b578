-- What the packets that came back of a frame tell of the cable: each is heard at the port where it came, and
-- what is known of the links is what both tell together.
use Rattle.std.specs.Prelude.{◌≡◌, ◌≢◌, ◌↔◌, ◌⊎◌, ◌&&◌, ℕ, Bool, true, false, not, Option, None, Some}
use Rattle.std.specs.Prelude.{List, []}
use Rattle.ec_wire.specs.Datagram.{DatagramRecord, nth}
use Rattle.ec_wire.specs.Fault.{IsSpelt, IsFirstFault}
use Rattle.ec_wire.specs.declared.fault.Form.{Form}
use Rattle.ec_wire.specs.declared.fault.WireFault.{WireFault}
use Rattle.ec_ring.specs.declared.arrivals.Arrivals.{Arrivals}
use Rattle.ec_ring.specs.declared.links.Links.{Links}
use Rattle.ec_ring.specs.declared.port.Port.{Port}
use Rattle.ec_ring.specs.declared.port.Port.TheVariants as ports
use Rattle.ec_diag.specs.Heard.{heard_of, is_broadcast_read}
use Rattle.ec_diag.specs.Join.{with_heard, CanCome}
use Rattle.ec_diag.specs.Located.{Tells}
use Rattle.ec_diag.specs.declared.heard.Heard.{Heard}
use Rattle.ec_diag.specs.declared.located.Located.{Located}
use Rattle.ec_diag.specs.declared.located.Located.TheVariants.{Unknown, Whole, One, Between, First, Last}
use Rattle.ec_diag.specs.declared.located.Located.TheVariants.{Changed}
use Rattle.rummymaple.specs.Numbers.{number_of, copy_number}
use Rattle.rummymaple.specs.declared.cable.Cable.{Cable}
use Rattle.rummymaple.specs.declared.cable.CableAnswer.{CableAnswer}
use Rattle.rummymaple.specs.declared.cable.CableEnd.{CableEnd}
use Rattle.rummymaple.specs.declared.cable.CableEnd.TheVariants.{Told, NotSent, NotBroadcast, BadForm}
use Rattle.rummymaple.specs.declared.cable.CablePlace.{CablePlace}
use Rattle.rummymaple.specs.declared.numbers.Code.TheVariants as codes
use Rattle.rummymaple.specs.declared.numbers.Copy.{Copy}
use Rattle.rummymaple.specs.declared.numbers.Copy.TheVariants.{Lost, Came, NoFrame}

-- what a packet is that came at a port, and what is heard of it: nothing of one that is no frame
abbrev pub IsHeard : Form → Port → List DatagramRecord → List ℕ → Copy → Option Heard → Type 0
IsHeard form at sent packet Lost heard = (packet ≡ []) × (heard ≡ None)
IsHeard form at sent packet Came heard =
    (frame : List DatagramRecord) × IsSpelt form packet frame
    × (heard ≡ heard_of (nth sent 0) (nth frame 0) at)
IsHeard form at sent packet NoFrame heard =
    (packet ≢ []) × ((f : WireFault) × IsFirstFault form packet f) × (heard ≡ None)

-- what is known of the links of a line of n slaves where this is heard at port A, and this at port B: exactly
-- that both can come so
pub record IsKnown (n : ℕ) (a b : Option Heard) (located : Located) : Type 0 where
  pub value : located ≡ with_heard n (with_heard n Unknown a) b
  pub exact : (links : Links) → (CanCome links n a × CanCome links n b) ↔ Tells located links n

-- a datagram can tell of the cable: it is a broadcast read that does not circulate yet
abbrev pub is_asked : DatagramRecord → Bool
is_asked d = is_broadcast_read d.command && not d.circulating

-- the bytes spell a frame that begins with such a one, this is heard of the packets, and this is known by it
pub record AreHeard (form : Form) (sent a b : List ℕ) (n : ℕ) (cable : Cable) : Type 0 where
  pub frame : List DatagramRecord
  pub heard_a : Option Heard
  pub heard_b : Option Heard
  pub located : Located
  pub sent_is : IsSpelt form sent frame
  pub asked : is_asked (nth frame 0) ≡ true
  pub a_is : IsHeard form ports.A frame a cable.a heard_a
  pub b_is : IsHeard form ports.B frame b cable.b heard_b
  pub known : IsKnown n heard_a heard_b located
  pub end_is : cable.end ≡ Told located

-- no packet was looked at
abbrev pub none_heard : CableEnd → Cable
none_heard end = record { end = end; a = Lost; b = Lost }

-- the bytes spell a frame that begins with no such one
pub record IsNotAsked (form : Form) (sent : List ℕ) (cable : Cable) : Type 0 where
  pub frame : List DatagramRecord
  pub sent_is : IsSpelt form sent frame
  pub other : is_asked (nth frame 0) ≡ false
  pub cable_is : cable ≡ none_heard NotBroadcast

-- what these bytes and packets tell: where the bytes are no frame, their first fault is named
abbrev pub IsCable : Option Form → List ℕ → List ℕ → List ℕ → ℕ → Cable → Type 0
IsCable None sent a b n cable = cable ≡ none_heard BadForm
IsCable (Some form) sent a b n cable =
    (AreHeard form sent a b n cable ⊎ IsNotAsked form sent cable)
    ⊎ ((f : WireFault) × IsFirstFault form sent f × (cable ≡ none_heard (NotSent f)))

-- ---- of a trip

-- a packet that spells a frame is a copy that arrived at this port
abbrev pub IsArrival : Form → Port → List ℕ → Arrivals → Type 0
IsArrival form at packet came =
    (frame : List DatagramRecord) → IsSpelt form packet frame
    → (came.a ≡ Some (record { frame = frame; at = at }))
    ⊎ (came.b ≡ Some (record { frame = frame; at = at }))

-- ---- its numbers

-- what is known, and the links that it names
abbrev pub place_of : Located → CablePlace
place_of Unknown = record { kind = 0; first = 0; last = 0 }
place_of Whole = record { kind = 1; first = 0; last = 0 }
place_of (One k) = record { kind = 2; first = k; last = k }
place_of (Between p q) = record { kind = 3; first = p; last = q }
place_of (First k) = record { kind = 4; first = k; last = 0 }
place_of (Last k) = record { kind = 5; first = 0; last = k }
place_of Changed = record { kind = 6; first = 0; last = 0 }

-- an end of which these are the place, the byte at fault and the code
abbrev pub answer_of : CablePlace → ℕ → ℕ → Cable → CableAnswer
answer_of place at code cable = record {
  first = place.first;
  last = place.last;
  at = at;
  code = code;
  cable = place.kind;
  copy_a = copy_number cable.a;
  copy_b = copy_number cable.b;
}

-- all of it, by its end
abbrev pub answer_by : Cable → CableEnd → CableAnswer
answer_by cable (Told located) = answer_of (place_of located) 0 (number_of codes.Good) cable
answer_by cable (NotSent fault) = answer_of (place_of Unknown) fault.at (number_of codes.NotSent) cable
answer_by cable NotBroadcast = answer_of (place_of Unknown) 0 (number_of codes.NotBroadcast) cable
answer_by cable BadForm = answer_of (place_of Unknown) 0 (number_of codes.BadForm) cable

-- all of it
abbrev pub cable_answer : Cable → CableAnswer
cable_answer cable = answer_by cable cable.end
