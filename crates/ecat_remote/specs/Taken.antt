-- What a master takes of the packets that its ports give (IEC 61158-4-12, the datagram structure): each copy
-- of a frame goes out under a number of its own, and a packet is taken for a copy exactly where it spells a
-- frame that came of that numbered copy.
use Rattle.std.specs.Prelude.{◌≡◌, ◌≢◌, ◌≤◌, ℕ, List, Option, None, Some, IfSome}
use Rattle.std.specs.Option.{option_map}
use Rattle.ec_wire.specs.Datagram.{DatagramRecord}
use Rattle.ec_ring.specs.declared.port.Port.{Port}
use Rattle.ec_ring.specs.declared.port.Port.TheVariants.{A, B}
use Rattle.ec_ring.specs.declared.weather.Came.{Came}
use Rattle.ec_number.specs.Number.{IsCopy, numbered, opened, number_a, number_b}
use Rattle.ecat_remote.specs.declared.copies.Outgoing.{Outgoing}
use Rattle.ecat_remote.specs.declared.copies.NumberedCopy.{NumberedCopy}
use Rattle.ecat_remote.specs.declared.enough.Both.{Both}

-- what receives give: the carrier before, the port, a packet or none, and the carrier after
abbrev pub Gives : Type 0 → Type 1
Gives C = C → Port → Option (List ℕ) → C → Type 0

-- how many receives a carrier has made
abbrev pub Heard : Type 0 → Type 0
Heard C = C → ℕ

-- the number of the copy that goes out from a port on the trip with a number
abbrev pub number_from : ℕ → Port → ℕ
number_from trip A = number_a trip
number_from trip B = number_b trip

-- what goes out on the trip with a number: the frame under the number of either port
abbrev pub IsNumbered : ℕ → List DatagramRecord → Port → List DatagramRecord → Type 0
IsNumbered trip sent from frame = frame ≡ numbered (number_from trip from) sent

pub record AreNumbered (trip : ℕ) (sent : List DatagramRecord) (out : Outgoing) : Type 0 where
  pub a : IsNumbered trip sent A out.a
  pub b : IsNumbered trip sent B out.b

-- what went out from a port
abbrev pub out_from : Port → Outgoing → List DatagramRecord
out_from A out = out.a
out_from B out = out.b

-- the port from which a copy was sent
abbrev pub sent_from : Option NumberedCopy → Option Port
sent_from copy = option_map (λ (c : NumberedCopy). c.from) copy

-- what is looked for: a copy of this frame, which went out on the trip with this number, but not the copy
-- from the port of one that was taken already
pub record Sought : Type 0 where
  pub trip : ℕ
  pub sent : List DatagramRecord
  pub already : Option Port

abbrev pub sought : ℕ → List DatagramRecord → Option Port → Sought
sought trip sent already = record { trip = trip; sent = sent; already = already }

-- a packet is such a copy, from this port
pub record IsCopyFrom (what : Sought) (packet : List ℕ) (from : Port) (copy : List DatagramRecord) : Type 0
  where
    pub another : what.already ≢ Some from
    pub is : IsCopy (numbered (number_from what.trip from) what.sent) packet copy

-- the copy that a packet is, if it is one
abbrev pub IsCopyOfTrip : Sought → Option (List ℕ) → Option NumberedCopy → Type 0
IsCopyOfTrip what None copy = copy ≡ None
IsCopyOfTrip what (Some packet) (Some copy) = IsCopyFrom what packet copy.from copy.frame
IsCopyOfTrip what (Some packet) None =
    (from : Port) (copy : List DatagramRecord) → IsCopyFrom what packet from copy → ⊥

-- a receive at a port gave a packet or none, no sooner than behind so many receives and no later than the
-- last one, and this is the copy
pub record IsTaken {C : Type 0} (gives : Gives C) (heard : Heard C) (since : ℕ) (at : Port) (what : Sought)
    (copy : Option NumberedCopy) (later : C) : Type 0 where
  pub before : C
  pub behind : C
  pub packet : Option (List ℕ)
  pub gave : gives before at packet behind
  pub in_time : since ≤ heard before
  pub by_then : heard behind ≤ heard later
  pub is : IsCopyOfTrip what packet copy

-- what was taken at port A and at port B, in either order, each of another copy than at the other port
pub record AreBoth {C : Type 0} (gives : Gives C) (heard : Heard C) (since : ℕ) (trip : ℕ)
    (sent : List DatagramRecord) (both : Both) (later : C) : Type 0 where
  pub a : IsTaken gives heard since A (sought trip sent (sent_from both.b)) both.a later
  pub b : IsTaken gives heard since B (sought trip sent (sent_from both.a)) both.b later

-- the copies that were taken so far: nothing is said of one that has not come yet
pub record AreSoFar {C : Type 0} (gives : Gives C) (heard : Heard C) (since : ℕ) (trip : ℕ)
    (sent : List DatagramRecord) (both : Both) (later : C) : Type 0 where
  pub a : IfSome both.a (λ (copy : NumberedCopy).
      IsTaken gives heard since A (sought trip sent (sent_from both.b)) (Some copy) later)
  pub b : IfSome both.b (λ (copy : NumberedCopy).
      IsTaken gives heard since B (sought trip sent (sent_from both.a)) (Some copy) later)

-- the copies of a trip, with their numbers taken off
abbrev pub opened_copy : NumberedCopy → List DatagramRecord
opened_copy copy = opened copy.frame

abbrev pub opened_came : Both → Came
opened_came both = record { a = option_map opened_copy both.a; b = option_map opened_copy both.b }

pub record AreTaken {C : Type 0} (gives : Gives C) (heard : Heard C) (since : ℕ) (trip : ℕ)
    (sent : List DatagramRecord) (came : Came) (later : C) : Type 0 where
  pub both : Both
  pub taken : AreBoth gives heard since trip sent both later
  pub opened : came ≡ opened_came both
