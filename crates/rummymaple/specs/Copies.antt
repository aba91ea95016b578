-- What a master makes of the packets that came back of a frame that it sent: a packet is a copy exactly where
-- it spells a frame, and else the copy is lost, for which the sent frame stands.
use Rattle.std.specs.Prelude.{◌≡◌, ◌≢◌, ◌⊎◌, ℕ, Option, None, Some, List, [], ◌∷◌}
use Rattle.ec_wire.specs.Datagram.{DatagramRecord}
use Rattle.ec_wire.specs.Fault.{IsSpelt, IsFirstFault}
use Rattle.ec_wire.specs.declared.fault.Form.{Form}
use Rattle.ec_wire.specs.declared.fault.WireFault.{WireFault}
use Rattle.ec_ring.specs.declared.weather.Came as back
use Rattle.rummymaple.specs.declared.numbers.Copy.{Copy}
use Rattle.rummymaple.specs.declared.numbers.Copy.TheVariants.{Lost, Came, NoFrame}

-- what is told of a packet, and the copy that it is
abbrev pub IsCopy : Form → List ℕ → List DatagramRecord → Copy → List DatagramRecord → Type 0
IsCopy form packet sent Lost copy = (packet ≡ []) × (copy ≡ sent)
IsCopy form packet sent Came copy = IsSpelt form packet copy
IsCopy form packet sent NoFrame copy =
    (packet ≢ []) × ((f : WireFault) × IsFirstFault form packet f) × (copy ≡ sent)

-- ---- as ports give them

-- what a port gives by a packet: the frame that it spells, and nothing where it spells none
abbrev pub IsGiven : Form → List ℕ → Option (List DatagramRecord) → Type 0
IsGiven form packet (Some copy) = IsSpelt form packet copy
IsGiven form packet None = (packet ≡ []) ⊎ ((f : WireFault) × IsFirstFault form packet f)

-- packets that are taken for the two copies of a frame
pub record Packets : Type 0 where
  pub a : List ℕ
  pub b : List ℕ

-- frame by frame what came is what the ports give by these packets
abbrev pub AreGiven : Form → List Packets → List back.Came → Type 0
AreGiven form [] [] = Unit {0}
AreGiven form (p ∷ ps) (c ∷ cs) = IsGiven form p.a c.a × IsGiven form p.b c.b × AreGiven form ps cs
AreGiven form [] (c ∷ cs) = ⊥
AreGiven form (p ∷ ps) [] = ⊥
