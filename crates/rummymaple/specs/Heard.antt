-- What packets give as the copies of a frame: each the frame that it spells, and nothing where it spells
-- none.
use Rattle.std.specs.Prelude.{◌≡◌, ◌≢◌, ℕ, List, [], Option, None, Some}
use Rattle.ec_wire.specs.Datagram.{DatagramRecord}
use Rattle.ec_wire.specs.Fault.{IsSpelt, IsFirstFault}
use Rattle.ec_wire.specs.declared.fault.Form.{Form}
use Rattle.ec_wire.specs.declared.fault.WireFault.{WireFault}
use Rattle.ec_ring.specs.declared.weather.Came.{Came as CameBack}
use Rattle.rummymaple.specs.declared.numbers.Copy.{Copy}
use Rattle.rummymaple.specs.declared.numbers.Copy.TheVariants.{Lost, Came, NoFrame}

-- what is told of a packet, and the copy that it gives
abbrev pub IsHeard : Form → List ℕ → Copy → Option (List DatagramRecord) → Type 0
IsHeard form packet Lost copy = (packet ≡ []) × (copy ≡ None)
IsHeard form packet Came copy =
    (frame : List DatagramRecord) × IsSpelt form packet frame × (copy ≡ Some frame)
IsHeard form packet NoFrame copy =
    (packet ≢ []) × ((f : WireFault) × IsFirstFault form packet f) × (copy ≡ None)

-- and so both
pub record AreHeard (form : Form) (a b : List ℕ) (told_a told_b : Copy) (came : CameBack) : Type 0 where
  pub a_is : IsHeard form a told_a came.a
  pub b_is : IsHeard form b told_b came.b
