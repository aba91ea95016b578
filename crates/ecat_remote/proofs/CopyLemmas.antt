-- What is in the front of a room after a copy, and which copy a packet is.
use Rattle.std.specs.Prelude.{◌≢◌, Option, None, Some, IfSome, refl}
use Rattle.std.proofs.Common.{subst, sym}
use Rattle.ec_wire.specs.Datagram.{DatagramRecord}
use Rattle.ec_wire.specs.Fault.{IsSpelt}
use Rattle.ec_wire.specs.declared.fault.Form.TheVariants.{Udp}
use Rattle.ec_ring.specs.declared.port.Port.{Port}
use Rattle.ec_ring.specs.declared.port.Port.TheVariants.{A, B}
use Rattle.ec_number.specs.Number.{CameBack, numbered}
use Rattle.ecat_remote.specs.Taken.{AreNumbered, IsCopyOfTrip, number_from, out_from, sought}
use Rattle.ecat_remote.specs.declared.copies.NumberedCopy.{NumberedCopy}
use Rattle.ecat_remote.specs.declared.copies.Outgoing.{Outgoing}
use Rattle.std.proofs.Common.{arith, ◌≡◌, ◌≤◌, ◌++◌, ◌∙◌, ℕ, List, length, take, min, ap}
use Rattle.std.proofs.lemmas.List.{length-take-le, take_all, take_min, take-append-le}

-- a list as far as a room goes is in the front of the room
pub copied : (room count : ℕ) (xs front rest : List ℕ) → front ≡ take count xs → count ≡ min room (length xs)
    → take count (front ++ rest) ≡ take room xs
copied room count xs front rest is least =
    let fits : count ≤ length xs = omega (arith, least) in
    let size : length front ≡ count = ap length is ∙ length-take-le count xs fits in
    let reaches : count ≤ length front = omega (arith, size) in
    let whole : take count front ≡ front = take_all count front (omega (arith, size)) in
    take-append-le count front rest reaches ∙ whole ∙ is ∙ ap (λ n. take n xs) least ∙ take_min room xs

-- ---- which copy a packet is

-- what went out from a port is numbered so
numbered_from : (trip : ℕ) (sent : List DatagramRecord) (out : Outgoing) (from : Port) → AreNumbered trip sent out
    → out_from from out ≡ numbered (number_from trip from) sent
numbered_from trip sent out A are = are.a
numbered_from trip sent out B are = are.b

-- a copy that came of what went out
abbrev IsSent : Outgoing → Option Port → List DatagramRecord → NumberedCopy → Type 0
IsSent out already frame copy =
    (copy.frame ≡ frame) × (already ≢ Some copy.from) × CameBack (out_from copy.from out) frame

-- a packet that spells one frame is the copy that this frame is
pub copy_told : (trip : ℕ) (sent frame : List DatagramRecord) (out : Outgoing) (already : Option Port)
    (packet : List ℕ) (copy : Option NumberedCopy) → AreNumbered trip sent out → IsSpelt Udp packet frame
    → ((rs : List DatagramRecord) → IsSpelt Udp packet rs → frame ≡ rs) → IfSome copy (IsSent out already frame)
    → (copy ≡ None → (from : Port) → already ≢ Some from → CameBack (out_from from out) frame → ⊥)
    → IsCopyOfTrip (sought trip sent already) (Some packet) copy
copy_told trip sent frame out already packet (Some copy) are spelt only found every = record {
  another = found.1;
  is = record {
    spelt = subst (IsSpelt Udp packet) (sym found.0) spelt;
    came = subst (CameBack (numbered (number_from trip copy.from) sent)) (sym found.0)
        (subst (λ (went : List DatagramRecord). CameBack went frame) (numbered_from trip sent out copy.from are)
        found.2);
  };
}
copy_told trip sent frame out already packet None are spelt only found every =
    λ from copy is.
    every refl from is.another
    (subst (λ (went : List DatagramRecord). CameBack went frame) (sym (numbered_from trip sent out from are))
    (subst (CameBack (numbered (number_from trip from) sent)) (sym (only copy is.is.spelt)) is.is.came))

-- one that spells none is none
pub none_told : (trip : ℕ) (sent : List DatagramRecord) (already : Option Port) (packet : List ℕ)
    → ((rs : List DatagramRecord) → IsSpelt Udp packet rs → ⊥)
    → IsCopyOfTrip (sought trip sent already) (Some packet) None
none_told trip sent already packet none = λ from copy is. none copy is.is.spelt
