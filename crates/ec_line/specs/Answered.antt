-- A datagram as a set of controllers answers it: their claims stand in its data, its working counter has
-- moved by the sum of what they gain, and the ADP of a broadcast read by their number.
use Rattle.std.specs.Prelude.{◌≡◌, ℕ, ◌+◌, ◌*◌, ◌%◌, List, [], ◌∷◌, length, map, sum_by}
use Rattle.ec_regs.specs.Bits.{bit}
use Rattle.ec_wire.specs.Datagram.{DatagramRecord, adp_of, ado_of}
use Rattle.ec_esc.specs.State.{ControllerState}
use Rattle.ec_line.specs.Answers.{Answers}
use Rattle.ec_line.specs.After.{Entry}
use Rattle.ec_line.specs.Claims.{claim, gain}
use Rattle.ec_line.specs.Request.{Request, OnWay}
use Rattle.ec_wire.specs.declared.kind.Kind.{Kind}
use Rattle.ec_wire.specs.declared.kind.Kind.TheVariants.{Brd}

-- the address after n slaves: the ADP of a broadcast read was counted up by each
abbrev pub moved_address : Kind → ℕ → ℕ → ℕ
moved_address Brd n address = (adp_of address + n) % 65536 + 65536 * ado_of address
moved_address _ n address = address

-- of the datagram d the controllers xs made the datagram e
pub record Answered (r : Request) (xs : List ControllerState) (d e : DatagramRecord) : Type 0 where
  pub way : OnWay r e
  pub index : e.index ≡ d.index
  pub irq : e.irq ≡ d.irq
  pub bits : Answers (claim r) xs (bit d.payload) (bit e.payload)
  pub counter : e.counter ≡ (d.counter + sum_by (gain r) xs) % 65536
  pub address : e.address ≡ moved_address r.kind (length xs) d.address

-- the controllers made of each entry's datagram, as it was sent, one of the frame
abbrev pub AnsweredFrame : List Entry → List ControllerState → List DatagramRecord → Type 0
AnsweredFrame [] xs [] = Unit {0}
AnsweredFrame (e ∷ es) xs (g ∷ gs) = Answered e.request xs e.sent g × AnsweredFrame es xs gs
AnsweredFrame _ xs _ = ⊥

-- the datagrams of entries as they were sent
abbrev pub sent_of : List Entry → List DatagramRecord
sent_of es = map (λ e. e.sent) es
