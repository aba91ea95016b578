use Rattle.std.proofs.Common.{◌≡◌, ◌++◌, ◌∙◌, ap, false, List, ℕ}
use Rattle.std.specs.Int.{w64, to_le_bytes}
use Rattle.ec_wire.specs.Datagram.{DatagramRecord}
use Rattle.ec_number.specs.Number.{carrying}
use Rattle.ec_number.proofs.number.carrying.Goals as goal

pub returns : goal.returns
unfolding carrying
returns c =
    let payload : c.try_extend_from_slice.new.self.items ≡ to_le_bytes w64 c.args.number =
    rw c.unwrap.ensures at c.try_extend_from_slice.ensures.ok
    ∙ ap (λ xs. xs ++ c.to_le_bytes.result) c.new-payload.ensures ∙ c.to_le_bytes.ensures in
    let with_payload : List ℕ → DatagramRecord = λ p. record (carrying false c.args.number) { payload = p } in
    ap with_payload payload
