use Rattle.std.proofs.Common.{◌≡◌, ◌+◌, ◌<◌, ◌∙◌, ap, subst, ℕ}
use Rattle.std.specs.Prelude.{IsErr, ◌↔◌}
use Rattle.ec_wire.specs.Datagram.{datagram_length, DatagramRecord, record_of}
use Rattle.ec_wire.specs.Spelling.{body_length}
use Rattle.ec_wire.specs.declared.layout.TheConstants.{MAX_LENGTH}
use Rattle.ec_number.proofs.NumberLemmas.{twenty}
use Rattle.ec_number.proofs.number.number_frame.Goals as goal

pub returns-clause-full : goal.returns-clause-full
returns-clause-full c =
    let long : datagram_length (record_of c.carrying.result) ≡ 20 =
    ap (λ (d : DatagramRecord). datagram_length d) c.carrying.ensures ∙ twenty c.args.number in
    subst (λ (k : ℕ). IsErr c.push.result ↔ (MAX_LENGTH < body_length c.args.frame.now + k)) long
    c.push.ensures.full
