use Rattle.std.proofs.Common.{sym, subst, arith}
use Rattle.ec_app.specs.declared.sdo.Sdo.TheVariants.{Upload}
use Rattle.ec_ring.specs.Ring.{RingState}
use Rattle.ec_services.specs.Mailbox.{skipped}
use Rattle.ec_services.specs.declared.mailbox.Peer.{Peer}
use Rattle.ec_over_ring.specs.Transfers.{HasPeer, answered, two_steps}
use Rattle.ec_tests.proofs.over_ring.transfers.upload.Goals as goal

pub returns-clause-told : goal.returns-clause-told
returns-clause-told c =
    λ before behind s has.
    (c.transfers_over_ring.ensures.upload c.args.peer.now c.sdo_upload.new.peer c.args.index c.args.sub 1
    c.args.ports.now before behind s c.sdo_upload.result c.sdo_upload.new.ports has (omega arith, omega arith)
    (omega arith) c.sdo_upload.ensures.service).0

pub returns-clause-again : goal.returns-clause-again
returns-clause-again c =
    λ before behind s has.
    let done = c.transfers_over_ring.ensures.upload c.args.peer.now c.sdo_upload.new.peer c.args.index
    c.args.sub 1
    c.args.ports.now before behind s c.sdo_upload.result c.sdo_upload.new.ports has
    (omega arith, omega arith) (omega arith) c.sdo_upload.ensures.service in
    let asked = Upload c.args.index c.args.sub in
    let later = answered c.args.peer.now asked s in
    subst (λ (p : Peer). HasPeer p c.sdo_upload.new.ports (two_steps before) later (two_steps behind))
    (sym done.1.counter)
    (subst (λ (r : RingState).
    HasPeer (skipped c.args.peer.now) r (two_steps before) later (two_steps behind))
    (sym done.1.ring)
    (c.transfers_over_ring.ensures.again c.args.peer.now asked c.args.ports.now before behind s has
    (omega arith, omega arith)))
