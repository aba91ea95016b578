use Rattle.std.proofs.Common.{◌≡◌, false, [], sym, ap, ◌∙◌, arith}
use Rattle.std.proofs.lemmas.List.Sums.{sum_by_more}
use Rattle.ec_esc.specs.State.{ControllerState}
use Rattle.ec_check.specs.Line.{controllers_by, controller_of}
use Rattle.ec_check.proofs.Laws.{controller_of-controllers_by, length-controllers_by}
use Rattle.ec_map.specs.Share.{share}
use Rattle.ec_map.proofs.shares.expected.Goals as goal

pub loop-slave-preserved : goal.loop-slave-preserved
loop-slave-preserved g c =
    let line = controllers_by g.S.Mapped.controller c.args.line.now in
    let here : controller_of line c.loop-slave.slave-index ≡ g.S.Mapped.controller c.slave-item.result =
    controller_of-controllers_by g.S.Mapped.controller c.args.line.now c.loop-slave.slave-index c.slave-item.result
    c.loop-slave-test.true c.slave-item.is in
    let blank : ControllerState = record { memory = []; shown = []; written = false } in
    let more =
    sum_by_more (share c.args.item.now) line c.loop-slave.slave-index blank
    (omega (arith, length-controllers_by g.S.Mapped.controller c.args.line.now)) in
    let gain : c.share-total.result ≡ share c.args.item.now (controller_of line c.loop-slave.slave-index) =
    c.share-total.ensures.value ∙ ap (share c.args.item.now) (sym here) in
    omega (arith, more, gain, c.loop-slave.invariant)
