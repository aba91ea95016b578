use Rattle.std.proofs.Common.{◌≡◌, suc, ◌+◌, arith}
use Rattle.ecat_master.proofs.ScanLemmas.{next_place, no_place}
use Rattle.ecat_master.proofs.scanning.scan_slaves.Goals as goal

pub loop-place-init : goal.loop-place-init
loop-place-init g c all = no_place g.P.HeardPorts.trips c.args.ports.now c.args.located

pub loop-place-preserved : goal.loop-place-preserved
loop-place-preserved g c all =
    next_place g.P.HeardPorts.trips c.args.ports.now c.loop-place.ports c.scan_slave.new.ports c.args.located
    c.loop-place.place (c.loop-place.place + 1) (c.loop-place.invariant (c.both-all.ensures.first all))
    (c.in_ok-read.ensures (c.both-all.ensures.second all))
    (let e : c.loop-place.place + 1 ≡ suc c.loop-place.place = omega arith in e)
