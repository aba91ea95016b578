use Rattle.std.proofs.Common.{subst}
use Rattle.ec_run.specs.Watched.{WatchedTrips}
use Rattle.ecat_master.specs.Scan.{IsLookedThrough}
use Rattle.ecat_master.specs.declared.scanning.Way.{Way}
use Rattle.ecat_master.proofs.scanning.read_slave.Goals as goal

pub returns-in_ok-put_identity-in-Ok : goal.returns-in_ok-put_identity-in-Ok
returns-in_ok-put_identity-in-Ok g c read = record {
  between = c.look.new.ports;
  looks = subst (λ (way : Way). IsLookedThrough (WatchedTrips g.P.HeardPorts.trips) c.args.ports.now way
      c.look.new.ports) c.way_to.ensures c.in-Ok.ensures;
}
