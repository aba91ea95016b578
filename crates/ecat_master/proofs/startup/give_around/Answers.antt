use Rattle.ec_run.specs.Watched.{WatchedTrips}
use Rattle.ecat_master.proofs.StartLemmas.{stations_fail, stations_then}
use Rattle.ecat_master.proofs.startup.give_around.Goals as goal

pub returns-in-Ok : goal.returns-in-Ok
returns-in-Ok g c = record {
  gives = stations_then (WatchedTrips g.P.HeardPorts.trips) c.args.ports.now c.bring.new.ports
      c.bring-in-Ok.new.ports c.args.line.now c.args.link c.bring-in-Ok.result c.in-Ok.ensures.brings
      c.bring-in-Ok.ensures.brings;
}

pub returns-in-Err : goal.returns-in-Err
returns-in-Err g c = record {
  gives = stations_fail (WatchedTrips g.P.HeardPorts.trips) c.args.ports.now c.bring.new.ports
      c.args.line.now c.args.link c.in-Err.failed c.in-Err.ensures.brings;
}
