use Rattle.ec_run.specs.Watched.{WatchedTrips}
use Rattle.std.proofs.Common.{length}
use Rattle.ecat_master.specs.Start.{GivesStations, gap_of}
use Rattle.ecat_master.proofs.StartLemmas.{failed_ends, unwritten_ends}
use Rattle.ecat_master.proofs.startup.give_stations.Goals as goal

pub returns-in_err-give_by_place : goal.returns-in_err-give_by_place
returns-in_err-give_by_place g c =
    failed_ends (λ did. GivesStations (WatchedTrips g.P.HeardPorts.trips) c.args.ports.now c.args.line.now
    (gap_of c.args.located (length c.args.line.now)) did c.give_by_place.new.ports) c.from_residual.result
    c.in_err-give_by_place.field-0.0 c.from_residual.ensures.1 c.in_err-give_by_place.ensures.gives

pub returns-in_err-text : goal.returns-in_err-text
returns-in_err-text g c =
    unwritten_ends (λ did. GivesStations (WatchedTrips g.P.HeardPorts.trips) c.args.ports.now c.args.line.now
    (gap_of c.args.located (length c.args.line.now)) did c.give_by_place.new.ports)
    c.from_residual-in_err-text.result c.from_residual-in_err-text.ensures.1

pub returns-in_err-end : goal.returns-in_err-end
returns-in_err-end g c =
    unwritten_ends (λ did. GivesStations (WatchedTrips g.P.HeardPorts.trips) c.args.ports.now c.args.line.now
    (gap_of c.args.located (length c.args.line.now)) did c.give_by_place.new.ports)
    c.from_residual-in_err-end.result c.from_residual-in_err-end.ensures.1
