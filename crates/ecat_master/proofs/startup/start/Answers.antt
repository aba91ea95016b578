use Rattle.std.proofs.Common.{[], ◌∷◌, length}
use Rattle.ec_run.specs.Watched.{WatchedTrips}
use Rattle.ec_run.specs.declared.phase.Phase.TheVariants.{Init, PreOp, Startup, SafeOp, Op}
use Rattle.ecat_master.specs.Start.{BringsThrough, GivesStations, HasFailed, IsAddressed, IsInPreOp}
use Rattle.ecat_master.specs.Start.{IsRecognized, gap_of}
use Rattle.ecat_master.proofs.StartLemmas.{part_cause, slave_cause}
use Rattle.ecat_master.proofs.StartTripsLemmas.{started_within}
use Rattle.ecat_master.proofs.startup.start.Goals as goal

pub returns-in_err-give_stations-clause-failed : goal.returns-in_err-give_stations-clause-failed
returns-in_err-give_stations-clause-failed g c =
    part_cause g.P.HeardPorts.trips c.args.ports.now c.args.line.now c.args.identities.now
    (λ did. GivesStations (WatchedTrips g.P.HeardPorts.trips) c.find.new.ports c.args.line.now
    (gap_of c.in_ok-located.located (length c.args.line.now)) did c.give_stations.new.ports)
    c.in_err-give_stations.field-0.0 c.from_residual-in_err-give_stations.result
    (λ failed end. HasFailed.station c.in_ok-located.located c.find.new.ports
    c.give_stations.new.ports c.in_ok-located.ensures.found c.in_ok-located.ensures.cable end)
    c.in_err-give_stations.ensures c.from_residual-in_err-give_stations.ensures.1

pub returns-in_err-bring_to_pre_op-clause-failed : goal.returns-in_err-bring_to_pre_op-clause-failed
returns-in_err-bring_to_pre_op-clause-failed g c =
    let addressed : IsAddressed g.P.HeardPorts.trips c.args.ports.now c.args.line.now c.in_ok-located.located
    c.give_stations.new.ports = record {
      looked = c.find.new.ports;
      found = c.in_ok-located.ensures.found;
      cable_is = c.in_ok-located.ensures.cable;
      stations = c.in_ok-give_stations.ensures;
    } in
    part_cause g.P.HeardPorts.trips c.args.ports.now c.args.line.now c.args.identities.now
    (λ did. BringsThrough (WatchedTrips g.P.HeardPorts.trips) c.give_stations.new.ports c.args.line.now
    (Init ∷ PreOp ∷ []) did c.bring_to_pre_op.new.ports)
    c.in_err-bring_to_pre_op.field-0.0 c.from_residual-in_err-bring_to_pre_op.result
    (λ failed end. HasFailed.to_pre_op c.in_ok-located.located c.give_stations.new.ports
    c.bring_to_pre_op.new.ports addressed end)
    c.in_err-bring_to_pre_op.ensures c.from_residual-in_err-bring_to_pre_op.ensures.1

pub returns-in_err-compare_identities-clause-failed : goal.returns-in_err-compare_identities-clause-failed
returns-in_err-compare_identities-clause-failed g c =
    let in_pre_op : IsInPreOp g.P.HeardPorts.trips c.args.ports.now c.args.line.now c.in_ok-located.located
    c.bring_to_pre_op.new.ports = record {
      given = c.give_stations.new.ports;
      addressed = record {
        looked = c.find.new.ports;
        found = c.in_ok-located.ensures.found;
        cable_is = c.in_ok-located.ensures.cable;
        stations = c.in_ok-give_stations.ensures;
      };
      brought = c.in_ok-bring_to_pre_op.ensures;
    } in
    slave_cause g.P.HeardPorts.trips c.args.ports.now c.bring_to_pre_op.new.ports
    c.compare_identities.new.ports c.args.line.now c.args.identities.now c.in_ok-located.located
    c.in_err-compare_identities.field-0.0 c.from_residual-in_err-compare_identities.result in_pre_op
    c.in_err-compare_identities.ensures c.from_residual-in_err-compare_identities.ensures.1

pub returns-in_err-bring_to_op-clause-failed : goal.returns-in_err-bring_to_op-clause-failed
returns-in_err-bring_to_op-clause-failed g c =
    let recognized : IsRecognized g.P.HeardPorts.trips c.args.ports.now c.args.line.now c.args.identities.now
    c.in_ok-located.located c.compare_identities.new.ports = record {
      in_pre_op = c.bring_to_pre_op.new.ports;
      below = record {
        given = c.give_stations.new.ports;
        addressed = record {
          looked = c.find.new.ports;
          found = c.in_ok-located.ensures.found;
          cable_is = c.in_ok-located.ensures.cable;
          stations = c.in_ok-give_stations.ensures;
        };
        brought = c.in_ok-bring_to_pre_op.ensures;
      };
      compared = c.in_ok-compare_identities.ensures;
    } in
    part_cause g.P.HeardPorts.trips c.args.ports.now c.args.line.now c.args.identities.now
    (λ did. BringsThrough (WatchedTrips g.P.HeardPorts.trips) c.compare_identities.new.ports c.args.line.now
    (Startup ∷ SafeOp ∷ Op ∷ []) did c.bring_to_op.new.ports)
    c.in_err-bring_to_op.field-0.0 c.from_residual-in_err-bring_to_op.result
    (λ failed end. HasFailed.to_op c.in_ok-located.located c.compare_identities.new.ports
    c.bring_to_op.new.ports recognized end)
    c.in_err-bring_to_op.ensures c.from_residual-in_err-bring_to_op.ensures.1

pub returns-clause-started : goal.returns-clause-started
returns-clause-started g c = record {
  recognized = c.compare_identities.new.ports;
  below = record {
    in_pre_op = c.bring_to_pre_op.new.ports;
    below = record {
      given = c.give_stations.new.ports;
      addressed = record {
        looked = c.find.new.ports;
        found = c.in_ok-located.ensures.found;
        cable_is = c.in_ok-located.ensures.cable;
        stations = c.in_ok-give_stations.ensures;
      };
      brought = c.in_ok-bring_to_pre_op.ensures;
    };
    compared = c.in_ok-compare_identities.ensures;
  };
  brought = c.in_ok-bring_to_op.ensures;
}

pub returns-clause-trips : goal.returns-clause-trips
returns-clause-trips g c =
    started_within g.P.HeardPorts.trips c.args.ports.now c.bring_to_op.new.ports c.args.line.now
    c.args.identities.now c.in_ok-located.located (returns-clause-started g c)
