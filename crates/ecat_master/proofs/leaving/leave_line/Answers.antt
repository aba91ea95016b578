use Rattle.std.proofs.Common.{refl}
use Rattle.ec_run.specs.Watched.{PortsTrip}
use Rattle.ec_run.proofs.Laws.{within_none}
use Rattle.ecat_master.specs.Leaving.{leaving_trips}
use Rattle.ecat_master.proofs.LeavingLemmas.{brought_within, not_brought_within}
use Rattle.ecat_master.proofs.leaving.leave_line.Goals as goal

pub returns-in-None-clause-trips : goal.returns-in-None-clause-trips
returns-in-None-clause-trips g c =
    within_none (PortsTrip g.P.HeardPorts.trips) leaving_trips c.args.ports.now.ports
    c.args.ports.now.ports refl

pub returns-then-bring_all-clause-trips : goal.returns-then-bring_all-clause-trips
returns-then-bring_all-clause-trips g c =
    brought_within g.P.HeardPorts.trips c.in-Some.state c.answers_of.result c.args.ports.now
    c.bring_all.new.ports (c.bring_all.ensures.brought c.if-bring_all.true)

pub returns-else-bring_all-clause-trips : goal.returns-else-bring_all-clause-trips
returns-else-bring_all-clause-trips g c =
    not_brought_within g.P.HeardPorts.trips c.in-Some.state c.answers_of.result c.args.ports.now
    c.bring_all.new.ports (c.bring_all.ensures.not_brought c.if-bring_all.false)
