use Rattle.ec_run.specs.Phase.{Brings, steps_of}
use Rattle.ec_run.specs.Watched.{WatchedTrips}
use Rattle.ecat_master.proofs.StartLemmas.{failed_ends, unwritten_ends}
use Rattle.ecat_master.proofs.startup.bring_up.Goals as goal

pub returns-in_err-bring_line : goal.returns-in_err-bring_line
returns-in_err-bring_line g c =
    failed_ends (λ did. Brings (WatchedTrips g.P.HeardPorts.trips) c.args.ports.now 0 c.args.line.now
    (steps_of c.args.phase) did c.bring_line.new.ports) c.from_residual.result c.in_err-bring_line.field-0.0
    c.from_residual.ensures.1 c.in_err-bring_line.ensures.brings

pub returns-in_err-tell_phase : goal.returns-in_err-tell_phase
returns-in_err-tell_phase g c =
    unwritten_ends (λ did. Brings (WatchedTrips g.P.HeardPorts.trips) c.args.ports.now 0 c.args.line.now
    (steps_of c.args.phase) did c.bring_line.new.ports) c.from_residual-in_err-tell_phase.result
    c.from_residual-in_err-tell_phase.ensures.1
