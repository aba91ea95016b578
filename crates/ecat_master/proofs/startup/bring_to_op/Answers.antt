use Rattle.std.proofs.Common.{[], ◌∷◌, Err}
use Rattle.ec_run.specs.Watched.{WatchedTrips}
use Rattle.ec_run.specs.declared.phase.Phase.TheVariants.{Startup, SafeOp, Op}
use Rattle.ecat_master.specs.Start.{BringsThrough}
use Rattle.ecat_master.proofs.StartLemmas.{last_phase, passed_ends, phase_ends, phase_then}
use Rattle.ecat_master.proofs.startup.bring_to_op.Goals as goal

pub returns-in_err-bring_up : goal.returns-in_err-bring_up
returns-in_err-bring_up g c =
    passed_ends (λ did. BringsThrough (WatchedTrips g.P.HeardPorts.trips) c.args.ports.now c.args.line.now
    (Startup ∷ SafeOp ∷ Op ∷ []) did c.bring_up.new.ports) c.from_residual.result
    c.in_err-bring_up.field-0.0 c.from_residual.ensures.1
    (phase_ends (WatchedTrips g.P.HeardPorts.trips) c.args.ports.now c.bring_up.new.ports c.args.line.now
    Startup (SafeOp ∷ Op ∷ []) c.in_err-bring_up.field-0.0 c.in_err-bring_up.ensures)

pub returns-in_err-bring_up-2 : goal.returns-in_err-bring_up-2
returns-in_err-bring_up-2 g c =
    passed_ends (λ did. BringsThrough (WatchedTrips g.P.HeardPorts.trips) c.args.ports.now c.args.line.now
    (Startup ∷ SafeOp ∷ Op ∷ []) did c.bring_up-2.new.ports) c.from_residual-in_err-bring_up-2.result
    c.in_err-bring_up-2.field-0.0 c.from_residual-in_err-bring_up-2.ensures.1
    (phase_then (WatchedTrips g.P.HeardPorts.trips) c.args.ports.now c.bring_up.new.ports
    c.bring_up-2.new.ports c.args.line.now Startup (SafeOp ∷ Op ∷ []) (Err c.in_err-bring_up-2.field-0.0)
    c.in_ok-bring_up.ensures
    (phase_ends (WatchedTrips g.P.HeardPorts.trips) c.bring_up.new.ports c.bring_up-2.new.ports
    c.args.line.now SafeOp (Op ∷ []) c.in_err-bring_up-2.field-0.0 c.in_err-bring_up-2.ensures))

pub returns : goal.returns
returns g c =
    phase_then (WatchedTrips g.P.HeardPorts.trips) c.args.ports.now c.bring_up.new.ports
    c.bring_up-3.new.ports c.args.line.now Startup (SafeOp ∷ Op ∷ []) c.bring_up-3.result
    c.in_ok-bring_up.ensures
    (phase_then (WatchedTrips g.P.HeardPorts.trips) c.bring_up.new.ports c.bring_up-2.new.ports
    c.bring_up-3.new.ports c.args.line.now SafeOp (Op ∷ []) c.bring_up-3.result c.in_ok-bring_up-2.ensures
    (last_phase (WatchedTrips g.P.HeardPorts.trips) c.bring_up-2.new.ports c.bring_up-3.new.ports
    c.args.line.now Op c.bring_up-3.result c.bring_up-3.ensures))
