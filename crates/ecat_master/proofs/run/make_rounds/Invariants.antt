use Rattle.std.proofs.Common.{◌-◌, ◌^◌}
use Rattle.ec_run.specs.Cycles.{AddUp}
use Rattle.ecat_master.specs.Course.{IsCourse, sides_of}
use Rattle.ecat_master.proofs.run.make_rounds.Given as goal

abbrev pub invariant-loop-last : goal.invariant-loop-last
invariant-loop-last g l =
    AddUp l.cycles.counts
    × IsCourse (sides_of g.P.HeardPorts.trips g.D.Task.listens g.D.Task.held g.T.Pace.over) l.line_plan l.initial.cycles
    l.initial.ports l.last l.cycles l.ports

abbrev pub decreases-loop-last : goal.decreases-loop-last
decreases-loop-last g l = 2 ^ 64 - 1 - l.cycles.counts.cycles
