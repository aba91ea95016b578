use Rattle.std.proofs.Common.{ℕ, Err, IfOk, ap, subst, sym}
use Rattle.ecat_master.proofs.EndedLemmas.{ended_behind, ended_unstarted}
use Rattle.ecat_master.proofs.GoodRunLemmas.{good_run, made_by}
use Rattle.ecat_master.specs.Course.{sides_of}
use Rattle.ecat_master.specs.Ended.{IsEnded}
use Rattle.ecat_master.specs.GoodRun.{IsMade}
use Rattle.ecat_master.proofs.run.master.Goals as goal

pub returns : goal.returns
returns g c =
    let made : IfOk c.run_cycles-ran.result (λ last. IsMade (sides_of g.P.HeardPorts.trips g.D.Task.listens g.D.Task.held g.T.Pace.over) c.args.ports c.args.work c.args.line_plan.now last c.run_cycles-ran.new.cycles
    c.run_cycles-ran.new.ports) =
    made_by (sides_of g.P.HeardPorts.trips g.D.Task.listens g.D.Task.held g.T.Pace.over) c.args.ports c.new-ports.result
    c.begin.new.ports c.run_cycles-ran.new.ports c.args.work c.args.line_plan.now c.in-Ok.cable
    c.new-cycles.result c.run_cycles-ran.new.cycles c.run_cycles-ran.new.pace c.run_cycles-ran.result
    c.new-ports.ensures c.new-cycles.ensures.begun c.in-Ok.ensures.started c.run_cycles-ran.ensures.last
    c.run_cycles-ran.ensures.over in
    record {
      good = λ is.
          good_run (sides_of g.P.HeardPorts.trips g.D.Task.listens g.D.Task.held g.T.Pace.over) c.args.ports c.args.work
          c.args.line_plan.now c.run_cycles-ran.new.cycles c.run_cycles-ran.new.ports c.run_cycles-ran.result
          made (c.conclude.ensures.good is) (c.conclude.ensures.ran is);
      ended = ended_behind (sides_of g.P.HeardPorts.trips g.D.Task.listens g.D.Task.held g.T.Pace.over) c.args.ports
          c.args.work c.args.line_plan.now c.run_cycles-ran.new.cycles c.run_cycles-ran.new.ports
          c.leave_line-left.new.ports c.leave_line-left.result c.conclude.result c.run_cycles-ran.result
          c.leave_of-leave.result made c.leave_of-leave.ensures c.leave_line-left.ensures.left
          c.conclude.ensures.told;
    }

pub returns-in-Err-Told-clause-ended : goal.returns-in-Err-Told-clause-ended
returns-in-Err-Told-clause-ended g c =
    subst (λ (status : ℕ). IsEnded (sides_of g.P.HeardPorts.trips g.D.Task.listens g.D.Task.held g.T.Pace.over) c.args.ports
    c.args.work c.args.line_plan.now status) (sym c.in-Err-Told.status-is)
    (ended_unstarted (sides_of g.P.HeardPorts.trips g.D.Task.listens g.D.Task.held g.T.Pace.over) c.args.ports
    c.new-ports.result c.args.work c.args.line_plan.now c.in-Err-Told.status c.new-ports.ensures
    (c.in-Err-Told.ensures.by_fault c.in-Err-Told.status (ap (λ f. Err f) c.in-Err-Told.field-0-is)))
