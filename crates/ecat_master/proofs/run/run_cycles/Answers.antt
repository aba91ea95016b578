use Rattle.ecat_master.specs.Course.{IsCourse, sides_of}
use Rattle.ecat_master.proofs.CourseLemmas.{course_asks, course_within}
use Rattle.ecat_master.proofs.OverLemmas.{if_closed, over_closed}
use Rattle.ecat_master.proofs.run.run_cycles.Goals as goal

pub returns-clause-asked : goal.returns-clause-asked
returns-clause-asked g c =
    course_asks (sides_of g.P.HeardPorts.trips g.D.Task.listens g.D.Task.held g.T.Pace.over)
    c.args.line_plan.now c.args.cycles.now c.make_rounds-made.new.cycles c.args.ports.now
    c.make_rounds-made.new.ports c.make_rounds-made.ensures.course.0 c.make_rounds-made.ensures.course.1

pub returns-clause-trips : goal.returns-clause-trips
returns-clause-trips g c =
    course_within (sides_of g.P.HeardPorts.trips g.D.Task.listens g.D.Task.held g.T.Pace.over)
    c.args.line_plan.now c.args.cycles.now c.make_rounds-made.new.cycles c.args.ports.now
    c.make_rounds-made.new.ports c.make_rounds-made.ensures.course.0 c.make_rounds-made.ensures.course.1

pub returns-clause-last : goal.returns-clause-last
returns-clause-last g c =
    if_closed (λ last. IsCourse (sides_of g.P.HeardPorts.trips g.D.Task.listens g.D.Task.held g.T.Pace.over)
    c.args.line_plan.now c.args.cycles.now c.args.ports.now last c.make_rounds-made.new.cycles
    c.make_rounds-made.new.ports) c.make_rounds-made.result c.close.result c.make_rounds-made.ensures.last
    c.close.ensures

pub returns-clause-over : goal.returns-clause-over
returns-clause-over g c =
    over_closed g.T.Pace.over c.args.line_plan.now.plan.now c.make_rounds-made.new.pace c.end.new.self
    c.make_rounds-made.result c.close.result c.make_rounds-made.new.cycles c.end.ensures
    c.make_rounds-made.ensures.over c.close.ensures
