use Rattle.std.proofs.Common.{◌∙◌, Some, refl, sym}
use Rattle.ecat_master.proofs.CourseLemmas.{course_asks, no_rounds, one_round}
use Rattle.ecat_master.specs.Course.{sides_of}
use Rattle.ecat_master.specs.Over.{IsOver}
use Rattle.ecat_master.proofs.run.make_rounds.Goals as goal

pub loop-last-init : goal.loop-last-init
loop-last-init g c = (
  c.requires.sum,
  no_rounds (sides_of g.P.HeardPorts.trips g.D.Task.listens g.D.Task.held g.T.Pace.over) c.args.line_plan.now c.args.cycles.now c.args.ports.now,
)

pub round-round-requires-clause-items : goal.round-round-requires-clause-items
round-round-requires-clause-items g c =
    c.requires.items
    ∙ sym (course_asks (sides_of g.P.HeardPorts.trips g.D.Task.listens g.D.Task.held g.T.Pace.over)
    c.args.line_plan.now
    c.args.cycles.now c.loop-last.cycles c.args.ports.now c.loop-last.ports c.loop-last.last
    c.loop-last.invariant.1)

pub loop-last-preserved : goal.loop-last-preserved
loop-last-preserved g c = (
  c.round-round.ensures.adds_up,
  one_round (sides_of g.P.HeardPorts.trips g.D.Task.listens g.D.Task.held g.T.Pace.over) c.args.line_plan.now c.args.cycles.now c.loop-last.cycles
      c.round-round.new.cycles c.args.ports.now c.loop-last.ports c.round-round.new.ports c.loop-last.last
      c.round-round.result.ended c.loop-last.invariant.1 c.round-round.ensures.round,
)

pub returns-in-Ok-true-clause-course : goal.returns-in-Ok-true-clause-course
returns-in-Ok-true-clause-course g c = (
  Some c.round-round.result.ended,
  one_round (sides_of g.P.HeardPorts.trips g.D.Task.listens g.D.Task.held g.T.Pace.over)
      c.args.line_plan.now c.args.cycles.now c.loop-last.cycles c.round-round.new.cycles c.args.ports.now
      c.loop-last.ports c.round-round.new.ports c.loop-last.last c.round-round.result.ended
      c.loop-last.invariant.1 c.round-round.ensures.round,
)

pub returns-in-Ok-true-clause-last : goal.returns-in-Ok-true-clause-last
returns-in-Ok-true-clause-last g c =
    one_round (sides_of g.P.HeardPorts.trips g.D.Task.listens g.D.Task.held g.T.Pace.over)
    c.args.line_plan.now c.args.cycles.now c.loop-last.cycles c.round-round.new.cycles c.args.ports.now
    c.loop-last.ports c.round-round.new.ports c.loop-last.last c.round-round.result.ended
    c.loop-last.invariant.1 c.round-round.ensures.round

pub returns-in-Ok-true-clause-over : goal.returns-in-Ok-true-clause-over
returns-in-Ok-true-clause-over g c =
    IsOver.stopped c.round-round.result.ended refl (c.round-round.ensures.stops (cc)).0
    (c.round-round.ensures.stops (cc)).1

pub returns-in-Err-clause-course : goal.returns-in-Err-clause-course
returns-in-Err-clause-course g c = (
  Some c.round-round.result.ended,
  one_round (sides_of g.P.HeardPorts.trips g.D.Task.listens g.D.Task.held g.T.Pace.over)
      c.args.line_plan.now c.args.cycles.now c.loop-last.cycles c.round-round.new.cycles c.args.ports.now
      c.loop-last.ports c.round-round.new.ports c.loop-last.last c.round-round.result.ended
      c.loop-last.invariant.1 c.round-round.ensures.round,
)

pub returns-in-Err-clause-over : goal.returns-in-Err-clause-over
returns-in-Err-clause-over g c = IsOver.unwritten c.in-Err.unwritten refl
