use Rattle.std.proofs.Common.{◌∙◌, ◌<◌, ◌-◌, ◌^◌, Bool, subst, sym}
use Rattle.ec_run.specs.Cycles.{AddUp, IsCycle}
use Rattle.ec_run.specs.Watched.{WatchedTrips}
use Rattle.ec_run.specs.declared.cycles.Cycles.{Cycles}
use Rattle.ecat_master.specs.Course.{IsFollowed}
use Rattle.ecat_master.specs.Last.{in_op}
use Rattle.ecat_master.specs.Over.{stops_behind}
use Rattle.ecat_master.proofs.CourseLemmas.{supplied_length}
use Rattle.ecat_master.proofs.run.LinePlan.round.Goals as goal

pub cycle_in-ended-requires : goal.cycle_in-ended-requires
cycle_in-ended-requires g c = record {
  items = c.requires.items
      ∙ sym (supplied_length g.D.Task.listens g.D.Task.held c.args.cycles.now c.take_outputs.new.cycles
      c.take_outputs.ensures);
  room = subst (λ (s : Cycles). s.counts.cycles < 2 ^ 64 - 1) (sym c.take_outputs.ensures.now_is)
      c.requires.room;
  sum = subst (λ (s : Cycles). AddUp s.counts) (sym c.take_outputs.ensures.now_is) c.requires.sum;
}

pub returns-clause-round : goal.returns-clause-round
returns-clause-round g c = record {
  supplied = c.take_outputs.new.cycles;
  takes = c.take_outputs.ensures;
  behind = c.cycle_in-ended.new.ports;
  cycle = subst (λ p. IsCycle (WatchedTrips g.P.HeardPorts.trips) p c.args.self.now.plan.now.outputs
      c.args.self.now.expected.now c.take_outputs.new.cycles c.cycle_in-ended.result
      c.cycle_in-ended.new.self c.cycle_in-ended.new.ports) c.begin_cycle.ensures
      c.cycle_in-ended.ensures.cycle;
  followed = subst (λ p. IsFollowed g.P.HeardPorts.trips c.args.self.now.line.now
      (stops_behind c.args.self.now.plan.now c.cycle_in-ended.result
      (in_op c.args.self.now.plan.now.states c.cycle_in-ended.new.self.image)) p c.follow-told.new.ports)
      c.end_cycle-late_copies.ensures
      (subst (λ (b : Bool). IsFollowed g.P.HeardPorts.trips c.args.self.now.line.now
      (stops_behind c.args.self.now.plan.now c.cycle_in-ended.result b) c.end_cycle-late_copies.new.ports
      c.follow-told.new.ports) c.in_op.ensures c.follow-told.ensures.followed);
}

pub returns-clause-adds_up : goal.returns-clause-adds_up
returns-clause-adds_up g c = c.cycle_in-ended.ensures.adds_up
