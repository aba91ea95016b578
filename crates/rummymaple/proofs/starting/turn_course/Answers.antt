-- The turn is taken over ports that hold what the packets gave.
use Rattle.std.proofs.Common.{subst}
use Rattle.ec_turns.specs.Held.{HeldState, HeldTrips}
use Rattle.ec_turns.specs.Start.{IsStartTurn}
use Rattle.rummymaple.proofs.starting.turn_course.Goals as goal

pub returns : goal.returns
returns c = record {
  came = c.both_heard-came.result.came;
  heard = c.both_heard-came.ensures;
  did = c.turn-turn.result;
  held = c.turn-turn.new.ports;
  taken = subst
      (λ (h : HeldState). IsStartTurn HeldTrips h c.args.plan c.args.wanted.now c.args.course
      c.turn-turn.result c.turn-turn.new.ports)
      c.giving-held.ensures c.turn-turn.ensures.turn;
  settled = c.settle-end.ensures;
}
