use Rattle.std.proofs.Common.{◌≤◌, ◌+◌, inr, sym, ◌∙◌, arith}
use Rattle.ecat_master.specs.declared.leaving.TheConstants.{ROUNDS}
use Rattle.ecat_master.proofs.LeavingLemmas.{no_rounds, not_all, one_more}
use Rattle.ecat_master.proofs.leaving.bring_all.Goals as goal

pub loop-round-init : goal.loop-round-init
loop-round-init g c = no_rounds g.P.HeardPorts.trips c.args.state c.args.slaves c.args.ports.now

pub returns-then-not-has_heard-clause-not_brought :
    goal.returns-then-not-has_heard-clause-not_brought
returns-then-not-has_heard-clause-not_brought g c none_is =
    let some : 1 ≤ c.loop-round.round + 1 = omega arith in
    let most : c.loop-round.round + 1 ≤ ROUNDS = omega (arith, c.loop-round-test.true) in
    record {
      rounds = c.loop-round.round + 1;
      some = some;
      most = most;
      none = one_more g.P.HeardPorts.trips c.args.state c.args.slaves c.loop-round.round c.args.ports.now
          c.loop-round.ports c.bring_once.new.ports c.loop-round.invariant
          (not_all g.P.HeardPorts.trips c.args.state c.args.slaves c.loop-round.ports c.bring_once.new.ports
          c.bring_once.result c.bring_once.ensures c.if-bring_once.false);
      ends = inr (sym c.has_heard.ensures ∙ c.if-not-has_heard.true);
    }

pub loop-round-preserved : goal.loop-round-preserved
loop-round-preserved g c =
    one_more g.P.HeardPorts.trips c.args.state c.args.slaves c.loop-round.round c.args.ports.now
    c.loop-round.ports c.bring_once.new.ports c.loop-round.invariant
    (not_all g.P.HeardPorts.trips c.args.state c.args.slaves c.loop-round.ports c.bring_once.new.ports
    c.bring_once.result c.bring_once.ensures c.if-bring_once.false)
