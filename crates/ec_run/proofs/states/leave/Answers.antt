use Rattle.std.proofs.Common.{rules, ◌≡◌, suc, ◌+◌, ◌-◌, arith, sym, ◌∙◌}
use Rattle.ec_run.specs.declared.states.TheConstants.{LEAVE_ASKS}
use Rattle.ec_run.proofs.StatesLemmas.{leaves_on, leaves_end, leaves_none}
use Rattle.ec_run.proofs.states.leave.Goals as goal

pub returns-then-is_left-clause-leaves : goal.returns-then-is_left-clause-leaves
returns-then-is_left-clause-leaves g c =
    leaves_end g.P.Ports.trips c.args.ports.now c.loop-ask.ports c.put-joined-in-loop-ask.new.ports
    c.args.state c.args.slaves LEAVE_ASKS (LEAVE_ASKS - c.loop-ask._ask) (LEAVE_ASKS - (c.loop-ask._ask + 1))
    c.put-joined-in-loop-ask.result c.loop-ask.invariant.leaves_on
    (let e : LEAVE_ASKS - c.loop-ask._ask ≡ suc (LEAVE_ASKS - (c.loop-ask._ask + 1)) =
    omega (arith, c.loop-ask-test.true) in e)
    (sym c.is_left.ensures ∙ c.if-is_left.true)
    (record {
      written = c.put-joined.result;
      between = c.put-joined.new.ports;
      writes = search rules;
      reads = search rules;
    })

pub loop-ask-preserved : goal.loop-ask-preserved
loop-ask-preserved g c = record {
  counted = omega (
    arith,
    c.loop-ask.invariant.counted,
    c.put-joined.ensures.never_lower,
    c.put-joined-in-loop-ask.ensures.never_lower,
  );
  leaves_on = leaves_on g.P.Ports.trips c.args.ports.now c.loop-ask.ports c.put-joined-in-loop-ask.new.ports
      c.args.state c.args.slaves LEAVE_ASKS (LEAVE_ASKS - c.loop-ask._ask)
      (LEAVE_ASKS - (c.loop-ask._ask + 1)) c.put-joined-in-loop-ask.result c.loop-ask.invariant.leaves_on
      (let e : LEAVE_ASKS - c.loop-ask._ask ≡ suc (LEAVE_ASKS - (c.loop-ask._ask + 1)) =
      omega (arith, c.loop-ask-test.true) in e)
      (sym c.is_left.ensures ∙ c.if-is_left.false)
      (record {
        written = c.put-joined.result;
        between = c.put-joined.new.ports;
        writes = search rules;
        reads = search rules;
      });
}

pub returns-clause-leaves : goal.returns-clause-leaves
returns-clause-leaves g c =
    leaves_none g.P.Ports.trips c.args.ports.now c.loop-ask.ports c.args.state c.args.slaves LEAVE_ASKS
    (LEAVE_ASKS - c.loop-ask._ask) c.loop-ask.invariant.leaves_on
    (let e : LEAVE_ASKS - c.loop-ask._ask ≡ 0 = omega (arith, c.loop-ask-test.false) in e)
