use Rattle.std.proofs.Common.{◌≡◌, ◌+◌, ◌-◌, ℕ, arith, Err, replicate, ap}
use Rattle.std.proofs.lemmas.Result.{err_from_is_err_and}
use Rattle.ec_services.specs.Ask.{Question}
use Rattle.ec_services.specs.States.{status_question}
use Rattle.ec_services.specs.declared.fault.MasterFault.TheVariants.{NoAnswer}
use Rattle.ec_services.proofs.TalkLemmas.{goes_on, ends_told, ends_fault, ends_undecided, replicate_left}
use Rattle.ec_services.proofs.states.await_state.Goals as goal

pub returns-in_err-read_status-clause-talk : goal.returns-in_err-read_status-clause-talk
returns-in_err-read_status-clause-talk g c =
    let q : Question (Unit {0}) = status_question c.args.station c.args.state in
    let p = err_from_is_err_and c.from_residual.result c.from_residual.ensures.1 in
    rw (p.1, p.2)
    (ends_fault g.P.Ports.trips c.args.ports.now c.loop-read.ports c.read_status.new.ports
    (replicate c.args.limit q)
    (replicate (c.args.limit - c.loop-read._read) q) (replicate (c.args.limit -
    (c.loop-read._read + 1)) q) q (Err NoAnswer)
    c.in_err-read_status.field-0.0 c.loop-read.invariant.goes_on
    (replicate_left c.args.limit c.loop-read._read q c.loop-read-test.true)
    c.in_err-read_status.ensures.asked)

pub returns-in-Some-clause-talk : goal.returns-in-Some-clause-talk
returns-in-Some-clause-talk g c =
    let q : Question (Unit {0}) = status_question c.args.station c.args.state in
    ends_told g.P.Ports.trips c.args.ports.now c.loop-read.ports c.read_status.new.ports
    (replicate c.args.limit q)
    (replicate (c.args.limit - c.loop-read._read) q) (replicate (c.args.limit -
    (c.loop-read._read + 1)) q) q (Err NoAnswer)
    tt c.loop-read.invariant.goes_on
    (replicate_left c.args.limit c.loop-read._read q c.loop-read-test.true) (rw
    (← c.in-Some.is) c.in_ok-read_status.ensures.asked)

pub loop-read-preserved : goal.loop-read-preserved
loop-read-preserved g c =
    let q : Question (Unit {0}) = status_question c.args.station c.args.state in
    record {
      counted = omega (arith, c.loop-read.invariant.counted, c.read_status.ensures.never_lower);
      goes_on = goes_on g.P.Ports.trips c.args.ports.now c.loop-read.ports c.read_status.new.ports
          (replicate c.args.limit q)
          (replicate (c.args.limit - c.loop-read._read) q) (replicate (c.args.limit -
          (c.loop-read._read + 1)) q) q (Err NoAnswer)
          c.loop-read.invariant.goes_on
          (replicate_left c.args.limit c.loop-read._read q c.loop-read-test.true) (rw
          (← c.in-None.is) c.in_ok-read_status.ensures.asked);
    }

pub returns-clause-talk : goal.returns-clause-talk
returns-clause-talk g c =
    let q : Question (Unit {0}) = status_question c.args.station c.args.state in
    ends_undecided g.P.Ports.trips c.args.ports.now c.loop-read.ports (replicate c.args.limit q)
    (replicate (c.args.limit - c.loop-read._read) q) (Err NoAnswer) c.loop-read.invariant.goes_on
    (ap (λ (n : ℕ). replicate n q) (let e : c.args.limit - c.loop-read._read ≡ 0 =
    omega (arith, c.loop-read-test.false) in e))
