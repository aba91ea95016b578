use Rattle.std.proofs.Common.{◌≡◌, ◌+◌, ◌-◌, ℕ, arith, Err, replicate, ap}
use Rattle.std.proofs.lemmas.Result.{err_from_is_err_and}
use Rattle.ec_regs.specs.declared.al.AlState.{AlState}
use Rattle.ec_services.specs.Ask.{Question}
use Rattle.ec_services.specs.Acknowledgement.{error_question}
use Rattle.ec_services.specs.declared.fault.MasterFault.TheVariants.{NoAnswer}
use Rattle.ec_services.proofs.TalkLemmas.{goes_on, ends_told, ends_fault, ends_undecided, replicate_left}
use Rattle.ec_services.proofs.acknowledgement.await_no_error.Goals as goal

pub returns-in_err-state-clause-talk : goal.returns-in_err-state-clause-talk
returns-in_err-state-clause-talk g c =
    let q : Question AlState = error_question c.args.station in
    let p = err_from_is_err_and c.from_residual.result c.from_residual.ensures.1 in
    rw (p.1, p.2)
    (ends_fault g.P.Ports.trips c.args.ports.now c.loop-read.ports c.read_error.new.ports
    (replicate c.args.limit q)
    (replicate (c.args.limit - c.loop-read._read) q) (replicate (c.args.limit -
    (c.loop-read._read + 1)) q) q (Err NoAnswer)
    c.in_err-state.field-0.0 c.loop-read.invariant.goes_on
    (replicate_left c.args.limit c.loop-read._read q c.loop-read-test.true)
    c.in_err-state.ensures.asked)

pub returns-in-Some-clause-talk : goal.returns-in-Some-clause-talk
returns-in-Some-clause-talk g c =
    let q : Question AlState = error_question c.args.station in
    ends_told g.P.Ports.trips c.args.ports.now c.loop-read.ports c.read_error.new.ports
    (replicate c.args.limit q)
    (replicate (c.args.limit - c.loop-read._read) q) (replicate (c.args.limit -
    (c.loop-read._read + 1)) q) q (Err NoAnswer)
    c.in-Some.state c.loop-read.invariant.goes_on
    (replicate_left c.args.limit c.loop-read._read q c.loop-read-test.true) (rw
    (← c.in-Some.is) c.in_ok-state.ensures.asked)

pub loop-read-preserved : goal.loop-read-preserved
loop-read-preserved g c =
    let q : Question AlState = error_question c.args.station in
    record {
      counted = omega (arith, c.loop-read.invariant.counted, c.read_error.ensures.never_lower);
      goes_on = goes_on g.P.Ports.trips c.args.ports.now c.loop-read.ports c.read_error.new.ports
          (replicate c.args.limit q)
          (replicate (c.args.limit - c.loop-read._read) q) (replicate (c.args.limit -
          (c.loop-read._read + 1)) q) q (Err NoAnswer)
          c.loop-read.invariant.goes_on
          (replicate_left c.args.limit c.loop-read._read q c.loop-read-test.true) (rw
          (← c.in-None.is) c.in_ok-state.ensures.asked);
    }

pub returns-clause-talk : goal.returns-clause-talk
returns-clause-talk g c =
    let q : Question AlState = error_question c.args.station in
    ends_undecided g.P.Ports.trips c.args.ports.now c.loop-read.ports (replicate c.args.limit q)
    (replicate (c.args.limit - c.loop-read._read) q) (Err NoAnswer) c.loop-read.invariant.goes_on
    (ap (λ (n : ℕ). replicate n q) (let e : c.args.limit - c.loop-read._read ≡ 0 =
    omega (arith, c.loop-read-test.false) in e))
