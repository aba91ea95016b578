use Rattle.std.proofs.Common.{◌≡◌, suc, ◌+◌, ◌-◌, arith, sym, ◌∙◌}
use Rattle.ec_run.specs.declared.step.TheConstants.{MORE_TRIES}
use Rattle.ec_run.proofs.StepLemmas.{tries_on, tries_end, tries_last}
use Rattle.ec_run.proofs.step.try_step.Goals as goal

pub returns-then-is_answered-clause-tried : goal.returns-then-is_answered-clause-tried
returns-then-is_answered-clause-tried g c =
    tries_end g.P.Ports.trips c.args.ports.now c.loop-try.ports c.take-done.new.ports c.args.place
    c.args.wanted.now c.args.step MORE_TRIES (MORE_TRIES - c.loop-try._try) (MORE_TRIES -
    (c.loop-try._try + 1))
    c.take-done.result c.loop-try.invariant.tries_on
    (let e : MORE_TRIES - c.loop-try._try ≡ suc (MORE_TRIES - (c.loop-try._try + 1)) =
    omega (arith, c.loop-try-test.true) in e)
    (sym c.is_answered.ensures ∙ c.if-is_answered.true) c.take-done.ensures.done

pub loop-try-preserved : goal.loop-try-preserved
loop-try-preserved g c = record {
  counted = omega (arith, c.loop-try.invariant.counted, c.take-done.ensures.never_lower);
  tries_on = tries_on g.P.Ports.trips c.args.ports.now c.loop-try.ports c.take-done.new.ports c.args.place
      c.args.wanted.now c.args.step MORE_TRIES (MORE_TRIES - c.loop-try._try)
      (MORE_TRIES - (c.loop-try._try + 1))
      c.take-done.result c.loop-try.invariant.tries_on
      (let e : MORE_TRIES - c.loop-try._try ≡ suc (MORE_TRIES - (c.loop-try._try + 1)) =
      omega (arith, c.loop-try-test.true) in e)
      (sym c.is_answered.ensures ∙ c.if-is_answered.false) c.take-done.ensures.done;
}

pub returns-clause-tried : goal.returns-clause-tried
returns-clause-tried g c =
    tries_last g.P.Ports.trips c.args.ports.now c.loop-try.ports c.take.new.ports c.args.place
    c.args.wanted.now c.args.step MORE_TRIES (MORE_TRIES - c.loop-try._try)
    c.take.result c.loop-try.invariant.tries_on
    (let e : MORE_TRIES - c.loop-try._try ≡ 0 = omega (arith, c.loop-try-test.false) in e)
    c.take.ensures.done
