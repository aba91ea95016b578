use Rattle.std.proofs.Common.{◌≡◌, suc, ◌+◌, ◌-◌, arith, sym, ◌∙◌}
use Rattle.ec_run.specs.declared.recovery.TheConstants.{MORE_LOOKS}
use Rattle.ec_run.proofs.RecoveryLemmas.{looks_on, looks_end, looks_last}
use Rattle.ec_run.proofs.recovery.look_for.Goals as goal

pub returns-then-not-is_nobody-clause-looked : goal.returns-then-not-is_nobody-clause-looked
returns-then-not-is_nobody-clause-looked g c =
    looks_end g.P.Ports.trips c.args.ports.now c.loop-look.ports c.look_at-seen.new.ports c.args.station
    MORE_LOOKS (MORE_LOOKS - c.loop-look._look) (MORE_LOOKS - (c.loop-look._look + 1))
    c.look_at-seen.result c.loop-look.invariant.looks_on
    (let e : MORE_LOOKS - c.loop-look._look ≡ suc (MORE_LOOKS - (c.loop-look._look + 1)) =
    omega (arith, c.loop-look-test.true) in e)
    (sym c.is_nobody.ensures ∙ c.if-not-is_nobody.true) c.look_at-seen.ensures.looked

pub loop-look-preserved : goal.loop-look-preserved
loop-look-preserved g c = record {
  counted = omega (arith, c.loop-look.invariant.counted, c.look_at-seen.ensures.never_lower);
  looks_on = looks_on g.P.Ports.trips c.args.ports.now c.loop-look.ports c.look_at-seen.new.ports
      c.args.station MORE_LOOKS (MORE_LOOKS - c.loop-look._look) (MORE_LOOKS - (c.loop-look._look + 1))
      c.look_at-seen.result c.loop-look.invariant.looks_on
      (let e : MORE_LOOKS - c.loop-look._look ≡ suc (MORE_LOOKS - (c.loop-look._look + 1)) =
      omega (arith, c.loop-look-test.true) in e)
      (sym c.is_nobody.ensures ∙ c.if-not-is_nobody.false) c.look_at-seen.ensures.looked;
}

pub returns-clause-looked : goal.returns-clause-looked
returns-clause-looked g c =
    looks_last g.P.Ports.trips c.args.ports.now c.loop-look.ports c.look_at.new.ports c.args.station
    MORE_LOOKS (MORE_LOOKS - c.loop-look._look) c.look_at.result c.loop-look.invariant.looks_on
    (let e : MORE_LOOKS - c.loop-look._look ≡ 0 = omega (arith, c.loop-look-test.false) in e)
    c.look_at.ensures.looked
