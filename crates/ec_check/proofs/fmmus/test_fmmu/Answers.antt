use Rattle.std.proofs.Common.{sym, ap, ◌∙◌, arith}
use Rattle.std.proofs.lemmas.Bool.{both_ways}
use Rattle.ec_regs.specs.Pairs.{is_switched_on}
use Rattle.ec_check.specs.Line.{controllers_by}
use Rattle.ec_check.specs.Runs.{is_good}
use Rattle.ec_check.specs.declared.fault.MapFault.TheVariants.{BadFmmu}
use Rattle.ec_check.proofs.LineLemmas.{length-controllers_by}
use Rattle.ec_check.proofs.SearchLemmas.{IsFirstOf-itself}
use Rattle.ec_check.proofs.FmmuLemmas.{HasNone-bad, IsGoodFmmu-is_good, is_good-IsGoodFmmu}
use Rattle.ec_check.proofs.fmmus.test_fmmu.Goals as goal

pub returns-then-not-is_switched_on : goal.returns-then-not-is_switched_on
returns-then-not-is_switched_on g c =
    let is = c.fmmu_of-record.ensures in
    HasNone-bad (controllers_by g.S.Mapped.controller c.args.line.now) c.args.slave c.args.fmmu
    (λ bad. both_ways _ (sym c.is_switched_on.ensures ∙ c.if-not-is_switched_on.true)
    (ap is_switched_on is ∙ bad.active))

pub returns-then-not-is_good : goal.returns-then-not-is_good
returns-then-not-is_good g c =
    let is = c.fmmu_of-record.ensures in
    IsFirstOf-itself (controllers_by g.S.Mapped.controller c.args.line.now) (BadFmmu c.args.slave c.args.fmmu) (record {
      there = record {
        slave_there = omega
            (arith, length-controllers_by g.S.Mapped.controller c.args.line.now);
        number_there = c.requires.fmmu;
      };
      active = ap is_switched_on (sym is) ∙ sym c.is_switched_on.ensures ∙ c.if-not-is_switched_on.false;
      bad = λ good. both_ways _ (sym c.is_good.ensures ∙ c.if-not-is_good.true)
          (ap is_good is ∙ is_good-IsGoodFmmu _ good);
    })

pub returns : goal.returns
returns g c =
    let is = c.fmmu_of-record.ensures in
    HasNone-bad (controllers_by g.S.Mapped.controller c.args.line.now) c.args.slave c.args.fmmu
    (λ bad. bad.bad
    (IsGoodFmmu-is_good _ (ap is_good (sym is) ∙ sym c.is_good.ensures ∙ c.if-not-is_good.false)))
