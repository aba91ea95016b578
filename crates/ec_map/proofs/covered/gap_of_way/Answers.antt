use Rattle.std.proofs.Common.{sym, ap, ◌∙◌, arith}
use Rattle.std.proofs.lemmas.Bool.{both_ways}
use Rattle.ec_check.specs.Line.{controllers_by, fmmu_of}
use Rattle.ec_check.proofs.Laws.{length-controllers_by}
use Rattle.ec_map.specs.Item.{items_by}
use Rattle.ec_map.specs.Covered.{goes}
use Rattle.ec_map.proofs.CoveredLemmas.{HasNone-way, IsFirstOf-way}
use Rattle.ec_map.proofs.covered.gap_of_way.Goals as goal

pub returns-then-not-goes : goal.returns-then-not-goes
returns-then-not-goes g c =
    HasNone-way (controllers_by g.S.Mapped.controller c.args.line.now) (items_by g.I.Asking.item c.args.items.now) c.args.slave c.args.fmmu c.args.way
    (λ l for_way mapped unasked.
    both_ways (goes c.args.way (fmmu_of (controllers_by g.S.Mapped.controller c.args.line.now) c.args.slave c.args.fmmu))
    (ap (goes c.args.way) (sym c.fmmu_of-record.ensures) ∙ sym c.goes.ensures ∙ c.if-not-goes.true) for_way)

pub returns-in-None : goal.returns-in-None
returns-in-None g c =
    HasNone-way (controllers_by g.S.Mapped.controller c.args.line.now) (items_by g.I.Asking.item c.args.items.now) c.args.slave c.args.fmmu c.args.way
    (λ l for_way mapped unasked. c.in-None.ensures l (rw c.fmmu_of-record.ensures mapped, unasked))

pub returns-in-Some : goal.returns-in-Some
returns-in-Some g c =
    let is = c.fmmu_of-record.ensures in
    IsFirstOf-way (controllers_by g.S.Mapped.controller c.args.line.now) (items_by g.I.Asking.item c.args.items.now)
    (record { slave = c.args.slave; fmmu = c.args.fmmu; way = c.args.way; bit = c.in-Some.bit })
    (record {
      there = record {
        slave_there = omega (arith, length-controllers_by g.S.Mapped.controller c.args.line.now);
        number_there = omega arith;
      };
      way = ap (goes c.args.way) (sym is) ∙ sym c.goes.ensures ∙ c.if-not-goes.false;
      mapped = rw (sym is) c.in-Some.ensures.0.0;
      unasked = c.in-Some.ensures.0.1;
    })
    (λ l mapped unasked. c.in-Some.ensures.1 l (rw is mapped, unasked))
