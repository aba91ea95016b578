use Rattle.std.proofs.Common.{sym, ap, ◌∙◌, arith}
use Rattle.ec_regs.specs.Pairs.{writes}
use Rattle.ec_check.specs.Line.{controllers_by}
use Rattle.ec_check.proofs.LineLemmas.{length-controllers_by}
use Rattle.ec_check.proofs.WrittenLemmas.{HasNone-written, IsFirstOf-written}
use Rattle.ec_check.proofs.twice_written.compare_written.Goals as goal

pub returns-in-Some : goal.returns-in-Some
returns-in-Some g c =
    let first = c.fmmu_of-first.ensures in
    let second = c.fmmu_of-second.ensures in
    IsFirstOf-written (controllers_by g.S.Mapped.controller c.args.line.now) c.args.slave c.args.fmmu c.args.later_fmmu c.in-Some.bit
    (record {
      order = c.requires.order;
      first = record {
        there = record {
          slave_there = omega
              (arith, length-controllers_by g.S.Mapped.controller c.args.line.now);
          number_there = omega arith;
        };
        for_writing = ap writes (sym first) ∙ sym c.writes.ensures ∙ c.if-not-writes.false;
        maps = rw (sym first) c.in-Some.ensures.0.0;
      };
      second = record {
        there = record {
          slave_there = omega
              (arith, length-controllers_by g.S.Mapped.controller c.args.line.now);
          number_there = omega arith;
        };
        for_writing = ap writes (sym second) ∙ sym c.writes-2.ensures ∙ c.if-not-writes-2.false;
        maps = rw (sym second) c.in-Some.ensures.0.1;
      };
    })
    (λ n twice. c.in-Some.ensures.1 n (rw first twice.first.maps, rw second twice.second.maps))

pub returns-in-None : goal.returns-in-None
returns-in-None g c =
    let first = c.fmmu_of-first.ensures in
    let second = c.fmmu_of-second.ensures in
    HasNone-written (controllers_by g.S.Mapped.controller c.args.line.now) c.args.slave c.args.fmmu c.args.later_fmmu
    (λ n twice. c.in-None.ensures n (rw first twice.first.maps, rw second twice.second.maps))
