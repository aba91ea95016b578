use Rattle.std.proofs.Common.{sym, ap, ◌∙◌}
use Rattle.ec_regs.specs.Pairs.{reads}
use Rattle.ec_check.specs.Line.{controllers_by}
use Rattle.ec_check.proofs.ReadLemmas.{HasNone-read, IsFirstOf-read}
use Rattle.ec_check.proofs.twice_read.compare_read.Goals as goal

pub returns-in-Some : goal.returns-in-Some
returns-in-Some g c =
    let first = c.requires.first.is in
    let second = c.fmmu_of-second.ensures in
    IsFirstOf-read
    (controllers_by g.S.Mapped.controller c.args.line.now) c.args.first.now.slave c.args.first.now.number c.args.later_slave
    c.args.later_fmmu
    c.in-Some.bit
    (record {
      order = c.requires.order;
      first = record {
        there = c.requires.first.there;
        for_reading = ap reads (sym first) ∙ c.requires.for_reading;
        maps = rw (sym first) c.in-Some.ensures.0.0;
      };
      second = record {
        there = c.requires.second;
        for_reading = ap reads (sym second) ∙ sym c.reads.ensures ∙ c.if-not-reads.false;
        maps = rw (sym second) c.in-Some.ensures.0.1;
      };
    })
    (λ n twice. c.in-Some.ensures.1 n (rw first twice.first.maps, rw second twice.second.maps))

pub returns-in-None : goal.returns-in-None
returns-in-None g c =
    let first = c.requires.first.is in
    let second = c.fmmu_of-second.ensures in
    HasNone-read
    (controllers_by g.S.Mapped.controller c.args.line.now) c.args.first.now.slave c.args.first.now.number c.args.later_slave
    c.args.later_fmmu
    (λ n twice. c.in-None.ensures n (rw first twice.first.maps, rw second twice.second.maps))
