use Rattle.std.proofs.Common.{sym, ap, ◌∙◌}
use Rattle.ec_regs.specs.Pairs.{reads, writes}
use Rattle.ec_check.specs.Line.{controllers_by}
use Rattle.ec_check.proofs.CrossedLemmas.{HasNone-crossed, IsFirstOf-crossed}
use Rattle.ec_check.proofs.crossed.compare_crossed.Goals as goal

pub returns-in-Some : goal.returns-in-Some
returns-in-Some g c =
    let first = c.requires.reader.is in
    let second = c.fmmu_of-second.ensures in
    IsFirstOf-crossed
    (controllers_by g.S.Mapped.controller c.args.line.now) c.args.reader.now.slave c.args.reader.now.number c.args.writer
    c.args.writer_fmmu
    c.in-Some.bit
    (record {
      apart = c.requires.apart;
      read = record {
        there = c.requires.reader.there;
        for_reading = ap reads (sym first) ∙ c.requires.for_reading;
        maps = rw (sym first) c.in-Some.ensures.0.0;
      };
      written = record {
        there = c.requires.writer;
        for_writing = ap writes (sym second) ∙ sym c.writes.ensures ∙ c.if-not-writes.false;
        maps = rw (sym second) c.in-Some.ensures.0.1;
      };
    })
    (λ n crossed. c.in-Some.ensures.1 n (rw first crossed.read.maps, rw second crossed.written.maps))

pub returns-in-None : goal.returns-in-None
returns-in-None g c =
    let first = c.requires.reader.is in
    let second = c.fmmu_of-second.ensures in
    HasNone-crossed
    (controllers_by g.S.Mapped.controller c.args.line.now) c.args.reader.now.slave c.args.reader.now.number c.args.writer
    c.args.writer_fmmu
    (λ n crossed. c.in-None.ensures n (rw first crossed.read.maps, rw second crossed.written.maps))
