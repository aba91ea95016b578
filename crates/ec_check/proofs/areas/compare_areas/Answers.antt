use Rattle.std.proofs.Common.{sym, arith}
use Rattle.ec_check.specs.Line.{controllers_by}
use Rattle.ec_check.proofs.LineLemmas.{length-controllers_by}
use Rattle.ec_check.proofs.AreaLemmas.{HasNone-meeting, IsFirstOf-meeting}
use Rattle.ec_check.proofs.areas.compare_areas.Goals as goal

pub returns-in-Some : goal.returns-in-Some
returns-in-Some g c =
    let first = c.sync_manager_of-first.ensures in
    let second = c.sync_manager_of-second.ensures in
    IsFirstOf-meeting
    (controllers_by g.S.Mapped.controller c.args.line.now) c.args.slave c.args.number c.args.later_number c.in-Some.address
    (record {
      slave_there = omega (arith, length-controllers_by g.S.Mapped.controller c.args.line.now);
      order = c.requires.order;
      number_there = c.requires.number;
      first = rw (sym first) c.in-Some.ensures.0.0;
      second = rw (sym second) c.in-Some.ensures.0.1;
    })
    (λ n meeting. c.in-Some.ensures.1 n (rw first meeting.first, rw second meeting.second))

pub returns-in-None : goal.returns-in-None
returns-in-None g c =
    let first = c.sync_manager_of-first.ensures in
    let second = c.sync_manager_of-second.ensures in
    HasNone-meeting (controllers_by g.S.Mapped.controller c.args.line.now) c.args.slave c.args.number c.args.later_number
    (λ n meeting. c.in-None.ensures n (rw first meeting.first, rw second meeting.second))
