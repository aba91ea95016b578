use Rattle.ecat_master.specs.Over.{stops_behind}
use Rattle.ecat_master.proofs.CourseLemmas.{not_followed}
use Rattle.ecat_master.proofs.teller.Teller.follow.Goals as goal

pub returns-then-is_err-clause-followed : goal.returns-then-is_err-clause-followed
returns-then-is_err-clause-followed g c =
    not_followed g.P.HeardPorts.trips c.args.line_plan.now.line.now
    (stops_behind c.args.line_plan.now.plan.now c.args.end.ended c.args.end.in_op) c.args.ports.now
