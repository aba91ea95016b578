use Rattle.std.proofs.Common.{subst}
use Rattle.ec_master.specs.Report.{CycleIsTold}
use Rattle.ec_master.proofs.ReportLemmas.{cycle_is_told}
use Rattle.ec_master.proofs.report.Reporting.cycle.Goals as goal

pub returns-clause-told : goal.returns-clause-told
returns-clause-told g c =
    subst (λ (p : g.row.P.Denot). CycleIsTold g.P.Ports.trips p c.args.work.now c.args.expected.now
    c.run_cycle.result c.run_cycle.new.work c.run_cycle.new.ports.report c.run_cycle.new.ports.ports)
    c.begin.ensures.ports
    (cycle_is_told g.P.Ports.trips c.begin.new.self c.run_cycle.new.ports c.args.work.now c.args.expected.now
    c.run_cycle.result c.run_cycle.new.work c.are_items.ensures.items c.are_items.ensures.limit
    c.begin.ensures.report c.run_cycle.ensures.frames_suffice)
