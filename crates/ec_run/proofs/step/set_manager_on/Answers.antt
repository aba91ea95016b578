use Rattle.ec_run.specs.Step.{manager_number}
use Rattle.ec_run.proofs.StepLemmas.{sets_manager_on}
use Rattle.ec_run.proofs.step.set_manager_on.Goals as goal

pub returns-clause-sets : goal.returns-clause-sets
returns-clause-sets g c =
    sets_manager_on g.P.Ports.trips c.args.ports.now c.manager_part.new.ports c.args.wanted.now.station
    (manager_number c.args.number) c.manager_number-number.result c.args.wanted.now.managers
    c.manager.result.now c.write-record.result c.args.asked c.manager_part.result
    c.manager_number-number.ensures.value c.manager.ensures c.write-record.ensures.value
    c.manager_part.ensures.part
