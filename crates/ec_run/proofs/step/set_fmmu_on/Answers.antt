use Rattle.ec_run.specs.Step.{fmmu_number}
use Rattle.ec_run.proofs.StepLemmas.{sets_fmmu_on}
use Rattle.ec_run.proofs.step.set_fmmu_on.Goals as goal

pub returns-clause-sets : goal.returns-clause-sets
returns-clause-sets g c =
    sets_fmmu_on g.P.Ports.trips c.args.ports.now c.fmmu_part.new.ports c.args.wanted.now.station
    (fmmu_number c.args.number) c.fmmu_number-number.result c.args.wanted.now.fmmus c.fmmu.result.now
    c.write-record.result c.args.asked c.fmmu_part.result c.fmmu_number-number.ensures.value c.fmmu.ensures
    c.write-record.ensures.value c.fmmu_part.ensures.part
