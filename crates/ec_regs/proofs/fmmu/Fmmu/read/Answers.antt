use Rattle.std.proofs.Common.{arith, ap, ◌∙◌}
use Rattle.std.proofs.lemmas.Grind.{common_steps}
use Rattle.ec_regs.specs.Fmmu.{fmmu_bytes}
use Rattle.ec_regs.proofs.RecordLemmas.{fmmu_bytes-fmmu_of}
use Rattle.ec_regs.proofs.fmmu.Fmmu.read.Goals as goal

pub returns-clause-value : goal.returns-clause-value
returns-clause-value c = grind (arith, common_steps)

pub returns-clause-written_back : goal.returns-clause-written_back
returns-clause-written_back c =
    ap fmmu_bytes (returns-clause-value c) ∙ fmmu_bytes-fmmu_of c.args.bytes.now c.told-bytes c.fits-bytes
