use Rattle.std.proofs.Common.{arith, rules, ap, ◌∙◌}
use Rattle.std.proofs.lemmas.Grind.{common_steps}
use Rattle.ec_regs.specs.Fmmu.{fmmu_of}
use Rattle.ec_regs.proofs.RecordLemmas.{fmmu_of-fmmu_bytes}
use Rattle.ec_regs.proofs.fmmu.Fmmu.write.Goals as goal

pub returns-clause-value : goal.returns-clause-value
returns-clause-value c = grind (arith, common_steps)

pub returns-clause-read_back : goal.returns-clause-read_back
returns-clause-read_back c =
    let f = c.args.self.now in
    ap fmmu_of (returns-clause-value c)
    ∙ fmmu_of-fmmu_bytes f (search rules) (search rules) (search rules) (search rules)
