use Rattle.std.proofs.Common.{arith, rules, ap, ◌∙◌}
use Rattle.std.proofs.lemmas.Grind.{common_steps}
use Rattle.ec_regs.specs.SyncMan.{sync_man_of}
use Rattle.ec_regs.proofs.RecordLemmas.{sync_man_of-sync_man_bytes}
use Rattle.ec_regs.proofs.sync_man.SyncMan.write.Goals as goal

pub returns-clause-value : goal.returns-clause-value
returns-clause-value c = grind (arith, common_steps)

pub returns-clause-read_back : goal.returns-clause-read_back
returns-clause-read_back c =
    let s = c.args.self.now in
    ap sync_man_of (returns-clause-value c) ∙ sync_man_of-sync_man_bytes s (search rules) (search rules)
