use Rattle.std.proofs.Common.{rules, ap, ◌∙◌}
use Rattle.ec_regs.specs.SyncMan.{sync_man_bytes}
use Rattle.ec_regs.proofs.RecordLemmas.{sync_man_bytes-sync_man_of}
use Rattle.ec_regs.proofs.sync_man.SyncMan.read.Goals as goal

pub returns-clause-value : goal.returns-clause-value
returns-clause-value c = search rules

pub returns-clause-written_back : goal.returns-clause-written_back
returns-clause-written_back c =
    ap sync_man_bytes (returns-clause-value c)
    ∙ sync_man_bytes-sync_man_of c.args.bytes.now c.told-bytes c.fits-bytes
