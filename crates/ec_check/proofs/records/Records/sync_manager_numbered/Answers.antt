use Rattle.std.proofs.Common.{sym, ◌∙◌}
use Rattle.ec_check.proofs.RecordsLemmas.{sync_manager-records}
use Rattle.ec_check.proofs.records.Records.sync_manager_numbered.Goals as goal

pub returns : goal.returns
returns c =
    let are = c.are_records.ensures in
    c.sync_manager_in.ensures
    ∙ sym
    (sync_manager-records c.args.self.now c.args.number c.requires are.fmmu_bytes are.sync_manager_bytes)
