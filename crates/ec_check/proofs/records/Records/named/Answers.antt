use Rattle.std.proofs.Common.{sym}
use Rattle.ec_check.proofs.RecordsLemmas.{station-records, IsController-records}
use Rattle.ec_check.proofs.records.Records.named.Goals as goal

pub returns-clause-value : goal.returns-clause-value
returns-clause-value c = sym (station-records c.args.self.now)

pub returns-clause-controller : goal.returns-clause-controller
returns-clause-controller c =
    let are = c.are_records.ensures in
    IsController-records c.args.self.now are.station are.fmmu_bytes are.fmmus are.sync_manager_bytes
    are.sync_managers
