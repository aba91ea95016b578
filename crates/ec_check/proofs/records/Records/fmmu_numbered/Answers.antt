use Rattle.std.proofs.Common.{sym, ◌∙◌}
use Rattle.ec_check.proofs.RecordsLemmas.{fmmu-records}
use Rattle.ec_check.proofs.records.Records.fmmu_numbered.Goals as goal

pub returns : goal.returns
returns c =
    c.fmmu_in.ensures
    ∙ sym (fmmu-records c.args.self.now c.args.number c.requires c.are_records.ensures.fmmu_bytes)
