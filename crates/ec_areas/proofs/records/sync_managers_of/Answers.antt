use Rattle.ec_areas.specs.Records.{sync_managers_of}
use Rattle.ec_areas.proofs.records.sync_managers_of.Goals as goal

pub returns : goal.returns
unfolding sync_managers_of
returns c = cc
