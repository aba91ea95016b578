use Rattle.ec_areas.specs.Records.{fmmus_of}
use Rattle.ec_areas.proofs.records.fmmus_of.Goals as goal

pub returns : goal.returns
unfolding fmmus_of
returns c = cc
