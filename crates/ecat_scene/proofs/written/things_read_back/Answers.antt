use Rattle.ecat_scene.proofs.ThingLemmas.{area-back, through-back, rights-back, state-back, row-back}
use Rattle.ecat_scene.proofs.written.things_read_back.Goals as goal

pub returns : goal.returns
returns c = record {
  areas = area-back;
  directions = through-back;
  rights = rights-back;
  states = state-back;
  rows = row-back;
}
