use Rattle.ec_master.proofs.CoveredGoodLemmas as lemmas
use Rattle.ec_master.proofs.covered.covered_and_good.Goals as goal

pub returns : goal.returns
returns c = record {
  inputs = lemmas.good_inputs;
  outputs = lemmas.good_outputs c.fit_line.ensures.placed;
  over_ports = lemmas.over_ports c.fit_line.ensures.placed;
}
