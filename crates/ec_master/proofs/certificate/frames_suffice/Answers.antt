use Rattle.ec_master.proofs.RoundLemmas.{this_round}
use Rattle.ec_master.proofs.SufficeLemmas.{frames-suffice}
use Rattle.ec_master.proofs.certificate.frames_suffice.Goals as goal

pub returns-clause-says : goal.returns-clause-says
returns-clause-says c = frames-suffice

pub returns-clause-this_round : goal.returns-clause-this_round
returns-clause-this_round c = this_round
