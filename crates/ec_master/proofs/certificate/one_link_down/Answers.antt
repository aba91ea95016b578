use Rattle.ec_master.proofs.VerdictLemmas.{one_down_good}
use Rattle.ec_master.proofs.certificate.one_link_down.Goals as goal

pub returns : goal.returns
returns c = one_down_good
