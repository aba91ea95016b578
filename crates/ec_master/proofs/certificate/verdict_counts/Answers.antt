use Rattle.ec_master.proofs.VerdictLemmas.{verdict-counts}
use Rattle.ec_master.proofs.certificate.verdict_counts.Goals as goal

pub returns : goal.returns
returns c = verdict-counts
