use Rattle.ec_master.proofs.CertificateLemmas.{reached_memory}
use Rattle.ec_master.proofs.certificate.memory_on_every_verdict.Goals as goal

pub returns : goal.returns
returns c = reached_memory
