use Rattle.ec_master.proofs.CertificateLemmas as lemmas
use Rattle.ec_master.proofs.certificate.applications_kept.Goals as goal

pub returns : goal.returns
returns c = lemmas.applications_kept
