use Rattle.ec_master.proofs.CertificateLemmas.{good_answers, good_memories}
use Rattle.ec_master.proofs.certificate.good_image.Goals as goal

pub returns-clause-answers : goal.returns-clause-answers
returns-clause-answers c = good_answers

pub returns-clause-memories : goal.returns-clause-memories
returns-clause-memories c = good_memories
