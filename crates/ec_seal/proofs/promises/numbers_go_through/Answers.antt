use Rattle.ec_seal.proofs.WalkLemmas.{walked-numbered, travelled-numbered}
use Rattle.ec_seal.proofs.promises.numbers_go_through.Goals as goal

pub returns-clause-walk : goal.returns-clause-walk
returns-clause-walk c = walked-numbered

pub returns-clause-trip : goal.returns-clause-trip
returns-clause-trip c = travelled-numbered
