use Rattle.ec_check.proofs.MappingLemmas as lemmas
use Rattle.ec_check.proofs.facts.fit_by_mapping.Goals as goal

pub returns : goal.returns
returns c = lemmas.fit_by_mapping
