use Rattle.ec_line.proofs.Laws.{gain_by_mapping}
use Rattle.ec_map.specs.Share.{request_of}
use Rattle.ec_map.proofs.MappingLemmas.{expected_by_mapping}
use Rattle.ec_map.proofs.lasting.shares_by_mapping.Goals as goal

pub returns-clause-share : goal.returns-clause-share
returns-clause-share c = λ r k later item same accepts again.
    gain_by_mapping (request_of r) k later same accepts

pub returns-clause-expected : goal.returns-clause-expected
returns-clause-expected c = expected_by_mapping
