use Rattle.ec_seal.proofs.UnderLemmas.{walk_bears, walk_under, one_number, trip_a_under, trip_b_under}
use Rattle.ec_seal.proofs.promises.true_copies_are_taken.Goals as goal

pub returns-clause-bears : goal.returns-clause-bears
returns-clause-bears c = walk_bears

pub returns-clause-taken : goal.returns-clause-taken
returns-clause-taken c = walk_under

pub returns-clause-one : goal.returns-clause-one
returns-clause-one c = one_number

pub returns-clause-trip_a : goal.returns-clause-trip_a
returns-clause-trip_a c = trip_a_under

pub returns-clause-trip_b : goal.returns-clause-trip_b
returns-clause-trip_b c = trip_b_under
