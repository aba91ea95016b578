use Rattle.std.proofs.Common.{arith}
use Rattle.ecat_replay.proofs.ComparingLemmas.{trips_add}
use Rattle.ecat_replay.proofs.ReplayingLemmas.{takes_add}
use Rattle.ecat_replay.proofs.promises.sums_add_up.Goals as goal

pub returns-clause-first : goal.returns-clause-first
returns-clause-first c = λ line. record {
  frames = omega arith;
  datagrams = omega arith;
  found = omega arith;
}

pub returns-clause-taken : goal.returns-clause-taken
returns-clause-taken c = takes_add

pub returns-clause-ended : goal.returns-clause-ended
returns-clause-ended c = trips_add
