use Rattle.std.proofs.Common.{arith}
use Rattle.ecat_trips.specs.Runs.{nothing}
use Rattle.ecat_trips.proofs.CountLemmas.{runs_keep_trips}
use Rattle.ecat_trips.proofs.promises.each_trip_once.Goals as goal

pub returns-clause-once : goal.returns-clause-once
returns-clause-once c = λ m hs s run.
    let all = (runs_keep_trips m hs nothing s (omega arith) run).0 in
    omega (arith, all)

pub returns-clause-most : goal.returns-clause-most
returns-clause-most c = λ m hs s run. (runs_keep_trips m hs nothing s (omega arith) run).1
