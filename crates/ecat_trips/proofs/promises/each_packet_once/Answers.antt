use Rattle.std.proofs.Common.{arith}
use Rattle.std.proofs.lemmas.List.Elements.{All-nil}
use Rattle.ecat_trips.specs.Runs.{nothing}
use Rattle.ecat_trips.proofs.RunLemmas.{AwaitsOne, runs_keep}
use Rattle.ecat_trips.proofs.promises.each_packet_once.Goals as goal

pub returns : goal.returns
returns c = λ w m hs s run.
    let all = runs_keep w m hs nothing s (All-nil AwaitsOne) run in
    omega (arith, all)
