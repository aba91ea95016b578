-- Those with the numbers so far stand.
use Rattle.std.proofs.Common.{◌≡◌, map}
use Rattle.std.specs.List.{range_with_len}
use Rattle.ecat_setup.specs.ProcessData.{made_pdo, mapped_pdo}
use Rattle.ecat_setup.proofs.process_data.made_up.Given as goal

abbrev pub invariant-loop-k : goal.invariant-loop-k
invariant-loop-k l =
    map mapped_pdo l.all.items ≡ map (made_pdo l.direction l.length) (range_with_len 0 l.k)
