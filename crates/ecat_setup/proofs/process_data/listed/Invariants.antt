-- Those of the subindexes so far stand.
use Rattle.std.proofs.Common.{◌≡◌, ◌%◌, ◌^◌, map}
use Rattle.std.specs.List.{range_with_len}
use Rattle.ecat_setup.specs.ProcessData.{listed_at, listed_pdo, mapped_pdo}
use Rattle.ecat_setup.proofs.process_data.listed.Given as goal

abbrev pub invariant-loop-k : goal.invariant-loop-k
invariant-loop-k l =
    map mapped_pdo l.all.items
    ≡ map (λ k. listed_pdo l.direction l.objects (listed_at l.objects l.direction.assigned k % 2 ^ 16))
    (range_with_len 0 l.k)
