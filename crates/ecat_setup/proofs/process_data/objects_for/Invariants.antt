-- The objects of the PDOs so far are counted.
use Rattle.std.proofs.Common.{◌≡◌, ◌+◌, ◌-◌, ◌^◌, length, map, min, sum_by, take}
use Rattle.ecat_setup.specs.ProcessData.{mapped_pdo}
use Rattle.ecat_setup.proofs.process_data.objects_for.Given as goal

abbrev pub invariant-loop-pdo : goal.invariant-loop-pdo
invariant-loop-pdo l =
    l.count
    ≡ min (1 + sum_by (λ p. length p.entries + 2) (map mapped_pdo (take l.pdo-index l.pdos))) (2 ^ 64 - 1)
