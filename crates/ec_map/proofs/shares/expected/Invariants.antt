use Rattle.std.proofs.Common.{◌≡◌, ◌%◌, take}
use Rattle.std.specs.List.{sum_by}
use Rattle.ec_check.specs.Line.{controllers_by}
use Rattle.ec_map.specs.Share.{share}
use Rattle.ec_map.proofs.shares.expected.Given as goal

abbrev pub invariant-loop-slave : goal.invariant-loop-slave
invariant-loop-slave g l = l.total ≡ sum_by (share l.item) (take l.slave-index (controllers_by g.S.Mapped.controller l.line)) % 65536
