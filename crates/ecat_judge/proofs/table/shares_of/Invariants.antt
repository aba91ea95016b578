use Rattle.std.proofs.Common.{◌≡◌, map, take}
use Rattle.ec_check.specs.Line.{controllers_by}
use Rattle.ec_map.specs.Share.{share}
use Rattle.ec_map.specs.Item.{wire_address}
use Rattle.ecat_judge.specs.Share.{whole}
use Rattle.ecat_judge.proofs.table.shares_of.Given as goal

abbrev pub invariant-loop-slave : goal.invariant-loop-slave
invariant-loop-slave g l =
    (l.address ≡ wire_address l.item)
    × (map whole l.shares.items
    ≡ map (share l.item) (take l.slave-index (controllers_by g.M.Mapped.controller l.line)))
