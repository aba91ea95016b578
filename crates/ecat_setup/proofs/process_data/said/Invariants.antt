-- Those that stand and those that the lines say which are left are all.
use Rattle.std.proofs.Common.{◌≡◌, ◌++◌, map, drop}
use Rattle.ecat_scene.specs.Scene.{pdo_record}
use Rattle.ecat_setup.specs.ProcessData.{mapped_pdo, said}
use Rattle.ecat_setup.proofs.process_data.said.Given as goal

abbrev pub invariant-loop-pdo : goal.invariant-loop-pdo
invariant-loop-pdo l =
    map mapped_pdo l.all.items ++ said l.direction (map pdo_record (drop l.pdo-index l.pdos))
    ≡ said l.direction (map pdo_record l.pdos)
