-- What those behind become is what it would have been at first.
use Rattle.std.proofs.Common.{◌≡◌, ◌++◌, length, map, take, drop}
use Rattle.ecat_scene.specs.Scene.{slave_record}
use Rattle.ecat_setup.specs.Devices.{switched_on}
use Rattle.ecat_setup.proofs.devices.switch_on.Given as goal

abbrev pub invariant-loop-k : goal.invariant-loop-k
invariant-loop-k l = record {
  size : length l.slaves ≡ length l.initial.slaves;
  done : map slave_record (take l.k l.slaves) ++ map switched_on (map slave_record (drop l.k l.slaves))
      ≡ map switched_on (map slave_record l.initial.slaves);
}
