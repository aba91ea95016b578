-- What those behind become is what it would have been at first.
use Rattle.std.proofs.Common.{◌≡◌, ◌++◌, length, map, take, drop}
use Rattle.ecat_scene.specs.Scene.{slave_record}
use Rattle.ecat_setup.specs.Devices.{as_device}
use Rattle.ecat_setup.proofs.devices.make_devices.Given as goal

abbrev pub invariant-loop-k : goal.invariant-loop-k
invariant-loop-k l = record {
  size : length l.slaves ≡ length l.initial.slaves;
  done : map slave_record (take l.k l.slaves) ++ map as_device (map slave_record (drop l.k l.slaves))
      ≡ map as_device (map slave_record l.initial.slaves);
}
