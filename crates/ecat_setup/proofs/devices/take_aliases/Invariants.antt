-- What the EEPROMs that are left make of the slaves now is what all make of them at first.
use Rattle.std.proofs.Common.{◌≡◌, map, drop}
use Rattle.ecat_scene.specs.Scene.{slave_record}
use Rattle.ecat_setup.specs.Devices.{aliases_taken}
use Rattle.ecat_setup.proofs.devices.take_aliases.Given as goal

abbrev pub invariant-loop-one : goal.invariant-loop-one
invariant-loop-one l =
    aliases_taken (drop l.one-index l.given) (map slave_record l.slaves)
    ≡ aliases_taken l.given (map slave_record l.initial.slaves)
