-- What those so far and those behind do is what all do.
use Rattle.std.proofs.Common.{◌≡◌, ◌++◌, map, drop}
use Rattle.ecat_scene.specs.Scene.{slave_record}
use Rattle.ecat_setup.specs.Applications.{applications_from}
use Rattle.ecat_setup.proofs.applications.behaviours_of.Given as goal

abbrev pub invariant-loop-place : goal.invariant-loop-place
invariant-loop-place l =
    l.all.items ++ applications_from l.place (map slave_record (drop l.place l.described))
    ≡ applications_from 0 (map slave_record l.described)
