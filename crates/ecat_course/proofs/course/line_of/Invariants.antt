-- The first slaves are told what stands in them.
use Rattle.std.proofs.Common.{◌≡◌, map, take}
use Rattle.ecat_course.specs.Stands.{shape}
use Rattle.ec_run.specs.Wanted.{wanted_by}
use Rattle.ecat_course.proofs.course.line_of.Given as goal

abbrev pub invariant-loop-place : goal.invariant-loop-place
invariant-loop-place l = map shape l.line.items ≡ map wanted_by (take l.place l.slaves)
