use Rattle.std.proofs.Common.{◌≡◌, ◌++◌, drop, map}
use Rattle.ec_run.specs.Wanted.{wanted_by}
use Rattle.ec_run.proofs.wanted.wanted_of.Given as goal

abbrev pub invariant-loop-slave : goal.invariant-loop-slave
invariant-loop-slave l = l.all.items ++ map wanted_by (drop l.slave-index l.line) ≡ map wanted_by l.line
