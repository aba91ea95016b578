use Rattle.ec_check.specs.Hulls.{IsReadSoFar}
use Rattle.ec_check.specs.Line.{controllers_by}
use Rattle.ec_check.proofs.hulls.reads_on_one_side.Given as goal

abbrev pub invariant-loop-slave : goal.invariant-loop-slave
invariant-loop-slave g l = IsReadSoFar (controllers_by g.S.Mapped.controller l.line) l.slave 0 l.read
