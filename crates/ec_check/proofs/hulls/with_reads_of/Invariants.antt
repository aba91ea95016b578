use Rattle.ec_check.specs.Hulls.{IsReadSoFar}
use Rattle.ec_check.specs.Line.{controllers_by}
use Rattle.ec_check.proofs.hulls.with_reads_of.Given as goal

abbrev pub invariant-loop-number : goal.invariant-loop-number
invariant-loop-number g l = IsReadSoFar (controllers_by g.S.Mapped.controller l.line) l.slave l.number l.read
