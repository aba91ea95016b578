-- The first of them have one.
use Rattle.std.proofs.Common.{ℕ, ◌<◌}
use Rattle.ec_esc.specs.State.{IsController}
use Rattle.ec_check.specs.Line.{controllers_by, controller_of}
use Rattle.ec_check.proofs.checker.are_controllers.Given as goal

abbrev pub invariant-loop-slave : goal.invariant-loop-slave
invariant-loop-slave g l = (i : ℕ) → i < l.slave → IsController (controller_of (controllers_by g.S.Mapped.controller l.line) i)
