use Rattle.std.proofs.Common.{◌≡◌, ◌<◌, ℕ, false}
use Rattle.ec_check.specs.Line.{controllers_by, sync_manager_of}
use Rattle.ec_check.specs.Runs.{holds_first_byte}
use Rattle.ec_check.proofs.outside.end_of_area.Given as goal

abbrev pub invariant-loop-number : goal.invariant-loop-number
invariant-loop-number g l =
    (n : ℕ) → n < l.number → holds_first_byte (sync_manager_of (controllers_by g.S.Mapped.controller l.line) l.slave n) l.fmmu ≡ false
