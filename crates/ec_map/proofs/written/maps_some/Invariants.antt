use Rattle.std.proofs.Common.{ℕ, ◌<◌}
use Rattle.ec_check.specs.Line.{controllers_by, fmmu_of}
use Rattle.ec_map.specs.Written.{WritesRun}
use Rattle.ec_map.proofs.written.maps_some.Given as goal

-- no FMMU so far maps one of the bits
abbrev pub invariant-loop-number : goal.invariant-loop-number
invariant-loop-number g l =
    (n : ℕ) → n < l.number → ¬ WritesRun (fmmu_of (controllers_by g.S.Mapped.controller l.line) l.slave n) l.physical
