use Rattle.std.proofs.Common.{ℕ, ◌<◌}
use Rattle.ec_check.specs.Line.{controllers_by, fmmu_of}
use Rattle.ec_map.specs.Written.{WritesRuns}
use Rattle.ec_map.proofs.written.pairs_runs.Given as goal

-- no FMMU so far has such a pair
abbrev pub invariant-loop-number : goal.invariant-loop-number
invariant-loop-number g l =
    (n : ℕ) → n < l.number → ¬ WritesRuns (fmmu_of (controllers_by g.S.Mapped.controller l.line) l.slave n) l.logical l.physical
