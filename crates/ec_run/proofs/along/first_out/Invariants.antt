use Rattle.std.proofs.Common.{◌≡◌, drop}
use Rattle.ec_run.specs.Along.{first_out}
use Rattle.ec_run.proofs.along.first_out.Given as goal

-- each one before tells that its slave is in Op
abbrev pub invariant-loop-k : goal.invariant-loop-k
invariant-loop-k l = record { rest : first_out l.joined 0 ≡ first_out (drop l.k l.joined) l.k }
