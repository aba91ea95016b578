use Rattle.std.proofs.Common.{◌≡◌, length}
use Rattle.ec_run.specs.Turns.{due}
use Rattle.ec_run.proofs.turns.due.Given as goal

abbrev pub decreases-loop-step : goal.decreases-loop-step
decreases-loop-step l = length l.left

-- each one before has nothing to do
abbrev pub invariant-loop-step : goal.invariant-loop-step
invariant-loop-step l = record { rest : due l.wanted l.steps ≡ due l.wanted l.left }
