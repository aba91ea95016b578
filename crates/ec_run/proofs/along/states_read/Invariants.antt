use Rattle.std.proofs.Common.{◌≡◌, ◌≤◌, ◌<◌, ◌+◌, ◌-◌, drop, length, map, take}
use Rattle.ec_run.specs.Along.{state_read}
use Rattle.ec_run.proofs.along.states_read.Given as goal

-- those before this place are asked
abbrev pub invariant-loop-place : goal.invariant-loop-place
invariant-loop-place l = record {
  behind : l.first < l.place;
  asked : l.frame ≡ map state_read (take (l.place - l.first) (drop l.first l.line));
}
