use Rattle.std.proofs.Common.{◌≡◌, ℕ, ◌<◌, ◌≤◌, get_or}
use Rattle.std.specs.Prelude.{bit_or}
use Rattle.ec_areas.proofs.runs.merge.Given as goal

-- the bytes before the place are done, and the others are as they were
abbrev pub invariant-loop-place : goal.invariant-loop-place
invariant-loop-place l = record {
  done : (k : ℕ) → k < l.place → get_or l.into k 0 ≡ bit_or (get_or l.initial.into k 0) (get_or l.bytes k 0);
  rest : (k : ℕ) → l.place ≤ k → get_or l.into k 0 ≡ get_or l.initial.into k 0;
}
