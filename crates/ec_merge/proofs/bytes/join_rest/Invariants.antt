use Rattle.std.proofs.Common.{◌≡◌, ℕ, ◌<◌, ◌≤◌, length, get_or}
use Rattle.ec_merge.specs.Rule.{joined_bits}
use Rattle.ec_merge.proofs.bytes.join_rest.Given as goal

abbrev pub invariant-loop-at : goal.invariant-loop-at
invariant-loop-at l = record {
  count : length l.into ≡ length l.initial.into;
  before : (k : ℕ) → k < l.from → get_or l.into k 0 ≡ get_or l.initial.into k 0;
  joined : (k : ℕ) → l.from ≤ k → k < l.at
      → get_or l.into k 0 ≡ joined_bits (get_or l.sent k 0) (get_or l.initial.into k 0) (get_or l.other k 0);
  rest : (k : ℕ) → l.at ≤ k → get_or l.into k 0 ≡ get_or l.initial.into k 0;
}
