use Rattle.std.proofs.Common.{◌≡◌, ℕ, List, length, get_or}
use Rattle.ec_areas.specs.Records.{sync_managers_of}
use Rattle.ec_esc.proofs.SettledLemmas.{settled_to}
use Rattle.ec_esc.proofs.writing.settle.Given as goal

-- the sync managers before this one are settled
abbrev pub invariant-loop-number : goal.invariant-loop-number
invariant-loop-number l = record {
  bytes : (arrived : List ℕ) → l.before ≡ sync_managers_of arrived → (a : ℕ) → get_or l.memory a 0
      ≡ settled_to arrived l.initial.memory l.number a;
  size : length l.memory ≡ length l.initial.memory;
}
