use Rattle.std.proofs.Common.{◌≡◌, ◌+◌, ◌<◌, ◌≤◌, ℕ, length, get_or}
use Rattle.ec_regs.specs.Bits.{AreBytes}
use Rattle.ec_areas.specs.Ranges.{takes_writes}
use Rattle.ec_esc.proofs.WrittenLemmas.{written_byte, among}
use Rattle.ec_esc.proofs.writing.swap_run.Given as goal

-- the bytes before the place are written and read, and the others wait
abbrev pub invariant-loop-place : goal.invariant-loop-place
invariant-loop-place l = record {
  bytes : (a : ℕ) → get_or l.memory a 0 ≡ written_byte (among
      (takes_writes l.initial.memory) l.from l.place) l.initial.memory l.initial.payload l.from a;
  data_bytes : AreBytes l.initial.payload;
  size : length l.memory ≡ length l.initial.memory;
  read : (k : ℕ) → k < l.place → get_or l.payload k 0 ≡ get_or l.initial.memory (l.from + k) 0;
  waiting : (k : ℕ) → l.place ≤ k → get_or l.payload k 0 ≡ get_or l.initial.payload k 0;
}
