use Rattle.std.proofs.Common.{◌≡◌, ℕ, length, get_or}
use Rattle.ec_areas.specs.Ranges.{takes_writes}
use Rattle.ec_esc.proofs.WrittenLemmas.{written_byte, among}
use Rattle.ec_esc.proofs.writing.write_run.Given as goal

-- the bytes before the place are written
abbrev pub invariant-loop-place : goal.invariant-loop-place
invariant-loop-place l = record {
  bytes : (a : ℕ) → get_or l.memory a 0 ≡ written_byte (among
      (takes_writes l.initial.memory) l.from l.place) l.initial.memory l.payload l.from a;
  size : length l.memory ≡ length l.initial.memory;
}
