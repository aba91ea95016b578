-- What is in the room so far was taken from the bytes ahead.
use Rattle.std.proofs.Common.{◌≤◌, ◌-◌, length, take}
use Rattle.std.specs.Io.KnownBytes.{Consumes}
use Rattle.ecat_source.proofs.buffer.Buffered.take.Given as goal

abbrev pub invariant-loop-count : goal.invariant-loop-count
invariant-loop-count g l = record {
  taken : Consumes l.initial.self.ahead l.self.ahead (take l.count l.into);
  within : l.count ≤ length l.into;
  monotone : l.initial.self.count ≤ l.self.count;
}

abbrev pub decreases-loop-count : goal.decreases-loop-count
decreases-loop-count g l = length l.into - l.count
