-- So far pieces were taken that are no packets.
use Rattle.std.proofs.Common.{◌≤◌}
use Rattle.ecat_capture.specs.Progress.{Passes}
use Rattle.ecat_capture.proofs.capture.Capture.next.Given as goal

abbrev pub invariant-loop : goal.invariant-loop
invariant-loop g l = record {
  passes : Passes l.initial.self l.self;
  monotone : l.initial.self.input.count ≤ l.self.input.count;
}
