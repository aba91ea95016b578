-- One piece more was taken that is no packet.
use Rattle.std.proofs.Common.{arith}
use Rattle.ecat_capture.specs.Progress.Passes.{none, more}
use Rattle.ecat_capture.proofs.capture.Capture.next.Goals as goal

pub loop-init : goal.loop-init
loop-init g c = record { passes = none; monotone = omega arith }

pub loop-preserved : goal.loop-preserved
loop-preserved g c = record {
  passes = more c.loop.invariant.passes (rw c.in-Other.is at c.in_ok-packet.ensures.piece);
  monotone = omega (arith, c.loop.invariant.monotone, c.step.ensures.monotone);
}
