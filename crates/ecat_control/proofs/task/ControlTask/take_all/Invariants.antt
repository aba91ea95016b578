-- So many lines at the most made of the outputs what they are, and none was taken that set nothing.
use Rattle.std.proofs.Common.{◌≡◌}
use Rattle.ecat_control.specs.Set.{BecomeBy}
use Rattle.ecat_control.proofs.task.ControlTask.take_all.Given as goal

abbrev pub invariant-loop-line : goal.invariant-loop-line
invariant-loop-line g l =
    BecomeBy l._line l.initial.self.outputs l.are_others l.self.outputs
    × (l.self.outputs.spans ≡ l.initial.self.outputs.spans)
