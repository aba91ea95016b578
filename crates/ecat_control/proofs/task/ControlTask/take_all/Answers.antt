use Rattle.std.proofs.Common.{◌∙◌}
use Rattle.ecat_control.proofs.SetLemmas.{become_more}
use Rattle.ecat_control.proofs.task.ControlTask.take_all.Goals as goal

pub loop-line-preserved : goal.loop-line-preserved
loop-line-preserved g c = (
  become_more c.loop-line._line c.args.self.now.outputs c.loop-line.self.outputs c.take_next.new.self.outputs
      c.loop-line.are_others c.in-Some.set c.loop-line.invariant.1 c.loop-line.invariant.0
      c.in-Some.ensures.outputs,
  c.in-Some.ensures.spans ∙ c.loop-line.invariant.1,
)
