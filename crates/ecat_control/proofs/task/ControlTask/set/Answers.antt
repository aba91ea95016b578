use Rattle.ecat_control.proofs.SetLemmas.{set_once}
use Rattle.ecat_control.proofs.task.ControlTask.set.Goals as goal

pub returns-in-Ok-clause-outputs : goal.returns-in-Ok-clause-outputs
returns-in-Ok-clause-outputs g c =
    set_once c.args.self.now.outputs c.set.new.self c.args.self.now.change.bytes.items
    c.args.self.now.change.places.items c.in-Ok.ensures.done
