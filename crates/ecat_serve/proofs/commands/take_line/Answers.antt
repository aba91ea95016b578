-- Where no line came nothing is done, and else what the desk does is a command.
use Rattle.std.proofs.Common.{refl}
use Rattle.ecat_serve.specs.Commands.{Nothing}
use Rattle.ecat_serve.proofs.commands.take_line.Goals as goal
use Rattle.ecat_serve.proofs.commands.take_line.Goals.{in-None, in-Some-Long, in-Some-Whole}

pub returns-in-Ends : goal.returns-in-Ends
returns-in-Ends g c =
    elim c.match-take_line.branch [
      | in-None w ↦ rw (w.served-is) (Nothing, refl)
      | in-Some-Long w ↦ rw (w.served-is) w.take-onward.ensures
      | in-Some-Whole w ↦ rw (w.served-is) w.take-onward-in-Some-Whole.ensures
    ]
