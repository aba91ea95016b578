use Rattle.ecat_commands.specs.Commands.{line}
use Rattle.ecat_commands.proofs.commands.line.Goals as goal

pub returns : goal.returns
unfolding line
returns c =
    let captures = c.add_on_captures-line.ensures _ c.ecat.ensures in
    let scenes = c.add_on_scenes-line.ensures _ captures in
    c.add_over_sockets.ensures _ scenes
