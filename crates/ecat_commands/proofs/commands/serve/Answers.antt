use Rattle.ecat_commands.specs.Commands.{device_words, serve_words}
use Rattle.ecat_commands.proofs.commands.serve.Goals as goal

pub returns : goal.returns
returns c =
    let on_line = c.in_ok-serve.ensures serve_words c.in_ok-words.ensures in
    c.more.ensures _ device_words on_line c.in_ok-devices.ensures
