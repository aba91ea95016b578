use Rattle.ecat_commands.specs.Commands.{replay_words}
use Rattle.ecat_commands.proofs.CommandLemmas.{AreWords-items}
use Rattle.ecat_commands.proofs.commands.replay.Goals as goal

pub returns : goal.returns
returns c =
    c.command.ensures replay_words (AreWords-items replay_words c.in_ok-words.ensures.items (
      c.needed.ensures,
      (c.needed-2.ensures, (c.flag.ensures, (c.flag-2.ensures, tt))),
    ))
