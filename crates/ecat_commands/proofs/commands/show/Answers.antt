use Rattle.ecat_commands.specs.Commands.{show_words}
use Rattle.ecat_commands.proofs.CommandLemmas.{AreWords-items}
use Rattle.ecat_commands.proofs.commands.show.Goals as goal

pub returns : goal.returns
returns c =
    c.command.ensures show_words (AreWords-items show_words c.in_ok-words.ensures.items (
      c.needed.ensures,
      tt,
    ))
