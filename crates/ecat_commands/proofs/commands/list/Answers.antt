use Rattle.ecat_commands.specs.Commands.{list_words}
use Rattle.ecat_commands.proofs.CommandLemmas.{AreWords-items}
use Rattle.ecat_commands.proofs.commands.list.Goals as goal

pub returns : goal.returns
returns c =
    c.command.ensures list_words (AreWords-items list_words c.in_ok-words.ensures.items (
      c.needed.ensures,
      (c.flag.ensures, (c.flag-2.ensures, (c.flag-3.ensures, (c.flag-4.ensures, (c.json.ensures, tt))))),
    ))
