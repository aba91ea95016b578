use Rattle.ecat_commands.specs.Commands.{sii_words}
use Rattle.ecat_commands.proofs.CommandLemmas.{AreWords-items}
use Rattle.ecat_commands.proofs.commands.sii.Goals as goal

pub returns : goal.returns
returns c =
    c.command.ensures sii_words (AreWords-items sii_words c.in_ok-words.ensures.items (
      c.needed.ensures,
      (c.optional.ensures, (c.option.ensures, (c.force.ensures, tt))),
    ))
