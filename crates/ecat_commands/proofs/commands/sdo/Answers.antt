use Rattle.ecat_commands.specs.Commands.{sdo_words}
use Rattle.ecat_commands.proofs.CommandLemmas.{AreWords-items}
use Rattle.ecat_commands.proofs.commands.sdo.Goals as goal

pub returns : goal.returns
returns c =
    c.command.ensures sdo_words (AreWords-items sdo_words c.in_ok-words.ensures.items (c.scene.ensures, (c.needed.ensures, (c.needed-2.ensures, (c.needed-3.ensures, (c.optional.ensures, (c.flag.ensures, (c.flag-2.ensures, (c.at.ensures, (c.raw.ensures, (c.through.ensures, tt)))))))))))
