use Rattle.ecat_commands.specs.Commands.{where_words}
use Rattle.ecat_commands.proofs.CommandLemmas.{AreWords-items}
use Rattle.ecat_commands.proofs.commands.where_broken.Goals as goal

pub returns : goal.returns
returns c =
    c.command.ensures where_words (AreWords-items where_words c.in_ok-words.ensures.items (c.scene.ensures, (c.at.ensures, (c.raw.ensures, (c.through.ensures, (c.json.ensures, tt))))))
