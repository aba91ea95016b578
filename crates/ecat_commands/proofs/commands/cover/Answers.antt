use Rattle.ecat_commands.specs.Commands.{told_words}
use Rattle.ecat_commands.proofs.CommandLemmas.{AreWords-items}
use Rattle.ecat_commands.proofs.commands.cover.Goals as goal

pub returns : goal.returns
returns c =
    c.command.ensures told_words (AreWords-items told_words c.in_ok-words.ensures.items (
      c.scene.ensures,
      (c.json.ensures, tt),
    ))
