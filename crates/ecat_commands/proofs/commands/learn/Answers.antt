use Rattle.ecat_commands.specs.Commands.{learn_words}
use Rattle.ecat_commands.proofs.CommandLemmas.{AreWords-items}
use Rattle.ecat_commands.proofs.commands.learn.Goals as goal

pub returns : goal.returns
returns c =
    c.command.ensures learn_words (AreWords-items learn_words c.in_ok-words.ensures.items (
      c.needed.ensures,
      (c.option.ensures, (c.flag.ensures, (c.flag-2.ensures, tt))),
    ))
