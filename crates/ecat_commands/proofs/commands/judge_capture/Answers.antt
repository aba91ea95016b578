use Rattle.ecat_commands.specs.Commands.{judge_words}
use Rattle.ecat_commands.proofs.CommandLemmas.{AreWords-items}
use Rattle.ecat_commands.proofs.commands.judge_capture.Goals as goal

pub returns : goal.returns
returns c =
    c.command.ensures judge_words (AreWords-items judge_words c.in_ok-words.ensures.items (
      c.needed.ensures,
      (c.optional.ensures, (c.flag.ensures, (c.option.ensures, (c.clock.ensures, (c.json.ensures, tt))))),
    ))
