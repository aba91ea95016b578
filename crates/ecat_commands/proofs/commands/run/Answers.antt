use Rattle.ecat_commands.specs.Commands.{run_words}
use Rattle.ecat_commands.proofs.CommandLemmas.{AreWords-items}
use Rattle.ecat_commands.proofs.commands.run.Goals as goal

pub returns : goal.returns
returns c =
    c.command.ensures run_words (AreWords-items run_words c.in_ok-words.ensures.items (
      c.scene.ensures,
      (c.judge.ensures, (c.pcap.ensures, (c.force.ensures, tt))),
    ))
