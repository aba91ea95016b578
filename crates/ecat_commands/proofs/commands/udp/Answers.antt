use Rattle.ecat_commands.specs.Commands.{udp_words}
use Rattle.ecat_commands.proofs.CommandLemmas.{AreWords-items}
use Rattle.ecat_commands.proofs.commands.udp.Goals as goal

pub returns : goal.returns
returns c =
    c.command.ensures udp_words (AreWords-items udp_words c.in_ok-words.ensures.items (
      c.scene.ensures,
      (c.port.ensures, (c.judge.ensures, (c.pcap.ensures, (c.force.ensures, tt)))),
    ))
