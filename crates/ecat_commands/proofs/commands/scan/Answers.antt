use Rattle.ecat_commands.specs.Commands.{scan_words}
use Rattle.ecat_commands.proofs.CommandLemmas.{AreWords-items}
use Rattle.ecat_commands.proofs.commands.scan.Goals as goal

pub returns : goal.returns
returns c =
    c.command.ensures scan_words (AreWords-items scan_words c.in_ok-words.ensures.items (c.at.ensures, (c.raw.ensures, (c.through.ensures, (c.limit.ensures, (c.late.ensures, (c.option.ensures, (c.force.ensures, (c.json.ensures, tt)))))))))
