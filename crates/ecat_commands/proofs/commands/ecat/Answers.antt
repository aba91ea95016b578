use Rattle.std.proofs.Common.{◌∙◌, ap}
use Rattle.clap.specs.Simple.{app_of_fields}
use Rattle.ecat_commands.specs.Commands.{needs_command}
use Rattle.ecat_commands.proofs.commands.ecat.Goals as goal

pub returns : goal.returns
returns c = (
  ap app_of_fields c.subcommand_required.ensures ∙ ap needs_command c.plain.ensures.0,
  ap (λ fields. fields.has_globals) c.subcommand_required.ensures ∙ c.plain.ensures.1,
)
