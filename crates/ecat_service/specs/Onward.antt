-- How a service goes on behind a command that was done: `quit` ends it, and three commands have something
-- befall the next copies that leave an end.
use Rattle.ecat_scene.specs.declared.bench.BenchCommand.{BenchCommand}
use Rattle.ecat_scene.specs.declared.bench.BenchCommand.TheVariants.{Late, Double, Damage, Quit}
use Rattle.ecat_serve.specs.declared.commands.Onward.{Onward}
use Rattle.ecat_serve.specs.declared.commands.Onward.TheVariants.{Ends, Goes, Disturbed}
use Rattle.ecat_serve.specs.declared.disturbed.Disturbance.TheVariants as befalls

abbrev pub onward_of : BenchCommand → Onward
onward_of (Late at milliseconds count) = Disturbed at (befalls.Late milliseconds) count
onward_of (Double at count) = Disturbed at befalls.Double count
onward_of (Damage at count) = Disturbed at befalls.Damage count
onward_of Quit = Ends
onward_of _ = Goes
