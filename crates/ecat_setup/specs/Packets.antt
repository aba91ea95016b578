-- Which scenes a line has that packets reach: those without actions and weathers.
use Rattle.std.specs.Prelude.{Bool, not, ◌||◌, ◌==◌, Result, Ok, Err, if◌then◌else◌, vec_len}
use Rattle.ecat_scene.specs.declared.scene.Scene.{Scene}
use Rattle.ecat_setup.specs.declared.failure.LineFailure.{LineFailure}
use Rattle.ecat_setup.specs.declared.failure.LineFailure.TheVariants.{Actions}

-- a scene with actions or weathers is for `run` alone
abbrev pub is_for_run_alone : Scene → Bool
is_for_run_alone scene = not (vec_len scene.actions == 0) || not (vec_len scene.weathers == 0)

-- any other one is taken as it is
abbrev pub for_packets : Scene → Result Scene LineFailure
for_packets scene = if is_for_run_alone scene then Err Actions else Ok scene
