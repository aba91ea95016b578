-- What standard error is told of the cycles of a master.
use Rattle.std.specs.Prelude.{Bool, true, false}
use Rattle.ecat_acts.specs.declared.progress.Progress.{Progress}
use Rattle.ecat_acts.specs.declared.progress.Progress.TheVariants.{Nothing, Lines, Screen}

-- where no word says it: at a terminal a page, or lines where commands are typed there too; else nothing
abbrev pub usual_progress : Bool → Bool → Progress
usual_progress false control = Nothing
usual_progress true true = Lines
usual_progress true false = Screen

-- a line each second is told
abbrev pub tells_lines : Progress → Bool
tells_lines Nothing = false
tells_lines Lines = true
tells_lines Screen = false
