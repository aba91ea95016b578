-- What the reading of a bench's line comes to: its command, or its fault with what was wanted.
use Rattle.std.specs.Prelude.{◌≡◌, ℕ, List, Result, Ok, Err}
use Rattle.std.specs.Borrow.{Bor}
use Rattle.ecat_scene.specs.declared.bench.BenchCommand.{BenchCommand}
use Rattle.ecat_scene.specs.declared.bench.CommandFault.{CommandFault}
use Rattle.ecat_scene.specs.declared.bench.CommandFault.TheVariants.{NoMemory as NoMemoryForLine, Refused}
use Rattle.ecat_scene.specs.declared.fault.LineFault.{LineFault}
use Rattle.ecat_scene.specs.declared.fault.Stop.{Stop}
use Rattle.ecat_scene.specs.declared.fault.Stop.TheVariants.{Fault, NoMemory}

-- what a line comes to that was to be of this form
abbrev pub wanting : Bor (List ℕ) → Result BenchCommand Stop → Result BenchCommand CommandFault
wanting form (Ok command) = Ok command
wanting form (Err (Fault fault)) = Err (Refused fault form)
wanting form (Err NoMemory) = Err NoMemoryForLine

-- a line is refused for this fault
abbrev pub IsRefused : LineFault → Result BenchCommand CommandFault → Type 0
IsRefused fault (Ok command) = ⊥
IsRefused fault (Err NoMemoryForLine) = ⊥
IsRefused fault (Err (Refused found wanted)) = found ≡ fault
