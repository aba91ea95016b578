-- The exit status of a line that could not be started: 3 where a port failed, whoever was asked, and else 1.
use Rattle.std.specs.Prelude.{ℕ, Result, Ok, Err}
use Rattle.ec_app.specs.declared.value.Value.{Value}
use Rattle.ec_services.specs.declared.fault.MasterFault.{MasterFault}
use Rattle.ec_services.specs.declared.fault.MasterFault.TheVariants.{Port}
use Rattle.ecat_master.specs.declared.run.TheConstants.{FAILED, REFUSED}
use Rattle.ecat_master.specs.declared.startup.StartFault.{StartFault}
use Rattle.ecat_master.specs.declared.startup.StartFault.TheVariants.{Ask, Step, Identity}

-- of a question without an answer
abbrev pub asked_status : MasterFault → ℕ
asked_status Port = FAILED
asked_status _ = REFUSED

-- of an entry of an identity that is another one, or could not be read
abbrev pub found_status : Result Value MasterFault → ℕ
found_status (Ok value) = REFUSED
found_status (Err fault) = asked_status fault

abbrev pub start_status : StartFault → ℕ
start_status (Ask fault) = asked_status fault
start_status (Step failed) = asked_status failed.fault
start_status (Identity slave) = found_status slave.found
start_status _ = REFUSED
