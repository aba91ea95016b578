-- Why a question to a slave has no result, in numbers.
use Rattle.std.specs.Prelude.{ℕ}
use Rattle.ec_services.specs.declared.fault.MasterFault.{MasterFault}
use Rattle.ec_services.specs.declared.fault.MasterFault.TheVariants as faults
use Rattle.rummymaple.specs.declared.numbers.Code.{Code}
use Rattle.rummymaple.specs.declared.numbers.Code.TheVariants as codes

abbrev pub failure_code : MasterFault → Code
failure_code faults.NoSlave = codes.NoSlave
failure_code (faults.Refused code) = codes.Refused
failure_code (faults.Abort code) = codes.Aborted
failure_code faults.NoAnswer = codes.NoAnswer
failure_code faults.Port = codes.NoAnswer
failure_code faults.BadAnswer = codes.BadAnswer
failure_code faults.Broken = codes.BadAnswer
failure_code faults.Stranger = codes.Stranger

-- the AL status code of a refusal, or the code of an abort
abbrev pub failure_number : MasterFault → ℕ
failure_number faults.NoSlave = 0
failure_number (faults.Refused code) = code
failure_number (faults.Abort code) = code
failure_number faults.NoAnswer = 0
failure_number faults.Port = 0
failure_number faults.BadAnswer = 0
failure_number faults.Broken = 0
failure_number faults.Stranger = 0
