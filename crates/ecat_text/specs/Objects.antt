-- What is printed of a transfer: the value, or what is in the way, and how many trips it took.
use Rattle.std.specs.Prelude.{ℕ, ◌++◌, List, codes}
use Rattle.std.specs.Fmt.{decimal}
use Rattle.ec_app.specs.declared.value.Value.{Value}
use Rattle.ec_app.specs.declared.value.Value.TheVariants.{One, Two, Four}
use Rattle.ec_services.specs.declared.fault.MasterFault.{MasterFault}
use Rattle.ec_services.specs.declared.fault.MasterFault.TheVariants.{NoSlave, Refused, Abort, NoAnswer}
use Rattle.ec_services.specs.declared.fault.MasterFault.TheVariants.{BadAnswer, Broken, Port, Stranger}
use Rattle.ecat_text.specs.Words.{hexadecimal}

-- a value, with two digits for each of its bytes
abbrev pub value_words : Value → List ℕ
value_words (One n) = codes "value 0x" ++ hexadecimal 2 n
value_words (Two n) = codes "value 0x" ++ hexadecimal 4 n
value_words (Four n) = codes "value 0x" ++ hexadecimal 8 n

-- a fault by its name, and the code of a slave's abort
abbrev pub fault_words : MasterFault → List ℕ
fault_words NoSlave = codes "fault NoSlave"
fault_words (Refused code) = codes "fault Refused"
fault_words (Abort code) = codes "abort 0x" ++ hexadecimal 8 code
fault_words NoAnswer = codes "fault NoAnswer"
fault_words BadAnswer = codes "fault BadAnswer"
fault_words Broken = codes "fault Broken"
fault_words Port = codes "fault Port"
fault_words Stranger = codes "fault Stranger"

-- how many trips were made
unfoldable pub trips_words : ℕ → List ℕ
trips_words made = codes "trips " ++ decimal made
