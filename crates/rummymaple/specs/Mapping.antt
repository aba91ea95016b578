-- How the check of a line by its records ends.
use Rattle.std.specs.Prelude.{ℕ, List, Option, None, Some}
use Rattle.ec_check.specs.Fit.{IsFit, IsFirstFault}
use Rattle.ec_check.specs.Line.{controllers_by}
use Rattle.ec_check.specs.declared.fault.MapFault.{MapFault}
use Rattle.ec_check.specs.declared.fault.MapFault.TheVariants.{TwinStation, BadFmmu, AreasMeet, OutsideArea}
use Rattle.ec_check.specs.declared.fault.MapFault.TheVariants.{TwiceWritten, TwiceRead, ReadAndWritten}
use Rattle.ec_esc.specs.State.{ControllerState}
use Rattle.ec_check.specs.Records.{controller_with}
use Rattle.rummymaple.specs.declared.mapping.MapAnswer.{MapAnswer}
use Rattle.ec_check.specs.declared.records.Records.{Records}

-- the controllers of a line, by their records
abbrev pub line_of : List Records → List ControllerState
line_of records = controllers_by controller_with records

-- whether a line breaks no rule, or its first fault
abbrev pub IsChecked : List Records → Option MapFault → Type 0
IsChecked records None = IsFit (line_of records)
IsChecked records (Some fault) = IsFirstFault (line_of records) fault

-- the parties of a fault and where it is, in numbers: the rule, the first slave and its record, the other
-- slave and its record, and the address or bit
abbrev pub map_answer : Option MapFault → MapAnswer
map_answer None =
    record { rule = 0; slave = 0; number = 0; other_slave = 0; other_number = 0; place = 0 }
map_answer (Some (TwinStation slave later)) =
    record { rule = 1; slave = slave; number = 0; other_slave = later; other_number = 0; place = 0 }
map_answer (Some (BadFmmu slave fmmu)) =
    record { rule = 2; slave = slave; number = fmmu; other_slave = slave; other_number = fmmu; place = 0 }
map_answer (Some (AreasMeet slave number later address)) =
    record {
      rule = 3;
      slave = slave;
      number = number;
      other_slave = slave;
      other_number = later;
      place = address;
    }
map_answer (Some (OutsideArea slave fmmu address)) =
    record {
      rule = 4;
      slave = slave;
      number = fmmu;
      other_slave = slave;
      other_number = fmmu;
      place = address;
    }
map_answer (Some (TwiceWritten slave fmmu later bit)) =
    record { rule = 5; slave = slave; number = fmmu; other_slave = slave; other_number = later; place = bit }
map_answer (Some (TwiceRead slave fmmu later_slave later_fmmu bit)) =
    record {
      rule = 6;
      slave = slave;
      number = fmmu;
      other_slave = later_slave;
      other_number = later_fmmu;
      place = bit;
    }
map_answer (Some (ReadAndWritten reader fmmu writer writer_fmmu bit)) =
    record {
      rule = 7;
      slave = reader;
      number = fmmu;
      other_slave = writer;
      other_number = writer_fmmu;
      place = bit;
    }

-- a line of more slaves than a line can have, and how many they are
abbrev pub long_line : ℕ → MapAnswer
long_line count =
    record { rule = 8; slave = 0; number = 0; other_slave = 0; other_number = 0; place = count }
