-- A fit line is one that breaks no rule, and of an unfit one the first fault is named: that of the first
-- rule, of the smallest numbers from left to right, and of the lowest address or bit.
use Rattle.std.specs.Prelude.{ℕ, List, [], ◌∷◌}
use Rattle.ec_esc.specs.State.{ControllerState}
use Rattle.ec_check.specs.declared.fault.MapFault.{MapFault}
use Rattle.ec_check.specs.declared.fault.MapFault.TheVariants.{TwinStation, BadFmmu, AreasMeet, OutsideArea}
use Rattle.ec_check.specs.declared.fault.MapFault.TheVariants.{TwiceWritten, TwiceRead, ReadAndWritten}
use Rattle.ec_check.specs.Order.{IsBefore}
use Rattle.ec_check.specs.Rules.{IsTwinStation, IsBadFmmu, IsMeetingOfAreas, IsOutsideArea, IsTwiceWritten}
use Rattle.ec_check.specs.Rules.{IsTwiceRead, IsReadAndWritten}

-- the line breaks the rule, where the fault says
abbrev pub Breaks : List ControllerState → MapFault → Type 0
Breaks line (TwinStation slave later_slave) = IsTwinStation line slave later_slave
Breaks line (BadFmmu slave fmmu) = IsBadFmmu line slave fmmu
Breaks line (AreasMeet slave number later_number address) =
    IsMeetingOfAreas line slave number later_number address
Breaks line (OutsideArea slave fmmu address) = IsOutsideArea line slave fmmu address
Breaks line (TwiceWritten slave fmmu later_fmmu bit) = IsTwiceWritten line slave fmmu later_fmmu bit
Breaks line (TwiceRead slave fmmu later_slave later_fmmu bit) =
    IsTwiceRead line slave fmmu later_slave later_fmmu bit
Breaks line (ReadAndWritten reader reader_fmmu writer writer_fmmu bit) =
    IsReadAndWritten line reader reader_fmmu writer writer_fmmu bit

-- the places of the rules
abbrev pub twin_station_rule : ℕ
twin_station_rule = 1

abbrev pub bad_fmmu_rule : ℕ
bad_fmmu_rule = 2

abbrev pub areas_meet_rule : ℕ
areas_meet_rule = 3

abbrev pub outside_area_rule : ℕ
outside_area_rule = 4

abbrev pub twice_written_rule : ℕ
twice_written_rule = 5

abbrev pub twice_read_rule : ℕ
twice_read_rule = 6

abbrev pub read_and_written_rule : ℕ
read_and_written_rule = 7

-- by these numbers faults are ordered: the rule's place, the parties, and the address or bit
abbrev pub numbers : MapFault → List ℕ
numbers (TwinStation slave later_slave) = twin_station_rule ∷ slave ∷ later_slave ∷ []
numbers (BadFmmu slave fmmu) = bad_fmmu_rule ∷ slave ∷ fmmu ∷ []
numbers (AreasMeet slave number later_number address) =
    areas_meet_rule ∷ slave ∷ number ∷ later_number ∷ address ∷ []
numbers (OutsideArea slave fmmu address) = outside_area_rule ∷ slave ∷ fmmu ∷ address ∷ []
numbers (TwiceWritten slave fmmu later_fmmu bit) = twice_written_rule ∷ slave ∷ fmmu ∷ later_fmmu ∷ bit ∷ []
numbers (TwiceRead slave fmmu later_slave later_fmmu bit) =
    twice_read_rule ∷ slave ∷ fmmu ∷ later_slave ∷ later_fmmu ∷ bit ∷ []
numbers (ReadAndWritten reader reader_fmmu writer writer_fmmu bit) =
    read_and_written_rule ∷ reader ∷ reader_fmmu ∷ writer ∷ writer_fmmu ∷ bit ∷ []

-- the line breaks no rule
abbrev pub IsFit : List ControllerState → Type 0
IsFit line = (fault : MapFault) → ¬ Breaks line fault

-- the line has this fault, and none that comes before it
pub record IsFirstFault (line : List ControllerState) (fault : MapFault) : Type 0 where
  pub broken : Breaks line fault
  pub first : (other : MapFault) → Breaks line other → ¬ IsBefore (numbers other) (numbers fault)
