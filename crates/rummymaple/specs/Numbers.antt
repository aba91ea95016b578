-- The numbers that stand for names at the border to C.
use Rattle.std.specs.Prelude.{ℕ, Option, None, Some, ◌==◌, if◌then◌else◌}
use Rattle.ec_wire.specs.declared.fault.FaultKind.{FaultKind}
use Rattle.ec_wire.specs.declared.fault.FaultKind.TheVariants as kinds
use Rattle.ec_wire.specs.declared.fault.Form.{Form}
use Rattle.ec_wire.specs.declared.fault.Form.TheVariants.{Ethernet, Udp}
use Rattle.rummymaple.specs.declared.numbers.Code.{Code}
use Rattle.rummymaple.specs.declared.numbers.Code.TheVariants.{Good, Short, Over, StrangerA, StrangerB}
use Rattle.rummymaple.specs.declared.numbers.Code.TheVariants.{NoRoom, BadForm, NotSent, NotJoined}
use Rattle.rummymaple.specs.declared.numbers.Code.TheVariants.{OtherItem, TooMany, NoItem, BadKind}
use Rattle.rummymaple.specs.declared.numbers.Code.TheVariants.{BadLength, BadRange, BadPlace, FaultShort}
use Rattle.rummymaple.specs.declared.numbers.Code.TheVariants.{FaultBadType, FaultReserved, FaultEmpty}
use Rattle.rummymaple.specs.declared.numbers.Code.TheVariants.{FaultTooLong, FaultBadCommand, FaultOverrun}
use Rattle.rummymaple.specs.declared.numbers.Code.TheVariants.{FaultMoreAtEnd, FaultLeftOver, FaultTrailing}
use Rattle.rummymaple.specs.declared.numbers.Code.TheVariants.{NotUnderWay, OutsideRead, OutsideWrite}
use Rattle.rummymaple.specs.declared.numbers.Code.TheVariants.{NotAsked, Full, OtherFrame, OtherNumber}
use Rattle.rummymaple.specs.declared.numbers.Code.TheVariants.{NotBroadcast, BadCommand, LeftBy}
use Rattle.rummymaple.specs.declared.numbers.Code.TheVariants.{NeverCompleted, GoesOn, NoSlave, NoAnswer}
use Rattle.rummymaple.specs.declared.numbers.Code.TheVariants.{BadAnswer, Refused, Aborted, Stranger}
use Rattle.rummymaple.specs.declared.numbers.Code.TheVariants.{BadNumbers, OtherCount}
use Rattle.rummymaple.specs.declared.numbers.Copy.{Copy}
use Rattle.rummymaple.specs.declared.numbers.Copy.TheVariants.{Lost, Came, NoFrame}

-- the number of a code
abbrev pub number_of : Code → ℕ
number_of Good = 0
number_of Short = 1
number_of Over = 2
number_of StrangerA = 3
number_of StrangerB = 4
number_of NoRoom = 5
number_of BadForm = 6
number_of NotSent = 7
number_of NotJoined = 8
number_of OtherItem = 9
number_of TooMany = 10
number_of NoItem = 11
number_of BadKind = 12
number_of BadLength = 13
number_of BadRange = 14
number_of BadPlace = 15
number_of FaultShort = 16
number_of FaultBadType = 17
number_of FaultReserved = 18
number_of FaultEmpty = 19
number_of FaultTooLong = 20
number_of FaultBadCommand = 21
number_of FaultOverrun = 22
number_of FaultMoreAtEnd = 23
number_of FaultLeftOver = 24
number_of FaultTrailing = 25
number_of NotUnderWay = 26
number_of OutsideRead = 27
number_of OutsideWrite = 28
number_of NotAsked = 29
number_of Full = 30
number_of OtherFrame = 31
number_of OtherNumber = 32
number_of NotBroadcast = 33
number_of BadCommand = 34
number_of LeftBy = 35
number_of NeverCompleted = 36
number_of GoesOn = 37
number_of NoSlave = 38
number_of NoAnswer = 39
number_of BadAnswer = 40
number_of Refused = 41
number_of Aborted = 42
number_of Stranger = 43
number_of BadNumbers = 44
number_of OtherCount = 45

-- the code of a fault of bytes that are no frame
abbrev pub fault_code : FaultKind → Code
fault_code kinds.Short = FaultShort
fault_code kinds.BadType = FaultBadType
fault_code kinds.Reserved = FaultReserved
fault_code kinds.Empty = FaultEmpty
fault_code kinds.TooLong = FaultTooLong
fault_code kinds.BadCommand = FaultBadCommand
fault_code kinds.Overrun = FaultOverrun
fault_code kinds.MoreAtEnd = FaultMoreAtEnd
fault_code kinds.LeftOver = FaultLeftOver
fault_code kinds.Trailing = FaultTrailing

-- the form of a number
unfoldable pub form_of : ℕ → Option Form
form_of n = if n == 0 then Some Ethernet else (if n == 1 then Some Udp else None)

-- the number of what came of a copy
abbrev pub copy_number : Copy → ℕ
copy_number Lost = 0
copy_number Came = 1
copy_number NoFrame = 2
