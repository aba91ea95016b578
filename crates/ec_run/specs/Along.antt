-- A look along a line (IEC 61158-6-12, AL status): one frame asks many slaves for their AL status.
use Rattle.std.specs.Prelude.{◌≡◌, ℕ, ◌+◌, ◌%◌, ◌==◌, ◌&&◌, ◌||◌, Bool, false, if◌then◌else◌, List, [], ◌∷◌}
use Rattle.std.specs.Prelude.{map, take, drop, replicate, slice_get, length, Option, None, Some, is_some}
use Rattle.std.specs.Prelude.{Result, Ok, Err}
use Rattle.ec_wire.specs.Datagram.{DatagramRecord, address_of}
use Rattle.ec_wire.specs.declared.command.Command.TheVariants.{Fprd}
use Rattle.ec_regs.specs.declared.registers.TheConstants.{AL_STATUS}
use Rattle.ec_ring.specs.declared.port.PortFault.{PortFault}
use Rattle.ec_ring.specs.declared.weather.Came.{Came}
use Rattle.ec_master.specs.Ports.{ComesTo, Trips}
use Rattle.ec_master.specs.declared.cycle.CycleFault.TheVariants.{Stranger as StrangerCame}
use Rattle.ec_services.specs.Ask.{Answer, request}
use Rattle.ec_services.specs.declared.asking.Back.{Back}
use Rattle.ec_services.specs.declared.fault.MasterFault.{MasterFault}
use Rattle.ec_services.specs.declared.fault.MasterFault.TheVariants.{Port, Stranger}
use Rattle.ec_run.specs.declared.along.Along.{Along}
use Rattle.ec_run.specs.declared.along.TheConstants.{OP, STATES}
use Rattle.ec_run.specs.declared.wanted.Wanted.{Wanted}

-- the read of the AL status of a slave
abbrev pub state_read : Wanted → DatagramRecord
state_read wanted = request Fprd (address_of wanted.station AL_STATUS) (replicate 2 0)

-- the reads of some slaves from a place of the line on, in their order
pub record AreRead (line : List Wanted) (first : ℕ) (sent : List DatagramRecord) : Type 0 where
  pub number : ℕ
  pub are : sent ≡ map state_read (take number (drop first line))

-- does the first byte of AL status say Op and no error
abbrev pub is_op : Option ℕ → Bool
is_op None = false
is_op (Some status) = status % STATES == OP

-- one slave has answered, and says that it is in Op without an error
abbrev pub tells_op : DatagramRecord → Bool
tells_op d = (d.counter == 1) && is_op (slice_get d.payload 0)

-- which of the datagrams is the first that does not tell it, counted from this number on
unfoldable pub first_out : List DatagramRecord → ℕ → Option ℕ
first_out [] k = None
first_out (d ∷ rest) k = if tells_op d then first_out rest (k + 1) else Some k

-- ---- one trip of a frame, and what it brings: its copies are joined, unless one is a stranger or it failed
abbrev pub Brings : List DatagramRecord → Result Came PortFault → Answer → Type 0
Brings sent (Err failed) answer = answer ≡ Err Port
Brings sent (Ok came) (Err fault) = (fault ≡ Stranger) × ComesTo sent (Ok came) (Err StrangerCame)
Brings sent (Ok came) (Ok back) = (back.came ≡ came) × ComesTo sent (Ok came) (Ok back.joined)

pub record IsSent {P : Type 0} (trips : Trips P) (before : P) (sent : List DatagramRecord) (answer : Answer)
    (later : P) : Type 0 where
  pub came : Result Came PortFault
  pub made : trips before sent came later
  pub brings : Brings sent came answer

-- ---- the look

-- how many slaves an answer is of, and which of these is the first of which it does not tell it; none where
-- no copy came
abbrev pub along_in : Back → Along
along_in back =
    if is_some back.came.a || is_some back.came.b
    then record { asked = length back.joined; out = first_out back.joined 0 }
    else record { asked = 0; out = None }

abbrev pub along_of : Answer → Result Along MasterFault
along_of (Ok back) = Ok (along_in back)
along_of (Err fault) = Err fault

-- one frame asks slaves of a line, from a place on, and this is the answer
pub record IsAlong {P : Type 0} (trips : Trips P) (before : P) (line : List Wanted) (first : ℕ)
    (result : Result Along MasterFault) (later : P) : Type 0 where
  pub sent : List DatagramRecord
  pub reads : AreRead line first sent
  pub answer : Answer
  pub is_sent : IsSent trips before sent answer later
  pub is : result ≡ along_of answer
