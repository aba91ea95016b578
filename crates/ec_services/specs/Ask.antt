-- A service asks one question after the other: a datagram goes out alone in a frame, and what comes back of
-- it decides the service, or the next question is asked.
use Rattle.std.specs.Prelude.{◌≡◌, ℕ, ◌==◌, nat_lt, false, Option, None, Some, List, [], ◌∷◌}
use Rattle.std.specs.Prelude.{Result, Ok, Err}
use Rattle.ec_wire.specs.Datagram.{DatagramRecord, nth}
use Rattle.ec_wire.specs.declared.command.Command.{Command}
use Rattle.ec_app.specs.Table.{first_fitting}
use Rattle.ec_ring.specs.declared.weather.Came.{Came}
use Rattle.ec_master.specs.Ports.{Trips, ComesTo}
use Rattle.ec_master.specs.declared.cycle.CycleFault.TheVariants.{Stranger as StrangerFrame}
use Rattle.ec_ring.specs.declared.port.PortFault.{PortFault}
use Rattle.ec_services.specs.declared.asking.Back.{Back}
use Rattle.ec_services.specs.declared.fault.MasterFault.{MasterFault}
use Rattle.ec_services.specs.declared.fault.MasterFault.TheVariants.{NoSlave, BadAnswer, Port, Stranger}

-- ---- the datagram

-- a datagram with these data, its index and its working counter 0
abbrev pub request : Command → ℕ → List ℕ → DatagramRecord
request command address payload = record {
  command = command;
  index = 0;
  address = address;
  circulating = false;
  irq = 0;
  payload = payload;
  counter = 0;
}

-- ---- what comes back

-- the copies of a datagram and what they join to, or why there is no answer
abbrev pub Answer : Type 0
Answer = Result Back MasterFault

-- the joined datagram
abbrev pub told_by : Back → DatagramRecord
told_by back = nth back.joined 0

-- what a trip brings: its copies are joined, unless one is a stranger or the trip failed
abbrev pub Brings : DatagramRecord → Result Came PortFault → Answer → Type 0
Brings sent (Err failed) answer = answer ≡ Err Port
Brings sent (Ok came) (Err fault) = (fault ≡ Stranger) × ComesTo (sent ∷ []) (Ok came) (Err StrangerFrame)
Brings sent (Ok came) (Ok back) = (back.came ≡ came) × ComesTo (sent ∷ []) (Ok came) (Ok back.joined)

-- a datagram goes out over ports alone in a frame, and this is the answer
pub record Asks {P : Type 0} (trips : Trips P) (before : P) (sent : DatagramRecord) (answer : Answer)
    (later : P) : Type 0 where
  pub came : Result Came PortFault
  pub made : trips before (sent ∷ []) came later
  pub brings : Brings sent came answer

-- ---- questions

-- a datagram, and what an answer to it decides: the service's result, or nothing
pub record Question (A : Type 0) : Type 0 where
  pub sent : DatagramRecord
  pub decides : Answer → Result (Option A) MasterFault

-- a question is asked, and its answer decides this
pub record IsAsked {P A : Type 0} (trips : Trips P) (before : P) (q : Question A)
    (decided : Result (Option A) MasterFault) (later : P) : Type 0 where
  pub answer : Answer
  pub asks : Asks trips before q.sent answer later
  pub decides : decided ≡ q.decides answer

-- questions are asked in their order until an answer decides the result; `undecided` where none does
unfoldable pub Talks : {P A : Type 0} → Trips P → P → List (Question A) → Result A MasterFault
    → Result A MasterFault → P → Type 0
Talks trips before [] undecided result later = (result ≡ undecided) × (later ≡ before)
Talks {P} {A} trips before (q ∷ rest) undecided result later =
    (decided : Result (Option A) MasterFault) × (between : P) × IsAsked trips before q decided between
    × (elim decided [
      | Err fault ↦ (result ≡ Err fault) × (later ≡ between)
      | Ok told ↦ elim told [
        | Some value ↦ (result ≡ Ok value) × (later ≡ between)
        | None ↦ Talks trips between rest undecided result later
      ]
    ])

-- ---- a write to one slave

-- it decides only where it fails: where no slave took it, or more than one did
abbrev pub write_decides : {A : Type 0} → Answer → Result (Option A) MasterFault
write_decides (Err fault) = Err fault
write_decides (Ok back) =
    first_fitting
    (((told_by back).counter == 0, Err NoSlave)
    ∷ (nat_lt 1 (told_by back).counter, Err BadAnswer)
    ∷ []) (Ok None)

-- a write that is done decides nothing yet
abbrev pub done : {A : Type 0} → Result (Unit {0}) MasterFault → Result (Option A) MasterFault
done (Err fault) = Err fault
done (Ok _) = Ok None

-- the question by which a write is done
abbrev pub write : {A : Type 0} → DatagramRecord → Question A
write sent = record { sent = sent; decides = write_decides }
