-- A turn of a service makes one trip at the most.
use Rattle.std.proofs.Common.{ℕ, [], ◌∷◌, Option, None, Some}
use Rattle.ec_wire.specs.Datagram.{DatagramRecord}
use Rattle.ec_master.specs.Ports.{Trips}
use Rattle.ec_services.specs.Ask.{Answer, Asks}
use Rattle.ec_services.specs.declared.fault.MasterFault.{MasterFault}
use Rattle.ec_run.specs.Travels.{IsWithin}
use Rattle.ec_run.proofs.Laws.{within_none, within_one}
use Rattle.ec_acyclic.specs.Next.{TalkState}
use Rattle.ec_acyclic.specs.Question.{IsQuestion}
use Rattle.ec_acyclic.specs.Talk.{given_up}
use Rattle.ec_acyclic.specs.Turn.{IsServiceTurn, IsTurnUnless}
use Rattle.ec_acyclic.specs.declared.next.Next.{Next}
use Rattle.ec_acyclic.specs.declared.next.Next.TheVariants.{NoMailboxes, Upload, Download, Request, Reached}
use Rattle.ec_acyclic.specs.declared.next.Next.TheVariants.{InWhich, Acknowledge, Cleared}
use Rattle.ec_acyclic.specs.declared.next.Reply.{Reply}
use Rattle.ec_acyclic.specs.declared.turn.Turn.{Turn}

asks_within : {P : Type 0} (trips : Trips P) (before later : P) (sent : DatagramRecord) (answer : Answer)
    → Asks trips before sent answer later → IsWithin trips 1 before later
asks_within trips before later sent answer asks =
    within_one trips before later (sent ∷ []) asks.came asks.made

question_within : {P : Type 0} (trips : Trips P) (before later : P) (station : ℕ) (next : Next)
    (replied : Reply) → IsQuestion trips before station next replied later → IsWithin trips 1 before later
question_within trips before later station NoMailboxes replied (is, same) =
    within_none trips 1 before later same
question_within trips before later station (Upload index sub known) replied (value, known_later, goes, is) =
    asks_within trips before later _ goes.step.answer goes.step.asks
question_within trips before later station (Download index sub value known) replied
    (stored, known_later, goes, is) =
    asks_within trips before later _ goes.step.answer goes.step.asks
question_within trips before later station (Request state) replied (written, asked, is) =
    asks_within trips before later _ asked.answer asked.asks
question_within trips before later station (Reached state) replied (reached, asked, is) =
    asks_within trips before later _ asked.answer asked.asks
question_within trips before later station InWhich replied (status, told, is) =
    asks_within trips before later _ told.answer told.asks
question_within trips before later station (Acknowledge state) replied (written, asked, is) =
    asks_within trips before later _ asked.answer asked.asks
question_within trips before later station Cleared replied (cleared, asked, is) =
    asks_within trips before later _ asked.answer asked.asks

turn_unless_within : {P : Type 0} (trips : Trips P) (before later : P) (t : TalkState)
    (why : Option MasterFault) (turn : Turn) → IsTurnUnless trips before t why turn later
    → IsWithin trips 1 before later
turn_unless_within trips before later t (Some fault) turn (is, same) =
    within_none trips 1 before later same
turn_unless_within trips before later t None turn (replied, asked, is) =
    question_within trips before later t.station t.next replied asked

pub service_turn_within : {P : Type 0} (trips : Trips P) (before later : P) (t : TalkState) (turn : Turn)
    → IsServiceTurn trips before t turn later → IsWithin trips 1 before later
service_turn_within trips before later t turn taken =
    turn_unless_within trips before later t (given_up t) turn taken
