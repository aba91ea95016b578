-- A turn of a service behind a cycle of a running master: one question is asked of the slave, by one frame.
use Rattle.std.specs.Prelude.{◌≡◌, ℕ, ◌+◌, ◌-◌, nat_lt, if◌then◌else◌, Option, None, Some, Ok, Err}
use Rattle.ec_master.specs.Ports.{Trips}
use Rattle.ec_services.specs.declared.fault.MasterFault.{MasterFault}
use Rattle.ec_services.specs.declared.fault.MasterFault.TheVariants.{NoSlave}
use Rattle.ec_acyclic.specs.Next.{TalkState}
use Rattle.ec_acyclic.specs.Question.{IsQuestion, Told}
use Rattle.ec_acyclic.specs.Talk.{given_up}
use Rattle.ec_acyclic.specs.declared.next.Next.{Next}
use Rattle.ec_acyclic.specs.declared.next.Reply.{Reply}
use Rattle.ec_acyclic.specs.declared.talk.TheConstants.{MORE_TRIES}
use Rattle.ec_acyclic.specs.declared.turn.Turn.{Turn}
use Rattle.ec_acyclic.specs.declared.turn.Turn.TheVariants.{Goes, Ended}

-- there is another turn, with a trip less, and so many questions in a row that no slave answered
abbrev pub goes : TalkState → Next → ℕ → Turn
goes t next unanswered =
    Goes (record t { next = next; unanswered = unanswered; trips = t.trips - 1 })

-- the answer ends it, and so does a fault; but where no slave answered the question is asked again, if that
-- was not so too often in a row
abbrev pub turn_told : TalkState → Next → Told → Turn
turn_told t next (Ok (Some answer)) = Ended (Ok answer)
turn_told t next (Ok None) = goes t next 0
turn_told t next (Err fault) = elim fault [
  | NoSlave ↦ if nat_lt t.unanswered MORE_TRIES then goes t next (t.unanswered + 1) else Ended (Err NoSlave)
  | other ↦ Ended (Err other)
]

abbrev pub turn_of : TalkState → Reply → Turn
turn_of t replied = turn_told t replied.next replied.told

-- unless it is given up, without a trip, what goes out next is asked
abbrev pub IsTurnUnless : {P : Type 0} → Trips P → P → TalkState → Option MasterFault → Turn → P → Type 0
IsTurnUnless trips before t (Some fault) turn later = (turn ≡ Ended (Err fault)) × (later ≡ before)
IsTurnUnless trips before t None turn later =
    (replied : Reply) × IsQuestion trips before t.station t.next replied later × (turn ≡ turn_of t replied)

abbrev pub IsServiceTurn : {P : Type 0} → Trips P → P → TalkState → Turn → P → Type 0
IsServiceTurn trips before t turn later = IsTurnUnless trips before t (given_up t) turn later
