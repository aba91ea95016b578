-- A turn of a service over held ports is that turn over ports that give what was held.
use Rattle.std.proofs.Common.{ℕ, Option, None, Some}
use Rattle.ec_master.specs.Ports.{Trips}
use Rattle.ec_ring.specs.declared.weather.Came.{Came}
use Rattle.ec_services.specs.declared.fault.MasterFault.{MasterFault}
use Rattle.ec_acyclic.specs.Next.{TalkState}
use Rattle.ec_acyclic.specs.Question.{IsQuestion}
use Rattle.ec_acyclic.specs.Talk.{given_up}
use Rattle.ec_acyclic.specs.Turn.{IsServiceTurn, IsTurnUnless}
use Rattle.ec_acyclic.specs.declared.next.Next.{Next}
use Rattle.ec_acyclic.specs.declared.next.Next.TheVariants.{NoMailboxes, Upload, Download, Request, Reached}
use Rattle.ec_acyclic.specs.declared.next.Next.TheVariants.{InWhich, Acknowledge, Cleared}
use Rattle.ec_acyclic.specs.declared.turn.Turn.{Turn}
use Rattle.ec_turns.specs.Held.{Give, HeldState, HeldTrips, giving}
use Rattle.ec_turns.proofs.GivenLemmas.{asked_over, frame_is_sent, step_over, told_over}

question_over : {P : Type 0} (trips : Trips P) (before later : P) (came : Came) (held : HeldState)
    (station : ℕ) (next : Next) (replied : _) → Give trips before came held later
    → IsQuestion HeldTrips (giving came) station next replied held
    → IsQuestion trips before station next replied later
question_over trips before later came held station NoMailboxes replied give (is, same) =
    absurd (frame_is_sent trips before later came held give same)
question_over trips before later came held station (Upload index sub known) replied give
    (value, known_later, goes, is) = (
      value,
      known_later,
      record {
        decided = goes.decided;
        step = step_over trips before later came held _ _ goes.decided known_later give goes.step;
        tells = goes.tells;
      },
      is,
    )
question_over trips before later came held station (Download index sub written known) replied give
    (stored, known_later, goes, is) = (
      stored,
      known_later,
      record {
        decided = goes.decided;
        step = step_over trips before later came held _ _ goes.decided known_later give goes.step;
        tells = goes.tells;
      },
      is,
    )
question_over trips before later came held station (Request state) replied give (written, asked, is) =
    (written, asked_over trips before later came held _ _ give asked, is)
question_over trips before later came held station (Reached state) replied give (reached, asked, is) =
    (reached, asked_over trips before later came held _ _ give asked, is)
question_over trips before later came held station InWhich replied give (status, told, is) =
    (status, told_over trips before later came held _ _ status give told, is)
question_over trips before later came held station (Acknowledge state) replied give (written, asked, is) =
    (written, asked_over trips before later came held _ _ give asked, is)
question_over trips before later came held station Cleared replied give (cleared, asked, is) =
    (cleared, asked_over trips before later came held _ _ give asked, is)

turn_unless_over : {P : Type 0} (trips : Trips P) (before later : P) (came : Came) (held : HeldState)
    (t : TalkState) (why : Option MasterFault) (turn : Turn) → Give trips before came held later
    → IsTurnUnless HeldTrips (giving came) t why turn held → IsTurnUnless trips before t why turn later
turn_unless_over trips before later came held t (Some fault) turn give (is, same) =
    absurd (frame_is_sent trips before later came held give same)
turn_unless_over trips before later came held t None turn give (replied, asked, is) =
    (replied, question_over trips before later came held t.station t.next replied give asked, is)

pub service_turn_over : {P : Type 0} (trips : Trips P) (before later : P) (came : Came) (held : HeldState)
    (t : TalkState) (turn : Turn) → Give trips before came held later
    → IsServiceTurn HeldTrips (giving came) t turn held → IsServiceTurn trips before t turn later
service_turn_over trips before later came held t turn give taken =
    turn_unless_over trips before later came held t (given_up t) turn give taken
