-- A question over held ports is that question over ports that give what was held.
use Rattle.std.proofs.Common.{◌≡◌, ℕ, List, [], ◌∷◌, Option, None, Some, Result, Ok, sym, ◌∙◌, ap, subst}
use Rattle.ec_wire.specs.Datagram.{DatagramRecord}
use Rattle.ec_master.specs.Ports.{Trips}
use Rattle.ec_ring.specs.declared.port.PortFault.{PortFault}
use Rattle.ec_ring.specs.declared.weather.Came.{Came}
use Rattle.ec_services.specs.Ask.{Answer, Asks, IsAsked, Question}
use Rattle.ec_services.specs.Course.{Course, IsStep, IsTold}
use Rattle.ec_services.specs.declared.fault.MasterFault.{MasterFault}
use Rattle.ec_run.specs.Recovery.{IsLookedAt}
use Rattle.ec_run.specs.declared.recovery.Seen.{Seen}
use Rattle.ec_turns.specs.Held.{Give, HeldState, HeldTrips, giving, nothing}

-- no turn without a trip has a frame
pub frame_is_sent : {P : Type 0} (trips : Trips P) (before later : P) (came : Came) (held : HeldState)
    → Give trips before came held later → held ≡ giving came → ⊥
frame_is_sent trips before later came held give same =
    let none : Some give.frame ≡ None =
    sym give.sent ∙ ap (λ (h : HeldState). h.sent) same in
    absurd (cc)

pub asks_over : {P : Type 0} (trips : Trips P) (before later : P) (came : Came) (held : HeldState)
    (sent : DatagramRecord) (answer : Answer) → Give trips before came held later
    → Asks HeldTrips (giving came) sent answer held → Asks trips before sent answer later
asks_over {P} trips before later came held sent answer give asks =
    let heard : asks.came ≡ Ok came = asks.made.0 in
    let is : held ≡ record { came = nothing; sent = Some (sent ∷ []) } = asks.made.1 in
    let both : Some give.frame ≡ Some (sent ∷ []) = sym give.sent ∙ ap (λ (h : HeldState). h.sent) is in
    let frame : give.frame ≡ sent ∷ [] = cc in
    let made : trips before (sent ∷ []) (Ok came) later =
    subst (λ (f : List DatagramRecord). trips before f (Ok came) later) frame give.made in
    record {
      came = asks.came;
      made = subst (λ (c : Result Came PortFault). trips before (sent ∷ []) c later) (sym heard) made;
      brings = asks.brings;
    }

pub asked_over : {P A : Type 0} (trips : Trips P) (before later : P) (came : Came) (held : HeldState)
    (q : Question A) (decided : Result (Option A) MasterFault) → Give trips before came held later
    → IsAsked HeldTrips (giving came) q decided held → IsAsked trips before q decided later
asked_over trips before later came held q decided give asked = record {
  answer = asked.answer;
  asks = asks_over trips before later came held q.sent asked.answer give asked.asks;
  decides = asked.decides;
}

pub told_over : {P A : Type 0} (trips : Trips P) (before later : P) (came : Came) (held : HeldState)
    (sent : DatagramRecord) (says : Answer → Result A MasterFault) (told : Result A MasterFault)
    → Give trips before came held later → IsTold HeldTrips (giving came) sent says told held
    → IsTold trips before sent says told later
told_over trips before later came held sent says told give is = record {
  answer = is.answer;
  asks = asks_over trips before later came held sent is.answer give is.asks;
  tells = is.tells;
}

pub step_over : {P S A : Type 0} (trips : Trips P) (before later : P) (came : Came) (held : HeldState)
    (course : Course S A) (known : S) (decided : Result (Option A) MasterFault) (known_later : S)
    → Give trips before came held later
    → IsStep HeldTrips (giving came) course known decided known_later held
    → IsStep trips before course known decided known_later later
step_over trips before later came held course known decided known_later give step = record {
  answer = step.answer;
  asks = asks_over trips before later came held (course.sent known) step.answer give step.asks;
  decides = step.decides;
  learns = step.learns;
}

pub look_over : {P : Type 0} (trips : Trips P) (before later : P) (came : Came) (held : HeldState) (station : ℕ)
    (seen : Result Seen MasterFault) → Give trips before came held later
    → IsLookedAt HeldTrips (giving came) station seen held → IsLookedAt trips before station seen later
look_over trips before later came held station seen give is = record {
  reply = is.reply;
  replied = record {
    answer = is.replied.answer;
    asks = asks_over trips before later came held _ is.replied.answer give is.replied.asks;
    tells = is.replied.tells;
  };
  shows = is.shows;
}
