-- An object of a slave is read or written surely (IEC 61158-6-12, SDO services): a request is posted where
-- both mailboxes were seen empty, each with a counter of its own, until a mail answers the last of them.
use Rattle.std.specs.Prelude.{◌≡◌, ℕ, ◌==◌, if◌then◌else◌, Option, None, Some, List, Result, Ok, Err}
use Rattle.std.specs.Result.{result_ok}
use Rattle.ec_wire.specs.Datagram.{DatagramRecord}
use Rattle.ec_app.specs.declared.mail.Mail.{Mail}
use Rattle.ec_app.specs.declared.sdo.Sdo.{Sdo}
use Rattle.ec_master.specs.Ports.{Trips}
use Rattle.ec_services.specs.Ask.{Answer, told_by}
use Rattle.ec_services.specs.Course.{Course, IsStep, Runs, goes_on}
use Rattle.ec_services.specs.Mailbox.{mail_read, mail_write, skipped}
use Rattle.ec_services.specs.Settling.{records_read, mailboxes_by}
use Rattle.ec_services.specs.Transfer.{Service, answer_in, understood}
use Rattle.ec_services.specs.declared.fault.MasterFault.{MasterFault}
use Rattle.ec_services.specs.declared.mailbox.Peer.{Peer}
use Rattle.ec_services.specs.declared.settling.Mailboxes.TheVariants.{Unknown, AnswerWaits, Empty}
use Rattle.ec_services.specs.declared.surely.Progress.{Progress}

-- ---- the answer

-- the mail that answers the request with the counter that was posted last, where one was
abbrev pub answer_to : Option ℕ → Sdo → List ℕ → Option Mail
answer_to None asked bytes = None
answer_to (Some counter) asked bytes = result_ok (answer_in counter asked bytes)

-- a read of the mailbox of answers decides only where it counted exactly 1 and brings that mail
abbrev pub answered : Option ℕ → Sdo → Answer → Result (Option Mail) MasterFault
answered posted asked (Err fault) = Err fault
answered posted asked (Ok back) =
    Ok
    (if (told_by back).counter == 1 then answer_to posted asked (told_by back).payload else None)

-- ---- the course

-- nothing is known of the mailboxes, and no request is posted
abbrev pub begun : Peer → Progress
begun peer = record { known = Unknown; posted = None; peer = peer }

-- both records are read, a mail that waits is read, or the request is posted where both mailboxes are empty
abbrev pub next_sent : Sdo → Progress → DatagramRecord
next_sent asked p = elim p.known [
  | Unknown ↦ records_read p.peer
  | AnswerWaits ↦ mail_read p.peer
  | Empty ↦ mail_write p.peer asked
]

-- only a mail decides
abbrev pub next_decides : Sdo → Progress → Answer → Result (Option Mail) MasterFault
next_decides asked p answer = elim p.known [
  | AnswerWaits ↦ answered p.posted asked answer
  | _ ↦ goes_on answer
]

-- after a read of a mail or a post nothing is known of the mailboxes; the counter moves with each post,
-- whatever comes back of it
abbrev pub next_known : Progress → Answer → Progress
next_known p answer = elim p.known [
  | Unknown ↦ record p { known = mailboxes_by answer }
  | AnswerWaits ↦ record p { known = Unknown }
  | Empty ↦ record { known = Unknown; posted = Some p.peer.counter; peer = skipped p.peer }
]

abbrev pub asking : Sdo → Course Progress Mail
asking asked = record {
  sent = next_sent asked;
  decides = next_decides asked;
  learns = next_known;
}

-- ---- the services

-- at most so many trips, and what the mail that answers comes to
pub record IsSure {P A : Type 0} (trips : Trips P) (before : P) (peer : Peer) (service : Service A)
    (limit : ℕ) (result : Result A MasterFault) (peer_later : Peer) (later : P) : Type 0 where
  pub answer : Result Mail MasterFault
  pub last : Progress
  pub runs : Runs trips before (asking service.asked) (begun peer) limit answer last later
  pub peer_is : peer_later ≡ last.peer
  pub understands : result ≡ understood service.comes_to answer

-- ---- a trip of one

-- what the mail that answers comes to, once it is there
abbrev pub told_of : {A : Type 0} → (Mail → Result A MasterFault) → Result (Option Mail) MasterFault
    → Result (Option A) MasterFault
told_of comes_to (Err fault) = Err fault
told_of comes_to (Ok None) = Ok None
told_of comes_to (Ok (Some mail)) = elim (comes_to mail) [
  | Err fault ↦ Err fault
  | Ok value ↦ Ok (Some value)
]

-- one trip of a service, what it tells, and how far the service is then
pub record GoesOn {P A : Type 0} (trips : Trips P) (before : P) (service : Service A) (known : Progress)
    (told : Result (Option A) MasterFault) (known_later : Progress) (later : P) : Type 0 where
  pub decided : Result (Option Mail) MasterFault
  pub step : IsStep trips before (asking service.asked) known decided known_later later
  pub tells : told ≡ told_of service.comes_to decided
