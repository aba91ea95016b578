-- A mail goes to a slave and one comes back (IEC 61158-4-12, sync manager, mailbox mode): the slave's mailbox
-- of requests is written, and its mailbox of answers is read until a mail is there.
use Rattle.std.specs.Prelude.{◌≡◌, ◌≤◌, ℕ, ◌+◌, ◌-◌, ◌==◌, nat_lt, if◌then◌else◌, Option, None, Some}
use Rattle.std.specs.Prelude.{List, [], ◌∷◌, ◌++◌, replicate, Result, Ok, Err}
use Rattle.ec_wire.specs.Datagram.{DatagramRecord, address_of}
use Rattle.ec_wire.specs.declared.command.Command.TheVariants.{Fprd, Fpwr}
use Rattle.ec_app.specs.Mail.{mail_bytes}
use Rattle.ec_app.specs.Table.{first_fitting}
use Rattle.ec_app.specs.declared.mail.Mail.{Mail}
use Rattle.ec_app.specs.declared.mail.TheConstants.{MAIL_SIZE, REQUEST}
use Rattle.ec_app.specs.declared.sdo.Sdo.{Sdo}
use Rattle.ec_master.specs.Ports.{Trips}
use Rattle.ec_services.specs.Ask.{request, Answer, told_by, Asks, Question, Talks, write_decides}
use Rattle.ec_services.specs.declared.fault.MasterFault.{MasterFault}
use Rattle.ec_services.specs.declared.fault.MasterFault.TheVariants.{NoAnswer, BadAnswer}
use Rattle.ec_regs.specs.declared.sync_man.TheConstants.{SHORTEST_MAILBOX, LONGEST_MAILBOX}
use Rattle.ec_services.specs.declared.mailbox.Area.{Area}
use Rattle.ec_services.specs.declared.mailbox.Peer.{Peer}

-- ---- a peer

-- a mailbox has 16 to 1,486 bytes
abbrev pub IsMailbox : Area → Type 0
IsMailbox area = (SHORTEST_MAILBOX ≤ area.length) × (area.length ≤ LONGEST_MAILBOX)

-- both its areas are mailboxes, and counters run from 1 to 7
pub record IsPeer (peer : Peer) : Type 0 where
  pub to : IsMailbox peer.to
  pub from : IsMailbox peer.from
  pub least : 1 ≤ peer.counter
  pub most : peer.counter ≤ 7

-- ---- the request

-- the mail that carries a request, with the peer's counter
abbrev pub request_mail : Peer → Sdo → Mail
request_mail peer sdo = record {
  address = 0;
  channel = 0;
  priority = 0;
  counter = peer.counter;
  number = 0;
  service = REQUEST;
  sdo = sdo;
}

-- the mail and zeros after it fill the mailbox of requests
abbrev pub mail_write : Peer → Sdo → DatagramRecord
mail_write peer sdo =
    request Fpwr (address_of peer.station peer.to.start)
    (mail_bytes (request_mail peer sdo) ++ replicate (peer.to.length - MAIL_SIZE) 0)

-- the counter after this one; after 7 comes 1
abbrev pub next_counter : ℕ → ℕ
next_counter counter = if counter == 7 then 1 else counter + 1

-- the peer with the counter of the request after the next
abbrev pub skipped : Peer → Peer
skipped peer = record peer { counter = next_counter peer.counter }

-- the peer's counter moves exactly where the write of the request came back with the working counter 1
abbrev pub with_counted : Peer → Answer → Peer
with_counted peer (Err fault) = peer
with_counted peer (Ok back) =
    if (told_by back).counter == 1 then record peer { counter = next_counter peer.counter } else peer

-- a request is written, and this is decided of it
pub record IsPosted {P : Type 0} (trips : Trips P) (before : P) (peer : Peer) (sdo : Sdo)
    (decided : Result (Option Mail) MasterFault) (peer_later : Peer) (later : P) : Type 0 where
  pub answer : Answer
  pub asks : Asks trips before (mail_write peer sdo) answer later
  pub counted : peer_later ≡ with_counted peer answer
  pub decides : decided ≡ write_decides answer

-- ---- the answer

-- the mailbox of answers is read, whole
abbrev pub mail_read : Peer → DatagramRecord
mail_read peer = request Fprd (address_of peer.station peer.from.start) (replicate peer.from.length 0)

-- a read that no slave serves finds no mail yet; one that a slave serves brings a mail
abbrev pub mail_decides : Answer → Result (Option (List DatagramRecord)) MasterFault
mail_decides (Err fault) = Err fault
mail_decides (Ok back) =
    first_fitting
    (((told_by back).counter == 0, Ok None)
    ∷ (nat_lt 1 (told_by back).counter, Err BadAnswer)
    ∷ []) (Ok (Some back.joined))

abbrev pub mail_question : Peer → Question (List DatagramRecord)
mail_question peer = record { sent = mail_read peer; decides = mail_decides }

-- the mailbox of answers is read until a mail is there, at most `limit` times; what comes is its frame
abbrev pub Fetches : {P : Type 0} → Trips P → P → Peer → ℕ → Result (List DatagramRecord) MasterFault → P
    → Type 0
Fetches trips before peer limit fetched later =
    Talks trips before (replicate limit (mail_question peer)) (Err NoAnswer) fetched later
