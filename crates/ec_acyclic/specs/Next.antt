-- What goes out next of a service with a slave (IEC 61158-6-12, SDO services, AL management).
use Rattle.std.specs.Prelude.{◌≡◌, ℕ, Option, None, Some}
use Rattle.ec_app.specs.declared.value.Value.{Value}
use Rattle.ec_services.specs.Mailbox.{IsPeer}
use Rattle.ec_services.specs.Surely.{begun}
use Rattle.ec_services.specs.declared.mailbox.Peer.{Peer}
use Rattle.ec_acyclic.specs.declared.next.Next.{Next}
use Rattle.ec_acyclic.specs.declared.next.Next.TheVariants.{NoMailboxes, Upload, Download, Request, InWhich}
use Rattle.ec_acyclic.specs.declared.service.Service.{Service}
use Rattle.ec_acyclic.specs.declared.service.Service.TheVariants.{Read, Write, State, Acknowledge}

-- how far a service is: with the slave of this station address, what goes out next, how often in a row no
-- slave answered, and how many trips are left
pub record TalkState : Type 0 where
  pub station : ℕ
  pub next : Next
  pub unanswered : ℕ
  pub trips : ℕ

-- mails go to the slave of this station address
pub record IsPeerOf (station : ℕ) (peer : Peer) : Type 0 where
  pub peer_is : IsPeer peer
  pub its_own : peer.station ≡ station

abbrev pub HasPeer : ℕ → Next → Type 0
HasPeer station (Upload index sub progress) = IsPeerOf station progress.peer
HasPeer station (Download index sub value progress) = IsPeerOf station progress.peer
HasPeer station _ = Unit {0}

-- ---- what goes out first

-- of a reading and of a writing the first trip, where the slave has mailboxes
abbrev pub upload_by : ℕ → ℕ → Option Peer → Next
upload_by index sub None = NoMailboxes
upload_by index sub (Some peer) = Upload index sub (begun peer)

abbrev pub download_by : ℕ → ℕ → Value → Option Peer → Next
download_by index sub value None = NoMailboxes
download_by index sub value (Some peer) = Download index sub value (begun peer)

-- a state is asked for; and before an error is acknowledged AL status tells the slave's state
abbrev pub first_of : Service → Option Peer → Next
first_of (Read index sub) peer = upload_by index sub peer
first_of (Write index sub value) peer = download_by index sub value peer
first_of (State state) peer = Request state
first_of Acknowledge peer = InWhich
