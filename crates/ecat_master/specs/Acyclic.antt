-- A service that a task asks of a slave of the line beside the cycles of a running master (IEC 61158-6-12,
-- SDO services, AL management).
use Rattle.std.specs.Prelude.{ℕ, ◌+◌, ◌-◌, ◌%◌, ◌^◌, ◌==◌, min, Bool, Option, slice_get}
use Rattle.ec_acyclic.specs.Next.{TalkState}
use Rattle.ec_acyclic.specs.Talk.{begun}
use Rattle.ec_acyclic.specs.declared.service.Service.{Service}
use Rattle.ec_acyclic.specs.declared.service.Service.TheVariants.{Read, Write, State, Acknowledge}
use Rattle.ec_app.specs.declared.roles.TheConstants.{REQUEST_MAILBOX, ANSWER_MAILBOX}
use Rattle.ec_services.specs.declared.mailbox.Peer.{Peer}
use Rattle.ec_run.specs.StartupObjects.{peer_by}
use Rattle.ec_run.specs.declared.wanted.Wanted.{Wanted}
use Rattle.ecat_master.specs.declared.acyclic.TheConstants.{OBJECT_TRIPS, STATE_TRIPS, COUNTERS}

-- is a slave that of a station address
abbrev pub has_station : ℕ → Wanted → Bool
has_station station wanted = wanted.station == station

-- a slave for the service with a number, where both mailboxes are there: the counters of first mails go round
abbrev pub peer_of : Wanted → ℕ → Option Peer
peer_of wanted n =
    peer_by wanted.station (slice_get wanted.managers REQUEST_MAILBOX)
    (slice_get wanted.managers ANSWER_MAILBOX)
    (n % COUNTERS + 1)

-- the most trips of a service, where AL status is read so often for a state, as far as they are counted
abbrev pub state_trips : ℕ → ℕ
state_trips reads = min (reads + STATE_TRIPS) (2 ^ 32 - 1)

abbrev pub trips_of : Service → ℕ → ℕ
trips_of (Read index sub) reads = OBJECT_TRIPS
trips_of (Write index sub value) reads = OBJECT_TRIPS
trips_of (State state) reads = state_trips reads
trips_of Acknowledge reads = state_trips reads

-- a service that begins with a slave
abbrev pub talk_with : Wanted → Service → ℕ → ℕ → TalkState
talk_with wanted service n reads =
    begun service wanted.station (peer_of wanted n) (trips_of service reads)
