-- A service that is under way: how it begins, and when it is given up.
use Rattle.std.specs.Prelude.{ℕ, ◌==◌, if◌then◌else◌, Option, None, Some}
use Rattle.ec_services.specs.declared.fault.MasterFault.{MasterFault}
use Rattle.ec_services.specs.declared.fault.MasterFault.TheVariants.{NoSlave, NoAnswer}
use Rattle.ec_services.specs.declared.mailbox.Peer.{Peer}
use Rattle.ec_acyclic.specs.Next.{TalkState, first_of}
use Rattle.ec_acyclic.specs.declared.next.Next.{Next}
use Rattle.ec_acyclic.specs.declared.next.Next.TheVariants.{NoMailboxes}
use Rattle.ec_acyclic.specs.declared.service.Service.{Service}

-- a service that has made no trip, of the slave with a station address, by so many trips at the most
abbrev pub begun : Service → ℕ → Option Peer → ℕ → TalkState
begun service station peer trips =
    record { station = station; next = first_of service peer; unanswered = 0; trips = trips }

-- the same, of which this goes out next, and of which so many questions in a row no slave has answered
abbrev pub resumed : ℕ → Next → ℕ → ℕ → TalkState
resumed station next unanswered trips =
    record { station = station; next = next; unanswered = unanswered; trips = trips }

-- a slave without mailboxes is asked for no object, and nobody is asked where no trip is left
abbrev pub given_up_by : ℕ → Next → Option MasterFault
given_up_by trips NoMailboxes = Some NoSlave
given_up_by trips _ = if trips == 0 then Some NoAnswer else None

abbrev pub given_up : TalkState → Option MasterFault
given_up t = given_up_by t.trips t.next
