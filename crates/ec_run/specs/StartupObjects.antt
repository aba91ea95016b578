-- A startup object of a slave is written (ETG.2000, InitCmd of CoE; IEC 61158-6-12, SDO download, expedited):
-- by mail, surely, where both mailboxes are there.
use Rattle.std.specs.Prelude.{◌≡◌, ℕ, ◌+◌, ◌%◌, ◌&&◌, if◌then◌else◌, Option, None, Some, Result, Ok, Err}
use Rattle.std.specs.Prelude.{slice_get}
use Rattle.std.specs.Option.{unwrap_or}
use Rattle.ec_regs.specs.declared.sync_man.SyncMan.{SyncMan}
use Rattle.ec_app.specs.Roles.{is_request_mailbox, is_answer_mailbox}
use Rattle.ec_app.specs.declared.roles.TheConstants.{REQUEST_MAILBOX, ANSWER_MAILBOX}
use Rattle.ec_app.specs.declared.sdo.Sdo.TheVariants.{Download}
use Rattle.ec_master.specs.Ports.{Trips}
use Rattle.ec_services.specs.Surely.{GoesOn, IsSure, begun}
use Rattle.ec_services.specs.Transfer.{downloading}
use Rattle.ec_services.specs.declared.fault.MasterFault.{MasterFault}
use Rattle.ec_services.specs.declared.fault.MasterFault.TheVariants.{NoSlave}
use Rattle.ec_services.specs.declared.mailbox.Area.{Area}
use Rattle.ec_services.specs.declared.mailbox.Peer.{Peer}
use Rattle.ec_services.specs.declared.surely.Progress.{Progress}
use Rattle.ec_run.specs.declared.objects.TheConstants.{STARTUP_TRIPS}
use Rattle.ec_run.specs.declared.wanted.StartupObject.{StartupObject}
use Rattle.ec_run.specs.declared.wanted.Wanted.{Wanted}

-- ---- whom mails go to

abbrev pub area_of : SyncMan → Area
area_of m = record { start = m.start; length = m.length }

-- a slave with these records of its mailboxes, where both are mailboxes, and the counter of its next mail
abbrev pub peer_between : ℕ → SyncMan → SyncMan → ℕ → Option Peer
peer_between station requests answers counter =
    if is_request_mailbox requests && is_answer_mailbox answers then
    Some (record { station = station; to = area_of requests; from = area_of answers; counter = counter })
    else None

abbrev pub peer_by : ℕ → Option SyncMan → Option SyncMan → ℕ → Option Peer
peer_by station None answers counter = None
peer_by station (Some requests) None counter = None
peer_by station (Some requests) (Some answers) counter = peer_between station requests answers counter

-- the slave for its startup object with a number, each of which has another counter than the one before: a
-- mail with the counter of the last one is taken for that one again
abbrev pub startup_peer : Wanted → ℕ → Option Peer
startup_peer wanted n =
    peer_by wanted.station (slice_get wanted.managers REQUEST_MAILBOX)
    (slice_get wanted.managers ANSWER_MAILBOX)
    (n % 7 + 1)

-- ---- the write

-- an object of a slave is written, surely; there is no slave to write to where mailboxes are missing
abbrev pub WritesObject : {P : Type 0} → Trips P → P → Option Peer → StartupObject
    → Result (Unit {0}) MasterFault → P
    → Type 0
WritesObject trips before None object result later = (result ≡ Err NoSlave) × (later ≡ before)
WritesObject trips before (Some peer) object result later =
    (peer_later : Peer)
    × IsSure trips before peer (downloading object.index object.sub object.value) STARTUP_TRIPS
    result peer_later later

-- the startup object that has a place in the list is written, if one stands there
abbrev pub WritesStartup : {P : Type 0} → Trips P → P → Option Peer → Option (Option StartupObject)
    → Result (Unit {0}) MasterFault → P
    → Type 0
WritesStartup trips before peer None result later = ⊥
WritesStartup trips before peer (Some None) result later = (result ≡ Ok tt) × (later ≡ before)
WritesStartup trips before peer (Some (Some object)) result later =
    WritesObject trips before peer object result later

-- ---- the write, a trip at a time

-- one trip more by which an object is written to a slave; the first one begins it
abbrev pub WritesObjectOn : {P : Type 0} → Trips P → P → Option Peer → StartupObject → Option Progress
    → Result (Option (Unit {0})) MasterFault → Option Progress → P → Type 0
WritesObjectOn trips before None object written told written_later later =
    (told ≡ Err NoSlave) × (written_later ≡ written) × (later ≡ before)
WritesObjectOn trips before (Some peer) object written told written_later later =
    (progress : Progress) × (written_later ≡ Some progress)
    × GoesOn trips before (downloading object.index object.sub object.value)
    (unwrap_or written (begun peer)) told progress later

-- one by which the startup object is written that has a place in the list, if one stands there
abbrev pub WritesStartupOn : {P : Type 0} → Trips P → P → Option Peer → Option (Option StartupObject)
    → Option Progress → Result (Option (Unit {0})) MasterFault → Option Progress → P → Type 0
WritesStartupOn trips before peer None written told written_later later = ⊥
WritesStartupOn trips before peer (Some None) written told written_later later =
    (told ≡ Ok (Some tt)) × (written_later ≡ written) × (later ≡ before)
WritesStartupOn trips before peer (Some (Some object)) written told written_later later =
    WritesObjectOn trips before peer object written told written_later later
