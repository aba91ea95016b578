-- Both mailboxes of a slave are seen empty by one answer (IEC 61158-4-12, sync manager, mailbox mode): the
-- records of both are read in one datagram, and a mail that waits is read and dropped.
use Rattle.std.specs.Prelude.{ℕ, ◌==◌, Bool, not, Option, None, Some, List, [], ◌∷◌, take, drop, replicate}
use Rattle.std.specs.Prelude.{Result, Ok, Err}
use Rattle.ec_wire.specs.Datagram.{DatagramRecord, address_of}
use Rattle.ec_wire.specs.declared.command.Command.TheVariants.{Fprd}
use Rattle.ec_regs.specs.SyncMan.{sync_man_of, is_full}
use Rattle.ec_regs.specs.declared.registers.TheConstants.{SYNC_MANAGER_BASE, SYNC_MANAGER_SIZE}
use Rattle.ec_app.specs.Table.{first_fitting}
use Rattle.ec_master.specs.Ports.{Trips}
use Rattle.ec_services.specs.Ask.{request, Answer, told_by}
use Rattle.ec_services.specs.Course.{Course, Runs, goes_on}
use Rattle.ec_services.specs.Mailbox.{mail_read}
use Rattle.ec_services.specs.declared.fault.MasterFault.{MasterFault}
use Rattle.ec_services.specs.declared.mailbox.Peer.{Peer}
use Rattle.ec_services.specs.declared.settling.Mailboxes.{Mailboxes}
use Rattle.ec_services.specs.declared.settling.Mailboxes.TheVariants.{Unknown, AnswerWaits, Empty}

-- ---- both records

-- the records of sync managers 0 and 1 are read: the mailbox of requests and that of answers
abbrev pub records_read : Peer → DatagramRecord
records_read peer = request Fprd (address_of peer.station SYNC_MANAGER_BASE) (replicate 16 0)

-- is the mailbox of requests full, by the bytes of both records
abbrev pub request_waits : List ℕ → Bool
request_waits records = is_full (sync_man_of (take SYNC_MANAGER_SIZE records))

-- is the mailbox of answers full
abbrev pub answer_waits : List ℕ → Bool
answer_waits records = is_full (sync_man_of (take SYNC_MANAGER_SIZE (drop SYNC_MANAGER_SIZE records)))

-- what an answer tells of both: nothing where it did not count exactly 1, and they are looked at again where
-- a request waits alone
abbrev pub mailboxes_by : Answer → Mailboxes
mailboxes_by (Err fault) = Unknown
mailboxes_by (Ok back) =
    let told = told_by back in
    first_fitting
    ((not (told.counter == 1), Unknown)
    ∷ (answer_waits told.payload, AnswerWaits)
    ∷ (request_waits told.payload, Unknown)
    ∷ []) Empty

-- unless there is no answer
abbrev pub looked : Answer → Result Mailboxes MasterFault
looked (Err fault) = Err fault
looked (Ok back) = Ok (mailboxes_by (Ok back))

-- ---- the service

-- both seen empty is the end of it
abbrev pub settled : Mailboxes → Option (Unit {0})
settled Empty = Some tt
settled _ = None

abbrev pub settled_by : Answer → Result (Option (Unit {0})) MasterFault
settled_by (Err fault) = Err fault
settled_by (Ok back) = Ok (settled (mailboxes_by (Ok back)))

-- a mail that waits is read, whatever comes of it; else both records are
abbrev pub settling : Peer → Course Mailboxes (Unit {0})
settling peer = record {
  sent = λ known. elim known [ AnswerWaits ↦ mail_read peer | _ ↦ records_read peer ];
  decides = λ known answer. elim known [ AnswerWaits ↦ goes_on answer | _ ↦ settled_by answer ];
  learns = λ known answer. elim known [ AnswerWaits ↦ Unknown | _ ↦ mailboxes_by answer ];
}

-- the service: at most `limit` trips, with nothing known at first
abbrev pub IsSettled : {P : Type 0} → Trips P → P → Peer → ℕ → Result (Unit {0}) MasterFault → P → Type 0
IsSettled trips before peer limit result later =
    (known : Mailboxes) × Runs trips before (settling peer) Unknown limit result known later
