-- A transfer over a ring: a request is written into a mailbox of the slave that is meant, each slave takes
-- its step, and the answer is read from the other mailbox (IEC 61158-4-12, sync manager, mailbox mode; IEC
-- 61158-6-12, SDO services and their abort codes).
use Rattle.std.specs.Prelude.{◌≡◌, ◌<◌, ◌^◌, ◌==◌, ℕ, true, false, not, List, [], ◌∷◌, map, Result, Ok, Err}
use Rattle.std.specs.List.{AllByRecursion}
use Rattle.std.specs.Option.{is_none, unwrap_or}
use Rattle.ec_regs.specs.SyncMan.{is_full}
use Rattle.ec_regs.specs.declared.al.AlState.TheVariants.{PreOp}
use Rattle.ec_regs.specs.declared.sync_man.SyncMan.{SyncMan}
use Rattle.ec_areas.specs.Ranges.{meets, meets_one}
use Rattle.ec_areas.specs.Records.{sync_manager_at, sync_managers_of}
use Rattle.ec_esc.specs.Application.{al_status}
use Rattle.ec_esc.specs.State.{ControllerState, IsController, with_sync_manager}
use Rattle.ec_app.specs.AbortCode.{abort_code}
use Rattle.ec_app.specs.AlStep.{with_state}
use Rattle.ec_app.specs.MailStep.{has_mail, is_kept}
use Rattle.ec_app.specs.Objects.{has_index, object_at, with_value}
use Rattle.ec_app.specs.Roles.{is_answer_mailbox, is_request_mailbox}
use Rattle.ec_app.specs.Slave.{step}
use Rattle.ec_app.specs.State.{SlaveState}
use Rattle.ec_app.specs.Table.{first_fitting}
use Rattle.ec_app.specs.Value.{FitsValue, may_read, may_write, size_of}
use Rattle.ec_app.specs.declared.abort_code.AbortCode.TheVariants.{NoObject, NoSubindex, ReadOfWriteOnly}
use Rattle.ec_app.specs.declared.abort_code.AbortCode.TheVariants.{WriteOfReadOnly, WrongLength}
use Rattle.ec_app.specs.declared.objects.Entry.{Entry}
use Rattle.ec_app.specs.declared.roles.TheConstants.{ANSWER_MAILBOX, REQUEST_MAILBOX}
use Rattle.ec_app.specs.declared.sdo.Sdo.{Sdo}
use Rattle.ec_app.specs.declared.sdo.Sdo.TheVariants.{Upload, Download}
use Rattle.ec_app.specs.declared.value.Rights.TheVariants.{ReadOnly}
use Rattle.ec_app.specs.declared.value.Value.{Value}
use Rattle.ec_app.specs.declared.value.Value.TheVariants.{One}
use Rattle.ec_ring.specs.Ring.{RingState}
use Rattle.ec_services.specs.Mailbox.{IsPeer, mail_read, mail_write, skipped}
use Rattle.ec_services.specs.declared.fault.MasterFault.{MasterFault}
use Rattle.ec_services.specs.declared.fault.MasterFault.TheVariants.{Abort}
use Rattle.ec_services.specs.declared.mailbox.Area.{Area}
use Rattle.ec_services.specs.declared.mailbox.Peer.{Peer}
use Rattle.ec_over_ring.specs.Question.{after_question, ring_after}
use Rattle.ec_over_ring.specs.States.{HasStation}

-- ---- whose object it is

-- what every slave is: it has a controller, and the value of each object fits its bytes
pub record IsSlave (s : SlaveState) : Type 0 where
  pub controller : IsController s.controller
  pub values : AllByRecursion (λ (e : Entry). FitsValue e.value) s.application.objects

-- the area of the sync manager with a number is this one, the only one there, and no mail is in it
pub record IsEmptyMailbox (memory : List ℕ) (number : ℕ) (area : Area) : Type 0 where
  pub start : (sync_manager_at memory number).start ≡ area.start
  pub length : (sync_manager_at memory number).length ≡ area.length
  pub alone : meets_one (sync_managers_of memory) area.start area.length ≡ true
  pub empty : is_full (sync_manager_at memory number) ≡ false

-- a slave that takes a peer's next request: it is in Pre-Op or above, no new state is asked for, both areas
-- of the peer are its mailboxes and empty, and the mail that it took last has another counter
pub record IsReady (peer : Peer) (s : SlaveState) : Type 0 where
  pub state : has_mail (al_status s.controller).state ≡ true
  pub unasked : s.controller.written ≡ false
  pub requests : is_request_mailbox (sync_manager_at s.controller.memory REQUEST_MAILBOX) ≡ true
  pub answers : is_answer_mailbox (sync_manager_at s.controller.memory ANSWER_MAILBOX) ≡ true
  pub to : IsEmptyMailbox s.controller.memory REQUEST_MAILBOX peer.to
  pub from : IsEmptyMailbox s.controller.memory ANSWER_MAILBOX peer.from
  pub counter : is_kept s.application.kept peer.counter ≡ false

-- one slave of a ring, between those before it and those behind it, is a peer's and takes its next request,
-- with at most one link down; the others may have whatever to do
pub record HasPeer (peer : Peer) (r : RingState) (before : List SlaveState) (s : SlaveState)
    (behind : List SlaveState) : Type 0 where
  pub peer_is : IsPeer peer
  pub station : HasStation peer.station r before s behind
  pub slaves : AllByRecursion IsSlave r.slaves
  pub ready : IsReady peer s

-- a peer's areas as two mailboxes that share no byte, both empty
pub record AreMailboxes (peer : Peer) (requests answers : SyncMan) : Type 0 where
  pub to : peer.to ≡ record { start = requests.start; length = requests.length }
  pub from : peer.from ≡ record { start = answers.start; length = answers.length }
  pub requests_are : is_request_mailbox requests ≡ true
  pub answers_are : is_answer_mailbox answers ≡ true
  pub apart : meets requests answers.start answers.length ≡ false
  pub no_request : is_full requests ≡ false
  pub no_answer : is_full answers ≡ false

-- a controller that is put into Pre-Op and given two mailboxes
abbrev pub prepared : ControllerState → SyncMan → SyncMan → ControllerState
prepared c requests answers =
    with_sync_manager (with_sync_manager (with_state c PreOp) REQUEST_MAILBOX requests) ANSWER_MAILBOX answers

-- a request for a value, or one to take a value, whose numbers fit their fields
abbrev pub IsRequest : Sdo → Type 0
IsRequest (Upload index sub) = (index < 2 ^ 16) × (sub < 2 ^ 8)
IsRequest (Download index sub value) = (index < 2 ^ 16) × (sub < 2 ^ 8) × FitsValue value
IsRequest _ = ⊥

-- ---- what it comes to

-- the value of an object, or the abort code that says why it is not told
abbrev pub upload_of : ℕ → ℕ → List Entry → Result Value MasterFault
upload_of index sub objects =
    let object = unwrap_or (object_at index sub objects) (ReadOnly, One 0) in
    first_fitting
    ((not (has_index index objects), Err (Abort (abort_code NoObject)))
    ∷ (is_none (object_at index sub objects), Err (Abort (abort_code NoSubindex)))
    ∷ (not (may_read object.0), Err (Abort (abort_code ReadOfWriteOnly)))
    ∷ []) (Ok object.1)

-- the abort code that says why an object does not take a value, if there is one
abbrev pub download_of : ℕ → ℕ → Value → List Entry → Result (Unit {0}) MasterFault
download_of index sub value objects =
    let object = unwrap_or (object_at index sub objects) (ReadOnly, One 0) in
    first_fitting
    ((not (has_index index objects), Err (Abort (abort_code NoObject)))
    ∷ (is_none (object_at index sub objects), Err (Abort (abort_code NoSubindex)))
    ∷ (not (may_write object.0), Err (Abort (abort_code WriteOfReadOnly)))
    ∷ (not (size_of value == size_of object.1), Err (Abort (abort_code WrongLength)))
    ∷ []) (Ok tt)

-- the objects then: one that took the value has it, and the others stay
abbrev pub stored : Result (Unit {0}) MasterFault → ℕ → ℕ → Value → List Entry → List Entry
stored (Ok done) index sub value objects = map (with_value index sub value) objects
stored (Err fault) index sub value objects = objects

abbrev pub objects_after : Sdo → List Entry → List Entry
objects_after (Download index sub value) objects =
    stored (download_of index sub value objects) index sub value objects
objects_after _ objects = objects

-- ---- the slave and its ring

-- the slave that took the request, and has put its answer
abbrev pub answering : Peer → Sdo → SlaveState → SlaveState
answering peer asked s = step (after_question (mail_write peer asked) s)

-- and once the answer was read
abbrev pub answered : Peer → Sdo → SlaveState → SlaveState
answered peer asked s = step (after_question (mail_read peer) (answering peer asked s))

-- another slave meanwhile
abbrev pub two_steps : List SlaveState → List SlaveState
two_steps slaves = map step (map step slaves)

-- the ring behind the request, and behind the answer
abbrev pub posted_ring : Peer → Sdo → RingState → List SlaveState → SlaveState → List SlaveState → RingState
posted_ring peer asked r before s behind = ring_after (mail_write peer asked) r before s behind

abbrev pub answered_ring : Peer → Sdo → RingState → List SlaveState → SlaveState → List SlaveState → RingState
answered_ring peer asked r before s behind =
    ring_after (mail_read peer) (posted_ring peer asked r before s behind) (map step before)
    (answering peer asked s) (map step behind)

-- a transfer's request was counted once, so that the peer's counter moved on; and the slave took it,
-- answered, and its answer was read, in two trips
pub record IsAnswered (peer : Peer) (asked : Sdo) (r : RingState) (before : List SlaveState)
    (s : SlaveState) (behind : List SlaveState) (peer_later : Peer) (later : RingState) : Type 0 where
  pub counter : peer_later ≡ skipped peer
  pub ring : later ≡ answered_ring peer asked r before s behind
