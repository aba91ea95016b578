-- The laws that crates above cite: on one question over a ring, on a state request, on transfers, on calls
-- that recover, and on the parts of a start, which stand in the files that are named below.
use Rattle.std.proofs.Common.{◌≡◌, ◌≤◌, ℕ, true, false, List, Result, Ok, None, Some, ap, ◌∙◌}
use Rattle.std.specs.List.{AllByRecursion}
use Rattle.ec_regs.specs.declared.al.AlState.{AlState}
use Rattle.ec_wire.specs.Datagram.{DatagramRecord}
use Rattle.ec_esc.specs.Application.{al_status}
use Rattle.ec_esc.specs.Pass.{pass}
use Rattle.ec_app.specs.Objects.{object_at}
use Rattle.ec_regs.specs.declared.sync_man.SyncMan.{SyncMan}
use Rattle.ec_esc.specs.State.{ControllerState, IsFresh}
use Rattle.ec_app.specs.State.{ApplicationState, SlaveState}
use Rattle.ec_app.specs.Value.{may_read, may_write, size_of}
use Rattle.ec_app.specs.declared.objects.Entry.{Entry}
use Rattle.ec_app.specs.declared.sdo.Sdo.{Sdo}
use Rattle.ec_app.specs.declared.sdo.Sdo.TheVariants.{Upload, Download}
use Rattle.ec_app.specs.declared.value.Rights.{Rights}
use Rattle.ec_app.specs.declared.value.Value.{Value}
use Rattle.ec_ring.specs.Ring.{RingState, line_of, stepped}
use Rattle.ec_master.specs.RingTrips.{RingTrips}
use Rattle.ec_master.specs.Travelled.{AtMostOneDown}
use Rattle.ec_services.specs.Acknowledgement.{IsAcknowledged}
use Rattle.ec_services.specs.Ask.{Answer, Asks}
use Rattle.ec_services.specs.Mailbox.{skipped}
use Rattle.ec_services.specs.Settling.{IsSettled}
use Rattle.ec_services.specs.States.{IsRequested}
use Rattle.ec_services.specs.Transfer.{IsTransferred, uploading, downloading}
use Rattle.ec_services.specs.declared.fault.MasterFault.{MasterFault}
use Rattle.ec_services.specs.declared.mailbox.Peer.{Peer}
use Rattle.ec_over_ring.specs.Question.{IsByStation, IsOther, ReachesOne, Tells, ring_after}
use Rattle.ec_over_ring.specs.States.{HasStation, acknowledged_ring, acknowledged_slave, asked_slave}
use Rattle.ec_over_ring.specs.States.{asked_ring, told_state}
use Rattle.ec_over_ring.specs.Transfers.{HasPeer, IsAnswered, IsRequest, IsSlave, answered, answered_ring}
use Rattle.ec_over_ring.specs.Transfers.{AreMailboxes, IsReady, prepared}
use Rattle.ec_over_ring.specs.Transfers.{download_of, objects_after, two_steps, upload_of}
use Rattle.ec_over_ring.proofs.QuestionLemmas as questions
use Rattle.ec_over_ring.proofs.NobodyLemmas as nobody
use Rattle.ec_over_ring.proofs.StateLemmas as states
use Rattle.ec_over_ring.proofs.AcknowledgeLemmas as acknowledging
use Rattle.ec_over_ring.proofs.ObjectLemmas as objects
use Rattle.ec_over_ring.proofs.ReadyLemmas as ready
use Rattle.ec_over_ring.proofs.SettleLemmas as settling
pub use Rattle.ec_over_ring.proofs.BroughtLemmas.{entered, recovered}
pub use Rattle.ec_over_ring.proofs.CallLemmas.{keeps}
pub use Rattle.ec_over_ring.proofs.LineBroughtLemmas.{all_entered, all_in_op}
pub use Rattle.ec_over_ring.proofs.StartedLemmas.{all_started}
pub use Rattle.ec_over_ring.proofs.ReadOffLemmas.{read_off_fits, read_off_wanted}
pub use Rattle.ec_over_ring.proofs.SucceedLemmas.{all_succeed}
pub use Rattle.ec_over_ring.proofs.MailedLemmas.{download_leaves, upload_leaves}
pub use Rattle.ec_over_ring.proofs.PhaseLemmas.{fits_still}
unfoldable pub use Rattle.ec_over_ring.proofs.FoundLemmas.{AreAlike, AreAsFound, IsMild}
pub use Rattle.ec_over_ring.proofs.FoundLemmas.{IsStillThere, found_alike, there_then, within_there}
pub use Rattle.ec_over_ring.proofs.AddressedLemmas.{AreAddressed, Goes, IsOnItsWay, all_addressed}
pub use Rattle.ec_over_ring.proofs.AddressedLemmas.{before_addressed, behind_addressed, way_then, way_trip}
pub use Rattle.ec_over_ring.proofs.CountedLemmas.{IsCountedSo, ring_counted}
unfoldable pub use Rattle.ec_over_ring.proofs.StagesLemmas.{Paired}
pub use Rattle.ec_over_ring.proofs.StagesLemmas.{AtFirst, InInit, InPreOp, InSafeOp, MayTake}
pub use Rattle.ec_over_ring.proofs.StagesLemmas.{first_stage, init_done, init_willing, objects_done, op_done}
pub use Rattle.ec_over_ring.proofs.StagesLemmas.{found_so, init_keeps, others_apart, pre_op_done}
pub use Rattle.ec_over_ring.proofs.StagesLemmas.{pre_op_keeps, pre_op_willing, safe_op_done, willing_first}
pub use Rattle.ec_over_ring.proofs.ReadingLemmas.{AreFree, IsRead, IsReadyFor, IsServed, first_served}
pub use Rattle.ec_over_ring.proofs.ReadingLemmas.{fixed_read, read_keeps, read_leaves, ready_line}
pub use Rattle.ec_over_ring.proofs.BoxesLemmas.{AreRead, boxes_last, boxes_read, boxes_set, peer_high}
unfoldable pub use Rattle.ec_over_ring.proofs.SparedLemmas.{HasSuch}
pub use Rattle.ec_over_ring.proofs.SparedLemmas.{IsSuch, such_as, such_one}
unfoldable pub use Rattle.ec_over_ring.proofs.TakingLemmas.{Endures}
pub use Rattle.ec_over_ring.proofs.TakingLemmas.{AreWilling, free_still, none_taken, off_free}
pub use Rattle.ec_over_ring.proofs.FixedLemmas.{HoldsFixed}
pub use Rattle.ec_over_ring.proofs.LeftLemmas.{left_in_op}
pub use Rattle.ec_over_ring.proofs.HeardLemmas.{heard_is_ring, watched_ring}
pub use Rattle.ec_over_ring.proofs.RecoveryLemmas.{begins, decides}
pub use Rattle.ec_over_ring.proofs.RecoveryLemmas.{download_recovers, upload_recovers}
pub use Rattle.ec_over_ring.proofs.ShapeLemmas.{said_throughout}
pub use Rattle.ec_over_ring.proofs.ValueLemmas.{download_held, upload_held}
pub use Rattle.ec_over_ring.proofs.AnsweredLemmas.{download_answered as calm_download}
pub use Rattle.ec_over_ring.proofs.AnsweredLemmas.{upload_answered as calm_upload}
pub use Rattle.ec_over_ring.proofs.WeatherLemmas.{ring_fate}
pub use Rattle.ec_over_ring.proofs.RingCallLemmas.{call_over_ring, has_slave}
pub use Rattle.ec_over_ring.proofs.RingRecoveryLemmas.{ring_downloaded, ring_refused, ring_uploaded}
pub use Rattle.ec_over_ring.proofs.CalmRingLemmas.{ring_answers_download, ring_answers_upload}
pub use Rattle.ec_over_ring.proofs.AnyPortsLemmas.{AreRing, IsOverRing, over_any_ports, ports_downloaded}
pub use Rattle.ec_over_ring.proofs.AnyPortsLemmas.{ports_uploaded}

-- the answer is the pass of the slave that is asked
pub one_answer : (d : DatagramRecord) (r : RingState) (before behind : List SlaveState) (s : SlaveState)
    (answer : Answer) (later : RingState)
    → ReachesOne d r before s behind → Asks RingTrips r d answer later
    → Tells (pass s.controller d).datagram answer
one_answer d r before behind s answer later one asks =
    (questions.asked_alone d r before behind s answer later one.asked one.alone one.down asks).0

-- the ring is left as that pass leaves the slave, and each has taken its step
pub one_ring : (d : DatagramRecord) (r : RingState) (before behind : List SlaveState) (s : SlaveState)
    (answer : Answer) (later : RingState)
    → ReachesOne d r before s behind → Asks RingTrips r d answer later
    → later ≡ ring_after d r before s behind
one_ring d r before behind s answer later one asks =
    (questions.asked_alone d r before behind s answer later one.asked one.alone one.down asks).1

-- a question that no slave is meant by comes back as it was sent
pub unanswered : (d : DatagramRecord) (r : RingState) (answer : Answer) (later : RingState)
    → AtMostOneDown r → IsByStation d → AllByRecursion (IsOther d) (line_of r)
    → Asks RingTrips r d answer later → Tells d answer
unanswered d r answer later down asked others asks =
    (nobody.unanswered d r answer later down asked others asks).tells

-- and each slave has taken its step
pub unanswered_ring : (d : DatagramRecord) (r : RingState) (answer : Answer) (later : RingState)
    → AtMostOneDown r → IsByStation d → AllByRecursion (IsOther d) (line_of r)
    → Asks RingTrips r d answer later → later ≡ stepped r
unanswered_ring d r answer later down asked others asks =
    (nobody.unanswered d r answer later down asked others asks).ring

-- ---- a state request

-- its result is what AL status of the slave tells once it took the step after the write
pub state_told : (station limit : ℕ) (state : AlState) (r : RingState) (before behind : List SlaveState)
    (s : SlaveState) (result : Result (Unit {0}) MasterFault) (later : RingState)
    → HasStation station r before s behind
    → AllByRecursion IsSlave r.slaves
    → 1 ≤ limit → IsRequested RingTrips r station state limit result later
    → result ≡ told_state (asked_slave station state s).controller
state_told station limit state r before behind s result later has slaves some talk =
    (states.requested station limit state r before s behind result later has
    (states.slaves_between station state r before s behind has slaves) some talk).result_is

-- without an error the slave is in the state that was asked for
pub state_entered : (station : ℕ) (state : AlState) (r : RingState) (before behind : List SlaveState)
    (s : SlaveState) → HasStation station r before s behind
    → (al_status (asked_slave station state s).controller).error ≡ false
    → (al_status (asked_slave station state s).controller).state ≡ state
state_entered station state r before behind s has none =
    states.stands_state state _ (states.status_stands station state r before s behind has) none

-- behind the read each slave took one step more
pub state_ring : (station limit : ℕ) (state : AlState) (r : RingState) (before behind : List SlaveState)
    (s : SlaveState) (result : Result (Unit {0}) MasterFault) (later : RingState)
    → HasStation station r before s behind
    → AllByRecursion IsSlave r.slaves
    → 1 ≤ limit → IsRequested RingTrips r station state limit result later
    → later ≡ stepped (asked_ring station state r before s behind)
state_ring station limit state r before behind s result later has slaves some talk =
    (states.requested station limit state r before s behind result later has
    (states.slaves_between station state r before s behind has slaves) some talk).ring

-- ---- an error that is acknowledged

-- the result is the state in which the read found the slave, where no error stands behind the write
pub acknowledged_told : (station limit : ℕ) (r : RingState) (before behind : List SlaveState) (s : SlaveState)
    (result : Result AlState MasterFault) (later : RingState) → HasStation station r before s behind
    → AllByRecursion IsSlave r.slaves → 1 ≤ limit → IsAcknowledged RingTrips r station limit result later
    → (al_status (acknowledged_slave station s).controller).error ≡ false
    → result ≡ Ok (al_status s.controller).state
acknowledged_told station limit r before behind s result later has slaves some is none =
    (acknowledging.acknowledged station limit r before s behind result later has slaves some is
    none).result_is

-- and the slave is in that state
pub acknowledged_entered : (station : ℕ) (r : RingState) (before behind : List SlaveState) (s : SlaveState)
    → HasStation station r before s behind → AllByRecursion IsSlave r.slaves
    → (al_status (acknowledged_slave station s).controller).error ≡ false
    → (al_status (acknowledged_slave station s).controller).state ≡ (al_status s.controller).state
acknowledged_entered station r before behind s =
    acknowledging.acknowledged_state station r before s behind

-- behind the last read each slave took one step more
pub acknowledged_left : (station limit : ℕ) (r : RingState) (before behind : List SlaveState) (s : SlaveState)
    (result : Result AlState MasterFault) (later : RingState) → HasStation station r before s behind
    → AllByRecursion IsSlave r.slaves → 1 ≤ limit → IsAcknowledged RingTrips r station limit result later
    → (al_status (acknowledged_slave station s).controller).error ≡ false
    → later ≡ stepped (acknowledged_ring station r before s behind)
acknowledged_left station limit r before behind s result later has slaves some is none =
    (acknowledging.acknowledged station limit r before s behind result later has slaves some is none).ring

-- ---- mailboxes that are empty

-- it is seen at once, and each slave took one step
pub settled_at_once : (peer : Peer) (limit : ℕ) (r : RingState) (before behind : List SlaveState)
    (s : SlaveState) (result : Result (Unit {0}) MasterFault) (later : RingState)
    → HasPeer peer r before s behind → 1 ≤ limit → IsSettled RingTrips r peer limit result later
    → (result ≡ Ok tt) × (later ≡ stepped r)
settled_at_once peer limit r before behind s result later =
    settling.settles peer limit r before s behind result later

-- ---- transfers

-- an upload comes to the object's value, or to the abort code that says why not
pub upload_answered : (peer peer_later : Peer) (index sub limit : ℕ) (r : RingState)
    (before behind : List SlaveState) (s : SlaveState) (result : Result Value MasterFault) (later : RingState)
    → HasPeer peer r before s behind → IsRequest (Upload index sub) → 1 ≤ limit
    → IsTransferred RingTrips r peer (uploading index sub) limit result peer_later later
    → (result ≡ upload_of index sub s.application.objects)
    × IsAnswered peer (Upload index sub) r before s behind peer_later later
upload_answered peer peer_later index sub limit r before behind s result later =
    objects.uploaded peer peer_later index sub limit r before s behind result later

-- a download comes to Ok, or to that code
pub download_answered : (peer peer_later : Peer) (index sub : ℕ) (value : Value) (limit : ℕ) (r : RingState)
    (before behind : List SlaveState) (s : SlaveState) (result : Result (Unit {0}) MasterFault)
    (later : RingState)
    → HasPeer peer r before s behind → IsRequest (Download index sub value) → 1 ≤ limit
    → IsTransferred RingTrips r peer (downloading index sub value) limit result peer_later later
    → (result ≡ download_of index sub value s.application.objects)
    × IsAnswered peer (Download index sub value) r before s behind peer_later later
download_answered peer peer_later index sub value limit r before behind s result later =
    objects.downloaded peer peer_later index sub value limit r before s behind result later

-- the objects then
pub objects_answered : (peer : Peer) (asked : Sdo) (r : RingState) (before behind : List SlaveState)
    (s : SlaveState) → HasPeer peer r before s behind → IsRequest asked
    → (answered peer asked s).application.objects ≡ objects_after asked s.application.objects
objects_answered peer asked r before behind s has fits =
    (objects.slave_done peer asked r before s behind has fits).objects

-- the next transfer finds what this one found
pub answered_again : (peer : Peer) (asked : Sdo) (r : RingState) (before behind : List SlaveState)
    (s : SlaveState) → HasPeer peer r before s behind → IsRequest asked
    → HasPeer (skipped peer) (answered_ring peer asked r before s behind) (two_steps before)
    (answered peer asked s) (two_steps behind)
answered_again peer asked r before behind s = objects.ring_done peer asked r before s behind

-- ---- the object that a transfer names

-- one that may be read is read
pub object_read : (peer peer_later : Peer) (index sub limit : ℕ) (r : RingState)
    (before behind : List SlaveState) (s : SlaveState) (result : Result Value MasterFault) (later : RingState)
    (rights : Rights) (value : Value)
    → HasPeer peer r before s behind → IsRequest (Upload index sub) → 1 ≤ limit
    → IsTransferred RingTrips r peer (uploading index sub) limit result peer_later later
    → object_at index sub s.application.objects ≡ Some (rights, value) → may_read rights ≡ true
    → result ≡ Ok value
object_read peer peer_later index sub limit r before behind s result later rights value has fits some transfer
    is may =
    (objects.uploaded peer peer_later index sub limit r before s behind result later has fits some
    transfer).0
    ∙ objects.readable index sub s.application.objects rights value is may

-- one that may be written takes a value of its length
pub object_written : (peer peer_later : Peer) (index sub : ℕ) (value : Value) (limit : ℕ) (r : RingState)
    (before behind : List SlaveState) (s : SlaveState) (result : Result (Unit {0}) MasterFault)
    (later : RingState) (rights : Rights) (old : Value)
    → HasPeer peer r before s behind → IsRequest (Download index sub value) → 1 ≤ limit
    → IsTransferred RingTrips r peer (downloading index sub value) limit result peer_later later
    → object_at index sub s.application.objects ≡ Some (rights, old) → may_write rights ≡ true
    → size_of value ≡ size_of old
    → result ≡ Ok tt
object_written peer peer_later index sub value limit r before behind s result later rights old has fits some
    transfer is may size =
    (objects.downloaded peer peer_later index sub value limit r before s behind result later has fits some
    transfer).0
    ∙ objects.writable index sub s.application.objects rights value old is may size

-- and holds it then
pub object_holds : (peer : Peer) (index sub : ℕ) (value : Value) (r : RingState)
    (before behind : List SlaveState) (s : SlaveState) (rights : Rights) (old : Value)
    → HasPeer peer r before s behind → IsRequest (Download index sub value)
    → object_at index sub s.application.objects ≡ Some (rights, old) → may_write rights ≡ true
    → size_of value ≡ size_of old
    → object_at index sub (answered peer (Download index sub value) s).application.objects
    ≡ Some (rights, value)
object_holds peer index sub value r before behind s rights old has fits is may size =
    ap (λ (es : List Entry). object_at index sub es)
    (objects.slave_done peer (Download index sub value) r before s behind has fits).objects
    ∙ objects.holds_value index sub s.application.objects rights value old is may size

-- ---- whom a transfer may be with

-- a slave in Pre-Op with two mailboxes, as it is made, takes a peer's first request
pub ready_at_first : (station : ℕ) (c : ControllerState) (requests answers : SyncMan)
    (application : ApplicationState) (peer : Peer) → IsFresh station c → AreMailboxes peer requests answers
    → application.kept ≡ None
    → IsReady peer (record { controller = prepared c requests answers; application = application })
ready_at_first = ready.ready_at_first
