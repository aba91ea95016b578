-- A call over a line in any weather, as the one slave sees it that is asked (IEC 61158-4-12, sync manager,
-- mailbox mode; IEC 61158-6-12, SDO services): copies of a frame are lost, and pass the slave not at all,
-- once or twice; what then stands in its mailboxes, and what the call comes to.
use Rattle.std.specs.Prelude.{◌≡◌, ◌⊎◌, ◌<◌, ◌≤◌, ℕ, zero, suc, ◌-◌, Bool, true, false, not}
use Rattle.std.specs.Prelude.{if◌then◌else◌}
use Rattle.std.specs.Prelude.{Option, None, Some, List, [], ◌∷◌, ◌++◌, length, map, take, drop, replicate}
use Rattle.std.specs.Prelude.{slice_index_or}
use Rattle.std.specs.Prelude.{Result, Ok, Err}
use Rattle.std.specs.List.{AllByRecursion}
use Rattle.std.specs.Option.{option_map}
use Rattle.ec_regs.specs.SyncMan.{is_full}
use Rattle.ec_regs.specs.declared.registers.TheConstants.{STATION_ADDRESS}
use Rattle.ec_areas.specs.Ranges.{meets_one}
use Rattle.ec_areas.specs.Records.{sync_manager_at, sync_managers_of}
use Rattle.ec_wire.specs.Datagram.{DatagramRecord}
use Rattle.ec_esc.specs.Application.{al_status}
use Rattle.ec_esc.specs.Pass.{PassedFrame, frame_pass}
use Rattle.ec_esc.specs.State.{ControllerState, word_at}
use Rattle.ec_line.specs.Trip.{circulated}
use Rattle.ec_app.specs.Lending.{with_controller}
use Rattle.ec_app.specs.Mail.{mail_bytes, sent}
use Rattle.ec_app.specs.MailStep.{has_mail, is_kept, mail_answer, reply}
use Rattle.ec_app.specs.Objects.{object_at}
use Rattle.ec_app.specs.Roles.{is_answer_mailbox, is_request_mailbox}
use Rattle.ec_app.specs.Slave.{step}
use Rattle.ec_app.specs.State.{SlaveState}
use Rattle.ec_app.specs.declared.mail.Mail.{Mail}
use Rattle.ec_app.specs.declared.objects.Entry.{Entry}
use Rattle.ec_app.specs.declared.roles.TheConstants.{ANSWER_MAILBOX, REQUEST_MAILBOX}
use Rattle.ec_app.specs.declared.sdo.Sdo.{Sdo}
use Rattle.ec_app.specs.declared.sdo.Sdo.TheVariants.{Download}
use Rattle.ec_app.specs.declared.value.Rights.{Rights}
use Rattle.ec_app.specs.declared.value.Value.{Value}
use Rattle.ec_ring.specs.Ring.{RingState, line_of, stepped, with_line}
use Rattle.ec_ring.specs.Travel.{travelled}
use Rattle.ec_ring.specs.declared.port.PortFault.{PortFault}
use Rattle.ec_ring.specs.declared.weather.Came.{Came}
use Rattle.ec_ring.specs.declared.weather.Weather.{Weather}
use Rattle.ec_services.specs.Mailbox.{IsPeer, mail_write, request_mail}
use Rattle.ec_services.specs.declared.fault.MasterFault.{MasterFault}
use Rattle.ec_services.specs.declared.fault.MasterFault.TheVariants.{NoAnswer, Port, Stranger}
use Rattle.ec_services.specs.declared.mailbox.Area.{Area}
use Rattle.ec_services.specs.declared.mailbox.Peer.{Peer}
use Rattle.ec_services.specs.Progress.{Known, both_empty}
use Rattle.ec_over_ring.specs.States.{IsElsewhere}
use Rattle.ec_over_ring.specs.Transfers.{IsSlave, download_of, objects_after}

-- ---- one trip

-- how both copies of a frame fare at a slave: does each pass it, copy B before copy A or behind it; does copy
-- B circulate, having turned round at a closed port 0; is each lost; and how many steps does the slave take
-- then
pub record Fate : Type 0 where
  pub passes_a : Bool
  pub passes_b : Bool
  pub b_first : Bool
  pub turned : Bool
  pub lost_a : Bool
  pub lost_b : Bool
  pub steps : ℕ

-- a copy behind a slave, and the slave's controller
abbrev pub passed_if : Bool → ControllerState → List DatagramRecord → PassedFrame
passed_if passes c frame = if passes then frame_pass c frame else record { frame = frame; state = c }

-- copy B as it comes to the slave
abbrev pub copy_b : Fate → List DatagramRecord → List DatagramRecord
copy_b f frame = if f.turned then circulated frame else frame

-- what comes back of both copies
abbrev pub came_under : Fate → List DatagramRecord → List DatagramRecord → Came
came_under f a b = record {
  a = if f.lost_a then None else Some a;
  b = if f.lost_b then None else Some b;
}

-- that, and the controller behind both
pub record Fared : Type 0 where
  pub came : Came
  pub state : ControllerState

abbrev pub a_then_b : Fate → ControllerState → List DatagramRecord → Fared
a_then_b f c frame =
    let a = passed_if f.passes_a c frame in
    let b = passed_if f.passes_b a.state (copy_b f frame)
    in record { came = came_under f a.frame b.frame; state = b.state }

abbrev pub b_then_a : Fate → ControllerState → List DatagramRecord → Fared
b_then_a f c frame =
    let b = passed_if f.passes_b c (copy_b f frame) in
    let a = passed_if f.passes_a b.state frame
    in record { came = came_under f a.frame b.frame; state = a.state }

abbrev pub fared : Fate → ControllerState → List DatagramRecord → Fared
fared f c frame = if f.b_first then b_then_a f c frame else a_then_b f c frame

-- a slave after so many steps
abbrev pub steps_of : ℕ → SlaveState → SlaveState
steps_of zero s = s
steps_of (suc n) s = steps_of n (step s)

-- the slave behind a trip
abbrev pub after_trip : Fate → List DatagramRecord → SlaveState → SlaveState
after_trip f frame s = steps_of f.steps (with_controller s (fared f s.controller frame).state)

-- ---- as a trip over a ring

-- a datagram's trip over a ring in a weather: what comes back is what comes back at one slave with some fate,
-- which is left so, and each of the others has taken its step
pub record HasFate (w : Weather) (d : DatagramRecord) (r : RingState) (before : List SlaveState)
    (s : SlaveState) (behind : List SlaveState) : Type 0 where
  pub fate : Fate
  pub once : fate.steps ≡ 1
  pub came : (travelled w (d ∷ []) (line_of r)).came ≡ (fared fate s.controller (d ∷ [])).came
  pub slaves : (stepped (with_line r (travelled w (d ∷ []) (line_of r)).line)).slaves
      ≡ map step before ++ step (with_controller s (fared fate s.controller (d ∷ [])).state)
      ∷ map step behind

-- ---- the trips of a call

-- a slave as it is, and as it was before each trip of a call, the last one first
pub record History : Type 0 where
  pub now : SlaveState
  pub past : List SlaveState

-- at first
abbrev pub begun_at : SlaveState → History
begun_at s = record { now = s; past = [] }

-- as it was at all times of the call
abbrev pub times_of : History → List SlaveState
times_of h = h.now ∷ h.past

-- the copies come back so, or the trip failed whatever it did to the slave
abbrev pub ComesSo : Result Came PortFault → Came → Type 0
ComesSo (Err failed) copies = Unit {0}
ComesSo (Ok came) copies = came ≡ copies

-- a frame's trip, with any fate
pub record SlaveTrips (before : History) (frame : List DatagramRecord) (came : Result Came PortFault)
    (later : History) : Type 0 where
  pub fate : Fate
  pub comes : ComesSo came (fared fate before.now.controller frame).came
  pub later_is : later
      ≡ record { now = after_trip fate frame before.now; past = times_of before }

-- one of these slaves is so
abbrev pub OneIs : (SlaveState → Type 0) → List SlaveState → Type 0
OneIs P [] = ⊥
OneIs P (s ∷ ss) = P s ⊎ OneIs P ss

-- ---- whose slave it is

-- the area of the sync manager with a number is this one, and the only one there
pub record IsMailboxAt (memory : List ℕ) (number : ℕ) (area : Area) : Type 0 where
  pub start : (sync_manager_at memory number).start ≡ area.start
  pub length : (sync_manager_at memory number).length ≡ area.length
  pub alone : meets_one (sync_managers_of memory) area.start area.length ≡ true

-- the slave of a peer, in whatever state, with whatever in its mailboxes, and whatever mail it took last; no
-- new state is asked for
pub record IsOfPeer (peer : Peer) (s : SlaveState) : Type 0 where
  pub slave : IsSlave s
  pub address : peer.station < 65536
  pub station : word_at s.controller.memory STATION_ADDRESS ≡ peer.station
  pub unasked : s.controller.written ≡ false
  pub requests : is_request_mailbox (sync_manager_at s.controller.memory REQUEST_MAILBOX) ≡ true
  pub answers : is_answer_mailbox (sync_manager_at s.controller.memory ANSWER_MAILBOX) ≡ true
  pub to : IsMailboxAt s.controller.memory REQUEST_MAILBOX peer.to
  pub from : IsMailboxAt s.controller.memory ANSWER_MAILBOX peer.from

-- ---- what stands in its mailboxes

-- is a request there, and is an answer
abbrev pub request_stands : SlaveState → Bool
request_stands s = is_full (sync_manager_at s.controller.memory REQUEST_MAILBOX)

abbrev pub answer_stands : SlaveState → Bool
answer_stands s = is_full (sync_manager_at s.controller.memory ANSWER_MAILBOX)

pub record AreEmpty (s : SlaveState) : Type 0 where
  pub request : request_stands s ≡ false
  pub answer : answer_stands s ≡ false

-- the bytes of an area
abbrev pub bytes_in : Area → SlaveState → List ℕ
bytes_in area s = take area.length (drop area.start s.controller.memory)

-- the mail by which a slave with these objects answers a request, if it answers
abbrev pub reply_to : Peer → Sdo → List Entry → Option Mail
reply_to peer asked objects =
    let m = request_mail peer asked in reply m (mail_answer m objects)

-- the request waits alone, and nothing has happened to the application since one of those times
pub record RequestWaits (peer : Peer) (asked : Sdo) (times : List SlaveState) (s : SlaveState) : Type 0 where
  pub request : request_stands s ≡ true
  pub answer : answer_stands s ≡ false
  pub bytes : bytes_in peer.to s ≡ (mail_write peer asked).payload
  pub before : OneIs (λ (t : SlaveState). t.application ≡ s.application) times

-- the slave took the request behind one time, t, and this mail answers it by the objects of that time; at
-- another, s, it is the last that was taken, and what it asked for is stored
pub record Replies (peer : Peer) (asked : Sdo) (mail : Mail) (s t : SlaveState) : Type 0 where
  pub not_before : is_kept t.application.kept peer.counter ≡ false
  pub taken : s.application.kept ≡ Some peer.counter
  pub reply_is : reply_to peer asked t.application.objects ≡ Some mail
  pub stored : s.application.objects ≡ objects_after asked t.application.objects

-- its answer waits alone; the slave took it behind one of those times
pub record ReplyWaits (peer : Peer) (asked : Sdo) (times : List SlaveState) (s : SlaveState) : Type 0 where
  pub request : request_stands s ≡ false
  pub answer : answer_stands s ≡ true
  pub mail : Mail
  pub bytes : bytes_in peer.from s
      ≡ mail_bytes (sent mail) ++ replicate (peer.from.length - length (mail_bytes (sent mail))) 0
  pub at : OneIs (Replies peer asked mail s) times

-- behind a post: nothing stands in the slave but its request or the answer to it
abbrev pub HoldsOwn : Peer → Sdo → List SlaveState → SlaveState → Type 0
HoldsOwn peer asked times s =
    AreEmpty s ⊎ (RequestWaits peer asked times s ⊎ ReplyWaits peer asked times s)

-- ---- the invariant of a call

-- the peer as it was when it posted with this counter
abbrev pub with_counter : Peer → ℕ → Peer
with_counter peer counter = record peer { counter = counter }

-- the slave was the peer's at all times; where both mailboxes are known to be empty they are; and once a
-- request was posted, nothing stands in the slave but what this call posted last
pub record IsCall (asked : Sdo) (p : Known) (h : History) : Type 0 where
  pub peer_is : IsPeer p.peer
  pub slaves : AllByRecursion (IsOfPeer p.peer) (times_of h)
  pub empty : p.known ≡ both_empty → AreEmpty h.now
  pub counter : (n : ℕ) → p.posted ≡ Some n → IsPeer (with_counter p.peer n)
  pub own : (n : ℕ) → p.posted ≡ Some n → HoldsOwn (with_counter p.peer n) asked (times_of h) h.now

-- ---- what a call comes to

-- nothing of the slave: a trip failed, a copy was a stranger, or in so many trips no answer came
abbrev pub HasNoAnswer : {A : Type 0} → Result A MasterFault → Type 0
HasNoAnswer (Err Port) = Unit {0}
HasNoAnswer (Err Stranger) = Unit {0}
HasNoAnswer (Err NoAnswer) = Unit {0}
HasNoAnswer _ = ⊥

-- the slave took a request behind one time, t, and the download came to what the objects of that time say; at
-- another, s, that request is the last that was taken, and the value is stored unless it was refused
pub record IsStored (index sub : ℕ) (value : Value) (result : Result (Unit {0}) MasterFault)
    (s t : SlaveState)
    : Type 0 where
  pub counter : ℕ
  pub not_before : is_kept t.application.kept counter ≡ false
  pub taken : s.application.kept ≡ Some counter
  pub result_is : result ≡ download_of index sub value t.application.objects
  pub stored : s.application.objects ≡ objects_after (Download index sub value) t.application.objects

-- the value of an object, if it is there
abbrev pub value_at : ℕ → ℕ → List Entry → Option Value
value_at index sub objects = option_map (λ (x : Rights × Value). x.1) (object_at index sub objects)

-- a mail decides a call: it answers its request, with some counter, which the slave took behind some time of
-- the call; and what was asked for is stored
pub record Decides (asked : Sdo) (mail : Mail) (h : History) : Type 0 where
  pub peer : Peer
  pub peer_is : IsPeer peer
  pub reply : Mail
  pub mail_is : mail ≡ sent reply
  pub at : OneIs (Replies peer asked reply h.now) (times_of h)

-- ---- a call over a ring

-- a ring as it is, and as it was before each trip of a call, the last one first
pub record RingHistory : Type 0 where
  pub now : RingState
  pub past : List RingState

-- at first
abbrev pub begun_ring : RingState → RingHistory
begun_ring r = record { now = r; past = [] }

-- a ring behind a frame's trip in a weather, once every slave took its step
abbrev pub ring_behind : Weather → List DatagramRecord → RingState → RingState
ring_behind w frame r = stepped (with_line r (travelled w frame (line_of r)).line)

-- a frame's trip over a ring in some weather
pub record IsInWeather (r : RingState) (frame : List DatagramRecord) (came : Result Came PortFault)
    (later : RingState) : Type 0 where
  pub weather : Weather
  pub comes : ComesSo came (travelled weather frame (line_of r)).came
  pub later_is : later ≡ ring_behind weather frame r

-- the same as trips of a ring and of what it was before, in any weather
pub record WeatherSteps (before : RingHistory) (frame : List DatagramRecord) (came : Result Came PortFault)
    (later : RingHistory) : Type 0 where
  pub weather : Weather
  pub comes : ComesSo came (travelled weather frame (line_of before.now)).came
  pub later_is : later
      ≡ record { now = ring_behind weather frame before.now; past = before.now ∷ before.past }

-- one slave of a ring, between those before it and those behind it, is the peer's and has its station alone;
-- the others may have whatever to do
pub record HasSlave (peer : Peer) (r : RingState) (before : List SlaveState) (s : SlaveState)
    (behind : List SlaveState) : Type 0 where
  pub slaves : r.slaves ≡ before ++ s ∷ behind
  pub all : AllByRecursion IsSlave r.slaves
  pub others_before : AllByRecursion (IsElsewhere peer.station) before
  pub others_behind : AllByRecursion (IsElsewhere peer.station) behind
  pub own : IsOfPeer peer s

-- the slave at a place of a ring; this one where there is none
abbrev pub slave_at : ℕ → SlaveState → RingState → SlaveState
slave_at place other r = slice_index_or r.slaves place other

-- and at all times of a call
abbrev pub history_at : ℕ → SlaveState → RingHistory → History
history_at place other h =
    record { now = slave_at place other h.now; past = map (slave_at place other) h.past }

-- ---- where nothing is lost

-- one copy alone passes the slave, and comes back; the slave takes a step
pub record IsCalm (f : Fate) : Type 0 where
  pub one : f.passes_b ≡ not f.passes_a
  pub back : (if f.passes_a then f.lost_a else f.lost_b) ≡ false
  pub some : 1 ≤ f.steps

-- a frame's trip, of which nothing is lost
pub record CalmTrips (before : History) (frame : List DatagramRecord) (came : Result Came PortFault)
    (later : History) : Type 0 where
  pub fate : Fate
  pub calm : IsCalm fate
  pub comes : came ≡ Ok (fared fate before.now.controller frame).came
  pub later_is : later
      ≡ record { now = after_trip fate frame before.now; past = times_of before }

-- a slave that answers mails: it is in Pre-Op or above
abbrev pub TakesMail : SlaveState → Type 0
TakesMail s = has_mail (al_status s.controller).state ≡ true

-- a download came to what the objects of a slave said at first, and on Ok the object holds the value at last
pub record HoldsStored (index sub : ℕ) (value : Value) (result : Result (Unit {0}) MasterFault)
    (first last : SlaveState) : Type 0 where
  pub result_is : result ≡ download_of index sub value first.application.objects
  pub held : result ≡ Ok tt → value_at index sub last.application.objects ≡ Some value
