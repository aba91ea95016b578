-- A frame is sent to a line once more: each copy walks over it from its end, and what leaves the line comes
-- back, of two copies joined (IEC 61158-4-12, a slave's ports).
use Rattle.std.specs.Prelude.{◌≡◌, ℕ, ◌==◌, Bool, true, false, Option, None, Some, List, position, nat_lt}
use Rattle.std.specs.Prelude.{if◌then◌else◌, length, slice_get, take, Result, Ok, IfSome, MatchOption}
use Rattle.std.specs.declared.net.socket_addr.SocketAddr.{SocketAddr}
use Rattle.ec_regs.specs.declared.sync_man.SyncMan.{SyncMan}
use Rattle.ec_regs.specs.declared.registers.TheConstants.{STATION_ADDRESS}
use Rattle.ec_wire.specs.Datagram.{DatagramRecord}
use Rattle.ec_wire.specs.Fault.{IsSpelt}
use Rattle.ec_wire.specs.Spelling.{spelling}
use Rattle.ec_wire.specs.declared.fault.Form.TheVariants.{Udp}
use Rattle.ec_areas.specs.Records.{sync_manager_at}
use Rattle.ec_merge.specs.Frames.{IsOwn, IsFault, joined_frame}
use Rattle.ec_merge.specs.declared.frames.JoinFault.{JoinFault}
use Rattle.ec_esc.specs.State.{word_at}
use Rattle.ec_app.specs.State.{SlaveState}
use Rattle.ec_ring.specs.declared.port.Port.{Port}
use Rattle.ec_ring.specs.declared.port.Port.TheVariants.{A, B}
use Rattle.ec_ring.specs.declared.port.PortFault.{PortFault}
use Rattle.ecat_serve.specs.Answering.{Arrival, Walks, once_lost, spared}
use Rattle.ecat_serve.specs.Ends.{Receives, Sends}
use Rattle.ecat_serve.specs.State.{ServedState, peer_at, spoken}
use Rattle.ecat_serve.specs.declared.ends.Arrived.{Arrived}
use Rattle.ecat_replay.specs.declared.part.Part.{Part}
use Rattle.ecat_replay.specs.declared.part.Whom.{Whom}
use Rattle.ecat_replay.specs.declared.part.Whom.TheVariants.{Place, Station}
use Rattle.ecat_replay.specs.declared.player.OneFrame.{OneFrame}

-- ---- slaves

-- has a slave this station address
abbrev pub has_station : ℕ → SlaveState → Bool
has_station station slave = word_at slave.controller.memory STATION_ADDRESS == station

-- the place of the slave that is asked alone, if there is one
abbrev pub place_of : Whom → List SlaveState → Option ℕ
place_of (Place place) slaves = if nat_lt place (length slaves) then Some place else None
place_of (Station station) slaves = position (has_station station) slaves
place_of _ slaves = None

-- where sync manager 1 begins, of a slave that has mailboxes (IEC 61158-6-12, sync manager channels)
abbrev pub mail_start : SyncMan → Option ℕ
mail_start manager = if manager.length == 0 then None else Some manager.start

abbrev pub mailbox_of_slave : Option SlaveState → Option ℕ
mailbox_of_slave None = None
mailbox_of_slave (Some slave) = mail_start (sync_manager_at slave.controller.memory 1)

abbrev pub mailbox_at : List SlaveState → Option ℕ → Option ℕ
mailbox_at slaves None = None
mailbox_at slaves (Some place) = mailbox_of_slave (slice_get slaves place)

-- where the slave that is asked has what it mails, if it is one with mailboxes
unfoldable pub mailbox_of : Part → List SlaveState → Option ℕ
mailbox_of part slaves = mailbox_at slaves (place_of part.whom slaves)

-- ---- the ends of a line to which one frame comes, and from which one may leave

-- the frame comes at its end, whoever sends it
pub record HasCome (before : OneFrame) (answer : Result (Option Arrived) PortFault) (room : List ℕ)
    (later : OneFrame) : Type 0 where
  pub speaker : SocketAddr
  pub answers : answer ≡ Ok (Some (record {
    at = before.at;
    from = speaker;
    count = length (spelling before.frame);
  }))
  pub bytes : take (length (spelling before.frame)) room ≡ spelling before.frame
  pub keeps : later ≡ record before { has_come = true }

abbrev pub receive_one : Receives OneFrame
receive_one before answer room later = before.has_come ≡ false → HasCome before answer room later

-- a packet is read as the frame that it spells; as nothing if it spells none
pub record IsRead (packet : List ℕ) (came : Option (List DatagramRecord)) : Type 0 where
  pub found : IfSome came (IsSpelt Udp packet)
  pub all : (frame : List DatagramRecord) → IsSpelt Udp packet frame → came ≡ Some frame

-- what leaves comes back
abbrev pub send_one : Sends OneFrame
send_one before from to packet answer later = IsRead packet later.came

-- ---- one copy, and a frame

-- what arrives leaves to whoever spoke at that end, and comes back
abbrev pub ComesBackBy : Option SocketAddr → List DatagramRecord → Option (List DatagramRecord) → Type 0
ComesBackBy None frame came = came ≡ None
ComesBackBy (Some peer) frame came = IsRead (spelling frame) came

abbrev pub ComesBack : ServedState → Arrival → Option (List DatagramRecord) → Type 0
ComesBack line None came = came ≡ None
ComesBack line (Some arrived) came = ComesBackBy (peer_at line arrived.1) arrived.0 came

-- a copy of a frame is sent from an end: who sends it has spoken there, it walks, and behind it each slave
-- takes its step and each application acts
pub record IsSent (from : Port) (frame : List DatagramRecord) (before : ServedState)
    (came : Option (List DatagramRecord)) (later : ServedState) : Type 0 where
  pub speaker : SocketAddr
  pub arrival : Arrival
  pub walked : ServedState
  pub walks : Walks (spoken before from speaker) from frame arrival walked
  pub loses : later ≡ once_lost walked arrival
  pub comes : ComesBack later (spared walked arrival) came

-- what comes back of two copies, joined; nothing where one of them cannot have come of the frame
abbrev pub IsJoin : List DatagramRecord → Option (List DatagramRecord) → Option (List DatagramRecord)
    → Option (List DatagramRecord) → Type 0
IsJoin frame None second came = came ≡ second
IsJoin frame (Some a) None came = came ≡ Some a
IsJoin frame (Some a) (Some b) came =
    MatchOption came ((fault : JoinFault) × IsFault frame a b fault)
    (λ joined. IsOwn frame a × IsOwn frame b × (joined ≡ joined_frame frame a b))

-- both copies are sent, of a master with two ports, the one from end A first
pub record AreBothSent (frame : List DatagramRecord) (before : ServedState)
    (came : Option (List DatagramRecord)) (later : ServedState) : Type 0 where
  pub between : ServedState
  pub first : Option (List DatagramRecord)
  pub sends_first : IsSent A frame before first between
  pub second : Option (List DatagramRecord)
  pub sends_second : IsSent B frame between second later
  pub joins : IsJoin frame first second came

-- a frame is sent once more
abbrev pub IsPlayed : Bool → List DatagramRecord → ServedState → Option (List DatagramRecord) → ServedState
    → Type 0
IsPlayed false frame before came later = IsSent A frame before came later
IsPlayed true frame before came later = AreBothSent frame before came later
