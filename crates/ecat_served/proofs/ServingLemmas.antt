-- What `ecat_serve` does with a packet makes the history of a line one packet longer.
use Rattle.std.specs.Option.{option_map}
use Rattle.std.specs.Prelude.{◌≡◌, ℕ, ◌-◌, zero, suc, nat_lt, Bool, true, false, if◌then◌else◌}
use Rattle.std.specs.Prelude.{List, [], ◌∷◌, length, Option, None, Some, is_none, slice_get}
use Rattle.std.specs.Prelude.{Result, All, refl}
use Rattle.std.specs.declared.net.socket_addr.SocketAddr.{SocketAddr}
use Rattle.std.proofs.Common.{ap, sym, subst, ◌∙◌}
use Rattle.std.proofs.lemmas.List.{length-set}
use Rattle.ec_regs.specs.Bits.{AreBytes}
use Rattle.ec_wire.specs.Datagram.{DatagramRecord}
use Rattle.ec_app.specs.State.{SlaveState}
use Rattle.ec_esc.specs.State.{ControllerState, IsController}
use Rattle.ec_line.specs.Moving.{HasMoved}
use Rattle.ec_ring.specs.Ring.{RingState, line_of}
use Rattle.ec_ring.specs.Travel.{came_of}
use Rattle.ec_ring.specs.Walk.{walked}
use Rattle.ec_ring.specs.declared.links.Links.{Links}
use Rattle.ec_ring.specs.declared.port.Port.{Port}
use Rattle.ec_ring.specs.declared.port.Port.TheVariants.{A, B}
use Rattle.ec_ring.proofs.Laws.{length-walked_from_a, length-walked_from_b, line-between}
use Rattle.ec_ring.specs.declared.port.PortFault.{PortFault}
use Rattle.ec_applications.specs.Links.{all_told, dl_status, first_told, place_told, slave_told}
use Rattle.ec_applications.specs.State.{ApplicationsState}
use Rattle.ec_applications.specs.declared.eeproms.PlacedEeprom.{PlacedEeprom}
use Rattle.ecat_serve.specs.Answering.{Arrival, Walks, once_lost, spared}
use Rattle.ecat_serve.specs.Ends.{Sends}
use Rattle.ecat_serve.specs.Rounds.{IsAnswered, Serving}
use Rattle.ecat_serve.specs.State.{ServedState, linked, losing, moved_on, serves_link, spoken, spoken_at_b}
use Rattle.ecat_serve.specs.State.{to_lose_at}
use Rattle.ecat_serve.specs.declared.ends.Arrived.{Arrived}
use Rattle.ecat_serve.specs.declared.served.Round.{Round}
use Rattle.ecat_served.specs.Acting.{once_acted}
use Rattle.ecat_served.specs.History.{AllHaveMoved, AreControllers, IsHistory, Packet, walk_of}
use Rattle.ecat_served.specs.Serving.{IsSound, packet_at, ring_walked}
use Rattle.ecat_served.specs.Trips.{came_from}
use Rattle.ecat_served.proofs.ActingLemmas.{ActingMoves, ServingMoves, SizeActed, SizeBehind, StepMoves}
use Rattle.ecat_served.proofs.ActingLemmas.{moved_behind}
use Rattle.ecat_served.proofs.EachLemmas.{each_at, moved_each}
use Rattle.ecat_served.proofs.HistoryLemmas.{moved_before}
use Rattle.ecat_served.proofs.MovedLemmas.{all_moved-refl}
use Rattle.ecat_served.proofs.SoundLemmas.{told_line_is}
use Rattle.ecat_served.proofs.StillLemmas.{behind_a, behind_b}

-- what is known of slaves that act, and of those that are told of their links
pub record Known : Type 0 where
  pub steps : StepMoves
  pub acts : ActingMoves
  pub serves : ServingMoves
  pub size_acted : SizeActed
  pub size_behind : SizeBehind

abbrev pub TellingMoves : Type 0
TellingMoves = (is_up : ℕ → Bool) (r : RingState) (k : ℕ) (before after : SlaveState)
    → slice_get r.slaves k ≡ Some before → slice_get (all_told is_up r).slaves k ≡ Some after
    → IsController before.controller → HasMoved before.controller after.controller

-- ---- who speaks

place_size : (place status : ℕ) (r : RingState) (found : Option SlaveState)
    → length (place_told place status r found).slaves ≡ length r.slaves
place_size place status r None = refl
place_size place status r (Some s) = length-set r.slaves place (slave_told status s)

told_size : (is_up : ℕ → Bool) (n : ℕ) (r : RingState)
    → length (first_told is_up n r).slaves ≡ length r.slaves
told_size is_up zero r = refl
told_size is_up (suc k) r =
    place_size k (dl_status (is_up k) (is_up (suc k))) (first_told is_up k r)
    (slice_get (first_told is_up k r).slaves k)
    ∙ told_size is_up k r

linked_moved : TellingMoves → (s : ServedState) → AreControllers (line_of s.ring)
    → AllHaveMoved (line_of s.ring) (line_of (linked s).ring)
linked_moved telling s are =
    let r : RingState = s.ring in
    let is_up : ℕ → Bool = serves_link s in
    let told : RingState = all_told is_up r in
    moved_each r.slaves told.slaves (told_size is_up (length r.slaves) r)
    (λ k x y there later. telling is_up r k x y there later (each_at r.slaves k x are there))

pub spoken_moved : TellingMoves → (s : ServedState) (at : Port) (peer : SocketAddr)
    → AreControllers (line_of s.ring) → AllHaveMoved (line_of s.ring) (line_of (spoken s at peer).ring)
spoken_moved telling s A peer are = all_moved-refl (line_of s.ring)
spoken_moved telling s B peer are =
    let heard : ServedState = spoken_at_b s peer in
    let P : Bool → Type 0 = λ b.
    AllHaveMoved (line_of s.ring) (line_of (if b then linked heard else heard).ring) in
    elim (is_none s.peer_b) as P [
      | true ↦ linked_moved telling heard are
      | false ↦ all_moved-refl (line_of s.ring)
    ]

-- and what stays of the line that has heard somebody
pub record StaysHeard (s heard : ServedState) : Type 0 where
  pub line : AreControllers (line_of s.ring) → AreControllers (line_of heard.ring)
  pub applications : heard.applications ≡ s.applications

heard_stays : (s : ServedState) (at : Port) (peer : SocketAddr) → StaysHeard s (spoken s at peer)
heard_stays s A peer = record { line = λ are. are; applications = refl }
heard_stays s B peer =
    let heard : ServedState = spoken_at_b s peer in
    let P : Bool → Type 0 = λ b. StaysHeard s (if b then linked heard else heard) in
    elim (is_none s.peer_b) as P [
      | true ↦ record {
        line = told_line_is (serves_link heard) (length s.ring.slaves) s.ring;
        applications = refl;
      }
      | false ↦ record { line = λ are. are; applications = refl }
    ]

-- ---- a frame walks

walked_length : (from : Port) (links : Links) (frame : List DatagramRecord) (line : List ControllerState)
    → length (walked from links frame line).line ≡ length line
walked_length A links frame line = length-walked_from_a links frame line
walked_length B links frame line = length-walked_from_b links frame line

-- controllers behind it are controllers
walked_is : (from : Port) (links : Links) (frame : List DatagramRecord) (line : List ControllerState)
    → AreControllers line → AreControllers (walked from links frame line).line
walked_is A links frame line are = behind_a links frame line are
walked_is B links frame line are = behind_b links frame line are

pub lost_ring : (s : ServedState) (arrival : Arrival) → (once_lost s arrival).ring ≡ s.ring
lost_ring s None = refl
lost_ring s (Some arrived) = at_port arrived.1
  where
    at_port : (port : Port) → (losing s port (to_lose_at s arrived.1 - 1)).ring ≡ s.ring
    at_port A = refl
    at_port B = refl

-- ---- rounds

pub dropped_history : Known → (s later : ServedState) → IsSound s s.ring → later ≡ moved_on s s.ring
    → IsHistory (line_of s.ring) [] (line_of later.ring)
dropped_history known s later sound leaves =
    subst (λ (x : ServedState). AllHaveMoved (line_of s.ring) (line_of x.ring)) (sym leaves)
    (moved_behind known.steps known.acts known.serves known.size_acted known.size_behind s.applications s.ring
    (record { before = sound.line; stepped_is = sound.stepped_is; eeproms = sound.eeproms }))

-- a frame walks over the line of a ring, and then its slaves act
walked_history : Known → (before later : ServedState) (from : Port) (frame : List DatagramRecord)
    (arrival : Arrival) (walks : Walks before from frame arrival later)
    → IsSound before (ring_walked before (packet_at before from frame walks.links))
    → IsHistory (line_of before.ring) (packet_at before from frame walks.links ∷ []) (line_of later.ring)
walked_history known before later from frame arrival walks sound =
    let p : Packet = packet_at before from frame walks.links in
    let ring : RingState = ring_walked before p in
    let is : line_of ring ≡ (walk_of p).line =
    line-between before.ring ring (walk_of p).line refl (walked_length from walks.links frame p.met) in
    let moved : AllHaveMoved (line_of ring) (line_of (once_acted before.applications ring)) =
    moved_behind known.steps known.acts known.serves known.size_acted known.size_behind before.applications
    ring
    (record {
      before = subst AreControllers (sym is) (walked_is from walks.links frame p.met sound.line);
      stepped_is = sound.stepped_is;
      eeproms = sound.eeproms;
    }) in
    let left : AllHaveMoved (line_of ring) (line_of later.ring) =
    subst (λ (x : ServedState). AllHaveMoved (line_of ring) (line_of x.ring)) (sym walks.leaves) moved in (
      all_moved-refl p.met,
      sound.line,
      subst (λ (l : List ControllerState). AllHaveMoved l (line_of later.ring)) is left,
    )

pub answered_history : {E : Type 0} (sends : Sends E) → Known → TellingMoves → (arrived : Arrived)
    (packet : List ℕ) (before later : Serving E) (result : Result Round PortFault)
    (answered : IsAnswered sends arrived packet before result later)
    → let heard = spoken before.line arrived.at arrived.from in
    let p = packet_at heard arrived.at answered.frame answered.walks.links
    in IsSound before.line (ring_walked heard p)
    → IsHistory (line_of before.line.ring) (p ∷ []) (line_of later.line.ring)
answered_history sends known telling arrived packet before later result answered sound =
    let heard : ServedState = spoken before.line arrived.at arrived.from in
    let p : Packet = packet_at heard arrived.at answered.frame answered.walks.links in
    let stays : StaysHeard before.line heard = heard_stays before.line arrived.at arrived.from in
    let sound_then : IsSound heard (ring_walked heard p) = record {
      line = stays.line sound.line;
      stepped_is = sound.stepped_is;
      eeproms = subst
          (λ (x : ApplicationsState). All (λ (one : PlacedEeprom). AreBytes one.eeprom) x.eeproms)
          (sym stays.applications) sound.eeproms;
    } in
    let walked_on : IsHistory (line_of heard.ring) (p ∷ []) (line_of answered.walked.ring) =
    walked_history known heard answered.walked arrived.at answered.frame answered.arrival answered.walks
    sound_then in
    let same : later.line.ring ≡ answered.walked.ring =
    ap (λ (x : ServedState). x.ring) answered.loses ∙ lost_ring answered.walked answered.arrival in
    moved_before (line_of before.line.ring) (line_of heard.ring) (line_of later.line.ring) (p ∷ [])
    (spoken_moved telling before.line arrived.at arrived.from sound.line)
    (subst (λ (r : RingState). IsHistory (line_of heard.ring) (p ∷ []) (line_of r)) (sym same) walked_on)

-- ---- what is sent

as_lost : (lost : Bool) (x : List DatagramRecord × Port) (line : List ControllerState)
    → option_map (λ (y : List DatagramRecord × Port). y.0) (if lost then None else Some x)
    ≡ came_of lost (record { arrived = Some x; line = line })
as_lost true x line = refl
as_lost false x line = refl

spared_as : (s : ServedState) (arrival : Arrival) (line : List ControllerState)
    → (lost : Bool) × (option_map (λ (y : List DatagramRecord × Port). y.0) (spared s arrival)
    ≡ came_of lost (record { arrived = arrival; line = line }))
spared_as s None line = (false, refl)
spared_as s (Some x) line = (nat_lt 0 (to_lose_at s x.1), as_lost (nat_lt 0 (to_lose_at s x.1)) x line)

-- what leaves an end is what the packet's walk gave, unless it was lost there
pub sent_as : (s walked_on : ServedState) (from : Port) (frame : List DatagramRecord) (arrival : Arrival)
    (walks : Walks s from frame arrival walked_on)
    → (lost : Bool) × (option_map (λ (y : List DatagramRecord × Port). y.0) (spared walked_on arrival)
    ≡ came_from lost (Some (packet_at s from frame walks.links)))
sent_as s walked_on from frame arrival walks =
    let p : Packet = packet_at s from frame walks.links in
    let line : List ControllerState = (walk_of p).line in
    let is = spared_as walked_on arrival line in (
      is.0,
      is.1 ∙ ap (λ (a : Arrival). came_of is.0 (record { arrived = a; line = line })) walks.arrives,
    )
