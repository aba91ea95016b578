-- The three datagrams of a call at a peer's slave: the read of both records, the read of the mailbox of
-- answers, and the write of a request.
use Rattle.std.proofs.Common.{◌≡◌, ℕ, ◌+◌, ◌≤◌, true, false, ◌&&◌, eqb, List, length, take, drop}
use Rattle.std.proofs.Common.{Some, refl, sym, ap, ◌∙◌, arith, inl, inr, replicate}
use Rattle.std.proofs.lemmas.Bool.{and_parts, eq-eqb}
use Rattle.std.proofs.lemmas.List.{drop-drop, drop-take, length-replicate}
use Rattle.std.proofs.lemmas.List.{take-take}
use Rattle.ec_regs.specs.SyncMan.{is_active, is_full, is_mailbox, master_reads, master_writes, sync_man_of}
use Rattle.ec_regs.specs.declared.registers.TheConstants.{MEMORY_SIZE, STATION_ADDRESS}
use Rattle.ec_regs.specs.declared.sync_man.SyncMan.{SyncMan}
use Rattle.ec_areas.specs.Ranges.{emptied_by, filled_by, meets_one}
use Rattle.ec_areas.specs.Records.{sync_manager_at, sync_managers_of}
use Rattle.ec_areas.proofs.Laws.{active_place}
use Rattle.ec_wire.specs.Datagram.{DatagramRecord, address_of, adp_of}
use Rattle.ec_wire.specs.declared.command.Command.TheVariants.{Fprd}
use Rattle.ec_esc.specs.Pass.{pass}
use Rattle.ec_esc.specs.State.{ControllerState, word_at}
use Rattle.ec_app.specs.Lending.{with_controller}
use Rattle.ec_app.specs.State.{SlaveState}
use Rattle.ec_app.specs.declared.sdo.Sdo.{Sdo}
use Rattle.ec_services.specs.Ask.{request}
use Rattle.ec_services.specs.Mailbox.{IsMailbox, IsPeer, mail_read, mail_write}
use Rattle.ec_services.specs.Settling.{answer_waits, records_read, request_waits}
use Rattle.ec_services.specs.declared.mailbox.Area.{Area}
use Rattle.ec_services.specs.declared.mailbox.Peer.{Peer}
use Rattle.ec_over_ring.specs.Recovery.{AreEmpty, IsOfPeer, RequestWaits, answer_stands, bytes_in}
use Rattle.ec_over_ring.specs.Recovery.{OneIs, request_stands}
use Rattle.ec_over_ring.specs.Transfers.{IsRequest}
use Rattle.ec_over_ring.proofs.FateLemmas.{IsCounted, IsTwice}
use Rattle.ec_over_ring.proofs.MailboxLemmas.{IsEmptied, IsFilled, empties}
use Rattle.ec_over_ring.proofs.MailboxLemmas.{emptied_controller, filled_controller}
use Rattle.ec_over_ring.proofs.MailboxLemmas.{fills, is_emptied, is_filled, mail_taken, mail_written}
use Rattle.ec_over_ring.proofs.OfPeerLemmas.{of_peer_same}
use Rattle.ec_over_ring.proofs.PeerLemmas.{area_bytes, area_size, full_by, full_same, request_area}
use Rattle.ec_over_ring.proofs.RegisterLemmas.{registers_read, run_size}
use Rattle.ec_over_ring.proofs.StationLemmas.{ado_is, adp_is}
use Rattle.ec_over_ring.proofs.UnservedLemmas.{no_answer_read, no_request_written}

-- ---- it is meant

is_meant : (peer : Peer) (register : ℕ) (s : SlaveState) → IsOfPeer peer s
    → eqb (adp_of (address_of peer.station register)) (word_at s.controller.memory STATION_ADDRESS) ≡ true
is_meant peer register s is =
    eq-eqb _ _ (adp_is peer.station register is.address ∙ sym is.station)

-- where its mailboxes lie
record IsWithin (from n : ℕ) : Type 0 where
  some : 1 ≤ n
  low : 4096 ≤ from
  high : from + n ≤ MEMORY_SIZE

within_memory : (s : SyncMan) (area : Area) → is_active s ≡ true → s.start ≡ area.start
    → s.length ≡ area.length → IsMailbox area → IsWithin area.start area.length
within_memory s area active start size is =
    let place = active_place s active in
    let room = is.0 in
    record {
      some = omega (arith, room);
      low = omega (arith, place.0, start);
      high = omega (arith, place.1, start, size);
    }

answers_within : (peer : Peer) (s : SlaveState) → IsPeer peer → IsOfPeer peer s
    → IsWithin peer.from.start peer.from.length
answers_within peer s peer_is is =
    let m : SyncMan = sync_manager_at s.controller.memory 1 in
    let kind = and_parts (is_active m && is_mailbox m) (master_reads m) is.answers in
    let active = and_parts (is_active m) (is_mailbox m) kind.0 in
    within_memory m peer.from active.0 is.from.start is.from.length peer_is.from

requests_within : (peer : Peer) (s : SlaveState) → IsPeer peer → IsOfPeer peer s
    → IsWithin peer.to.start peer.to.length
requests_within peer s peer_is is =
    let m : SyncMan = sync_manager_at s.controller.memory 0 in
    let kind = and_parts (is_active m && is_mailbox m) (master_writes m) is.requests in
    let active = and_parts (is_active m) (is_mailbox m) kind.0 in
    within_memory m peer.to active.0 is.to.start is.to.length peer_is.to

-- ---- both records are read

-- what the read tells
abbrev pub records_told : Peer → SlaveState → DatagramRecord
records_told peer s =
    record (request Fprd (address_of peer.station 2048) (take 16 (drop 2048 s.controller.memory))) {
      counter = 1;
    }

pub records_twice : (peer : Peer) (s : SlaveState) → IsOfPeer peer s
    → IsTwice s.controller (records_read peer) (records_told peer s) s.controller
records_twice peer s is =
    let c : ControllerState = s.controller in
    let passes : pass c (records_read peer)
    ≡ record { datagram = records_told peer s; state = c } =
    registers_read c (address_of peer.station 2048) 2048 16 is.slave.controller (is_meant peer 2048 s is)
    (ado_is peer.station 2048 is.address) (omega arith) (omega arith) in
    record { first = passes; again = inr passes }

pub records_counted : (peer : Peer) (s : SlaveState) → IsOfPeer peer s
    → IsCounted (records_read peer) (records_told peer s)
records_counted peer s is =
    let memory : length s.controller.memory ≡ MEMORY_SIZE = is.slave.controller.memory_size in
    let size : length (take 16 (drop 2048 s.controller.memory)) ≡ 16 =
    run_size s.controller.memory 2048 16 (omega (arith, memory)) in
    let zeros : length {A = ℕ} (replicate 16 0) ≡ 16 = length-replicate {A = ℕ} 16 0 in
    record { sent = refl; once = omega arith; size = size ∙ sym zeros }

-- is a request there, and is an answer
pub request_seen : (s : SlaveState)
    → request_waits (take 16 (drop 2048 s.controller.memory)) ≡ request_stands s
unfolding sync_manager_at
request_seen s =
    ap (λ (bs : List ℕ). is_full (sync_man_of bs))
    (take-take 8 16 (drop 2048 s.controller.memory) (omega arith))

pub answer_seen : (s : SlaveState)
    → answer_waits (take 16 (drop 2048 s.controller.memory)) ≡ answer_stands s
unfolding sync_manager_at
answer_seen s =
    let m : List ℕ = s.controller.memory in
    ap (λ (bs : List ℕ). is_full (sync_man_of (take 8 bs))) (drop-take 8 8 (drop 2048 m))
    ∙ ap (λ (bs : List ℕ). is_full (sync_man_of bs)) (take-take 8 8 (drop 8 (drop 2048 m)) (omega arith))
    ∙ ap (λ (bs : List ℕ). is_full (sync_man_of (take 8 bs))) (drop-drop 8 2048 m)

-- ---- the mailbox of answers is read

-- an empty one
none_passes : (peer : Peer) (s : SlaveState) → IsPeer peer → IsOfPeer peer s → answer_stands s ≡ false
    → pass s.controller (mail_read peer) ≡ record { datagram = mail_read peer; state = s.controller }
none_passes peer s peer_is is empty =
    let at : IsWithin peer.from.start peer.from.length = answers_within peer s peer_is is in
    no_answer_read s.controller (address_of peer.station peer.from.start) peer.from.start peer.from.length
    is.slave.controller (ado_is peer.station peer.from.start is.address) at.some is.answers is.from.start
    is.from.length is.from.alone empty

pub none_twice : (peer : Peer) (s : SlaveState) → IsPeer peer → IsOfPeer peer s → answer_stands s ≡ false
    → IsTwice s.controller (mail_read peer) (mail_read peer) s.controller
none_twice peer s peer_is is empty = record {
  first = none_passes peer s peer_is is empty;
  again = inl (none_passes peer s peer_is is empty);
}

pub none_counted : (peer : Peer) → IsCounted (mail_read peer) (mail_read peer)
none_counted peer = record { sent = refl; once = omega arith; size = refl }

-- a full one: what the read tells, and the slave then
abbrev pub mail_told : Peer → SlaveState → DatagramRecord
mail_told peer s =
    record (request Fprd (address_of peer.station peer.from.start) (bytes_in peer.from s)) { counter = 1 }

abbrev pub emptied : SlaveState → SlaveState
emptied s = with_controller s (emptied_controller s.controller)

pub emptied_of_peer : (peer : Peer) (s : SlaveState) → IsOfPeer peer s → IsOfPeer peer (emptied s)
emptied_of_peer peer s is =
    let facts : IsEmptied s.controller (emptied_controller s.controller) =
    is_emptied s.controller is.slave.controller in
    of_peer_same peer s (emptied s) is facts.same
    (record { controller = facts.controller; values = is.slave.values }) (facts.unasked ∙ is.unasked)

pub emptied_request : (peer : Peer) (s : SlaveState) → IsOfPeer peer s
    → request_stands (emptied s) ≡ request_stands s
emptied_request peer s is =
    let facts : IsEmptied s.controller (emptied_controller s.controller) =
    is_emptied s.controller is.slave.controller in
    full_same s.controller.memory (emptied s).controller.memory 0 facts.same (omega arith) facts.other

pub emptied_answer : (peer : Peer) (s : SlaveState) → IsOfPeer peer s → answer_stands (emptied s) ≡ false
emptied_answer peer s is =
    let facts : IsEmptied s.controller (emptied_controller s.controller) =
    is_emptied s.controller is.slave.controller in
    full_by s.controller.memory (emptied s).controller.memory 1 0 facts.same (omega arith) facts.empty

pub mail_twice : (peer : Peer) (s : SlaveState) → IsPeer peer → IsOfPeer peer s → answer_stands s ≡ true
    → IsTwice s.controller (mail_read peer) (mail_told peer s) (emptied s).controller
mail_twice peer s peer_is is full =
    let c : ControllerState = s.controller in
    let n : ℕ = peer.from.length in
    let from : ℕ = peer.from.start in
    let at : IsWithin from n = answers_within peer s peer_is is in
    let takes : emptied_by (sync_managers_of c.memory) from n ≡ Some 1 =
    empties c.memory from n is.requests is.answers is.from.start is.from.length is.from.alone full in
    record {
      first = mail_taken c (address_of peer.station from) from n is.slave.controller (is_meant peer from s is)
          (ado_is peer.station from is.address) at.some at.high takes;
      again = inl (none_passes peer (emptied s) peer_is (emptied_of_peer peer s is)
          (emptied_answer peer s is));
    }

pub mail_counted : (peer : Peer) (s : SlaveState) → IsPeer peer → IsOfPeer peer s
    → IsCounted (mail_read peer) (mail_told peer s)
mail_counted peer s peer_is is =
    let memory : length s.controller.memory ≡ MEMORY_SIZE = is.slave.controller.memory_size in
    let at : IsWithin peer.from.start peer.from.length = answers_within peer s peer_is is in
    let high = at.high in
    let size : length (bytes_in peer.from s) ≡ peer.from.length =
    run_size s.controller.memory peer.from.start peer.from.length (omega (arith, memory, high)) in
    let zeros : length {A = ℕ} (replicate peer.from.length 0) ≡ peer.from.length =
    length-replicate {A = ℕ} peer.from.length 0 in
    record { sent = refl; once = omega arith; size = size ∙ sym zeros }

-- ---- a request is written into an empty mailbox

abbrev pub filled : Peer → Sdo → SlaveState → SlaveState
filled peer asked s =
    with_controller s (filled_controller s.controller peer.to.start (request_area peer asked))

pub filled_facts : (peer : Peer) (asked : Sdo) (s : SlaveState) → IsPeer peer → IsRequest asked
    → IsOfPeer peer s
    → IsFilled s.controller peer.to.start (request_area peer asked) (filled peer asked s).controller
filled_facts peer asked s peer_is fits is =
    let at : IsWithin peer.to.start peer.to.length = requests_within peer s peer_is is in
    let high = at.high in
    let size : length (request_area peer asked) ≡ peer.to.length = area_size peer asked peer_is fits in
    is_filled s.controller peer.to.start (request_area peer asked) is.slave.controller
    (area_bytes peer asked peer_is fits) at.low (omega (arith, size, high))

pub filled_of_peer : (peer : Peer) (asked : Sdo) (s : SlaveState) → IsPeer peer → IsRequest asked
    → IsOfPeer peer s → IsOfPeer peer (filled peer asked s)
filled_of_peer peer asked s peer_is fits is =
    let facts = filled_facts peer asked s peer_is fits is in
    of_peer_same peer s (filled peer asked s) is facts.same
    (record { controller = facts.controller; values = is.slave.values }) (facts.unasked ∙ is.unasked)

-- it waits there
pub filled_waits : (peer : Peer) (asked : Sdo) (times : List SlaveState) (s : SlaveState) → IsPeer peer
    → IsRequest asked → IsOfPeer peer s → AreEmpty s
    → OneIs (λ (t : SlaveState). t.application ≡ s.application) times
    → RequestWaits peer asked times (filled peer asked s)
filled_waits peer asked times s peer_is fits is empty before =
    let facts = filled_facts peer asked s peer_is fits is in
    let m : List ℕ = s.controller.memory in
    let after : List ℕ = (filled peer asked s).controller.memory in
    let size : length (request_area peer asked) ≡ peer.to.length = area_size peer asked peer_is fits in
    record {
      request = full_by m after 0 1 facts.same (omega arith) facts.full;
      answer = full_same m after 1 facts.same (omega arith) facts.other ∙ empty.answer;
      bytes = ap (λ (n : ℕ). take n (drop peer.to.start after)) (sym size) ∙ facts.mail;
      before = before;
    }

pub write_twice : (peer : Peer) (asked : Sdo) (s : SlaveState) → IsPeer peer → IsRequest asked
    → IsOfPeer peer s → AreEmpty s
    → IsTwice s.controller (mail_write peer asked) (pass s.controller (mail_write peer asked)).datagram
    (filled peer asked s).controller
write_twice peer asked s peer_is fits is empty =
    let c : ControllerState = s.controller in
    let payload : List ℕ = request_area peer asked in
    let at : IsWithin peer.to.start peer.to.length = requests_within peer s peer_is is in
    let some = at.some in
    let high = at.high in
    let size : length payload ≡ peer.to.length = area_size peer asked peer_is fits in
    let x : SlaveState = filled peer asked s in
    let facts = filled_facts peer asked s peer_is fits is in
    let later : IsOfPeer peer x = filled_of_peer peer asked s peer_is fits is in
    let alone : meets_one (sync_managers_of c.memory) peer.to.start (length payload) ≡ true =
    ap (λ (n : ℕ). meets_one (sync_managers_of c.memory) peer.to.start n) size ∙ is.to.alone in
    let takes : filled_by (sync_managers_of c.memory) peer.to.start (length payload) ≡ Some 0 =
    fills c.memory peer.to.start (length payload) is.requests is.to.start (is.to.length ∙ sym size) alone
    empty.request in
    let written = mail_written c (address_of peer.station peer.to.start) peer.to.start payload
    is.slave.controller (is_meant peer peer.to.start s is) (ado_is peer.station peer.to.start is.address)
    (omega (arith, size, some)) at.low (omega (arith, size, high)) takes in
    record {
      first = ap (λ (y : ControllerState).
          record { datagram = (pass c (mail_write peer asked)).datagram; state = y }) written.1;
      again = inl (no_request_written x.controller (address_of peer.station peer.to.start) peer.to.start
          payload
          later.slave.controller (area_bytes peer asked peer_is fits)
          (ado_is peer.station peer.to.start is.address)
          (omega (arith, size, some)) later.requests later.to.start (later.to.length ∙ sym size)
          (ap (λ (n : ℕ). meets_one (sync_managers_of x.controller.memory) peer.to.start n) size
          ∙ later.to.alone)
          (full_by c.memory x.controller.memory 0 1 facts.same (omega arith) facts.full));
    }
